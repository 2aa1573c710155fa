-- The first name of an argument, if it has one.
use Rattle.std.proofs.Common.{◌++◌, List, map, ap, sym, ◌∙◌}
use Rattle.std.proofs.lemmas.Result.{IfOk-weaker}
use Rattle.mo_scope.specs.Sights.{source_seen}
use Rattle.mo_scope.specs.Worlds.{table_in}
use Rattle.mo_scope.proofs.Sayings.{nothing_more, pushed_more}
use Rattle.mo_redeclare.proofs.Speaking.{read_drop, read_none}
use Rattle.mo_instance.specs.steps.Speeches.{Speech, speech_seen}
use Rattle.mo_instance.proofs.Speaking.{argument_silent, argument_speech}
use Rattle.mo_instance.proofs.spoken.put_argument.Goals as goal

pub returns-in-Some : goal.returns-in-Some
returns-in-Some c =
    IfOk-weaker c.pushed.result _ _
    (λ _ value frames.
    pushed_more speech_seen c.spoken_argument.result _ c.args.made.now c.pushed.new.list c.spoken_argument.ensures value
    ∙ ap (λ (ys : List Speech). map speech_seen c.args.made.now ++ ys)
    (sym (argument_speech (table_in c.args.scopes.now) frames (source_seen c.args.source.now) c.args.argument.now _ _ (read_drop c.args.argument.now.name.0 0 c.in-Some.name.now (sym c.in-Some.ensures)))))
    c.pushed.ensures.value

pub returns-in-None : goal.returns-in-None
returns-in-None c = λ frames.
    nothing_more _ _ (argument_silent (table_in c.args.scopes.now) frames (source_seen c.args.source.now) c.args.argument.now (read_none c.args.argument.now.name.0 0 (sym c.in-None.ensures)))
