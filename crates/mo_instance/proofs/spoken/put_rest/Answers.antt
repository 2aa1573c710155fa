-- The first name that is left of an argument, if there is one.
use Rattle.std.proofs.Common.{◌++◌, List, drop, map, ap, refl, sym, ◌∙◌}
use Rattle.std.proofs.lemmas.List.{drop_all}
use Rattle.std.proofs.lemmas.Result.{IfOk-weaker}
use Rattle.mo_scope.specs.Sights.{source_seen}
use Rattle.mo_scope.specs.Worlds.{table_in}
use Rattle.mo_scope.proofs.Sayings.{front_is, nothing_more, pushed_more}
use Rattle.mo_instance.specs.steps.Speeches.{Speech, speech_seen}
use Rattle.mo_instance.proofs.Lists.{rest_taken}
use Rattle.mo_instance.proofs.Speaking.{rest_silent, rest_speech}
use Rattle.mo_instance.proofs.spoken.put_rest.Goals as goal

pub returns-then-passed-names : goal.returns-then-passed-names
returns-then-passed-names c = λ frames.
    nothing_more _ _ (rest_silent (table_in c.args.scopes.now) frames (source_seen c.args.source.now) c.args.argument.now c.args.passed
    (ap (drop c.args.passed) (sym c.as_slice-names.ensures) ∙ drop_all c.args.passed c.as_slice-names.result.now c.if-passed-names.true))

pub returns : goal.returns
returns c =
    let left = front_is c.as_slice-names.result.now c.args.passed c.index-names-passed.result _ c.if-passed-names.false c.index-names-passed.is refl in
    IfOk-weaker c.pushed.result _ _
    (λ _ value frames.
    pushed_more speech_seen c.spoken_by.result _ c.args.made.now c.pushed.new.list c.spoken_by.ensures value
    ∙ ap (λ (ys : List Speech). map speech_seen c.args.made.now ++ ys)
    (sym (rest_speech (table_in c.args.scopes.now) frames (source_seen c.args.source.now) c.args.argument.now c.args.passed _ c.index-names-passed.result _
    (ap (drop c.args.passed) (sym c.as_slice-names.ensures) ∙ left) (rest_taken c.args.passed c.as_slice-names.result.now ∙ left))))
    c.pushed.ensures.value
