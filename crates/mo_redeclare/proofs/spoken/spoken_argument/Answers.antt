-- The first name of an argument.
use Rattle.std.proofs.Common.{sym, ◌∙◌}
use Rattle.std.proofs.lemmas.Result.{IfOk-weaker}
use Rattle.mo_scope.specs.Worlds.{table_in}
use Rattle.mo_scope.specs.Sights.{source_at}
use Rattle.mo_redeclare.proofs.Speaking.{read_drop, read_none, argument_speaks, argument_speaks_not}
use Rattle.mo_redeclare.proofs.spoken.spoken_argument.Goals as goal

pub returns-in-Some-clause-are : goal.returns-in-Some-clause-are
returns-in-Some-clause-are c =
    IfOk-weaker c.argument_behind.result _ _
    (λ found is. is ∙ sym (argument_speaks (table_in c.args.s.now) (source_at c.args.s.now c.args.source.now) c.args.argument.now _ _ (read_drop c.args.argument.now.name.0 0 c.in-Some.name.now (sym c.in-Some.ensures))))
    c.argument_behind.ensures.are

pub returns-in-None-clause-are : goal.returns-in-None-clause-are
returns-in-None-clause-are c =
    sym (argument_speaks_not (table_in c.args.s.now) (source_at c.args.s.now c.args.source.now) c.args.argument.now (read_none c.args.argument.now.name.0 0 (sym c.in-None.ensures)))
