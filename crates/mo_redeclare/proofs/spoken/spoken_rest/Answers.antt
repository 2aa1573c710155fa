-- The first name that is left of an argument.
use Rattle.std.proofs.Common.{drop, ap, refl, sym, ◌∙◌}
use Rattle.std.proofs.lemmas.List.{drop_all}
use Rattle.std.proofs.lemmas.Result.{IfOk-weaker}
use Rattle.mo_scope.specs.Worlds.{table_in}
use Rattle.mo_scope.proofs.Sayings.{front_is}
use Rattle.mo_scope.specs.Sights.{source_at}
use Rattle.mo_redeclare.proofs.Speaking.{rest_speaks, rest_speaks_not}
use Rattle.mo_redeclare.proofs.spoken.spoken_rest.Goals as goal

pub returns-then-passed-names-clause-are : goal.returns-then-passed-names-clause-are
returns-then-passed-names-clause-are c =
    sym (rest_speaks_not (table_in c.args.s.now) (source_at c.args.s.now c.args.source.now) c.args.argument.now c.args.passed
    (ap (drop c.args.passed) (sym c.as_slice-names.ensures) ∙ drop_all c.args.passed c.as_slice-names.result.now c.if-passed-names.true))

pub returns-clause-are : goal.returns-clause-are
returns-clause-are c =
    IfOk-weaker c.argument_behind.result _ _
    (λ found is. is ∙ sym (rest_speaks (table_in c.args.s.now) (source_at c.args.s.now c.args.source.now) c.args.argument.now c.args.passed c.index-names-passed.result _
    (ap (drop c.args.passed) (sym c.as_slice-names.ensures) ∙ front_is c.as_slice-names.result.now c.args.passed c.index-names-passed.result _ c.if-passed-names.false c.index-names-passed.is refl)))
    c.argument_behind.ensures.are
