-- The parts that are there, or their first broken rule.
use Rattle.std.proofs.Common.{subst}
use Rattle.mo_equations.specs.Counted.{IsExpansion}
use Rattle.mo_equations.specs.steps.Declaring.{expanded_from}
use Rattle.mo_equations.specs.steps.Standing.{tree_in}
use Rattle.mo_equations.specs.steps.Placing.{GivesParts, parts_of_tree}
use Rattle.mo_equations.proofs.Expanding.{expansion_is, gives_whole, parts_stop}
use Rattle.mo_equations.proofs.Making.{if_ok}
use Rattle.mo_equations.proofs.whole.with_parts.Goals as goal

pub returns-in-Err : goal.returns-in-Err
returns-in-Err c = λ all told are gives.
    let tree = tree_in c.args.s.now c.args.desk.now.leaves in
    parts_stop tree all c.args.desk.now c.in-Err.stop told (subst (λ p. GivesParts p c.args.desk.now (parts_of_tree tree 0)) c.in-Err.is gives)

pub returns-in-Ok : goal.returns-in-Ok
returns-in-Ok c = λ all told are gives.
    let tree = tree_in c.args.s.now c.args.desk.now.leaves in
    let parts = subst (λ p. GivesParts p c.args.desk.now (parts_of_tree tree 0)) c.in-Ok.is gives in
    gives_whole c.or_stop.result c.completed.result tree (expanded_from tree all parts.0) c.or_stop.ensures.value c.or_stop.ensures.error
    (if_ok {Q = λ m. IsExpansion m (expanded_from tree all parts.0)} c.completed.result (λ m h. h all parts.0 are parts.2) c.completed.ensures)
    (expansion_is tree all parts.0 c.args.desk.now.turns told parts.1)
