use Rattle.std.proofs.Common.{◌≤◌, arith}
use Rattle.mo_incidence.specs.Signature.{equations}
use Rattle.mo_front.proofs.Structuring.{few_equations}
use Rattle.mo_front.proofs.structure.assigned.Goals as goal

pub with_equal-requires-clause-square : goal.with_equal-requires-clause-square
with_equal-requires-clause-square g c =
    let few : equations c.args.inc.now ≤ c.args.inc.now.unknowns =
    few_equations _ _ c.equations.ensures.sound c.requires.assigned c.requires.all in
    omega arith
