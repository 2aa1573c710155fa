use Rattle.std.proofs.Common.{◌≡◌, take}
use Rattle.mo_equations.proofs.standing.copied_path.Given as goal

abbrev pub invariant-loop-one : goal.invariant-loop-one
invariant-loop-one l = l.made ≡ take l.one-index l.path.0
