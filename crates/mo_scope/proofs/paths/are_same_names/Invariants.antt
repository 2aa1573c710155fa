-- What the names that are left say is what all say.
use Rattle.std.proofs.Common.{◌≡◌, drop}
use Rattle.mo_scope.specs.Frames.{indexed_eq}
use Rattle.mo_scope.proofs.paths.are_same_names.Given as goal

abbrev pub invariant-loop-i : goal.invariant-loop-i
invariant-loop-i l = indexed_eq (drop l.i l.a) (drop l.i l.b) ≡ indexed_eq l.a l.b
