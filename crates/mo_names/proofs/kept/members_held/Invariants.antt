-- The elements that were taken.
use Rattle.std.proofs.Common.{◌≡◌, map, take}
use Rattle.mo_names.proofs.kept.members_held.Given as goal

abbrev pub invariant-loop-inherited : goal.invariant-loop-inherited
invariant-loop-inherited l = l.made ≡ map (λ inherited. inherited.member) (take l.inherited-index l.held)
