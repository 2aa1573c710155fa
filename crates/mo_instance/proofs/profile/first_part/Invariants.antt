-- What stands first among those behind.
use Rattle.std.proofs.Common.{◌≡◌, drop, map}
use Rattle.mo_scope.specs.Sights.{part_seen}
use Rattle.mo_instance.specs.steps.Firsts.{wrong_parts}
use Rattle.mo_instance.proofs.profile.first_part.Given as goal

abbrev pub invariant-loop-at : goal.invariant-loop-at
invariant-loop-at l = l.first ≡ wrong_parts (map part_seen (drop l.at l.parts)) l.fn.behind
