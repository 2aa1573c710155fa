-- What is said of those that are left is said of all.
use Rattle.std.proofs.Common.{◌≡◌, drop, map}
use Rattle.std.specs.List.{list_any}
use Rattle.mo_scope.specs.Sights.{part_seen}
use Rattle.mo_instance.specs.steps.Firsts.{part_is_base}
use Rattle.mo_instance.proofs.profile.has_bases.Given as goal

abbrev pub invariant-loop-part : goal.invariant-loop-part
invariant-loop-part l = list_any part_is_base (map part_seen (drop l.part-index l.parts)) ≡ list_any part_is_base (map part_seen l.parts)
