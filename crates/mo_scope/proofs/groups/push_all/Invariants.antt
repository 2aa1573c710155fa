-- What was pushed so far.
use Rattle.std.proofs.Common.{◌≡◌, ◌++◌, map, take}
use Rattle.mo_scope.specs.Sights.{part_seen}
use Rattle.mo_scope.proofs.groups.push_all.Given as goal

abbrev pub invariant-loop-part : goal.invariant-loop-part
invariant-loop-part l = map part_seen l.parts ≡ map part_seen l.initial.parts ++ map part_seen (take l.part-index l.more)
