-- What was put is the arguments so far.
use Rattle.std.proofs.Common.{◌≡◌, ◌++◌, List, map, take}
use Rattle.mo_scope.specs.Arguments.{asked_argument}
use Rattle.mo_scope.specs.Frames.{Frame}
use Rattle.mo_scope.specs.Sights.{source_seen}
use Rattle.mo_scope.specs.Worlds.{source_in}
use Rattle.mo_mods.specs.PathSights.{asked_seen}
use Rattle.mo_mods.proofs.asked.put_list.Given as goal

abbrev pub invariant-loop-argument : goal.invariant-loop-argument
invariant-loop-argument l = (frames : List Frame) →
    map asked_seen l.made ≡ map asked_seen l.initial.made ++ map (asked_argument (source_in frames (source_seen l.source))) (take l.argument-index l.list)
