-- What was found is what the arguments behind break, whose final paths are put.
use Rattle.std.proofs.Common.{◌≡◌, drop, map, take}
use Rattle.mo_scope.specs.Arguments.{first_broken}
use Rattle.mo_mods.specs.Passes.{all_finals}
use Rattle.mo_mods.specs.PathSights.{HasPaths, asked_seen}
use Rattle.mo_mods.proofs.passes.first_broken.Given as goal

abbrev pub invariant-loop-at : goal.invariant-loop-at
invariant-loop-at l =
    HasPaths l.finals (all_finals (map asked_seen (drop l.at l.asked)))
    × (l.found ≡ first_broken (map asked_seen (take l.at l.asked)) (map asked_seen (drop l.at l.asked)))
