-- The paths of the arguments so far are put, and what was made with what is left is what all give.
use Rattle.std.proofs.Common.{◌≡◌, ◌++◌, [], drop, map, take}
use Rattle.mo_mods.specs.Passes.{all_paths, all_repeated}
use Rattle.mo_mods.specs.PathSights.{HasPaths, asked_seen}
use Rattle.mo_mods.proofs.passes.all_repeats.Given as goal

abbrev pub invariant-loop-one : goal.invariant-loop-one
invariant-loop-one l =
    HasPaths l.seen (all_paths (map asked_seen (take l.one-index l.asked)))
    × (l.made ++ all_repeated (map asked_seen (take l.one-index l.asked)) (map asked_seen (drop l.one-index l.asked)) ≡ all_repeated [] (map asked_seen l.asked))
