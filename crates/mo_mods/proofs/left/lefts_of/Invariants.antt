-- What was made is what is left of the sources so far.
use Rattle.std.proofs.Common.{◌≡◌, List, map, take}
use Rattle.mo_scope.specs.Frames.{Frame}
use Rattle.mo_mods.specs.Sights.{left_in, left_of_source}
use Rattle.mo_mods.proofs.left.lefts_of.Given as goal

abbrev pub invariant-loop-source : goal.invariant-loop-source
invariant-loop-source l = (frames : List Frame) → map (left_in frames) l.made ≡ map (left_of_source frames) (take l.source-index l.sources)
