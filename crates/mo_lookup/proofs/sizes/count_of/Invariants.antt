use Rattle.std.proofs.Common.{◌≡◌, List, take}
use Rattle.mo_scope.specs.Frames.{Frame}
use Rattle.mo_scope.specs.Sizes.{count_sizes}
use Rattle.mo_lookup.specs.Sizing.{sizes_seen}
use Rattle.mo_lookup.proofs.sizes.count_of.Given as goal

abbrev pub invariant-loop-one : goal.invariant-loop-one
invariant-loop-one l = (frames : List Frame) → l.count ≡ count_sizes (sizes_seen frames (take l.one-index l.sizes))
