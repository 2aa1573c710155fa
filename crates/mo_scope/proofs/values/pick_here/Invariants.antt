-- What the sources that are left give is what all give.
use Rattle.std.proofs.Common.{◌≡◌, List, drop, map}
use Rattle.mo_scope.specs.Frames.{Frame}
use Rattle.mo_scope.specs.Parts.{picked_here}
use Rattle.mo_scope.specs.Sights.{source_seen}
use Rattle.mo_scope.specs.Worlds.{sources_in}
use Rattle.mo_scope.proofs.values.pick_here.Given as goal

abbrev pub invariant-loop-source : goal.invariant-loop-source
invariant-loop-source l = (frames : List Frame) → picked_here (sources_in frames (map source_seen (drop l.source-index l.sources))) ≡ picked_here (sources_in frames (map source_seen l.sources))
