-- What the sources that are left say is what all say.
use Rattle.std.proofs.Common.{◌≡◌, List, drop, map}
use Rattle.mo_scope.specs.Frames.{Frame, same_listings}
use Rattle.mo_scope.specs.Sights.{source_seen}
use Rattle.mo_scope.specs.Worlds.{sources_in}
use Rattle.mo_names.proofs.same.are_same_listings.Given as goal

abbrev pub invariant-loop-i : goal.invariant-loop-i
invariant-loop-i l = (frames : List Frame) → same_listings (sources_in frames (map source_seen (drop l.i l.a))) (sources_in frames (map source_seen (drop l.i l.b))) ≡ same_listings (sources_in frames (map source_seen l.a)) (sources_in frames (map source_seen l.b))
