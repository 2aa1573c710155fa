-- What is said of those that are left is said of all.
use Rattle.std.proofs.Common.{◌≡◌, drop, map}
use Rattle.std.specs.Prelude.{not}
use Rattle.std.specs.List.{list_any}
use Rattle.mo_scope.specs.Frames.{listing_eq}
use Rattle.mo_scope.specs.Sights.{listing_seen}
use Rattle.mo_mods.specs.PathSights.{having_seen}
use Rattle.mo_mods.proofs.paths.is_other_among.Given as goal

abbrev pub invariant-loop-other : goal.invariant-loop-other
invariant-loop-other l =
    list_any (λ other. not (listing_eq other (listing_seen l.listing))) (map having_seen (drop l.other-index l.lists))
    ≡ list_any (λ other. not (listing_eq other (listing_seen l.listing))) (map having_seen l.lists)
