-- What is said of the fronts so far.
use Rattle.std.proofs.Common.{◌≡◌, List, map, take}
use Rattle.std.specs.Prelude.{not}
use Rattle.std.specs.List.{list_any}
use Rattle.mo_scope.specs.Arguments.{Asked}
use Rattle.mo_scope.specs.Frames.{listing_eq}
use Rattle.mo_scope.specs.Held.{path_key}
use Rattle.mo_scope.specs.Sights.{listing_seen}
use Rattle.mo_mods.specs.Passes.{all_finals, is_path_of}
use Rattle.mo_mods.specs.PathSights.{HasPaths}
use Rattle.mo_mods.proofs.Passing.{fronts}
use Rattle.mo_mods.proofs.passes.is_below.Given as goal

abbrev pub invariant-loop-name : goal.invariant-loop-name
invariant-loop-name l =
    (l.key ≡ path_key (map (λ name. name.now) (take l.name-index l.name-items)))
    × ((after : List Asked) → HasPaths l.finals (all_finals after) →
    l.is ≡ list_any (λ front. is_path_of (λ other. not (listing_eq other (listing_seen l.listing))) front (all_finals after)) (fronts (map (λ name. name.now) (take l.name-index l.name-items))))
