-- A map goes on into its tables, and a table into its map.
use Rattle.std.proofs.Common.{◌≡◌, ◌++◌, List}
use Rattle.mo_scope.specs.Frames.{Frame}
use Rattle.mo_mods.specs.Sights.{below_seen}
use Rattle.mo_mods.specs.Steps.{entered_below}
use Rattle.mo_mods.proofs.Making.{Entry}
use Rattle.mo_mods.proofs.stepping.+entered_below.Given as goal

abbrev pub invariant-loop-name : goal.invariant-loop-name
invariant-loop-name l =
    (done : List Entry) × (l.below.entries ≡ done ++ l.name-iterator) × ((frames : List Frame) → below_seen frames l.made.entries ≡ entered_below l.index (below_seen frames done))
