-- What was put is what the items so far say.
use Rattle.std.proofs.Common.{◌≡◌, ℕ, ◌++◌, List, flat_map, take}
use Rattle.mo_scope.specs.Frames.{Frame}
use Rattle.mo_scope.specs.Rows.{replacing_in}
use Rattle.mo_scope.specs.Worlds.{table_in}
use Rattle.mo_mods.specs.Left.{elements_say}
use Rattle.mo_mods.specs.Sights.{left_in, said_held}
use Rattle.mo_mods.proofs.groups.put_elements.Given as goal

abbrev pub invariant-loop-item : goal.invariant-loop-item
invariant-loop-item l = (frames : List Frame) (other : List ℕ) →
    said_held frames l.groups other
    ≡ said_held frames l.initial.groups other ++ flat_map (λ item. elements_say (table_in l.scopes) other (left_in frames l.left) (replacing_in item)) (take l.item-index l.items)
