-- What was put is what those so far say.
use Rattle.std.proofs.Common.{◌≡◌, ℕ, List, flat_map, take}
use Rattle.mo_scope.specs.Frames.{Frame}
use Rattle.mo_scope.specs.Worlds.{table_in}
use Rattle.mo_mods.specs.Left.{left_says}
use Rattle.mo_mods.specs.Sights.{left_in, said_held}
use Rattle.mo_mods.proofs.groups.grouped.Given as goal

abbrev pub invariant-loop-left : goal.invariant-loop-left
invariant-loop-left l = (frames : List Frame) (name : List ℕ) →
    said_held frames l.groups name ≡ flat_map (λ left. left_says (table_in l.scopes) name (left_in frames left)) (take l.left-index l.lefts)
