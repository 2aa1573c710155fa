-- What was put is what the arguments so far say.
use Rattle.std.proofs.Common.{◌≡◌, ℕ, ◌++◌, List, take}
use Rattle.mo_scope.specs.Frames.{Frame}
use Rattle.mo_scope.specs.Worlds.{table_in}
use Rattle.mo_mods.specs.Left.{list_says}
use Rattle.mo_mods.specs.Sights.{left_in, said_held}
use Rattle.mo_mods.proofs.groups.put_list.Given as goal

abbrev pub invariant-loop-argument : goal.invariant-loop-argument
invariant-loop-argument l = (frames : List Frame) (other : List ℕ) →
    said_held frames l.groups other ≡ said_held frames l.initial.groups other ++ list_says (table_in l.scopes) other (left_in frames l.left) (take l.argument-index l.list)
