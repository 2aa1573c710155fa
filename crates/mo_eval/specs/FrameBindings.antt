-- What binds an instance is what its frame picks.
use Rattle.std.specs.Prelude.{◌≡◌, ℕ, [], option_map, IfSome}
use Rattle.mo_scope.specs.declared.instance.Instance.{Instance as InstanceAt}
use Rattle.mo_scope.specs.declared.instance.Leaf.{Leaf as LeafAt}
use Rattle.mo_scope.specs.Frames.{sources_of}
use Rattle.mo_scope.specs.Parts.{picked}
use Rattle.mo_scope.specs.Trees.{chosen_in}
use Rattle.mo_scope.specs.Worlds.{World, frame_at, frames_of, table_in}

-- a leaf that is entered as that frame has the binding that the sources of the frame give
abbrev pub IsBoundAs : World → (frame : ℕ) → LeafAt → Type 0
IsBoundAs world frame leaf = option_map (chosen_in (frames_of world)) leaf.binding ≡ picked (table_in world) (sources_of (frame_at world frame)) []

abbrev pub IsBoundByFrame : World → InstanceAt → Type 0
IsBoundByFrame world instance = IfSome instance.leaf (IsBoundAs world instance.frame.0)
