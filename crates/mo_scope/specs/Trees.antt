-- What instances are as data, where frames have numbers, and when the frames in them exist.
use Rattle.std.specs.Prelude.{ℕ, List, map, option_map, IfSome}
use Rattle.mo_scope.specs.declared.instance.Chosen.{Chosen as ChosenAt}
use Rattle.mo_scope.specs.declared.instance.Instance.{Instance as InstanceAt}
use Rattle.mo_scope.specs.declared.instance.InstanceTree.{InstanceTree}
use Rattle.mo_scope.specs.declared.instance.Leaf.{Leaf as LeafAt}
use Rattle.mo_scope.specs.Entries.{names_of}
use Rattle.mo_scope.specs.Frames.{Frame}
use Rattle.mo_scope.specs.Instances.{Chosen, Leaf, Instance}
use Rattle.mo_scope.specs.Places.{Every}
use Rattle.mo_scope.specs.Worlds.{World, IsFrame, frame_in, frames_of, scope_in}

-- ---- what they are

abbrev pub chosen_in : List Frame → ChosenAt → Chosen
chosen_in frames chosen = record {
  value = chosen.value.now;
  scope = scope_in frames chosen.scope.frame.0 chosen.scope.iters;
  pending = chosen.pending;
}

abbrev pub attribute_in : List Frame → ℕ × ChosenAt → ℕ × Chosen
attribute_in frames attribute = (attribute.0, chosen_in frames attribute.1)

abbrev pub leaf_in : List Frame → LeafAt → Leaf
leaf_in frames leaf = record {
  kind = leaf.kind;
  role = leaf.role;
  attributes = map (attribute_in frames) leaf.attributes;
  binding = option_map (chosen_in frames) leaf.binding;
}

abbrev pub instance_in : List Frame → InstanceAt → Instance
instance_in frames instance = record {
  frame = frame_in frames instance.frame.0;
  path = names_of instance.path;
  place = instance.place;
  dims = instance.dims;
  leaf = option_map (leaf_in frames) instance.leaf;
}

abbrev pub instances_in : World → List InstanceAt → List Instance
instances_in world instances = map (instance_in (frames_of world)) instances

abbrev pub tree_seen : InstanceTree → List Instance
tree_seen tree = instances_in tree.scopes tree.instances

-- ---- what exists

abbrev pub IsChosen : World → ChosenAt → Type 0
IsChosen world chosen = IsFrame world chosen.scope.frame.0

-- the frames that its attributes and its binding are looked up in
pub record IsLeaf (world : World) (leaf : LeafAt) : Type 0 where
  pub attributes : Every (λ attribute. IsChosen world attribute.1) leaf.attributes
  pub binding : IfSome leaf.binding (IsChosen world)

-- the frame that it is entered as, and those that its expressions are looked up in
pub record IsInstance (world : World) (instance : InstanceAt) : Type 0 where
  pub frame : IsFrame world instance.frame.0
  pub leaf : IfSome instance.leaf (IsLeaf world)
