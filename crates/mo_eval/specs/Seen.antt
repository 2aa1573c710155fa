-- What virtual variables of the code are as data, where frames have these numbers, and when their components exist.
use Rattle.std.specs.Prelude.{◌≡◌, ℕ, List, Some, map, slice_get}
use Rattle.mo_flat.specs.declared.array.ArrayExpr.{ArrayExpr}
use Rattle.mo_scope.specs.Frames.{Frame}
use Rattle.mo_scope.specs.Worlds.{World, frames_of, member_in}
use Rattle.mo_scope.specs.Sights.{member_seen}
use Rattle.mo_names.specs.Sights.{IsMember}
use Rattle.mo_eval.specs.declared.virtuals.Element.{Element as ElementAt}
use Rattle.mo_eval.specs.declared.virtuals.Virtual.{Virtual as VirtualAt}
use Rattle.mo_eval.specs.declared.virtuals.Virtual.TheVariants.{Component, Division as division_at}
use Rattle.mo_eval.specs.declared.virtuals.Resolved.{Resolved as ResolvedAt}
use Rattle.mo_eval.specs.declared.virtuals.Sides.{Sides as SidesAt}
use Rattle.mo_eval.specs.Virtuals.{Element, Virtual, Component_element, Division, Resolved}

abbrev pub element_seen : List Frame → ElementAt → Element
element_seen frames element = record {
  member = member_in frames (member_seen element.member);
  index = element.index;
  kind = element.kind;
  place = element.place;
  constant = element.constant;
}

abbrev pub virtual_seen : List Frame → VirtualAt → Virtual
virtual_seen frames (Component element) = Component_element (element_seen frames element)
virtual_seen frames (division_at place function left right) = Division place function left right

abbrev pub virtuals_seen : List Frame → List VirtualAt → List Virtual
virtuals_seen frames virtuals = map (virtual_seen frames) virtuals

abbrev pub resolved_seen : List Frame → ResolvedAt → Resolved
resolved_seen frames resolved = record { expression = resolved.expression; virtuals = virtuals_seen frames resolved.virtuals }

abbrev pub sides_seen : List Frame → SidesAt → (ArrayExpr × ArrayExpr) × List Virtual
sides_seen frames sides = ((sides.left, sides.right), virtuals_seen frames sides.virtuals)

-- ---- what they are in a world, whose frames have the numbers

abbrev pub element_at : World → ElementAt → Element
element_at world = element_seen (frames_of world)

abbrev pub virtuals_at : World → List VirtualAt → List Virtual
virtuals_at world = virtuals_seen (frames_of world)

abbrev pub resolved_at : World → ResolvedAt → Resolved
resolved_at world = resolved_seen (frames_of world)

abbrev pub sides_at : World → SidesAt → (ArrayExpr × ArrayExpr) × List Virtual
sides_at world = sides_seen (frames_of world)

-- the components of virtual variables exist
pub record AreThere (world : World) (virtuals : List VirtualAt) : Type 0 where
  pub each : (k : ℕ) (element : ElementAt) → slice_get virtuals k ≡ Some (Component element) → IsMember world element.member
