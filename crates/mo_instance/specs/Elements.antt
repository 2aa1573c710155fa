-- One element of a component (Modelica Language Specification 3.5, sections 4.4, 4.8, 7.2 and 10.1): its frame, and what it is as a leaf.
use Rattle.std.specs.Prelude.{ℕ, Bool, true, false, ◌&&◌, not, List, [], Option, Some, None, Ok, if◌then◌else◌, nat_lt, length}
use Rattle.mo_syntax.specs.Outcome.{Outcome, breaks}
use Rattle.mo_syntax.specs.declared.class.ComponentOf.{ComponentOf}
use Rattle.mo_syntax.specs.declared.class.Give.{Give}
use Rattle.mo_syntax.specs.declared.class.Vary.{Vary}
use Rattle.mo_syntax.specs.declared.class.Vary.TheVariants.{Free}
use Rattle.mo_syntax.specs.declared.expr.Expr.{out-Expr}
use Rattle.mo_syntax.specs.declared.meaning.Kind.{Kind}
use Rattle.mo_syntax.specs.declared.meaning.Kind.TheVariants.{Real}
use Rattle.mo_syntax.specs.declared.place.Place.{Place}
use Rattle.mo_scope.specs.Rows.{Table, Declares, component_of}
use Rattle.mo_scope.specs.Frames.{Frame, Indexed, Member, at_of, sources_of}
use Rattle.mo_scope.specs.Parts.{Redeclaration, picked}
use Rattle.mo_scope.specs.Lookup.{Walked, last_place}
use Rattle.mo_scope.specs.Compatible.{prefix_of}
use Rattle.mo_scope.specs.Redeclarations.{Checked, fine}
use Rattle.mo_scope.specs.Instances.{Chosen, Leaf, Instance}
use Rattle.mo_instance.specs.Attributes.{chosen_attributes, kind_of_leaf}
use Rattle.mo_instance.specs.Prefixes.{joined_vary, role_of, is_declared_input}
use Rattle.mo_syntax.specs.declared.rules.TheConstants.{OUTSIDE_PROFILE, FLAT_MODEL_TOO_LARGE}

-- What holds of all components below one: where the name of the asked class stands; whether they are components of the asked class
-- itself; the variability around them; and whether the component of the asked class that they lie in is declared `input`.
pub record Around : Type 0 where
  pub asked : Place
  pub outermost : Bool
  pub vary : Vary
  pub given : Bool

-- what holds below a component whose type was found as this frame
abbrev pub around_parts : Table → Around → Member → Frame → Around
around_parts table around member type = record {
  asked = around.asked;
  outermost = false;
  vary = joined_vary around.vary (prefix_of table member).vary;
  given = if around.outermost then is_declared_input table member type else around.given;
}

-- ---- the frame

abbrev pub type_place : Place → Option (ComponentOf Give) → Place
type_place place None = place
type_place place (Some component) = last_place component.base.parts

abbrev pub place_of_type : Declares → Place
place_of_type declares = type_place declares.place (component_of declares)

-- where the class is named: in the redeclaration, or in the declaration
abbrev pub class_place : Member → Option Redeclaration → Place
class_place member None = place_of_type member.declares
class_place member (Some redeclaration) = place_of_type redeclaration.declares

-- ---- leaves

abbrev pub is_free : Vary → Bool
is_free Free = true
is_free vary = false

abbrev pub is_real : Kind → Bool
is_real Real = true
is_real kind = false

abbrev pub leaf_made : Table → Around → Frame → (leaf : Frame) → Leaf
leaf_made table around frame leaf = record {
  kind = kind_of_leaf leaf;
  role = role_of around.vary around.given;
  attributes = chosen_attributes table leaf;
  binding = picked table (sources_of frame) [];
}

-- A variable that is neither parameter nor constant is a Real.
abbrev pub leaf_by : Table → Around → Member → Frame → (leaf : Frame) → Outcome (Option Leaf)
leaf_by table around member frame leaf =
    if is_free around.vary && not (is_real (kind_of_leaf leaf)) then breaks OUTSIDE_PROFILE member.declares.place
    else Ok (Some (leaf_made table around frame leaf))

-- A component that is no leaf has no binding.
abbrev pub no_leaf : Option Chosen → Outcome (Option Leaf)
no_leaf None = Ok None
no_leaf (Some binding) = breaks OUTSIDE_PROFILE (out-Expr binding.value).place

abbrev pub leaf_in : Table → Around → Member → Frame → Option Frame → Outcome (Option Leaf)
leaf_in table around member frame None = no_leaf (picked table (sources_of frame) [])
leaf_in table around member frame (Some leaf) = leaf_by table around member frame leaf

abbrev pub leaf_of : Table → Around → Member → Frame → Walked → Outcome (Option Leaf)
leaf_of table around member frame walked = leaf_in table around member frame walked.leaf

-- ---- instances

abbrev pub or_root : Option Indexed → Indexed
or_root None = []
or_root (Some path) = path

abbrev pub instance_of : Member → List ℕ → Frame → Option Leaf → Instance
instance_of member dims frame leaf =
    record { frame = frame; path = or_root (at_of frame); place = member.declares.place; dims = dims; leaf = leaf }

abbrev pub most_instances : ℕ
most_instances = 400000

-- Rule 41 is broken where more components than that are entered; the asked class, the first instance, does not count.
abbrev pub room_for_one : Place → List Instance → Checked
room_for_one asked so_far = if nat_lt most_instances (length so_far) then breaks FLAT_MODEL_TOO_LARGE asked else fine
