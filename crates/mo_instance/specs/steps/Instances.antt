-- Steps of the definitions of instances.
use Rattle.std.specs.Prelude.{ℕ, suc, Bool, true, false, List, [], ◌∷◌, ◌++◌, drop, flat_map, length, map, None, Ok, if◌then◌else◌, nat_lt}
use Rattle.std.specs.List.{list_any}
use Rattle.std.specs.Str.{bytes_eq}
use Rattle.mo_syntax.specs.Outcome.{Outcome, and_then, breaks}
use Rattle.mo_syntax.specs.declared.class.Vary.TheVariants.{Free}
use Rattle.mo_flat.specs.Text.{attribute_name}
use Rattle.mo_syntax.specs.declared.place.Place.{Place}
use Rattle.mo_scope.specs.Rows.{Table, is_class}
use Rattle.mo_scope.specs.Frames.{Frame, Member}
use Rattle.mo_scope.specs.Lookup.{Inherited, Walked}
use Rattle.mo_scope.specs.Names.{child_of_member, component_frame}
use Rattle.mo_scope.specs.Compatible.{prefix_of}
use Rattle.mo_scope.specs.Instances.{Instance}
use Rattle.mo_scope.specs.Redeclarations.{Checked, fine}
use Rattle.mo_syntax.specs.declared.rules.TheConstants.{FLAT_MODEL_TOO_LARGE}
use Rattle.mo_typing.specs.Dims.{Dims}
use Rattle.mo_typing.specs.Indices.{Index, indices, numbers_to}
use Rattle.mo_eval.specs.Values.{most_references, there_of, component_dims}
use Rattle.mo_instance.specs.Checks.{frame_checked, type_checked}
use Rattle.mo_instance.specs.Prefixes.{prefix_in_profile}
use Rattle.mo_instance.specs.Outer.{outer_checked}
use Rattle.mo_instance.specs.Elements.{Around, around_parts, class_place, leaf_of, instance_of, most_instances}
use Rattle.mo_instance.specs.Instances.{Adding, Parts, adding_each, deeper, element_entered, member_entered, most_names, parts_entered}

-- ---- one component

-- what a component is asked for before its depth: what holds below it, and its dimensions
abbrev pub component_asked : Table → Around → Member → Outcome (Around × Dims)
component_asked table around member =
    and_then (prefix_in_profile member.declares.place (prefix_of table member)) (λ _.
    and_then (child_of_member table member []) (λ child.
    and_then (component_dims table most_references member) (λ dims.
    Ok (around_parts table around member child.class, dims))))

-- whether an element is a component that is entered
abbrev pub is_entered : Table → Member → Outcome Bool
is_entered table member =
    if is_class member.declares then Ok false else
    (if member.declares.flags.outer then and_then (outer_checked table member) (λ _. Ok false) else there_of table most_references member)

-- the elements behind some first numbers of their indices
abbrev pub elements_under : Table → Parts → Around → Member → Dims → (before : Index) → (behind : Dims) → Adding
elements_under table parts around member dims before behind =
    adding_each (element_entered table parts around member dims) (map (λ index. before ++ index) (indices behind))

-- those whose next number is at most n
abbrev pub elements_to : Table → Parts → Around → Member → Dims → (before : Index) → ℕ → Adding
elements_to table parts around member dims before n =
    adding_each (element_entered table parts around member dims)
    (flat_map (λ k. map (λ index. before ++ index) (map (λ index. k ∷ index) (indices (drop (suc (length before)) dims)))) (numbers_to n))

-- the components among some elements of a frame
abbrev pub members_added : Table → ℕ → Around → List Inherited → Adding
members_added table left around members =
    adding_each (member_entered table (deeper table left) around) (map (λ inherited. inherited.member) members)

-- ---- one element

abbrev pub room_among : Place → ℕ → Checked
room_among asked count = if nat_lt most_instances count then breaks FLAT_MODEL_TOO_LARGE asked else fine

-- the frame of an element, and where its class is named
abbrev pub element_frame : Table → Member → Index → Outcome (Place × Frame)
element_frame table member index =
    and_then (child_of_member table member index) (λ child. Ok (class_place member child.redeclared, component_frame member index child))

abbrev pub instance_at : Table → Around → Member → Dims → Frame → Walked → Outcome Instance
instance_at table around member dims frame walked =
    and_then (leaf_of table around member frame walked) (λ leaf. Ok (instance_of member dims frame leaf))

abbrev pub element_in_frame : Table → Around → Member → Dims → Place → Frame → Outcome (Instance × Walked)
element_in_frame table around member dims place frame =
    and_then (type_checked table place frame) (λ walked.
    and_then (instance_at table around member dims frame walked) (λ instance. Ok (instance, walked)))

-- an element with what its frame has, where so many instances stand before it
abbrev pub element_made : Table → Around → Member → Dims → Index → ℕ → Outcome (Instance × Walked)
element_made table around member dims index count =
    and_then (room_among around.asked count) (λ _.
    and_then (element_frame table member index) (λ at. element_in_frame table around member dims at.0 at.1))

-- ---- the asked class

abbrev pub root_alone : Frame → Place → List Instance
root_alone frame place = record { frame = frame; path = []; place = place; dims = []; leaf = None } ∷ []

-- the instances of the class of a frame, whose name stands there
abbrev pub instances_made : Table → Place → Frame → Outcome (List Instance)
instances_made table place frame =
    and_then (frame_checked table place frame) (λ walked.
    parts_entered table (deeper table most_names) (record { asked = place; outermost = true; vary = Free; given = false }) walked (root_alone frame place))

-- the class of the type of a component, whose prefixes are not left out
abbrev pub component_class : Table → Member → Outcome Frame
component_class table member =
    and_then (prefix_in_profile member.declares.place (prefix_of table member)) (λ _.
    and_then (child_of_member table member []) (λ child. Ok child.class))

-- ---- attributes

abbrev pub is_attribute_of : List ℕ → List ℕ → Bool
is_attribute_of numbers name = list_any (λ number. bytes_eq (attribute_name number) name) numbers
