-- Steps of the definitions of compatibility and of redeclarations.
use Rattle.std.specs.Prelude.{ℕ, Bool, true, false, List, [], map, flat_map, Option, Some, None, Ok, if◌then◌else◌, nat_eq}
use Rattle.std.specs.List.{list_all}
use Rattle.mo_syntax.specs.Outcome.{Outcome, and_then, breaks}
use Rattle.mo_syntax.specs.declared.expr.Expr.{Expr}
use Rattle.mo_syntax.specs.declared.expr.ReferenceOf.{ReferenceOf}
use Rattle.mo_syntax.specs.declared.class.Body.{Body}
use Rattle.mo_syntax.specs.declared.class.Element.{Element, out-Element}
use Rattle.mo_syntax.specs.declared.class.Give.{Give, Give-F, out-Give}
use Rattle.mo_syntax.specs.declared.class.Item.{Item}
use Rattle.mo_syntax.specs.declared.class.What.{What}
use Rattle.mo_syntax.specs.declared.place.Place.{Place}
use Rattle.mo_scope.specs.Rows.{Table}
use Rattle.mo_scope.specs.Frames.{Frame, Scope, Member, class_of}
use Rattle.mo_scope.specs.Parts.{Redeclaration}
use Rattle.mo_scope.specs.Lookup.{Walked, asking_of, class_named, named}
use Rattle.mo_scope.specs.Names.{Child, child_of_member, component_frame, walk_of}
use Rattle.mo_scope.specs.Compatible.{Compare, Pairs, compatible, compatible_from, compared, dimensions_of, is_matched, is_open_component, prefix_of, same_prefixes, same_types}
use Rattle.mo_scope.specs.Redeclarations.{Checked, constraining_class, fine, further_in, new_class, redeclaration_checked}
use Rattle.mo_scope.specs.Spoken.{Spoken}
use Rattle.mo_syntax.specs.declared.rules.TheConstants.{NOT_COMPATIBLE, WRONG_REPLACEABLE}

-- ---- replaceable elements

-- whether the element stays replaceable in these redeclarations, or in those of them behind the one at a place
abbrev pub kept_behind : (behind : Bool) → Place → List Redeclaration → Bool
kept_behind true place redeclarations = list_all (λ other. other.keeps) redeclarations
kept_behind false place redeclarations = list_all (λ other. other.keeps) (further_in place redeclarations)

-- ---- what sources speak of

abbrev pub redeclares_of : Spoken → List (List ℕ × Redeclaration)
redeclares_of spoken = map (λ redeclaration. (spoken.name, redeclaration)) spoken.redeclares

-- the redeclarations among what is spoken, each with the name of its element
abbrev pub redeclares_in : List Spoken → List (List ℕ × Redeclaration)
redeclares_in spoken = flat_map redeclares_of spoken

-- the element with which an argument redeclares, and whether it stays replaceable
abbrev pub element_by : Give-F Body Give Item What Element → Option (Element × Bool)
element_by (Give-F.Modify mods value) = None
element_by (Give-F.Redeclare element) = Some (element, (out-Element element).flags.replaceable)
element_by (Give-F.Replaceable element) = Some (element, true)

abbrev pub element_given : Give → Option (Element × Bool)
element_given give = element_by (out-Give give)

-- ---- names of classes

-- the class that the name of a type or of a constraining class finds
abbrev pub class_at : Table → Scope → ReferenceOf Expr → Outcome Frame
class_at table scope reference = and_then (class_named table (asking_of table) false scope reference) (λ class. Ok class.frame)

-- ---- components

abbrev pub children_of : Table → Member → Member → Outcome (Child × Child)
children_of table new wanted =
    and_then (child_of_member table new []) (λ new_child.
    and_then (child_of_member table wanted []) (λ wanted_child. Ok (new_child, wanted_child)))

abbrev pub frames_entered : Frame → Frame → Outcome (Frame × Frame)
frames_entered new wanted = Ok (new, wanted)

-- the frames of two components that were entered, where they have as many dimensions
abbrev pub entered_if_alike : Table → Place → Member → Child → Member → Child → Outcome (Frame × Frame)
entered_if_alike table place new child wanted other =
    if nat_eq (dimensions_of table new child) (dimensions_of table wanted other) then
    frames_entered (component_frame new [] child) (component_frame wanted [] other)
    else breaks NOT_COMPATIBLE place

-- the frames of a component and its counterpart, where they have as many dimensions
abbrev pub entered_alike : Table → Place → Member → Member → Outcome (Frame × Frame)
entered_alike table place new wanted =
    and_then (children_of table new wanted) (λ children. entered_if_alike table place new children.0 wanted children.1)

-- those of two whose prefixes are the same
abbrev pub entered_matching : Table → Place → Member → Member → Outcome (Frame × Frame)
entered_matching table place new wanted =
    if same_prefixes (prefix_of table new) (prefix_of table wanted) then entered_alike table place new wanted else breaks NOT_COMPATIBLE place

-- a component and its counterpart, compared
abbrev pub pair_compared : Table → Compare → Place → Member → Member → Outcome (Unit {0})
pair_compared table compare place new wanted = and_then (entered_matching table place new wanted) (λ frames. compare frames.0 frames.1)

-- a component that is wanted and its counterpart, if there is one
abbrev pub counterpart_matched : Table → Compare → Place → Member → Option Member → Outcome (Unit {0})
counterpart_matched table compare place wanted None = breaks NOT_COMPATIBLE place
counterpart_matched table compare place wanted (Some new) =
    if same_prefixes (prefix_of table new) (prefix_of table wanted) then same_types table compare place new wanted else breaks NOT_COMPATIBLE place

-- one element that is wanted
abbrev pub element_matched : Table → Compare → Place → List Member → Member → Outcome (Unit {0})
element_matched table compare place members wanted =
    if is_open_component wanted then is_matched table compare place members wanted else Ok tt

-- ---- classes

-- two leaf types of one kind, or none; whether there is none
abbrev pub leaves_compared : Place → Option Frame → Option Frame → Outcome Bool
leaves_compared place None None = Ok true
leaves_compared place (Some a) (Some b) = if nat_eq (class_of a) (class_of b) then Ok false else breaks NOT_COMPATIBLE place
leaves_compared place a b = breaks NOT_COMPATIBLE place

abbrev pub both_walked : Table → Frame → Frame → Outcome (Walked × Walked)
both_walked table new wanted =
    and_then (walk_of table new) (λ new_walked. and_then (walk_of table wanted) (λ wanted_walked. Ok (new_walked, wanted_walked)))

-- the components of two classes, while these pairs are being compared
abbrev pub components_compared : Table → ℕ → Place → Pairs → Frame → Frame → Outcome (Unit {0})
components_compared table left place pairs new wanted =
    and_then (both_walked table new wanted) (λ walked. compared table (compatible_from table left place pairs) place walked.0 walked.1)

-- ---- redeclarations

-- the new class and the one that it is to be compatible with, compared
abbrev pub classes_checked : Table → Member → Redeclaration → Checked
classes_checked table member redeclaration =
    and_then (new_class table redeclaration) (λ new. and_then (constraining_class table member) (compatible table redeclaration.place new))

-- a redeclaration of the element of a name, where these are the elements
abbrev pub found_checked : Table → List Member → (is_leaf : Bool) → List ℕ × Redeclaration → Checked
found_checked table members is_leaf redeclared = checked_by (named redeclared.0 members)
  where
    checked_by : Option Member → Checked
    checked_by (Some member) = redeclaration_checked table member redeclared.1
    checked_by None = if is_leaf then breaks WRONG_REPLACEABLE redeclared.1.place else fine
