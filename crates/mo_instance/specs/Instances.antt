-- The instances of a class (Modelica Language Specification 3.5, sections 4.4, 4.8, 5.6.2 and 10.1).
--
-- A component is asked for its condition, its prefixes, its type, its dimensions and its depth; then each of its elements, the last index
-- fastest, is entered, and the parts of an element before the next one.
use Rattle.std.specs.Prelude.{◌≡◌, ℕ, zero, suc, Bool, true, false, ◌&&◌, List, [], ◌∷◌, ◌++◌, find, Option, Some, None, Ok, if◌then◌else◌}
use Rattle.std.specs.Str.{bytes_eq}
use Rattle.mo_syntax.specs.Outcome.{Outcome, and_then, breaks}
use Rattle.mo_syntax.specs.declared.class.FileTree.{FileTree}
use Rattle.mo_syntax.specs.declared.class.Vary.TheVariants.{Free}
use Rattle.mo_syntax.specs.declared.place.Place.{Place}
use Rattle.mo_syntax.specs.Classes.{Home, Under}
use Rattle.mo_syntax.specs.ClassTable.{path_eq}
use Rattle.mo_syntax.specs.SoundTree.{any_name}
use Rattle.mo_scope.specs.Rows.{Table, Row, row_at, is_class, table_of}
use Rattle.mo_scope.specs.Frames.{Frame, Top, In, No_source, Member, looked_up}
use Rattle.mo_scope.specs.Lookup.{Walked, members_in}
use Rattle.mo_scope.specs.Names.{child_of_member, component_frame}
use Rattle.mo_scope.specs.Compatible.{prefix_of}
use Rattle.mo_scope.specs.Instances.{Instance, IsInstanceTree}
use Rattle.mo_syntax.specs.declared.rules.TheConstants.{INSTANCE_TOO_DEEP}
use Rattle.mo_typing.specs.Dims.{Dims}
use Rattle.mo_typing.specs.Indices.{Index, indices}
use Rattle.mo_eval.specs.Values.{most_references, there_of, component_dims}
use Rattle.mo_instance.specs.Checks.{frame_checked, type_checked}
use Rattle.mo_instance.specs.Prefixes.{prefix_in_profile}
use Rattle.mo_instance.specs.Outer.{outer_checked}
use Rattle.mo_instance.specs.Elements.{Around, around_parts, class_place, leaf_of, instance_of, room_for_one}

-- ---- the walk

-- the instances so far, with those that a part of the walk adds
abbrev pub Adding : Type 0
Adding = List Instance → Outcome (List Instance)

abbrev pub adding_each : {A : Type 0} → (A → Adding) → List A → Adding
adding_each add [] so_far = Ok so_far
adding_each add (x ∷ xs) so_far = and_then (add x so_far) (adding_each add xs)

-- the components of a frame, one level deeper
abbrev pub Parts : Type 0
Parts = Around → Walked → Adding

-- What a component asks for at its name: rule 27 is broken there where the path would have too many names.
abbrev pub Deeper : Type 0
Deeper = Place → Outcome Parts

-- ---- one element of a component

abbrev pub entered_by : Table → Parts → Around → Member → Dims → Frame → Walked → Adding
entered_by table parts around member dims frame walked so_far =
    and_then (leaf_of table around member frame walked) (λ leaf.
    parts around walked (so_far ++ instance_of member dims frame leaf ∷ []))

abbrev pub element_entered : Table → Parts → Around → Member → Dims → Index → Adding
element_entered table parts around member dims index so_far =
    and_then (room_for_one around.asked so_far) (λ _.
    and_then (child_of_member table member index) (λ child.
    and_then (type_checked table (class_place member child.redeclared) (component_frame member index child)) (λ walked.
    entered_by table parts around member dims (component_frame member index child) walked so_far)))

-- ---- one component

abbrev pub component_entered : Table → Deeper → Around → Member → Adding
component_entered table deeper around member so_far =
    and_then (prefix_in_profile member.declares.place (prefix_of table member)) (λ _.
    and_then (child_of_member table member []) (λ child.
    and_then (component_dims table most_references member) (λ dims.
    and_then (deeper member.declares.place) (λ parts.
    adding_each (element_entered table parts (around_parts table around member child.class) member dims) (indices dims) so_far))))

-- A class is no instance, and neither are an outer component and one that its condition removes.
abbrev pub member_entered : Table → Deeper → Around → Member → Adding
member_entered table deeper around member so_far =
    if is_class member.declares then Ok so_far else
    (if member.declares.flags.outer then and_then (outer_checked table member) (λ _. Ok so_far) else
    and_then (there_of table most_references member) (λ is_there.
    if is_there then component_entered table deeper around member so_far else Ok so_far))

abbrev pub parts_entered : Table → Deeper → Parts
parts_entered table deeper around walked = adding_each (member_entered table deeper around) (members_in walked)

-- The number tells how many names a path may still gain.
unfoldable pub deeper : Table → ℕ → Deeper
deeper table zero place = breaks INSTANCE_TOO_DEEP place
deeper table (suc left) place = Ok (parts_entered table (deeper table left))

-- ---- the asked class

abbrev pub most_names : ℕ
most_names = 32

abbrev pub is_under : List (List ℕ) → Home → Bool
is_under path (Under other) = path_eq path other
is_under path home = false

abbrev pub is_placed : List (List ℕ) → List ℕ → Row → Bool
is_placed before name row = bytes_eq row.class.name name && is_under before row.home

abbrev pub inside : Frame → Option Row → Frame
inside outer None = outer
inside outer (Some row) = looked_up row.number [] outer

-- The frames around a class, each looked up in the one around it and modified by nothing.
abbrev pub enclosing : Table → Frame → (before : List (List ℕ)) → List (List ℕ) → Frame
enclosing table outer before [] = outer
enclosing table outer before (name ∷ names) = enclosing table (inside outer (find (is_placed before name) table)) (before ++ name ∷ []) names

abbrev pub enclosing_of : Table → Home → Frame
enclosing_of table (Under path) = enclosing table Top [] path
enclosing_of table home = Top

abbrev pub root_frame : Table → Row → Frame
root_frame table row = In row.number No_source (enclosing_of table row.home) (Some []) Top

abbrev pub root_instance : Table → Row → Instance
root_instance table row = record { frame = root_frame table row; path = []; place = row.class.place; dims = []; leaf = None }

abbrev pub around_root : Row → Around
around_root row = record { asked = row.class.place; outermost = true; vary = Free; given = false }

abbrev pub instances_in : Table → Row → Outcome (List Instance)
instances_in table row =
    and_then (frame_checked table row.class.place (root_frame table row)) (λ walked.
    parts_entered table (deeper table most_names) (around_root row) walked (root_instance table row ∷ []))

abbrev pub instances_by : Table → Option Row → Outcome (List Instance)
instances_by table None = Ok []
instances_by table (Some row) = instances_in table row

-- The instances of the class with that number: the class itself, then its components, each before its parts.
abbrev pub instances_of : Table → (class : ℕ) → Outcome (List Instance)
instances_of table class = instances_by table (row_at table class)

-- of a class that has a row, these are a tree of instances with any names
abbrev pub AreTreeOf : List FileTree → (class : ℕ) → List Instance → Type 0
AreTreeOf files class instances = (row : Row) → row_at (table_of files) class ≡ Some row → IsInstanceTree any_name (table_of files) instances
