-- The checks of a frame that is instantiated (Modelica Language Specification 3.5, sections 4.6, 5.4, 7.1 to 7.3).
--
-- Its class is not partial; then its elements, the two passes over its arguments, its redeclarations; and all but the first of these for
-- each of its bases, once, in the order of the extends clauses.
use Rattle.std.specs.Prelude.{ℕ, Bool, true, false, ◌&&◌, ◌||◌, List, [], ◌∷◌, ◌++◌, map, filter, length, drop, Option, Some, None, Ok, if◌then◌else◌, nat_lt}
use Rattle.mo_syntax.specs.Outcome.{Outcome, and_then, breaks}
use Rattle.mo_syntax.specs.declared.class.ClassKind.{ClassKind}
use Rattle.mo_syntax.specs.declared.class.ClassKind.TheVariants.{Function, Operator}
use Rattle.mo_syntax.specs.declared.class.Element.{Element}
use Rattle.mo_syntax.specs.declared.place.Place.{Place}
use Rattle.mo_scope.specs.Rows.{Table, Row, row_at, Declares, Clause, clauses_in, elements_in, is_class, is_short_form}
use Rattle.mo_scope.specs.Frames.{Frame, Source, class_of, sources_of}
use Rattle.mo_scope.specs.Parts.{declared_in}
use Rattle.mo_scope.specs.Arguments.{second_pass}
use Rattle.mo_scope.specs.Lookup.{Walked, final_frame}
use Rattle.mo_scope.specs.Names.{clauses_of, walk_of}
use Rattle.mo_scope.specs.Redeclarations.{Checked, fine, each_checked, redeclarations_checked}
use Rattle.mo_scope.specs.Sizes.{first_base}
use Rattle.mo_instance.specs.Passes.{first_pass, inherits}
use Rattle.mo_syntax.specs.declared.rules.TheConstants.{PARTIAL_CLASS, OUTSIDE_PROFILE, MODIFIED_ELEMENT_NOT_FOUND}

-- ---- partial classes

abbrev pub whole_row : Place → Option Row → Checked
whole_row place None = fine
whole_row place (Some row) = if row.class.flags.partial then breaks PARTIAL_CLASS place else fine

-- The class of the frame itself decides; rule 26 stands where the class is named.
abbrev pub whole_class : Table → Place → Frame → Checked
whole_class table place frame = whole_row place (row_at table (class_of frame))

-- ---- what is left out

abbrev pub is_function : ClassKind → Bool
is_function Function = true
is_function Operator = true
is_function kind = false

abbrev pub is_inner_or_outer : Declares → Bool
is_inner_or_outer declares = declares.flags.inner || declares.flags.outer

abbrev pub earlier_of : Declares → Option Declares → Option Declares
earlier_of declares None = Some declares
earlier_of declares (Some other) = if nat_lt other.place.byte declares.place.byte then Some other else Some declares

-- the one that stands first in the text
abbrev pub first_in_text : List Declares → Option Declares
first_in_text [] = None
first_in_text (declares ∷ others) = earlier_of declares (first_in_text others)

-- classes, and elements with `redeclare`, that a class declares with `inner` or `outer`
abbrev pub wrongly_inner : Table → Row → List Declares
wrongly_inner table row = filter is_inner_or_outer (filter is_class (elements_in row.parts) ++ map (declared_in table) row.replacing)

abbrev pub unless_any : Option Declares → Checked
unless_any None = fine
unless_any (Some declares) = breaks OUTSIDE_PROFILE declares.place

abbrev pub row_in_profile : Table → Row → Checked
row_in_profile table row =
    if is_function row.class.kind then breaks OUTSIDE_PROFILE row.class.place else unless_any (first_in_text (wrongly_inner table row))

abbrev pub profile_of : Table → Option Row → Checked
profile_of table None = fine
profile_of table (Some row) = row_in_profile table row

-- A function or an operator is left out, and so is `inner` or `outer` on a class or an element with `redeclare`.
abbrev pub in_profile : Table → Frame → Checked
in_profile table frame = profile_of table (row_at table (class_of frame))

-- ---- a frame and its bases

abbrev pub unless_bases : Table → List Clause → List Element → Checked
unless_bases table [] (element ∷ others) = breaks MODIFIED_ELEMENT_NOT_FOUND (declared_in table element).place
unless_bases table clauses replacing = fine

abbrev pub replaces_by : Table → Option Row → Checked
replaces_by table None = fine
replaces_by table (Some row) = unless_bases table (clauses_in row.parts) row.replacing

-- The elements with `redeclare` of a class without bases replace nothing: rule 20 at the first one.
abbrev pub replaces_inherited : Table → Frame → Checked
replaces_inherited table frame = replaces_by table (row_at table (class_of frame))

-- The elements of a frame, its arguments and its redeclarations. The first pass takes the sources that were added.
abbrev pub frame_passed : Table → (is_replaced : List ℕ → Bool) → (added : List Source) → Frame → Outcome Walked
frame_passed table is_replaced added frame =
    and_then (walk_of table frame) (λ walked.
    and_then (in_profile table frame) (λ _.
    and_then (first_pass table frame is_replaced walked added) (λ _.
    and_then (second_pass table (sources_of frame)) (λ _.
    and_then (redeclarations_checked table walked frame) (λ _.
    and_then (replaces_inherited table frame) (λ _. Ok walked))))))

-- the sources that inheritance adds to those of a frame for a base
abbrev pub added_to : Frame → (base : Frame) → List Source
added_to frame base = drop (length (sources_of frame)) (sources_of base)

-- the frame that a base is a base of: the one before it on the way
abbrev pub before_last : Frame → List Frame → Frame
before_last frame [] = frame
before_last frame (base ∷ []) = frame
before_last frame (base ∷ next ∷ bases) = before_last base (next ∷ bases)

-- the checks of a base, where this is the frame that it is a base of
abbrev pub base_passed : Table → Frame → (base : Frame) → Checked
base_passed table frame base =
    and_then (walk_of table frame) (λ walked.
    and_then (frame_passed table (inherits walked) (added_to frame base) base) (λ _. fine))

-- The elements of a frame, all checks being made. Rule 26 stands at the place.
abbrev pub frame_checked : Table → Place → Frame → Outcome Walked
frame_checked table place frame =
    and_then (whole_class table place frame) (λ _.
    and_then (frame_passed table (λ name. false) (sources_of frame) frame) (λ walked.
    and_then (each_checked (λ through. base_passed table (before_last frame through) (final_frame through)) walked.bases) (λ _. Ok walked)))

-- ---- the class of a component's type

abbrev pub is_partial_short : Option Row → Bool
is_partial_short None = false
is_partial_short (Some row) = row.class.flags.partial && is_short_form row.form

-- The way to the dimensions of a type goes through a short class to its base, so of a partial one the name of the base is asked first.
abbrev pub partial_base : Table → Frame → Checked
partial_base table frame =
    if is_partial_short (row_at table (class_of frame)) then and_then (first_base table frame (clauses_of table frame)) (λ _. fine) else fine

-- The elements of a frame of a component, all checks being made. Rule 26 stands at the place.
abbrev pub type_checked : Table → Place → Frame → Outcome Walked
type_checked table place frame = and_then (partial_base table frame) (λ _. frame_checked table place frame)
