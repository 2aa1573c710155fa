-- The first pass over the arguments of a frame (Modelica Language Specification 3.5, sections 7.2, 7.2.3, 7.2.6 and 7.3.2).
--
-- It speaks of the first name of each argument: a protected element that is modified through a component is rule 17, a name that is no
-- element and no attribute rule 20, a final element rule 22; and an argument of a constraining clause with a path of the declaration's own
-- modifiers is rule 21. Of several rules that one argument breaks the least number is taken.
use Rattle.std.specs.Prelude.{ℕ, Bool, false, ◌&&◌, ◌||◌, not, List, [], ◌∷◌, ◌++◌, flat_map, Option, Some, None, if◌then◌else◌}
use Rattle.std.specs.List.{list_any}
use Rattle.std.specs.Str.{bytes_eq}
use Rattle.mo_syntax.specs.Outcome.{breach}
use Rattle.mo_syntax.specs.declared.class.ArgumentOf.{ArgumentOf}
use Rattle.mo_syntax.specs.declared.class.Give.{Give}
use Rattle.mo_syntax.specs.declared.place.Broken.{Broken}
use Rattle.mo_syntax.specs.declared.place.Place.{Place}
use Rattle.mo_syntax.specs.ClassTable.{path_eq}
use Rattle.mo_scope.specs.Outcome.{unless_broken}
use Rattle.mo_scope.specs.Rows.{Table, Row, row_at, place_eq, short_modifiers}
use Rattle.mo_scope.specs.Frames.{Origin, Own_of, Constraint_of, Frame, Source, Member, class_of, sources_of}
use Rattle.mo_scope.specs.Arguments.{Claim, claims_of, least, or_later}
use Rattle.mo_scope.specs.Lookup.{Inherited, Walked, members_in, named}
use Rattle.mo_scope.specs.Sizes.{is_nothing}
use Rattle.mo_scope.specs.Spoken.{Spoken, spoken_of, spoken_in}
use Rattle.mo_scope.specs.Redeclarations.{Checked}
use Rattle.mo_instance.specs.Attributes.{is_attribute}
use Rattle.mo_syntax.specs.declared.rules.TheConstants.{MODIFIED_TWICE, PROTECTED_ELEMENT, FINAL_MODIFIED, MODIFIED_ELEMENT_NOT_FOUND}

abbrev pub breach_if : Bool → ℕ → Place → List Broken
breach_if test rule place = if test then breach rule place ∷ [] else []

-- ---- a declaration's own modifiers and those of its constraining clause

abbrev pub is_own_of : Place → Origin → Bool
is_own_of place (Own_of other) = place_eq place other
is_own_of place origin = false

abbrev pub argument_claims : ArgumentOf Give → List Claim
argument_claims argument = claims_of argument.give argument.name.0 argument.place argument.last

-- the paths of a short class that is declared at the place
abbrev pub short_claims : Place → Option Row → List Claim
short_claims place None = []
short_claims place (Some row) =
    if place_eq place row.class.place then flat_map argument_claims (short_modifiers row.class.body).list else []

abbrev pub source_claims : Table → Place → Source → List Claim
source_claims table place source =
    if is_own_of place source.piece.origin then flat_map (λ spoken. spoken.claims) (spoken_of table source) else []

-- the paths of the own modifiers of the declaration at the place, among the sources of a frame or those of its short class
abbrev pub own_claims : Table → Frame → Place → List Claim
own_claims table frame place =
    flat_map (source_claims table place) (sources_of frame) ++ short_claims place (row_at table (class_of frame))

abbrev pub broken_against : List Claim → List Claim → List Broken
broken_against own claims = flat_map (λ one. breach_if (list_any (λ other. path_eq other.path one.path) own) MODIFIED_TWICE one.place) claims

abbrev pub broken_constraint : Table → Frame → Origin → List Claim → List Broken
broken_constraint table frame (Constraint_of place) claims = broken_against (own_claims table frame place) claims
broken_constraint table frame origin claims = []

-- ---- one argument

abbrev pub broken_member : Spoken → Member → List Broken
broken_member spoken member =
    breach_if (spoken.source.piece.outside && member.hidden) PROTECTED_ELEMENT spoken.place ++ breach_if member.declares.flags.last FINAL_MODIFIED spoken.place

abbrev pub is_inherited : List ℕ → Inherited → Bool
is_inherited name inherited = not (is_nothing inherited.through) && bytes_eq inherited.member.name name

-- whether an element that is inherited from one of the bases, or an attribute, has the name
abbrev pub inherits : Walked → List ℕ → Bool
inherits walked name = list_any (is_inherited name) walked.members || is_attribute walked.leaf name

abbrev pub is_known : (List ℕ → Bool) → Walked → Spoken → Bool
is_known is_replaced walked spoken = if spoken.replacing then is_replaced spoken.name else is_attribute walked.leaf spoken.name

abbrev pub broken_found : (List ℕ → Bool) → Walked → Spoken → Option Member → List Broken
broken_found is_replaced walked spoken (Some member) = broken_member spoken member
broken_found is_replaced walked spoken None = if is_known is_replaced walked spoken then [] else breach MODIFIED_ELEMENT_NOT_FOUND spoken.place ∷ []

-- An element with `redeclare` of a class is asked for among what all bases of that class have.
abbrev pub broken_name : (List ℕ → Bool) → Walked → Spoken → List Broken
broken_name is_replaced walked spoken = broken_found is_replaced walked spoken (named spoken.name (members_in walked))

abbrev pub broken_spoken : Table → Frame → (List ℕ → Bool) → Walked → Spoken → Option Broken
broken_spoken table frame is_replaced walked spoken =
    least (broken_name is_replaced walked spoken ++ broken_constraint table frame spoken.source.piece.origin spoken.claims)

-- ---- the pass

abbrev pub first_of_all : {A : Type 0} → (A → Option Broken) → List A → Option Broken
first_of_all broken [] = None
first_of_all broken (x ∷ xs) = or_later (broken x) (first_of_all broken xs)

-- Over these sources of a frame with these elements. The test tells what an element with `redeclare` may replace.
abbrev pub first_pass : Table → Frame → (is_replaced : List ℕ → Bool) → Walked → List Source → Checked
first_pass table frame is_replaced walked sources =
    unless_broken (first_of_all (broken_spoken table frame is_replaced walked) (spoken_in table sources)) tt
