-- Steps of the first pass over the arguments of a frame.
use Rattle.std.specs.Prelude.{ℕ, Bool, false, ◌&&◌, List, [], ◌∷◌, Option, Some, None, if◌then◌else◌}
use Rattle.std.specs.List.{list_any}
use Rattle.mo_syntax.specs.Outcome.{breach}
use Rattle.mo_syntax.specs.declared.place.Broken.{Broken}
use Rattle.mo_syntax.specs.declared.place.Place.{Place}
use Rattle.mo_syntax.specs.ClassTable.{path_eq}
use Rattle.mo_scope.specs.Rows.{Table}
use Rattle.mo_scope.specs.Frames.{Frame, Member, Origin, Constraint_of, Source}
use Rattle.mo_scope.specs.Arguments.{Claim}
use Rattle.mo_scope.specs.Lookup.{Walked, members_in, named}
use Rattle.mo_scope.specs.Spoken.{spoken_of}
use Rattle.mo_instance.specs.Attributes.{is_attribute}
use Rattle.mo_instance.specs.Passes.{broken_spoken, first_of_all, inherits, own_claims}
use Rattle.mo_instance.specs.steps.Speeches.{Speech}
use Rattle.mo_syntax.specs.declared.rules.TheConstants.{PROTECTED_ELEMENT, MODIFIED_TWICE, FINAL_MODIFIED, MODIFIED_ELEMENT_NOT_FOUND}

-- what an element with `redeclare` may replace: what the frame has of which it is asked for a base, if it is
abbrev pub is_replaced_by : Option Walked → List ℕ → Bool
is_replaced_by None = λ name. false
is_replaced_by (Some walked) = inherits walked

-- the paths that the arguments of a source with that origin may not have
abbrev pub against : Table → Frame → Origin → List Claim
against table frame (Constraint_of place) = own_claims table frame place
against table frame origin = []

abbrev pub is_in : List Claim → Claim → Bool
is_in own one = list_any (λ other. path_eq other.path one.path) own

-- the first path that is among these
abbrev pub first_repeated : List Claim → List Claim → Option Place
first_repeated own [] = None
first_repeated own (one ∷ claims) = if is_in own one then Some one.place else first_repeated own claims

-- the least rule of an element that is found: 17, 21 at a path that is among these, 22
abbrev pub least_of_member : (hidden : Bool) → (last : Bool) → Place → Option Place → Option Broken
least_of_member hidden last place repeated = if hidden then Some (breach PROTECTED_ELEMENT place) else least_by repeated
  where
    least_by : Option Place → Option Broken
    least_by (Some at) = Some (breach MODIFIED_TWICE at)
    least_by None = if last then Some (breach FINAL_MODIFIED place) else None

-- the least rule where no element is found
abbrev pub least_of_none : (known : Bool) → Place → Option Place → Option Broken
least_of_none known place repeated = if known then least_by repeated else Some (breach MODIFIED_ELEMENT_NOT_FOUND place)
  where
    least_by : Option Place → Option Broken
    least_by (Some at) = Some (breach MODIFIED_TWICE at)
    least_by None = None

abbrev pub is_known_speech : (List ℕ → Bool) → Walked → Speech → Bool
is_known_speech is_replaced walked speech = if speech.replacing then is_replaced speech.name else is_attribute walked.leaf speech.name

abbrev pub least_found : (List ℕ → Bool) → Walked → Speech → Option Place → Option Member → Option Broken
least_found is_replaced walked speech repeated (Some member) =
    least_of_member (speech.outside && member.hidden) member.declares.flags.last speech.place repeated
least_found is_replaced walked speech repeated None = least_of_none (is_known_speech is_replaced walked speech) speech.place repeated

-- the least rule that an argument breaks
abbrev pub broken_speech : (List ℕ → Bool) → Walked → (own : List Claim) → Speech → Option Broken
broken_speech is_replaced walked own speech =
    least_found is_replaced walked speech (first_repeated own speech.claims) (named speech.name (members_in walked))

-- the first rule that the arguments of a source break
abbrev pub broken_source : Table → Frame → (List ℕ → Bool) → Walked → Source → Option Broken
broken_source table frame is_replaced walked source = first_of_all (broken_spoken table frame is_replaced walked) (spoken_of table source)
