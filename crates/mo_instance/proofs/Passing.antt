-- The first pass over arguments, by the least rule of each.
use Rattle.std.proofs.Common.{◌≡◌, ℕ, Bool, true, false, List, [], ◌∷◌, ◌++◌, map, flat_map, Option, Some, None, refl, ap, sym, ◌∙◌}
use Rattle.std.specs.Prelude.{◌&&◌, if◌then◌else◌, option_map}
use Rattle.mo_syntax.specs.Outcome.{breach}
use Rattle.mo_syntax.specs.declared.place.Broken.{Broken}
use Rattle.mo_syntax.specs.declared.place.Place.{Place}
use Rattle.mo_scope.specs.Rows.{Table}
use Rattle.mo_scope.specs.Frames.{Frame, Member, Origin, Elsewhere, Own_of, Constraint_of, Source}
use Rattle.mo_scope.specs.Arguments.{Claim, least, or_later}
use Rattle.mo_scope.specs.Lookup.{Walked, members_in, named}
use Rattle.mo_scope.specs.Places.{Every}
use Rattle.mo_scope.specs.Spoken.{Spoken, spoken_in, spoken_of}
use Rattle.mo_instance.specs.Passes.{breach_if, broken_against, broken_constraint, broken_found, broken_name, broken_spoken, first_of_all, is_known}
use Rattle.mo_instance.specs.steps.FirstPass.{against, broken_source, broken_speech, first_repeated, is_in, least_found, least_of_member, least_of_none}
use Rattle.mo_instance.specs.steps.Speeches.{speech_of, speeches_of}
use Rattle.mo_instance.proofs.Speaking.{from_source}
use Rattle.mo_syntax.specs.declared.rules.TheConstants.{MODIFIED_TWICE, PROTECTED_ELEMENT, FINAL_MODIFIED, MODIFIED_ELEMENT_NOT_FOUND}

-- ---- paths that may not be there

against_none : (claims : List Claim) → broken_against [] claims ≡ []
against_none [] = refl
against_none (one ∷ claims) = against_none claims

constraint_is : (table : Table) (frame : Frame) (origin : Origin) (claims : List Claim) →
    broken_constraint table frame origin claims ≡ broken_against (against table frame origin) claims
constraint_is table frame Elsewhere claims = sym (against_none claims)
constraint_is table frame (Own_of place) claims = sym (against_none claims)
constraint_is table frame (Constraint_of place) claims = refl

-- the places of those that are among these
abbrev places : List Claim → List Claim → List Place
places own claims = flat_map (λ one. if is_in own one then one.place ∷ [] else []) claims

all_repeated : (own claims : List Claim) → broken_against own claims ≡ map (breach MODIFIED_TWICE) (places own claims)
all_repeated own [] = refl
all_repeated own (one ∷ claims) = by (is_in own one) (all_repeated own claims)
  where
    by : (b : Bool) → broken_against own claims ≡ map (breach MODIFIED_TWICE) (places own claims) →
        breach_if b MODIFIED_TWICE one.place ++ broken_against own claims ≡ map (breach MODIFIED_TWICE) ((if b then one.place ∷ [] else []) ++ places own claims)
    by true rest = ap (λ (xs : List Broken). breach MODIFIED_TWICE one.place ∷ xs) rest
    by false rest = rest

least_repeated : (ps : List Place) (o : Option Place) (others : List Broken) → others ≡ map (breach MODIFIED_TWICE) ps → least others ≡ option_map (breach MODIFIED_TWICE) o → (p : Place) →
    least (breach MODIFIED_TWICE p ∷ others) ≡ Some (breach MODIFIED_TWICE p)
least_repeated ps None others are is p = rw is refl
least_repeated ps (Some q) others are is p = rw is refl

first_is : (own claims : List Claim) → least (broken_against own claims) ≡ option_map (breach MODIFIED_TWICE) (first_repeated own claims)
first_is own [] = refl
first_is own (one ∷ claims) = by (is_in own one) (first_is own claims)
  where
    by : (b : Bool) → least (broken_against own claims) ≡ option_map (breach MODIFIED_TWICE) (first_repeated own claims) →
        least (breach_if b MODIFIED_TWICE one.place ++ broken_against own claims) ≡ option_map (breach MODIFIED_TWICE) (if b then Some one.place else first_repeated own claims)
    by true rest = least_repeated (places own claims) (first_repeated own claims) (broken_against own claims) (all_repeated own claims) rest one.place
    by false rest = rest

-- ---- the least rule of an argument

least_member : (hidden last : Bool) (place : Place) (others : List Broken) (o : Option Place) → least others ≡ option_map (breach MODIFIED_TWICE) o →
    least ((breach_if hidden PROTECTED_ELEMENT place ++ breach_if last FINAL_MODIFIED place) ++ others) ≡ least_of_member hidden last place o
least_member false false place others None is = is
least_member false false place others (Some at) is = is
least_member false true place others None is = rw is refl
least_member false true place others (Some at) is = rw is refl
least_member true false place others None is = rw is refl
least_member true false place others (Some at) is = rw is refl
least_member true true place others None is = rw is refl
least_member true true place others (Some at) is = rw is refl

least_none : (known : Bool) (place : Place) (others : List Broken) (o : Option Place) → least others ≡ option_map (breach MODIFIED_TWICE) o →
    least ((if known then [] else breach MODIFIED_ELEMENT_NOT_FOUND place ∷ []) ++ others) ≡ least_of_none known place o
least_none true place others None is = is
least_none true place others (Some at) is = is
least_none false place others None is = rw is refl
least_none false place others (Some at) is = rw is refl

pub spoken_is : (table : Table) (frame : Frame) (is_replaced : List ℕ → Bool) (walked : Walked) (spoken : Spoken) →
    broken_spoken table frame is_replaced walked spoken ≡ broken_speech is_replaced walked (against table frame spoken.source.piece.origin) (speech_of spoken)
spoken_is table frame is_replaced walked spoken =
    ap (λ (xs : List Broken). least (broken_name is_replaced walked spoken ++ xs)) (constraint_is table frame spoken.source.piece.origin spoken.claims)
    ∙ by (named spoken.name (members_in walked))
  where
    by : (found : Option Member) →
        least (broken_found is_replaced walked spoken found ++ broken_against (against table frame spoken.source.piece.origin) spoken.claims) ≡ least_found is_replaced walked (speech_of spoken) (first_repeated (against table frame spoken.source.piece.origin) spoken.claims) found
    by (Some member) =
        least_member (spoken.source.piece.outside && member.hidden) member.declares.flags.last spoken.place (broken_against (against table frame spoken.source.piece.origin) spoken.claims) (first_repeated (against table frame spoken.source.piece.origin) spoken.claims)
        (first_is (against table frame spoken.source.piece.origin) spoken.claims)
    by None =
        least_none (is_known is_replaced walked spoken) spoken.place (broken_against (against table frame spoken.source.piece.origin) spoken.claims) (first_repeated (against table frame spoken.source.piece.origin) spoken.claims) (first_is (against table frame spoken.source.piece.origin) spoken.claims)

-- ---- the first of all

pub first_same : {A B : Type 0} (f : A → Option Broken) (g : B → Option Broken) (h : A → B) (xs : List A) → ((x : A) → f x ≡ g (h x)) → first_of_all f xs ≡ first_of_all g (map h xs)
first_same f g h [] same = refl
first_same f g h (x ∷ xs) same = ap (λ o. or_later o (first_of_all f xs)) (same x) ∙ ap (or_later (g (h x))) (first_same f g h xs same)

pub first_append : {A : Type 0} (f : A → Option Broken) (xs ys : List A) → first_of_all f (xs ++ ys) ≡ or_later (first_of_all f xs) (first_of_all f ys)
first_append f [] ys = refl
first_append f (x ∷ xs) ys = by (f x) (first_append f xs ys)
  where
    by : (o : Option Broken) → first_of_all f (xs ++ ys) ≡ or_later (first_of_all f xs) (first_of_all f ys) →
        or_later o (first_of_all f (xs ++ ys)) ≡ or_later (or_later o (first_of_all f xs)) (first_of_all f ys)
    by None rest = rest
    by (Some b) rest = refl

pub first_gathered : {A B : Type 0} (f : B → Option Broken) (g : A → List B) (xs : List A) → first_of_all f (flat_map g xs) ≡ first_of_all (λ x. first_of_all f (g x)) xs
first_gathered f g [] = refl
first_gathered f g (x ∷ xs) = first_append f (g x) (flat_map g xs) ∙ ap (or_later (first_of_all f (g x))) (first_gathered f g xs)

-- the first rule that the arguments of a source break, by what they speak of
pub source_is : (table : Table) (frame : Frame) (is_replaced : List ℕ → Bool) (walked : Walked) (source : Source) →
    first_of_all (broken_speech is_replaced walked (against table frame source.piece.origin)) (speeches_of table source) ≡ broken_source table frame is_replaced walked source
source_is table frame is_replaced walked source = by (spoken_of table source) (from_source table source)
  where
    by : (spoken : List Spoken) → Every (λ one. one.source ≡ source) spoken →
        first_of_all (broken_speech is_replaced walked (against table frame source.piece.origin)) (map speech_of spoken) ≡ first_of_all (broken_spoken table frame is_replaced walked) spoken
    by [] from = refl
    by (one ∷ others) from =
        ap (λ (s : Source). or_later (broken_speech is_replaced walked (against table frame s.piece.origin) (speech_of one))
        (first_of_all (broken_speech is_replaced walked (against table frame source.piece.origin)) (map speech_of others))) (sym from.0)
        ∙ ap (λ o. or_later o (first_of_all (broken_speech is_replaced walked (against table frame source.piece.origin)) (map speech_of others))) (sym (spoken_is table frame is_replaced walked one))
        ∙ ap (or_later (broken_spoken table frame is_replaced walked one)) (by others from.1)

-- the first rule of some sources
pub sources_are : (table : Table) (frame : Frame) (is_replaced : List ℕ → Bool) (walked : Walked) (sources : List Source) →
    first_of_all (broken_source table frame is_replaced walked) sources ≡ first_of_all (broken_spoken table frame is_replaced walked) (spoken_in table sources)
sources_are table frame is_replaced walked sources = sym (first_gathered (broken_spoken table frame is_replaced walked) (spoken_of table) sources)
