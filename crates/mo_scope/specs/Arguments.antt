-- The second pass over the arguments of a frame's sources (Modelica Language Specification 3.5, sections 7.2.2 to 7.2.6): two arguments
-- of one path, an argument below a final one of a later source, and `each` where no index is pending.
use Rattle.std.specs.Prelude.{ℕ, Bool, true, false, ◌&&◌, ◌||◌, not, List, [], ◌∷◌, ◌++◌, map, flat_map, Option, Some, None, is_some, if◌then◌else◌, nat_lt}
use Rattle.std.specs.List.{list_any}
use Rattle.std.specs.Str.{bytes_eq}
use Rattle.mo_syntax.specs.Outcome.{Outcome, breach}
use Rattle.mo_syntax.specs.declared.class.ArgumentOf.{ArgumentOf}
use Rattle.mo_syntax.specs.declared.class.Give.{Give, Give-F, fold-Give}
use Rattle.mo_syntax.specs.declared.place.Broken.{Broken}
use Rattle.mo_syntax.specs.declared.place.Place.{Place}
use Rattle.mo_syntax.specs.ClassTable.{path_eq}
use Rattle.mo_scope.specs.Outcome.{unless_broken}
use Rattle.mo_scope.specs.Rows.{Table, Declares}
use Rattle.mo_scope.specs.Frames.{Given, Listed, Argued, Replacing, Listing, Source, listing_eq}
use Rattle.mo_scope.specs.Parts.{names_left, held, declared_in}
use Rattle.mo_syntax.specs.declared.rules.TheConstants.{MODIFIED_TWICE, FINAL_MODIFIED, WRONG_EACH}

-- ---- paths

-- A path that an argument gives something for: the names down to it, where the innermost argument stands, and whether `final` marks it.
pub record Claim : Type 0 where
  pub path : List (List ℕ)
  pub place : Place
  pub last : Bool

-- the paths below some names, where the argument around stands there and is marked so
abbrev pub Claims : Type 0
Claims = List (List ℕ) → Place → Bool → List Claim

abbrev pub claim : List (List ℕ) → Place → Bool → Claim
claim path place last = record { path = path; place = place; last = last }

-- An argument that gives neither a value nor a redeclaration has no path of its own.
abbrev pub claims_in : Give-F (Unit {0}) Claims (Unit {0}) (Unit {0}) (Unit {0}) → Claims
claims_in (Give-F.Modify mods value) path place last =
    (if is_some value then claim path place last ∷ [] else [])
    ++ flat_map (λ argument. argument.give (path ++ argument.name.0) argument.place (last || argument.last)) mods.0
claims_in (Give-F.Redeclare element) path place last = claim path place last ∷ []
claims_in (Give-F.Replaceable element) path place last = claim path place last ∷ []

abbrev pub claims_of : Give → Claims
claims_of = fold-Give (Unit {0}) Claims (Unit {0}) (Unit {0}) (Unit {0}) (λ body. tt) claims_in (λ item. tt) (λ what. tt) (λ element. tt)

-- ---- arguments of a frame

-- An argument of a source of the frame: the list that it is in, where it stands, whether it has `each` with no index pending, and its paths.
pub record Asked : Type 0 where
  pub listing : Listing
  pub place : Place
  pub each : Bool
  pub claims : List Claim

abbrev pub is_none_pending : List ℕ → Bool
is_none_pending [] = true
is_none_pending (index ∷ indices) = false

abbrev pub asked_argument : Source → ArgumentOf Give → Asked
asked_argument source argument = record {
  listing = source.piece.listing;
  place = argument.place;
  each = argument.each && is_none_pending source.piece.pending;
  claims = claims_of argument.give argument.name.0 argument.place (source.piece.last || argument.last);
}

-- an argument of which some names were passed
abbrev pub asked_rest : Source → ArgumentOf Give → List (List ℕ) → List Asked
asked_rest source argument [] = []
asked_rest source argument (name ∷ names) = record {
  listing = source.piece.listing;
  place = argument.place;
  each = false;
  claims = claims_of argument.give (name ∷ names) argument.place source.piece.last;
} ∷ []

-- `final` of an element with `redeclare` is that of an argument.
abbrev pub asked_element : Source → Declares → Asked
asked_element source declares = record {
  listing = source.piece.listing;
  place = declares.place;
  each = false;
  claims = claim (declares.name ∷ []) declares.place (source.piece.last || declares.flags.last) ∷ [];
}

abbrev pub asked_of : Table → Source → List Asked
asked_of table source = asked_by source.piece.given
  where
    asked_by : Given → List Asked
    asked_by (Listed modifiers) = map (asked_argument source) modifiers.list
    asked_by (Argued argument passed) =
        asked_rest source argument (names_left argument passed) ++ map (asked_argument source) (held (Argued argument passed)).list
    asked_by (Replacing elements) = map (λ element. asked_element source (declared_in table element)) elements

abbrev pub arguments_of : Table → List Source → List Asked
arguments_of table sources = flat_map (asked_of table) sources

-- ---- the pass

-- a path that an argument before in the same list has
abbrev pub is_repeated : List Asked → Listing → Claim → Bool
is_repeated before listing one = list_any (λ asked. listing_eq asked.listing listing && list_any (λ other. path_eq other.path one.path) asked.claims) before

-- a path of the argument itself that stands before
abbrev pub is_among : List Claim → Claim → Bool
is_among before one = list_any (λ other. path_eq other.path one.path) before

abbrev pub is_front : List (List ℕ) → List (List ℕ) → Bool
is_front [] path = true
is_front (name ∷ names) [] = false
is_front (name ∷ names) (other ∷ others) = bytes_eq name other && is_front names others

-- a path at or below a final one of a later list
abbrev pub is_below_final : List Asked → Listing → Claim → Bool
is_below_final after listing one =
    list_any (λ asked. not (listing_eq asked.listing listing) && list_any (λ other. other.last && is_front other.path one.path) asked.claims) after

abbrev pub broken_claims : List Asked → List Asked → Listing → List Claim → List Claim → List Broken
broken_claims before after listing passed [] = []
broken_claims before after listing passed (one ∷ claims) =
    (if is_repeated before listing one || is_among passed one then breach MODIFIED_TWICE one.place ∷ [] else [])
    ++ (if is_below_final after listing one then breach FINAL_MODIFIED one.place ∷ [] else [])
    ++ broken_claims before after listing (passed ++ one ∷ []) claims

abbrev pub broken_argument : List Asked → List Asked → Asked → List Broken
broken_argument before after asked =
    broken_claims before after asked.listing [] asked.claims ++ (if asked.each then breach WRONG_EACH asked.place ∷ [] else [])

-- Where one argument breaks several rules the least number is taken, and of equal ones the first.
abbrev pub least : List Broken → Option Broken
least [] = None
least (broken ∷ others) = least_of (least others)
  where
    least_of : Option Broken → Option Broken
    least_of None = Some broken
    least_of (Some other) = if nat_lt other.rule broken.rule then Some other else Some broken

abbrev pub or_later : Option Broken → Option Broken → Option Broken
or_later (Some broken) later = Some broken
or_later None later = later

abbrev pub first_broken : List Asked → List Asked → Option Broken
first_broken before [] = None
first_broken before (asked ∷ after) = or_later (least (broken_argument before after asked)) (first_broken (before ++ asked ∷ []) after)

-- Rules 21 to 23 over the arguments of these sources, in their order and as written.
abbrev pub broken_arguments : Table → List Source → Option Broken
broken_arguments table sources = first_broken [] (arguments_of table sources)

abbrev pub second_pass : Table → List Source → Outcome (Unit {0})
second_pass table sources = unless_broken (broken_arguments table sources) tt
