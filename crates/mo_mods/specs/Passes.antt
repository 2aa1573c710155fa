-- The second pass over the arguments of a frame's sources in two runs: from the front, which paths an argument before has; from the back,
-- which final paths a later list has (Modelica Language Specification 3.5, sections 7.2.2 to 7.2.6).
use Rattle.std.specs.Prelude.{ℕ, Bool, ◌&&◌, ◌||◌, List, [], ◌∷◌, ◌++◌, map, flat_map, Option, Some, None, if◌then◌else◌}
use Rattle.std.specs.List.{list_any}
use Rattle.mo_syntax.specs.Outcome.{breach}
use Rattle.mo_syntax.specs.declared.class.ArgumentOf.{ArgumentOf}
use Rattle.mo_syntax.specs.declared.class.Give.{Give}
use Rattle.mo_syntax.specs.declared.place.Broken.{Broken}
use Rattle.mo_syntax.specs.declared.place.Place.{Place}
use Rattle.mo_syntax.specs.ClassTable.{path_eq}
use Rattle.mo_scope.specs.Frames.{Listing}
use Rattle.mo_scope.specs.Arguments.{Asked, Claim, claims_of, is_repeated, is_among, is_below_final}
use Rattle.mo_syntax.specs.declared.rules.TheConstants.{MODIFIED_TWICE, FINAL_MODIFIED, WRONG_EACH}

-- the paths that the arguments of a nested list give something for
abbrev pub nested_claims : List (ArgumentOf Give) → List (List ℕ) → Bool → List Claim
nested_claims arguments path last =
    flat_map (λ argument. claims_of argument.give (path ++ argument.name.0) argument.place (last || argument.last)) arguments

-- ---- the paths that lists have

-- a path that a list has
abbrev pub Listed_path : Type 0
Listed_path = Listing × List (List ℕ)

abbrev pub paths_of : Listing → List Claim → List Listed_path
paths_of listing claims = map (λ one. (listing, one.path)) claims

-- the paths of arguments
abbrev pub all_paths : List Asked → List Listed_path
all_paths asked = flat_map (λ one. paths_of one.listing one.claims) asked

abbrev pub finals_of : Listing → List Claim → List Listed_path
finals_of listing claims = flat_map (λ one. if one.last then (listing, one.path) ∷ [] else []) claims

-- the final paths of arguments
abbrev pub all_finals : List Asked → List Listed_path
all_finals asked = flat_map (λ one. finals_of one.listing one.claims) asked

-- whether one of the lists that have a path passes a test
abbrev pub is_path_of : (Listing → Bool) → List (List ℕ) → List Listed_path → Bool
is_path_of test path paths = list_any (λ one. path_eq one.1 path && test one.0) paths

-- ---- where an argument breaks a rule first

abbrev pub or_first : Option Place → Bool → Place → Option Place
or_first (Some found) broken place = Some found
or_first None broken place = if broken then Some place else None

-- the first path of an argument that stands before in the same list
abbrev pub first_repeated : List Asked → Listing → List Claim → List Claim → Option Place
first_repeated before listing passed [] = None
first_repeated before listing passed (one ∷ claims) =
    if is_repeated before listing one || is_among passed one then Some one.place
    else first_repeated before listing (passed ++ one ∷ []) claims

-- the first path of each argument that stands before in the same list
abbrev pub all_repeated : List Asked → List Asked → List (Option Place)
all_repeated before [] = []
all_repeated before (one ∷ asked) = first_repeated before one.listing [] one.claims ∷ all_repeated (before ++ one ∷ []) asked

-- the first path of an argument that stands at or below a final one of a later list
abbrev pub first_below : List Asked → Listing → List Claim → Option Place
first_below after listing [] = None
first_below after listing (one ∷ claims) = if is_below_final after listing one then Some one.place else first_below after listing claims

-- the rule of the least number: a repeated path, one below a final one, `each` where no index is pending
abbrev pub least_broken : Option Place → Option Place → Bool → Place → Option Broken
least_broken (Some place) below each at = Some (breach MODIFIED_TWICE place)
least_broken None (Some place) each at = Some (breach FINAL_MODIFIED place)
least_broken None None each at = if each then Some (breach WRONG_EACH at) else None
