-- What the sources of a frame speak of stands where the sources and the class table stand.
use Rattle.std.proofs.Common.{ℕ, false, List, [], ◌∷◌, ◌++◌, flat_map}
use Rattle.mo_syntax.specs.declared.class.ArgumentOf.{ArgumentOf}
use Rattle.mo_syntax.specs.declared.class.Give.{Give}
use Rattle.mo_scope.specs.Rows.{Table, Declares}
use Rattle.mo_scope.specs.Frames.{Given, Listed, Argued, Replacing, Source}
use Rattle.mo_scope.specs.Parts.{redeclarations_in, names_left, held, said_by_argument, said_further, said_by_element, declared_in}
use Rattle.mo_scope.specs.Arguments.{Asked, asked_argument, asked_rest}
use Rattle.mo_scope.specs.Spoken.{Spoken, spoken_argument, spoken_rest, spoken_element, spoken_of, spoken_in}
use Rattle.mo_places.specs.Written.{Written, At}
use Rattle.mo_places.specs.Stands.{Every, ArgumentStands, DeclaresStand, GivenStands, RedeclarationStands, SourceStands, TableStands}
use Rattle.mo_places.proofs.laws.Standing.{every_append, every_flat_map, every_weaker}
use Rattle.mo_places.proofs.laws.Sources.{declared_stand, held_stands, redeclarations_stand, said_by_argument_stand, said_by_element_stand, said_further_stand}
use Rattle.mo_places.proofs.laws.Passing.{AskedStands, ClaimStands, asked_argument_stands, asked_element_stands, asked_rest_stand}

-- an argument that sources speak of: its place, its paths and its redeclaration
pub record SpokenStands (P : Written → Type 0) (spoken : Spoken) : Type 0 where
  pub place : P (At spoken.place)
  pub claims : Every (ClaimStands P) spoken.claims
  pub redeclares : Every (RedeclarationStands P) spoken.redeclares

module _ (P : Written → Type 0) (table : Table) (stands : TableStands P table) where
  -- an argument by its names
  abbrev argument_by : Source → ArgumentOf Give → List (List ℕ) → List Spoken
  argument_by source argument [] = []
  argument_by source argument (name ∷ names) = record {
    source = source;
    name = name;
    place = argument.place;
    claims = (asked_argument source argument).claims;
    redeclares = redeclarations_in (said_by_argument table source name [] argument);
    replacing = false;
  } ∷ []

  argument_by_stands : (source : Source) (argument : ArgumentOf Give) → SourceStands P source → ArgumentStands P argument → (names : List (List ℕ)) →
      Every (SpokenStands P) (argument_by source argument names)
  argument_by_stands source argument hs h [] = tt
  argument_by_stands source argument hs h (name ∷ names) = (
    record {
      place = h.0;
      claims = (asked_argument_stands P source argument h).claims;
      redeclares = redeclarations_stand P (said_by_argument table source name [] argument) (said_by_argument_stand P table stands source name [] hs argument h);
    },
    tt,
  )

  argument_stands : (source : Source) → SourceStands P source → (argument : ArgumentOf Give) → ArgumentStands P argument → Every (SpokenStands P) (spoken_argument table source argument)
  argument_stands source hs argument h = argument_by_stands source argument hs h argument.name.0

  arguments_stand : (source : Source) (arguments : List (ArgumentOf Give)) → SourceStands P source → Every (ArgumentStands P) arguments →
      Every (SpokenStands P) (flat_map (spoken_argument table source) arguments)
  arguments_stand source arguments hs h =
      every_flat_map (SpokenStands P) (spoken_argument table source) arguments (every_weaker (ArgumentStands P) _ (argument_stands source hs) arguments h)

  abbrev rest_by : Source → ArgumentOf Give → ℕ → List (List ℕ) → List Spoken
  rest_by source argument passed [] = []
  rest_by source argument passed (name ∷ names) = record {
    source = source;
    name = name;
    place = argument.place;
    claims = flat_map (λ asked. asked.claims) (asked_rest source argument (name ∷ names));
    redeclares = redeclarations_in (said_further table source name [] argument passed);
    replacing = false;
  } ∷ []

  rest_by_stands : (source : Source) (argument : ArgumentOf Give) (passed : ℕ) → SourceStands P source → ArgumentStands P argument → (names : List (List ℕ)) →
      Every (SpokenStands P) (rest_by source argument passed names)
  rest_by_stands source argument passed hs h [] = tt
  rest_by_stands source argument passed hs h (name ∷ names) = (
    record {
      place = h.0;
      claims = every_flat_map (ClaimStands P) (λ (asked : Asked). asked.claims) (asked_rest source argument (name ∷ names))
          (every_weaker (AskedStands P) (λ (asked : Asked). Every (ClaimStands P) asked.claims) (λ asked ha. ha.claims) (asked_rest source argument (name ∷ names)) (asked_rest_stand P source argument (name ∷ names) h));
      redeclares = redeclarations_stand P (said_further table source name [] argument passed) (said_further_stand P table stands source name [] argument passed hs h);
    },
    tt,
  )

  rest_stands : (source : Source) (argument : ArgumentOf Give) (passed : ℕ) → SourceStands P source → ArgumentStands P argument → Every (SpokenStands P) (spoken_rest table source argument passed)
  rest_stands source argument passed hs h = rest_by_stands source argument passed hs h (names_left argument passed)

  element_spoken_stands : (source : Source) → SourceStands P source → (declares : Declares) → DeclaresStand P declares → Every (SpokenStands P) (spoken_element table source declares)
  element_spoken_stands source hs declares h = (
    record {
      place = h.place;
      claims = (asked_element_stands P source declares h).claims;
      redeclares = redeclarations_stand P (said_by_element table source declares.name [] declares) (said_by_element_stand P table stands source declares.name [] declares hs h);
    },
    tt,
  )

  abbrev given_by : Source → Given → List Spoken
  given_by source (Listed modifiers) = flat_map (spoken_argument table source) modifiers.list
  given_by source (Argued argument passed) = spoken_rest table source argument passed ++ flat_map (spoken_argument table source) (held (Argued argument passed)).list
  given_by source (Replacing elements) = flat_map (λ element. spoken_element table source (declared_in table element)) elements

  given_by_stands : (source : Source) → SourceStands P source → (given : Given) → GivenStands P given → Every (SpokenStands P) (given_by source given)
  given_by_stands source hs (Listed modifiers) h = arguments_stand source modifiers.list hs h.0
  given_by_stands source hs (Argued argument passed) h =
      every_append (SpokenStands P) (spoken_rest table source argument passed) _ (rest_stands source argument passed hs h)
      (arguments_stand source (held (Argued argument passed)).list hs (held_stands P table stands (Argued argument passed) h).0)
  given_by_stands source hs (Replacing elements) h =
      every_flat_map (SpokenStands P) (λ element. spoken_element table source (declared_in table element)) elements
      (every_weaker (λ element. DeclaresStand P (declared_in table element)) (λ element. Every (SpokenStands P) (spoken_element table source (declared_in table element)))
      (λ element. element_spoken_stands source hs (declared_in table element)) elements (declared_stand P table stands elements h))

  spoken_of_stands : (source : Source) → SourceStands P source → Every (SpokenStands P) (spoken_of table source)
  spoken_of_stands source hs = given_by_stands source hs source.piece.given hs.0

  pub spoken_in_stands : (sources : List Source) → Every (SourceStands P) sources → Every (SpokenStands P) (spoken_in table sources)
  spoken_in_stands sources h = every_flat_map (SpokenStands P) (spoken_of table) sources (every_weaker (SourceStands P) _ spoken_of_stands sources h)
