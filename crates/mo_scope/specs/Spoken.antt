-- What the sources of a frame speak of: each argument by its first name (Modelica Language Specification 3.5, sections 7.2 and 7.3).
use Rattle.std.specs.Prelude.{ℕ, Bool, true, false, List, [], ◌∷◌, ◌++◌, flat_map}
use Rattle.mo_syntax.specs.declared.class.ArgumentOf.{ArgumentOf}
use Rattle.mo_syntax.specs.declared.class.Give.{Give}
use Rattle.mo_syntax.specs.declared.place.Place.{Place}
use Rattle.mo_scope.specs.Rows.{Table, Declares}
use Rattle.mo_scope.specs.Frames.{Given, Listed, Argued, Replacing, Source}
use Rattle.mo_scope.specs.Parts.{Redeclaration, redeclarations_in, names_left, held, said_by_argument, said_further, said_by_element, declared_in}
use Rattle.mo_scope.specs.Arguments.{Claim, asked_argument, asked_rest, asked_element}

-- An argument of a source: the source, the first of its names, where it stands, the paths that it gives something for, the redeclaration
-- of the element of its first name, if it is one, and whether it is an element with `redeclare` of a class.
pub record Spoken : Type 0 where
  pub source : Source
  pub name : List ℕ
  pub place : Place
  pub claims : List Claim
  pub redeclares : List Redeclaration
  pub replacing : Bool

abbrev pub spoken_argument : Table → Source → ArgumentOf Give → List Spoken
spoken_argument table source argument = spoken_by argument.name.0
  where
    spoken_by : List (List ℕ) → List Spoken
    spoken_by [] = []
    spoken_by (name ∷ names) = record {
      source = source;
      name = name;
      place = argument.place;
      claims = (asked_argument source argument).claims;
      redeclares = redeclarations_in (said_by_argument table source name [] argument);
      replacing = false;
    } ∷ []

-- an argument of which some names were passed
abbrev pub spoken_rest : Table → Source → ArgumentOf Give → ℕ → List Spoken
spoken_rest table source argument passed = spoken_by (names_left argument passed)
  where
    spoken_by : List (List ℕ) → List Spoken
    spoken_by [] = []
    spoken_by (name ∷ names) = record {
      source = source;
      name = name;
      place = argument.place;
      claims = flat_map (λ asked. asked.claims) (asked_rest source argument (name ∷ names));
      redeclares = redeclarations_in (said_further table source name [] argument passed);
      replacing = false;
    } ∷ []

abbrev pub spoken_element : Table → Source → Declares → List Spoken
spoken_element table source declares = record {
  source = source;
  name = declares.name;
  place = declares.place;
  claims = (asked_element source declares).claims;
  redeclares = redeclarations_in (said_by_element table source declares.name [] declares);
  replacing = true;
} ∷ []

abbrev pub spoken_of : Table → Source → List Spoken
spoken_of table source = spoken_by source.piece.given
  where
    spoken_by : Given → List Spoken
    spoken_by (Listed modifiers) = flat_map (spoken_argument table source) modifiers.list
    spoken_by (Argued argument passed) =
        spoken_rest table source argument passed ++ flat_map (spoken_argument table source) (held (Argued argument passed)).list
    spoken_by (Replacing elements) = flat_map (λ element. spoken_element table source (declared_in table element)) elements

-- the arguments of sources in their order, each as it is written
abbrev pub spoken_in : Table → List Source → List Spoken
spoken_in table sources = flat_map (spoken_of table) sources
