-- What sources speak of, source by source.
use Rattle.std.proofs.Common.{◌≡◌, ℕ, Bool, false, List, [], ◌∷◌, ◌++◌, map, flat_map, refl, ap, sym, ◌∙◌, append-nil}
use Rattle.std.specs.Prelude.{◌||◌}
use Rattle.std.specs.List.{list_any}
use Rattle.mo_scope.specs.Rows.{Table, Modifiers}
use Rattle.mo_syntax.specs.declared.class.ArgumentOf.{ArgumentOf}
use Rattle.mo_syntax.specs.declared.class.Element.{Element}
use Rattle.mo_syntax.specs.declared.class.Give.{Give}
use Rattle.mo_scope.specs.Arguments.{Claim, asked_argument, asked_rest, claims_of}
use Rattle.mo_scope.specs.Frames.{Frame, Given, Listed, Argued, Replacing, Source}
use Rattle.mo_scope.specs.Parts.{declared_in, held, names_left, redeclarations_in, said_by_argument, said_further}
use Rattle.mo_scope.specs.Places.{Every}
use Rattle.mo_scope.proofs.laws.Standing.{every_append}
use Rattle.mo_scope.specs.Spoken.{Spoken, spoken_argument, spoken_element, spoken_in, spoken_of, spoken_rest}
use Rattle.mo_instance.specs.Outer.{speaks_of}
use Rattle.mo_instance.specs.steps.Outer.{speaks_for}
use Rattle.mo_scope.specs.Worlds.{SourceEntry, source_in}
use Rattle.mo_instance.specs.steps.Speeches.{Speech, speech_of, speeches_in, speeches_of, spoken_with}
use Rattle.std.proofs.lemmas.List.{map-append}

any_mapped : {A B : Type 0} (p : B → Bool) (f : A → B) (xs : List A) → list_any p (map f xs) ≡ list_any (λ x. p (f x)) xs
any_mapped p f [] = refl
any_mapped p f (x ∷ xs) = ap (λ b. p (f x) || b) (any_mapped p f xs)

mapped_gathered : {A B C : Type 0} (f : B → C) (g : A → List B) (xs : List A) → map f (flat_map g xs) ≡ flat_map (λ x. map f (g x)) xs
mapped_gathered f g [] = refl
mapped_gathered f g (x ∷ xs) = map-append f (g x) (flat_map g xs) ∙ ap (λ ys. map f (g x) ++ ys) (mapped_gathered f g xs)

pub all_speeches : (table : Table) (sources : List Source) → speeches_in table sources ≡ map speech_of (spoken_in table sources)
all_speeches table sources = sym (mapped_gathered speech_of (spoken_of table) sources)

-- ---- one argument after another, as data

-- what is spoken by an argument with these names
abbrev spoken_names : Table → Source → ArgumentOf Give → List (List ℕ) → List Spoken
spoken_names table source argument [] = []
spoken_names table source argument (name ∷ names) = record {
  source = source;
  name = name;
  place = argument.place;
  claims = (asked_argument source argument).claims;
  redeclares = redeclarations_in (said_by_argument table source name [] argument);
  replacing = false;
} ∷ []

-- what is spoken by the names that are left of an argument
abbrev spoken_left : Table → Source → ArgumentOf Give → ℕ → List (List ℕ) → List Spoken
spoken_left table source argument passed [] = []
spoken_left table source argument passed (name ∷ names) = record {
  source = source;
  name = name;
  place = argument.place;
  claims = flat_map (λ asked. asked.claims) (asked_rest source argument (name ∷ names));
  redeclares = redeclarations_in (said_further table source name [] argument passed);
  replacing = false;
} ∷ []

abbrev speech_claiming : SourceEntry → ArgumentOf Give → List ℕ → List Claim → Speech
speech_claiming entry argument name claims = record {
  outside = entry.piece.outside;
  origin = entry.piece.origin;
  name = name;
  place = argument.place;
  claims = claims;
  replacing = false;
}

-- what is spoken by what a source holds
abbrev spoken_given : Table → Source → Given → List Spoken
spoken_given table source (Listed modifiers) = flat_map (spoken_argument table source) modifiers.list
spoken_given table source (Argued argument passed) =
    spoken_rest table source argument passed ++ flat_map (spoken_argument table source) (held (Argued argument passed)).list
spoken_given table source (Replacing elements) = flat_map (λ element. spoken_element table source (declared_in table element)) elements

module _ (table : Table) (frames : List Frame) (entry : SourceEntry) where
  pub argument_speech : (argument : ArgumentOf Give) (name : List ℕ) (names : List (List ℕ)) → argument.name.0 ≡ name ∷ names →
      map speech_of (spoken_argument table (source_in frames entry) argument) ≡ spoken_with entry argument name argument.name.0 (entry.piece.last || argument.last) ∷ []
  argument_speech argument name names is = ap (λ ns. map speech_of (spoken_names table (source_in frames entry) argument ns)) is

  pub argument_silent : (argument : ArgumentOf Give) → argument.name.0 ≡ [] → map speech_of (spoken_argument table (source_in frames entry) argument) ≡ []
  argument_silent argument is = ap (λ ns. map speech_of (spoken_names table (source_in frames entry) argument ns)) is

  pub rest_speech : (argument : ArgumentOf Give) (passed : ℕ) (left : List (List ℕ)) (name : List ℕ) (names : List (List ℕ)) → names_left argument passed ≡ name ∷ names → left ≡ name ∷ names →
      map speech_of (spoken_rest table (source_in frames entry) argument passed) ≡ spoken_with entry argument name left entry.piece.last ∷ []
  rest_speech argument passed left name names is left_is =
      ap (λ ns. map speech_of (spoken_left table (source_in frames entry) argument passed ns)) is
      ∙ ap (λ (claims : List Claim). speech_claiming entry argument name claims ∷ []) (append-nil (claims_of argument.give (name ∷ names) argument.place entry.piece.last))
      ∙ ap (λ ns. spoken_with entry argument name ns entry.piece.last ∷ []) (sym left_is)

  pub rest_silent : (argument : ArgumentOf Give) (passed : ℕ) → names_left argument passed ≡ [] → map speech_of (spoken_rest table (source_in frames entry) argument passed) ≡ []
  rest_silent argument passed is = ap (λ ns. map speech_of (spoken_left table (source_in frames entry) argument passed ns)) is

module _ (table : Table) (source : Source) where
  pub listed_speeches : (modifiers : Modifiers) → source.piece.given ≡ Listed modifiers →
      speeches_of table source ≡ flat_map (λ argument. map speech_of (spoken_argument table source argument)) modifiers.list
  listed_speeches modifiers is =
      ap (λ given. map speech_of (spoken_given table source given)) is ∙ mapped_gathered speech_of (spoken_argument table source) modifiers.list

  pub argued_speeches : (argument : ArgumentOf Give) (passed : ℕ) → source.piece.given ≡ Argued argument passed →
      speeches_of table source
      ≡ map speech_of (spoken_rest table source argument passed) ++ flat_map (λ one. map speech_of (spoken_argument table source one)) (held (Argued argument passed)).list
  argued_speeches argument passed is =
      ap (λ given. map speech_of (spoken_given table source given)) is
      ∙ map-append speech_of (spoken_rest table source argument passed) (flat_map (spoken_argument table source) (held (Argued argument passed)).list)
      ∙ ap (λ ys. map speech_of (spoken_rest table source argument passed) ++ ys) (mapped_gathered speech_of (spoken_argument table source) (held (Argued argument passed)).list)

  pub replacing_speeches : (elements : List Element) → source.piece.given ≡ Replacing elements →
      speeches_of table source ≡ flat_map (λ element. map speech_of (spoken_element table source (declared_in table element))) elements
  replacing_speeches elements is =
      ap (λ given. map speech_of (spoken_given table source given)) is ∙ mapped_gathered speech_of (λ element. spoken_element table source (declared_in table element)) elements

-- whether one of the sources speaks of a name
pub speaks_is : (table : Table) (name : List ℕ) (sources : List Source) → list_any (speaks_for name) (speeches_in table sources) ≡ list_any (speaks_of name) (spoken_in table sources)
speaks_is table name sources = ap (list_any (speaks_for name)) (all_speeches table sources) ∙ any_mapped (speaks_for name) speech_of (spoken_in table sources)

-- ---- all that a source speaks of is of that source

from_argument : (table : Table) (source : Source) (argument : ArgumentOf Give) → Every (λ spoken. spoken.source ≡ source) (spoken_argument table source argument)
from_argument table source argument = by argument.name.0 refl
  where
    by : (names : List (List ℕ)) → argument.name.0 ≡ names → Every (λ spoken. spoken.source ≡ source) (spoken_argument table source argument)
    by [] is = rw is tt
    by (name ∷ names) is = rw is (refl, tt)

from_arguments : (table : Table) (source : Source) (list : List (ArgumentOf Give)) → Every (λ spoken. spoken.source ≡ source) (flat_map (spoken_argument table source) list)
from_arguments table source [] = tt
from_arguments table source (argument ∷ list) =
    every_append (λ spoken. spoken.source ≡ source) (spoken_argument table source argument) (flat_map (spoken_argument table source) list) (from_argument table source argument) (from_arguments table source list)

from_rest : (table : Table) (source : Source) (argument : ArgumentOf Give) (passed : ℕ) → Every (λ spoken. spoken.source ≡ source) (spoken_rest table source argument passed)
from_rest table source argument passed = by (names_left argument passed) refl
  where
    by : (names : List (List ℕ)) → names_left argument passed ≡ names → Every (λ spoken. spoken.source ≡ source) (spoken_rest table source argument passed)
    by [] is = rw is tt
    by (name ∷ names) is = rw is (refl, tt)

from_elements : (table : Table) (source : Source) (elements : List Element) → Every (λ spoken. spoken.source ≡ source) (flat_map (λ element. spoken_element table source (declared_in table element)) elements)
from_elements table source [] = tt
from_elements table source (element ∷ elements) = (refl, from_elements table source elements)

pub from_source : (table : Table) (source : Source) → Every (λ spoken. spoken.source ≡ source) (spoken_of table source)
from_source table source = by source.piece.given
  where
    by : (given : Given) → Every (λ spoken. spoken.source ≡ source) (spoken_given table source given)
    by (Listed modifiers) = from_arguments table source modifiers.list
    by (Argued argument passed) =
        every_append (λ spoken. spoken.source ≡ source) (spoken_rest table source argument passed) (flat_map (spoken_argument table source) (held (Argued argument passed)).list)
        (from_rest table source argument passed) (from_arguments table source (held (Argued argument passed)).list)
    by (Replacing elements) = from_elements table source elements
