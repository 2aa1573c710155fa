-- What sources redeclare.
use Rattle.std.proofs.Common.{◌≡◌, ℕ, zero, suc, ◌+◌, ◌<◌, ◌≤◌, Bool, true, false, List, [], ◌∷◌, ◌++◌, length, drop, get_or, map, flat_map, Option, Some, None, refl, ap, sym, subst, ◌∙◌, append-nil, arith}
use Rattle.std.specs.Prelude.{option_map, slice_get}
use Rattle.std.proofs.lemmas.Option.{slice_get-map, slice_get_read}
use Rattle.std.specs.Option.{option_to_list}
use Rattle.std.specs.Str.{bytes_eq}
use Rattle.std.proofs.lemmas.List.{map-append}
use Rattle.std.proofs.lemmas.Grind.{flat_map-append}
use Rattle.std.proofs.lemmas.Slice.Eq.{bytes_eq-Decides}
use Rattle.mo_syntax.specs.declared.class.ArgumentOf.{ArgumentOf}
use Rattle.mo_syntax.specs.declared.class.Body.{Body}
use Rattle.mo_syntax.specs.declared.class.Element.{Element, out-Element}
use Rattle.mo_syntax.specs.declared.class.Give.{Give, Give-F, out-Give}
use Rattle.mo_syntax.specs.declared.class.Item.{Item}
use Rattle.mo_syntax.specs.declared.class.What.{What}
use Rattle.mo_scope.specs.Rows.{Table, Declares, Modifiers}
use Rattle.mo_scope.specs.Frames.{Given, Listed, Argued, Replacing, Source}
use Rattle.mo_scope.specs.Parts.{Redeclaration, begins_with, behind_name, declared_in, held, names_left, pending_behind, redeclarations_in, said_behind, said_by_argument, said_by_element, said_further}
use Rattle.mo_scope.specs.Spoken.{Spoken, spoken_argument, spoken_rest, spoken_element, spoken_of}
use Rattle.mo_scope.proofs.Sayings.{said_left, said_list, said_redeclare, said_replaceable, argument_named, further_named, element_named, flat_map_flat_map}
use Rattle.mo_scope.specs.Arguments.{asked_argument, asked_rest}
use Rattle.mo_scope.specs.declared.source.Source.{Source as SourceAt}
use Rattle.mo_scope.specs.Sights.{source_seen}
use Rattle.mo_scope.specs.Worlds.{AreFrames, IsFrame, World}
use Rattle.mo_scope.specs.Places.{Every}
use Rattle.mo_scope.proofs.laws.Standing.{every_append}
use Rattle.mo_redeclare.specs.steps.Comparing.{redeclares_of, redeclares_in, element_by, element_given}

abbrev pub with_name : List ℕ → List Redeclaration → List (List ℕ × Redeclaration)
with_name name redeclarations = map (λ redeclaration. (name, redeclaration)) redeclarations

no_some : {A B : Type 0} (x : A) → Some x ≡ None → B
no_some x is = cc

-- ---- an argument of which so many names are passed

module _ (table : Table) (argument : ArgumentOf Give) (passed : ℕ) (source : Source) (name : List ℕ) where
  pub behind_left : passed < length argument.name.0 → [] ≡ with_name name (redeclarations_in (said_behind table argument passed source ∷ []))
  behind_left below = rw (said_left table argument passed source below) refl

  given_none : (given : Give-F Body Give Item What Element) → out-Give argument.give ≡ given → length argument.name.0 ≤ passed → element_given argument.give ≡ None →
      [] ≡ with_name name (redeclarations_in (said_behind table argument passed source ∷ []))
  given_none (Give-F.Modify mods value) is above none = rw (said_list table argument passed source mods value above is) refl
  given_none (Give-F.Redeclare element) is above none = no_some (element, (out-Element element).flags.replaceable) (ap element_by (sym is) ∙ none)
  given_none (Give-F.Replaceable element) is above none = no_some (element, true) (ap element_by (sym is) ∙ none)

  pub behind_none : length argument.name.0 ≤ passed → element_given argument.give ≡ None → [] ≡ with_name name (redeclarations_in (said_behind table argument passed source ∷ []))
  behind_none above none = given_none (out-Give argument.give) refl above none

  abbrev one_named : Element → Bool → Declares → Source → List (List ℕ × Redeclaration)
  one_named element keeps declares from = (name, record { declares = declares; place = argument.place; keeps = keeps; source = from }) ∷ []

  abbrev Redeclared : Element → Bool → Type 0
  Redeclared element keeps = one_named element keeps (declared_in table element) source ≡ with_name name (redeclarations_in (said_behind table argument passed source ∷ []))

  same_some : {element other : Element} {keeps same : Bool} → Redeclared other same → ◌≡◌ {A = Option (Element × Bool)} (Some (other, same)) (Some (element, keeps)) → Redeclared element keeps
  same_some {element} {other} {keeps} {same} is one =
      let given : ◌≡◌ {A = Element × Bool} (other, same) (element, keeps) = cc in
      let elements : other ≡ element = ap (λ (pair : Element × Bool). pair.0) given in
      let answers : same ≡ keeps = ap (λ (pair : Element × Bool). pair.1) given in
      subst (λ e. Redeclared e keeps) elements (subst (λ k. Redeclared other k) answers is)

  given_some : (given : Give-F Body Give Item What Element) (element : Element) (keeps : Bool) → out-Give argument.give ≡ given → length argument.name.0 ≤ passed →
      element_given argument.give ≡ Some (element, keeps) → Redeclared element keeps
  given_some (Give-F.Modify mods value) element keeps is above some = no_some (element, keeps) (sym (ap element_by (sym is) ∙ some))
  given_some (Give-F.Redeclare other) element keeps is above some =
      same_some (rw (said_redeclare table argument passed source other above is) refl) (ap element_by (sym is) ∙ some)
  given_some (Give-F.Replaceable other) element keeps is above some =
      same_some (rw (said_replaceable table argument passed source other above is) refl) (ap element_by (sym is) ∙ some)

  pub behind_some : (element : Element) (keeps : Bool) (declares : Declares) (from : Source) → length argument.name.0 ≤ passed → element_given argument.give ≡ Some (element, keeps) →
      declares ≡ declared_in table element → from ≡ source →
      one_named element keeps declares from ≡ with_name name (redeclarations_in (said_behind table argument passed source ∷ []))
  behind_some element keeps declares from above some is_declared is_from =
      ap (λ (d : Declares). one_named element keeps d from) is_declared
      ∙ ap (λ (s : Source). one_named element keeps (declared_in table element) s) is_from
      ∙ given_some (out-Give argument.give) element keeps refl above some

-- ---- what is spoken

pub read_drop : {A : Type 0} (xs : List A) (i : ℕ) (x : A) → slice_get xs i ≡ Some x → drop i xs ≡ x ∷ drop (i + 1) xs
read_drop [] i x is = no_some x (sym is)
read_drop (y ∷ xs) zero x is = let same : y ≡ x = cc in ap (λ z. z ∷ xs) same
read_drop (y ∷ xs) (suc i) x is =
    let next : suc (i + 1) ≡ suc i + 1 = omega arith in
    read_drop xs i x is ∙ ap (λ k. x ∷ drop k (y ∷ xs)) next

pub read_none : {A : Type 0} (xs : List A) (i : ℕ) → slice_get xs i ≡ None → drop i xs ≡ []
read_none [] zero is = refl
read_none [] (suc i) is = refl
read_none (y ∷ xs) zero is = no_some y is
read_none (y ∷ xs) (suc i) is = read_none xs i is

name_is : (name : List ℕ) → bytes_eq name name ≡ true
name_is name = (bytes_eq-Decides name name).1 refl

-- what is spoken by an argument with these names
abbrev spoken_by : Table → Source → ArgumentOf Give → List (List ℕ) → List Spoken
spoken_by table source argument [] = []
spoken_by table source argument (name ∷ names) = record {
  source = source;
  name = name;
  place = argument.place;
  claims = (asked_argument source argument).claims;
  redeclares = redeclarations_in (said_by_argument table source name [] argument);
  replacing = false;
} ∷ []

-- what is spoken by the names that are left of an argument
abbrev rest_by : Table → Source → ArgumentOf Give → ℕ → List (List ℕ) → List Spoken
rest_by table source argument passed [] = []
rest_by table source argument passed (name ∷ names) = record {
  source = source;
  name = name;
  place = argument.place;
  claims = flat_map (λ asked. asked.claims) (asked_rest source argument (name ∷ names));
  redeclares = redeclarations_in (said_further table source name [] argument passed);
  replacing = false;
} ∷ []

-- what is spoken by what a source holds
abbrev spoken_given : Table → Source → Given → List Spoken
spoken_given table source (Listed modifiers) = flat_map (spoken_argument table source) modifiers.list
spoken_given table source (Argued argument passed) =
    spoken_rest table source argument passed ++ flat_map (spoken_argument table source) (held (Argued argument passed)).list
spoken_given table source (Replacing elements) = flat_map (λ element. spoken_element table source (declared_in table element)) elements

module _ (table : Table) (source : Source) where
  pub argument_speaks : (argument : ArgumentOf Give) (name : List ℕ) (names : List (List ℕ)) → argument.name.0 ≡ name ∷ names →
      redeclares_in (spoken_argument table source argument)
      ≡ with_name name (redeclarations_in (said_behind table argument 1 (behind_name source name (pending_behind argument.each source.piece.pending []) argument.last (Argued argument 1)) ∷ []))
  argument_speaks argument name names is =
      ap (λ ns. redeclares_in (spoken_by table source argument ns)) is
      ∙ append-nil (with_name name (redeclarations_in (said_by_argument table source name [] argument)))
      ∙ ap (λ says. with_name name (redeclarations_in says)) (argument_named table source name [] argument name (ap (begins_with name) is ∙ name_is name) refl)

  pub argument_speaks_not : (argument : ArgumentOf Give) → argument.name.0 ≡ [] → redeclares_in (spoken_argument table source argument) ≡ []
  argument_speaks_not argument is = ap (λ ns. redeclares_in (spoken_by table source argument ns)) is

  pub rest_speaks : (argument : ArgumentOf Give) (passed : ℕ) (name : List ℕ) (names : List (List ℕ)) → names_left argument passed ≡ name ∷ names →
      redeclares_in (spoken_rest table source argument passed)
      ≡ with_name name (redeclarations_in (said_behind table argument (passed + 1) (behind_name source name (pending_behind false source.piece.pending []) false (Argued argument (passed + 1))) ∷ []))
  rest_speaks argument passed name names is =
      ap (λ ns. redeclares_in (rest_by table source argument passed ns)) is
      ∙ append-nil (with_name name (redeclarations_in (said_further table source name [] argument passed)))
      ∙ ap (λ says. with_name name (redeclarations_in says)) (further_named table source name [] argument passed name (ap (begins_with name) is ∙ name_is name) refl)

  pub rest_speaks_not : (argument : ArgumentOf Give) (passed : ℕ) → names_left argument passed ≡ [] → redeclares_in (spoken_rest table source argument passed) ≡ []
  rest_speaks_not argument passed is = ap (λ ns. redeclares_in (rest_by table source argument passed ns)) is

  pub element_speaks : (declares : Declares) →
      redeclares_in (spoken_element table source declares)
      ≡ (
        declares.name,
        record {
          declares = declares;
          place = declares.place;
          keeps = declares.flags.replaceable;
          source = behind_name source declares.name (source.piece.pending ++ []) declares.flags.last (Listed declares.own);
        },
      ) ∷ []
  element_speaks declares =
      append-nil (with_name declares.name (redeclarations_in (said_by_element table source declares.name [] declares)))
      ∙ ap (λ says. with_name declares.name (redeclarations_in says)) (element_named table source declares.name [] declares (name_is declares.name))

  -- ---- a whole source

  pub listed_speaks : (modifiers : Modifiers) → source.piece.given ≡ Listed modifiers →
      redeclares_in (spoken_of table source) ≡ flat_map (λ argument. redeclares_in (spoken_argument table source argument)) modifiers.list
  listed_speaks modifiers is =
      ap (λ given. redeclares_in (spoken_given table source given)) is
      ∙ (flat_map_flat_map redeclares_of (spoken_argument table source) modifiers.list)

  pub argued_speaks : (argument : ArgumentOf Give) (passed : ℕ) → source.piece.given ≡ Argued argument passed →
      redeclares_in (spoken_of table source)
      ≡ redeclares_in (spoken_rest table source argument passed)
      ++ flat_map (λ argument. redeclares_in (spoken_argument table source argument)) (held (Argued argument passed)).list
  argued_speaks argument passed is =
      ap (λ given. redeclares_in (spoken_given table source given)) is
      ∙ (flat_map-append redeclares_of (spoken_rest table source argument passed) (flat_map (spoken_argument table source) (held (Argued argument passed)).list)
      ∙ ap (λ ys. redeclares_in (spoken_rest table source argument passed) ++ ys) (flat_map_flat_map redeclares_of (spoken_argument table source) (held (Argued argument passed)).list))

  pub replacing_speaks : (elements : List Element) → source.piece.given ≡ Replacing elements →
      redeclares_in (spoken_of table source) ≡ flat_map (λ element. redeclares_in (spoken_element table source (declared_in table element))) elements
  replacing_speaks elements is =
      ap (λ given. redeclares_in (spoken_given table source given)) is
      ∙ (flat_map_flat_map redeclares_of (λ element. spoken_element table source (declared_in table element)) elements)

-- ---- lists that are gathered

-- what is put at the end, if there is something
pub put_more : {A B : Type 0} (f : A → B) (old new : List A) (o : Option A) (ys : List B) → new ≡ old ++ option_to_list o → map f (option_to_list o) ≡ ys → map f new ≡ map f old ++ ys
put_more f old new o ys is same = ap (map f) is ∙ map-append f old (option_to_list o) ∙ ap (λ zs. map f old ++ zs) same

pub put_exist : {A : Type 0} (P : A → Type 0) (old new more : List A) → new ≡ old ++ more → Every P old → Every P more → Every P new
put_exist P old new more is before behind = subst (Every P) (sym is) (every_append P old more before behind)

-- a source of a list whose scopes exist
pub source_exists : (world : World) (xs ys : List SourceAt) (i : ℕ) (x : SourceAt) → xs ≡ ys → AreFrames world (map source_seen ys) → i < length xs → x ≡ get_or xs i x → IsFrame world x.scope.frame.0
source_exists world xs ys i x same are below is =
    are i (source_seen x)
    (slice_get-map source_seen ys i
    ∙ ap (option_map source_seen) (subst (λ (zs : List SourceAt). slice_get zs i ≡ Some x) same (slice_get_read xs (length xs) i x refl below is)))
