-- The paths that arguments give something for.
use Rattle.std.proofs.Common.{◌≡◌, ℕ, ◌+◌, ◌<◌, Bool, List, [], ◌∷◌, ◌++◌, length, map, flat_map, take, get_or, Option, refl, ap, sym, ◌∙◌, append_assoc}
use Rattle.std.specs.Prelude.{◌||◌, is_some, if◌then◌else◌}
use Rattle.std.proofs.lemmas.List.{map-append, take_more}
use Rattle.std.proofs.lemmas.List.Folds.{flat_map-map}
use Rattle.mo_syntax.specs.declared.expr.Expr.{Expr}
use Rattle.mo_syntax.specs.declared.class.ArgumentOf.{ArgumentOf}
use Rattle.mo_syntax.specs.declared.class.Element.{Element}
use Rattle.mo_syntax.specs.declared.class.Give.{Give, Give-F, fold_out-Give, out-Give}
use Rattle.mo_syntax.specs.declared.class.ModsOf.{ModsOf}
use Rattle.mo_syntax.specs.declared.place.Place.{Place}
use Rattle.mo_scope.specs.Arguments.{Claim, Claims, asked_argument, asked_element, asked_of, claim, claims_in, claims_of}
use Rattle.mo_scope.specs.Frames.{Listed, Replacing, Source}
use Rattle.mo_scope.specs.Parts.{declared_in}
use Rattle.mo_scope.specs.Rows.{Modifiers, Table}
use Rattle.mo_mods.specs.Passes.{nested_claims}

module _ (give : Give) (path : List (List ℕ)) (place : Place) (last : Bool) where
  pub claims_modify : (mods : ModsOf Give) (value : Option Expr) → out-Give give ≡ Give-F.Modify mods value →
      claims_of give path place last ≡ (if is_some value then claim path place last ∷ [] else []) ++ nested_claims mods.0 path last
  claims_modify mods value gives =
      rw (fold_out-Give (Unit {0}) Claims (Unit {0}) (Unit {0}) (Unit {0}) (λ body. tt) claims_in (λ item. tt) (λ what. tt) (λ element. tt) give, gives)
      (ap (λ xs. (if is_some value then claim path place last ∷ [] else []) ++ xs)
      (flat_map-map (λ (argument : ArgumentOf Claims). argument.give (path ++ argument.name.0) argument.place (last || argument.last)) _ mods.0))

  pub claims_redeclare : (element : Element) → out-Give give ≡ Give-F.Redeclare element → claims_of give path place last ≡ claim path place last ∷ []
  claims_redeclare element gives =
      rw (fold_out-Give (Unit {0}) Claims (Unit {0}) (Unit {0}) (Unit {0}) (λ body. tt) claims_in (λ item. tt) (λ what. tt) (λ element. tt) give, gives) refl

  pub claims_replaceable : (element : Element) → out-Give give ≡ Give-F.Replaceable element → claims_of give path place last ≡ claim path place last ∷ []
  claims_replaceable element gives =
      rw (fold_out-Give (Unit {0}) Claims (Unit {0}) (Unit {0}) (Unit {0}) (λ body. tt) claims_in (λ item. tt) (λ what. tt) (λ element. tt) give, gives) refl

-- names that are put behind others
pub names_more : {A : Type 0} (f : A → List ℕ) (made new : List A) (a : A) (start names : List (List ℕ)) (i : ℕ) (name : List ℕ) → i < length names → name ≡ get_or names i name → new ≡ made ++ a ∷ [] → f a ≡ name →
    map f made ≡ start ++ take i names → map f new ≡ start ++ take (i + 1) names
names_more f made new a start names i name below at is same before =
    ap (map f) is ∙ map-append f made (a ∷ []) ∙ ap (λ ys. ys ++ f a ∷ []) before ∙ append_assoc start (take i names) (f a ∷ [])
    ∙ ap (λ y. start ++ (take i names ++ y ∷ [])) (same ∙ at)
    ∙ ap (λ ys. start ++ ys) (sym (take_more names i name below))

-- the paths of an argument with nested modifiers are put
pub claims_put : (start old new : List Claim) (give : Give) (path : List (List ℕ)) (place : Place) (last given : Bool) (mods : ModsOf Give) (value : Option Expr) (list : List (ArgumentOf Give)) →
    out-Give give ≡ Give-F.Modify mods value → given ≡ is_some value → list ≡ mods.0 → old ≡ start ++ (if given then claim path place last ∷ [] else []) → new ≡ old ++ nested_claims list path last →
    new ≡ start ++ claims_of give path place last
claims_put start old new give path place last given mods value list gives is same before more =
    more ∙ ap (λ ys. ys ++ nested_claims list path last) before
    ∙ append_assoc start (if given then claim path place last ∷ [] else []) (nested_claims list path last)
    ∙ ap (λ b. start ++ ((if b then claim path place last ∷ [] else []) ++ nested_claims list path last)) is
    ∙ ap (λ ys. start ++ ((if is_some value then claim path place last ∷ [] else []) ++ nested_claims ys path last)) same
    ∙ ap (λ ys. start ++ ys) (sym (claims_modify give path place last mods value gives))

-- ---- the arguments of a source

module _ (table : Table) (source : Source) where
  pub asked_listed : (modifiers : Modifiers) → source.piece.given ≡ Listed modifiers → asked_of table source ≡ map (asked_argument source) modifiers.list
  asked_listed modifiers is = rw is refl

  pub asked_replacing : (elements : List Element) → source.piece.given ≡ Replacing elements → asked_of table source ≡ map (λ element. asked_element source (declared_in table element)) elements
  asked_replacing elements is = rw is refl

-- ---- what is put one after another

pub gathered_one : {X B : Type 0} (g : X → B) (start old new : List B) (xs : List X) (i : ℕ) (x : X) → i < length xs → x ≡ get_or xs i x → old ≡ start ++ map g (take i xs) → new ≡ old ++ g x ∷ [] →
    new ≡ start ++ map g (take (i + 1) xs)
gathered_one g start old new xs i x below at before more =
    more ∙ ap (λ ys. ys ++ g x ∷ []) before ∙ append_assoc start (map g (take i xs)) (g x ∷ [])
    ∙ ap (λ ys. start ++ ys) (sym (ap (map g) (take_more xs i x below ∙ ap (λ y. take i xs ++ y ∷ []) (sym at)) ∙ map-append g (take i xs) (x ∷ [])))

pub map_flat : {X Y Z : Type 0} (f : Y → Z) (g : X → List Y) (xs : List X) → flat_map (λ x. map f (g x)) xs ≡ map f (flat_map g xs)
map_flat f g [] = refl
map_flat f g (x ∷ xs) = ap (λ ys. map f (g x) ++ ys) (map_flat f g xs) ∙ sym (map-append f (g x) (flat_map g xs))
