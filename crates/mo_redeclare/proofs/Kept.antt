-- Redeclarations in which an element stays replaceable.
use Rattle.std.proofs.Common.{◌≡◌, ℕ, ◌+◌, ◌<◌, Bool, true, false, List, ◌∷◌, length, drop, get_or, map, refl, ap, sym}
use Rattle.std.specs.Prelude.{◌&&◌, ◌||◌, not}
use Rattle.mo_syntax.specs.declared.place.Place.{Place}
use Rattle.mo_scope.specs.declared.saying.Redeclaration.{Redeclaration as RedeclarationAt}
use Rattle.mo_scope.specs.Frames.{Frame}
use Rattle.mo_scope.specs.Parts.{Redeclaration}
use Rattle.mo_scope.specs.Rows.{place_eq}
use Rattle.mo_scope.specs.Sights.{redeclaration_in}
use Rattle.mo_scope.proofs.Sayings.{front_is}
use Rattle.mo_redeclare.specs.steps.Comparing.{kept_behind}

pub ended : (behind keeps : Bool) (place : Place) (r : Redeclaration) (rs : List Redeclaration) → r.keeps ≡ keeps → (behind && not keeps) ≡ true → false ≡ kept_behind behind place (r ∷ rs)
ended true false place r rs is test = rw is refl
ended true true place r rs is test = cc
ended false keeps place r rs is test = cc

pub kept_on : (behind keeps : Bool) (place : Place) (r : Redeclaration) (rs : List Redeclaration) → r.keeps ≡ keeps → (behind && not keeps) ≡ false →
    kept_behind (behind || place_eq r.place place) place rs ≡ kept_behind behind place (r ∷ rs)
kept_on true true place r rs is test = rw is refl
kept_on true false place r rs is test = cc
kept_on false keeps place r rs is test = by (place_eq r.place place) refl
  where
    by : (b : Bool) → place_eq r.place place ≡ b → kept_behind (place_eq r.place place) place rs ≡ kept_behind false place (r ∷ rs)
    by true here = rw here refl
    by false here = rw here refl

-- what is left from a redeclaration on
pub left : (frames : List Frame) (behind : Bool) (place : Place) (rs : List RedeclarationAt) (i : ℕ) (r : RedeclarationAt) → i < length rs → r ≡ get_or rs i r →
    kept_behind behind place (redeclaration_in frames r ∷ map (redeclaration_in frames) (drop (i + 1) rs)) ≡ kept_behind behind place (map (redeclaration_in frames) (drop i rs))
left frames behind place rs i r below is =
    sym (ap (λ (xs : List RedeclarationAt). kept_behind behind place (map (redeclaration_in frames) xs)) (front_is rs i r r below is refl))
