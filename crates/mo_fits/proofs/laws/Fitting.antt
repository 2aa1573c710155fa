-- What fits, by what stands among the indices of a path.
use Rattle.std.proofs.Common.{◌≡◌, ℕ, Bool, true, false, List, [], ◌∷◌, length, nat_eq, if◌then◌else◌, refl, ap, sym, ◌∙◌, arith}
use Rattle.std.proofs.lemmas.Bool.{eq-eqb, eqb-true}
use Rattle.mo_syntax.specs.Outcome.{breaks}
use Rattle.mo_syntax.specs.declared.place.Place.{Place}
use Rattle.mo_syntax.specs.declared.rules.TheConstants.{WRONG_SIZE, WRONG_TYPE}
use Rattle.mo_typing.specs.Subscripts.{fine}
use Rattle.mo_equations.specs.Variables.{are_among}
use Rattle.mo_fits.specs.Laws.{FitsOnly, FitsWherever, HaveComponents, kept}
use Rattle.mo_fits.proofs.laws.Among.{among, marked}

-- what two tests in turn let pass
passed : (a b : Bool) (place : Place) → (if a then (if b then fine else breaks WRONG_SIZE place) else breaks WRONG_TYPE place) ≡ fine → (a ≡ true) × (b ≡ true)
passed true true place h = (refl, refl)
passed true false place h = cc
passed false b place h = cc

passing : (a b : Bool) (place : Place) → a ≡ true → b ≡ true → (if a then (if b then fine else breaks WRONG_SIZE place) else breaks WRONG_TYPE place) ≡ fine
passing a b place p q = rw (p, q) refl

pub fits_only : FitsOnly
fits_only place [] indices sizes dims h =
    let both = passed (nat_eq 0 (length dims)) true place h in
    marked [] dims indices sizes (eqb-true 0 (length dims) both.0) refl
fits_only place (index ∷ pending) indices sizes [] h = cc
fits_only place (index ∷ pending) indices sizes (n ∷ dims) h =
    let both = passed (nat_eq (length (index ∷ pending)) (length (n ∷ dims))) (are_among (index ∷ pending) (n ∷ dims) indices sizes) place h in
    marked (index ∷ pending) (n ∷ dims) indices sizes (eqb-true (length (index ∷ pending)) (length (n ∷ dims)) both.0) both.1

stands : (pending indices sizes dims : List ℕ) → length indices ≡ length sizes → HaveComponents pending dims indices sizes → are_among pending dims indices sizes ≡ true
stands pending indices sizes dims same have =
    sym (ap (λ p. are_among p (kept have.0 sizes) indices sizes) have.1 ∙ ap (λ d. are_among pending d indices sizes) have.2) ∙ among have.0 indices sizes same

pub fits_wherever : FitsWherever
fits_wherever place [] indices sizes dims same many have = passing (nat_eq 0 (length dims)) true place (eq-eqb 0 (length dims) many) refl
fits_wherever place (index ∷ pending) indices sizes [] same many have = absurd (omega (arith, many))
fits_wherever place (index ∷ pending) indices sizes (n ∷ dims) same many have =
    passing (nat_eq (length (index ∷ pending)) (length (n ∷ dims))) (are_among (index ∷ pending) (n ∷ dims) indices sizes) place
    (eq-eqb (length (index ∷ pending)) (length (n ∷ dims)) many) (stands (index ∷ pending) indices sizes (n ∷ dims) same have)
