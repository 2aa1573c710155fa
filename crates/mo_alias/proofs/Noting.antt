-- What is said of unknowns, one after another.
use Rattle.std.proofs.Common.{◌≡◌, ℕ, zero, suc, ◌<◌, ◌≤◌, Bool, true, false, inl, inr, List, [], ◌∷◌, ◌++◌, Option, Some, None, get_or, length, set, refl, sym, ap, ◌∙◌, arith, if◌then◌else◌, get_or-set_same, get_or-set_other}
use Rattle.std.specs.Prelude.{nat_eq}
use Rattle.std.proofs.lemmas.Bool.{cases_eq, eq-eqb, ne_eqb}
use Rattle.mo_alias.specs.declared.found.Gone.{Gone}
use Rattle.mo_alias.specs.steps.Placing.{gone_from, gone_next}
use Rattle.mo_alias.specs.Without.{gone_at}

from_some : (h : Gone) (gone : List Gone) (u : ℕ) → gone_from (Some h) gone u ≡ Some h
from_some h [] u = refl
from_some h (g ∷ gone) u = from_some h gone u

pub gone_all : (gone : List Gone) (u : ℕ) → gone_from None gone u ≡ gone_at gone u
gone_all [] u = refl
gone_all (g ∷ gone) u = by (nat_eq g.unknown u) (gone_all gone u)
  where
    by : (b : Bool) → gone_from None gone u ≡ gone_at gone u → gone_from (if b then Some g else None) gone u ≡ (if b then Some g else gone_at gone u)
    by true e = from_some g gone u
    by false e = e

pub next_other : (o : Option Gone) (g : Gone) (u : ℕ) → (g.unknown ≡ u → ⊥) → o ≡ gone_next o g u
next_other (Some h) g u other = refl
next_other None g u other = sym (rw (ne_eqb g.unknown u other) refl)

pub next_some : (o : Option Gone) (h g : Gone) (u : ℕ) → o ≡ Some h → o ≡ gone_next o g u
next_some (Some k) h g u e = refl
next_some None h g u e = let f : None ≡ Some h = e in cc

next_none : (o : Option Gone) (g : Gone) → o ≡ None → Some g ≡ gone_next o g g.unknown
next_none (Some k) g e = let f : Some k ≡ None = e in cc
next_none None g e = sym (rw (eq-eqb g.unknown g.unknown refl) refl)

pub kept_past : (said : List (Option Gone)) (g : Gone) → length said ≤ g.unknown → (u : ℕ) → u < length said → get_or said u None ≡ gone_next (get_or said u None) g u
kept_past said g past u l = next_other (get_or said u None) g u (λ e. absurd (omega (arith, e, past, l)))

pub kept_some : (said : List (Option Gone)) (g h : Gone) → get_or said g.unknown None ≡ Some h → (u : ℕ) → get_or said u None ≡ gone_next (get_or said u None) g u
kept_some said g h is u = elim (cases_eq g.unknown u) [
  | inl e ↦ next_some (get_or said u None) h g u (ap (λ (n : ℕ). get_or said n None) (sym e) ∙ is)
  | inr e ↦ next_other (get_or said u None) g u e
]

pub set_none : (said : List (Option Gone)) (g : Gone) → get_or said g.unknown None ≡ None → g.unknown < length said → (u : ℕ)
    → get_or (set said g.unknown (Some g)) u None ≡ gone_next (get_or said u None) g u
set_none said g is l u = elim (cases_eq g.unknown u) [
  | inl e ↦ rw (sym e) (get_or-set_same said g.unknown (Some g) None l ∙ next_none (get_or said g.unknown None) g is)
  | inr e ↦ get_or-set_other said g.unknown u (Some g) None (λ f. e (sym f)) ∙ next_other (get_or said u None) g u e
]

pub none_more : (said : List (Option Gone)) → ((u : ℕ) → get_or said u None ≡ None) → (u : ℕ) → get_or (said ++ None ∷ []) u None ≡ None
none_more [] none u = by u
  where
    by : (u : ℕ) → get_or {A = Option Gone} (None ∷ []) u None ≡ None
    by zero = refl
    by (suc u) = refl
none_more (x ∷ said) none zero = none 0
none_more (x ∷ said) none (suc u) = none_more said (λ k. none (suc k)) u
