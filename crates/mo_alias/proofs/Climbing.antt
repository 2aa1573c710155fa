-- Each unknown has one root at each moment.
use Rattle.std.proofs.Common.{◌≡◌, ℕ, zero, suc, ◌+◌, ◌<◌, ◌≤◌, Bool, false, inl, inr, refl, sym, ap, subst, arith}
use Rattle.std.proofs.lemmas.Bool.{cases_eq, cases_lt}
use Rattle.mo_alias.specs.steps.Climbing.{Climbs, top, up, Rises}
use Rattle.mo_alias.specs.Recognized.{sign_product}
use Rattle.mo_alias.proofs.Signs.{product_assoc, product_plus}

module _ (parent since : ℕ → ℕ) (minus : ℕ → Bool) (t : ℕ) where
  pub climbs_one : (u r q : ℕ) (s z : Bool) → Climbs parent since minus t u r s → Climbs parent since minus t u q z → (r ≡ q) × (s ≡ z)
  climbs_one u r q s z (top a) (top b) = (refl, refl)
  climbs_one u r q s z (top a) (up l c) = absurd (omega (arith, a, l))
  climbs_one u r q s z (up l c) (top a) = absurd (omega (arith, a, l))
  climbs_one u r q s z (up {s = x} l c) (up {s = y} m d) = let same = climbs_one (parent u) r q x y c d in (same.0, ap (sign_product (minus u)) same.1)

  pub climbs_all : (never : ℕ) → t ≤ never → Rises parent since never → (fuel u : ℕ) → t ≤ since u + fuel → (r : ℕ) × (s : Bool) × Climbs parent since minus t u r s
  climbs_all never low rises zero u l = (u, _, top (omega (arith, l)))
  climbs_all never low rises (suc fuel) u l = elim (cases_lt (since u) t) [
    | inl below ↦
        let later = rises u (omega (arith, below, low)) in
        let more = climbs_all never low rises fuel (parent u) (omega (arith, l, later)) in
        (more.0, _, up below more.2)
    | inr above ↦ (u, _, top above)
  ]

  -- a root was put under nothing before
  pub climbs_top : (u r : ℕ) (s : Bool) → Climbs parent since minus t u r s → t ≤ since r
  climbs_top u r s (top l) = l
  climbs_top u r s (up {s = x} l c) = climbs_top (parent u) r x c

  -- tables hold the roots of their members
  pub climbs_inside : (size : ℕ) → ((u : ℕ) → u < size → parent u < size) → (u r : ℕ) (s : Bool) → u < size → Climbs parent since minus t u r s → r < size
  climbs_inside size inside u r s l (top a) = l
  climbs_inside size inside u r s l (up {s = x} a c) = climbs_inside size inside (parent u) r x (inside u l) c

  -- the way up from what is no root
  pub climbs_up : (u r : ℕ) (s : Bool) → since u < t → Climbs parent since minus t u r s → (z : Bool) × Climbs parent since minus t (parent u) r z
  climbs_up u r s l (top a) = absurd (omega (arith, a, l))
  climbs_up u r s l (up {s = x} a c) = (x, c)

module _ (parent since : ℕ → ℕ) (minus : ℕ → Bool) where
  -- the way up goes on later
  pub climbs_on : (t k : ℕ) → t ≤ k → (u a r : ℕ) (s z : Bool) → Climbs parent since minus t u a s → Climbs parent since minus k a r z → Climbs parent since minus k u r (sign_product s z)
  climbs_on t k l u a r s z (top e) d = d
  climbs_on t k l u a r s z (up {s = x} e c) d =
      subst (λ w. Climbs parent since minus k u r w) (sym (product_assoc (minus u) x z)) (up (omega (arith, e, l)) (climbs_on t k l (parent u) a r x z c d))

  -- what is still a root later
  pub climbs_still : (t k : ℕ) → t ≤ k → (u a : ℕ) (s : Bool) → k ≤ since a → Climbs parent since minus t u a s → Climbs parent since minus k u a s
  climbs_still t k l u a s low c = subst (λ w. Climbs parent since minus k u a w) (product_plus s) (climbs_on t k l u a a s false c (top low))

  -- between two moments at which nothing was put
  pub climbs_between : (t k : ℕ) → ((u : ℕ) → since u < t → since u < k) → ((u : ℕ) → t ≤ since u → k ≤ since u) → (u r : ℕ) (s : Bool) → Climbs parent since minus t u r s → Climbs parent since minus k u r s
  climbs_between t k less more u r s (top l) = top (more u l)
  climbs_between t k less more u r s (up {s = x} l c) = up (less u l) (climbs_between t k less more (parent u) r x c)

  -- what is put under another later changes nothing
  module _ (parent' since' : ℕ → ℕ) (minus' : ℕ → Bool) (low t : ℕ) (before : t ≤ since low) (after : t ≤ since' low)
      (same : (u : ℕ) → (u ≡ low → ⊥) → (parent' u ≡ parent u) × (since' u ≡ since u) × (minus' u ≡ minus u)) where
    pub climbs_kept : (u r : ℕ) (s : Bool) → Climbs parent since minus t u r s → Climbs parent' since' minus' t u r s
    climbs_kept u r s (top l) = elim (cases_eq u low) [ inl e ↦ top (rw e after) | inr e ↦ let h = same u e in top (omega (arith, h.1, l)) ]
    climbs_kept u r s (up {s = x} l c) = elim (cases_eq u low) [
      | inl e ↦ absurd (let f : since u ≡ since low = ap since e in omega (arith, f, l, before))
      | inr e ↦
          let h = same u e in
          let f : since' u < t = omega (arith, h.1, l) in
          subst (λ w. Climbs parent' since' minus' t u r (sign_product w x)) h.2 (up f (subst (λ p. Climbs parent' since' minus' t p r x) (sym h.0) (climbs_kept (parent u) r x c)))
    ]
