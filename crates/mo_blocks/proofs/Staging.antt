-- Laws of dummies and states.
use Rattle.std.proofs.Common.{◌≡◌, ℕ, suc, ◌+◌, ◌-◌, ◌<◌, ◌≤◌, List, refl, sym, ap, ◌∙◌, arith}
use Rattle.mo_incidence.specs.Signature.{Signature, equations, row_len, unknown_at, order_at}
use Rattle.mo_incidence.specs.Assignment.{Assigns, CoversAll}
use Rattle.mo_incidence.specs.Offsets.{IsTight, by_place, by_number}
use Rattle.mo_incidence.specs.Dummies.{dummy, greatest, dummies_of}
use Rattle.mo_blocks.specs.Stages.{HaveOwn, AreHighest, AreFollowed}
use Rattle.mo_blocks.proofs.Dummying.{dummies_only, dummies_all, greatest_above, tight_low}

tight_entry : (g : Signature) (c d : ℕ → ℕ) (i j : ℕ) → IsTight g c d i j → (k : ℕ) × (k < row_len g i) × (unknown_at g i k ≡ j) × (d j ≡ c i + order_at g i k)
unfolding IsTight
tight_entry g c d i j t = t

tuple_same : (a b c d s e f : ℕ) → a ≡ b → c ≡ d → e ≡ f → ◌≡◌ {A = ℕ × ℕ × ℕ × ℕ} (a, c, s, e) (b, d, s, f)
tuple_same a b c d s e f p q r = rw (p, q, r) refl

module _ (g : Signature) (c d t : ℕ → ℕ) (assigns : Assigns (IsTight g c d) (equations g) t) (all : CoversAll g t) where
  pub own_dummies : HaveOwn c t (equations g) (dummies_of c d t (equations g))
  own_dummies = record {
    some = λ i s il some le. (d (t i) - s + 1, dummies_all c d t (equations g) (greatest c (equations g)) i s il some (omega (arith, greatest_above c (equations g) i il)) le);
    own = λ x y hx hy stage unknown.
        let a = dummies_only c d t (equations g) (greatest c (equations g)) x hx in
        let b = dummies_only c d t (equations g) (greatest c (equations g)) y hy in
        let r : a.1 ≡ b.1 = ap (λ (z : ℕ × ℕ × ℕ × ℕ). z.2) a.6 ∙ stage ∙ sym (ap (λ (z : ℕ × ℕ × ℕ × ℕ). z.2) b.6) in
        let u : t a.0 ≡ t b.0 = ap (λ (z : ℕ × ℕ × ℕ × ℕ). z.0) a.6 ∙ unknown ∙ sym (ap (λ (z : ℕ × ℕ × ℕ × ℕ). z.0) b.6) in
        let i : a.0 ≡ b.0 = assigns.apart a.0 b.0 a.2 b.2 (all a.0 a.2) u in
        sym a.6 ∙ ap (λ (z : ℕ). dummy d t z a.0) r ∙ ap (λ (z : ℕ). dummy d t b.1 z) i ∙ b.6;
  }

  highest_at : (i r : ℕ) → i < equations g → r ≤ c i
      → (k : ℕ) × (k < row_len g (suc i - 1)) × (unknown_at g (suc i - 1) k ≡ t i) × (d (t i) - r + 1 ≡ order_at g (suc i - 1) k + (c (suc i - 1) - r + 1))
  highest_at i r il le =
      let e = tight_entry g c d i (t i) (assigns.allowed i il (all i il)) in
      let back : suc i - 1 ≡ i = omega arith in
      rw back (e.0, e.1, e.2, omega (arith, e.3))

  pub highest_dummies : AreHighest g c (dummies_of c d t (equations g))
  highest_dummies = record {
    entry = λ x hx.
        let a = dummies_only c d t (equations g) (greatest c (equations g)) x hx in
        rw (← a.6) (highest_at a.0 a.1 a.2 a.5);
  }

  pub followed_dummies : AreFollowed (dummies_of c d t (equations g))
  followed_dummies = record {
    next = λ j k s e some hx.
        let a = dummies_only c d t (equations g) (greatest c (equations g)) (j, k, suc s, e) hx in
        let j_is : t a.0 ≡ j = ap (λ (z : ℕ × ℕ × ℕ × ℕ). z.0) a.6 in
        let k_is : d (t a.0) - a.1 + 1 ≡ k = ap (λ (z : ℕ × ℕ × ℕ × ℕ). z.1) a.6 in
        let s_is : a.1 ≡ suc s = ap (λ (z : ℕ × ℕ × ℕ × ℕ). z.2) a.6 in
        let e_is : suc a.0 ≡ e = ap (λ (z : ℕ × ℕ × ℕ × ℕ). z.3) a.6 in
        let low = tight_low g c d a.0 (t a.0) (assigns.allowed a.0 a.2 (all a.0 a.2)) in
        let order : d (t a.0) - s + 1 ≡ suc k = omega (arith, a.5) in
        let there = dummies_all c d t (equations g) (greatest c (equations g)) a.0 s a.2 some (omega (arith, a.4)) (omega (arith, a.5)) in
        let same : dummy d t s a.0 ≡ (j, suc k, s, e) = tuple_same (t a.0) j (d (t a.0) - s + 1) (suc k) s (suc a.0) e j_is order e_is in
        rw same at there;
  }

-- the chosen dummies are those of the definition
pub chosen_here : (c d pairs c' d' pairs' : List ℕ) (m : ℕ) (chosen : List (ℕ × ℕ × ℕ × ℕ)) → c' ≡ c → d' ≡ d → pairs' ≡ pairs
    → chosen ≡ dummies_of (by_place c') (by_number d') (by_place pairs') m → chosen ≡ dummies_of (by_place c) (by_number d) (by_place pairs) m
chosen_here c d pairs c' d' pairs' m chosen c_is d_is p_is is = rw (c_is, d_is, p_is) at is
