-- Equations that could all be differentiated once less are none.
use Rattle.std.proofs.Common.{◌≡◌, ◌≢◌, ℕ, ◌+◌, ◌-◌, ◌<◌, ◌≤◌, ◌==◌, inl, inr, if◌then◌else◌, List, get_or, refl, sym, ap, ◌∙◌, arith}
use Rattle.std.proofs.lemmas.Bool.Decides.{eqb_tells}
use Rattle.mo_incidence.specs.Signature.{Signature, equations, row_len, unknown_at, order_at, IsSound}
use Rattle.mo_incidence.specs.Assignment.{Assigns, CoversAll, Mentions}
use Rattle.mo_incidence.specs.Offsets.{IsTight, Fits, IsAdmissible, IsLeast}
use Rattle.mo_match.specs.Searching.{IsMatching}
use Rattle.mo_incidence.specs.Offsets.{by_place}

-- one less where x is 0
abbrev lowered : ℕ → ℕ → ℕ
lowered x y = if x == 0 then y - 1 else y

lowered_none : (x y : ℕ) → x ≡ 0 → lowered x y ≡ y - 1
lowered_none x y e = rw e refl

lowered_some : (x y : ℕ) → x ≢ 0 → lowered x y ≡ y
lowered_some x y ne = elim (eqb_tells x 0) [ inl e ↦ absurd (ne e.1) | inr e ↦ rw e.0 refl ]

lowered_low : (x y : ℕ) → lowered x y ≤ y
lowered_low x y = elim (eqb_tells x 0) [ inl e ↦ rw e.0 (omega arith) | inr e ↦ rw e.0 (omega arith) ]

tight_parts : (g : Signature) (c d : ℕ → ℕ) (i j : ℕ) → IsTight g c d i j → (k : ℕ) × (k < row_len g i) × (unknown_at g i k ≡ j) × (d j ≡ c i + order_at g i k)
unfolding IsTight
tight_parts g c d i j h = h

tight_by : (g : Signature) (c d : ℕ → ℕ) (i j k : ℕ) → k < row_len g i → unknown_at g i k ≡ j → d j ≡ c i + order_at g i k → IsTight g c d i j
unfolding IsTight
tight_by g c d i j k l u e = (k, l, u, e)

-- the equations with mark 0 are closed under candidates
module _ (g : Signature) (c d : ℕ → ℕ) (pairs owner : List ℕ) (mk : ℕ → ℕ) (sound : IsSound g) (least : IsLeast g c d)
    (tight : Assigns (IsTight g c d) (equations g) (by_place pairs)) (full : CoversAll g (by_place pairs))
    (match : IsMatching (Mentions g) (equations g) g.unknowns pairs owner)
    (closed : (i k : ℕ) → i < equations g → k < equations g → mk i ≡ 0 → IsTight g c d k (get_or pairs i 0) → mk k ≡ 0)
    (positive : (i : ℕ) → i < equations g → mk i ≡ 0 → c i ≢ 0) where
  -- the mark of the equation that has an unknown; 1 for one that none has
  abbrev mark_of : ℕ → ℕ
  mark_of j = if get_or owner j 0 == 0 then 1 else mk (get_or owner j 0 - 1)

  abbrev c' : ℕ → ℕ
  c' i = lowered (mk i) (c i)

  abbrev d' : ℕ → ℕ
  d' j = lowered (mark_of j) (d j)

  mark_owned : (j : ℕ) → get_or owner j 0 ≢ 0 → mark_of j ≡ mk (get_or owner j 0 - 1)
  mark_owned j some = elim (eqb_tells (get_or owner j 0) 0) [ inl e ↦ absurd (some e.1) | inr e ↦ rw e.0 refl ]

  mark_free : (j : ℕ) → get_or owner j 0 ≡ 0 → mark_of j ≡ 1
  mark_free j none = elim (eqb_tells (get_or owner j 0) 0) [ inl e ↦ rw e.0 refl | inr e ↦ absurd (e.1 none) ]

  mark_pair : (i : ℕ) → i < equations g → mark_of (get_or pairs i 0) ≡ mk i
  mark_pair i l =
      let held = (match.owned i l (full i l)).1 in
      let back : get_or owner (get_or pairs i 0) 0 - 1 ≡ i = omega arith in
      mark_owned (get_or pairs i 0) (omega arith) ∙ ap mk back

  fits' : Fits g c' d'
  fits' = record {
    entry = λ i k il kl.
        let j = unknown_at g i k in
        let known = sound.known i k il kl in
        let was = least.admissible.fits.entry i k il kl in
        let low : c' i ≤ c i = lowered_low (mk i) (c i) in
        elim (eqb_tells (mark_of (unknown_at g i k)) 0) [
          | inr e ↦ let same = lowered_some (mark_of (unknown_at g i k)) (d (unknown_at g i k)) e.1 in omega arith
          | inl e ↦
              let less = lowered_none (mark_of (unknown_at g i k)) (d (unknown_at g i k)) e.1 in
              let owned : get_or owner (unknown_at g i k) 0 ≢ 0 = λ none. let one = mark_free (unknown_at g i k) none in omega (arith, e.1) in
              let x = get_or owner (unknown_at g i k) 0 - 1 in
              let held = match.owns (get_or owner (unknown_at g i k) 0 - 1) (unknown_at g i k) known.0 known.1 (omega arith) in
              let unmarked : mk (get_or owner (unknown_at g i k) 0 - 1) ≡ 0 = sym (mark_owned (unknown_at g i k) owned) ∙ e.1 in
              elim (eqb_tells (d (unknown_at g i k)) (c i + order_at g i k)) [
                | inr slack ↦ omega (arith, slack.1)
                | inl equal ↦
                    let t : IsTight g c d i (get_or pairs (get_or owner (unknown_at g i k) 0 - 1) 0) = tight_by g c d i _ k kl (sym held.1) (ap d held.1 ∙ equal.1) in
                    let here = closed (get_or owner (unknown_at g i k) 0 - 1) i held.0 il unmarked t in
                    let c_less = lowered_none (mk i) (c i) here in
                    let some = positive i il here in
                    omega (arith, equal.1)
              ]
        ];
  }

  rival : IsAdmissible g c' d'
  rival = record {
    fits = fits';
    tight = (
      by_place pairs,
      record {
        allowed = λ i l some.
            let parts = tight_parts g c d i (get_or pairs i 0) (tight.allowed i l some) in
            let same = mark_pair i l in
            tight_by g c' d' i (get_or pairs i 0) parts.0 parts.1 parts.2 (elim (eqb_tells (mk i) 0) [
              | inl e ↦
                  let c_is = lowered_none (mk i) (c i) e.1 in
                  let d_is = lowered_none (mark_of (get_or pairs i 0)) (d (get_or pairs i 0)) (same ∙ e.1) in
                  let positive_here = positive i l e.1 in
                  omega (arith, parts.3)
              | inr e ↦
                  let c_is = lowered_some (mk i) (c i) e.1 in
                  let d_is = lowered_some (mark_of (get_or pairs i 0)) (d (get_or pairs i 0)) (λ z. e.1 (sym same ∙ z)) in
                  omega (arith, parts.3)
            ]);
        apart = tight.apart;
      },
      full,
    );
  }

  pub none_closed : (i : ℕ) → i < equations g → mk i ≢ 0
  none_closed i l none =
      let below = (least.least.below c' d' rival).equation i l in
      let less = lowered_none (mk i) (c i) none in
      let some = positive i l none in
      omega arith
