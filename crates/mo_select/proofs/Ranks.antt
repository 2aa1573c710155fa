-- Ranks are noted and forgotten, and the order is made level by level.
use Rattle.std.proofs.Common.{◌≡◌, ◌≢◌, ℕ, suc, ◌+◌, ◌-◌, ◌<◌, ◌≤◌, inl, inr, List, [], ◌∷◌, ◌++◌, length, get_or, set, refl, sym, ap, ◌∙◌, arith, get_or-set_same, get_or-set_other}
use Rattle.std.proofs.Math.ListN.{get_or-append}
use Rattle.std.proofs.Math.Seq.{get_or-append_seam}
use Rattle.std.proofs.lemmas.Bool.Decides.{eqb_tells}
use Rattle.mo_graph.proofs.Chains.{below_next}
use Rattle.mo_incidence.specs.Signature.{Signature, unknown_at, order_at}
use Rattle.mo_incidence.specs.Offsets.{by_place}
use Rattle.mo_incidence.specs.steps.Needing.{AreOwners}
use Rattle.mo_select.specs.Selection.{of_level, below_level}

pub order_next : (level : ℕ → ℕ) (js order order' : List ℕ) (w : ℕ) → order ≡ below_level level w js → order' ≡ order ++ of_level level w js → order' ≡ below_level level (w + 1) js
order_next level js order order' w is step = let next : w + 1 ≡ suc w = omega arith in rw (step, is, next) refl

pub ends_next : (level : ℕ → ℕ) (js ends order' : List ℕ) (w x : ℕ) → length ends ≡ w → ((n : ℕ) → n < w → get_or ends n 0 ≡ length (below_level level (suc n) js))
    → order' ≡ below_level level (w + 1) js → x ≡ length order' → (n : ℕ) → n < w + 1 → get_or (ends ++ x ∷ []) n 0 ≡ length (below_level level (suc n) js)
ends_next level js ends order' w x size before order_is x_is n l = elim (below_next n w l) [
  | inl h ↦ get_or-append ends (x ∷ []) 0 n (omega arith) ∙ before n h
  | inr e ↦
      let next : suc w ≡ w + 1 = omega arith in
      let there : x ≡ length (below_level level (suc w) js) = x_is ∙ ap length order_is ∙ ap (λ (z : ℕ). length (below_level level z js)) (sym next) in
      let at : get_or (ends ++ x ∷ []) w 0 ≡ x = rw (← size) (get_or-append_seam ends x [] 0) in
      ap (λ (z : ℕ). get_or (ends ++ x ∷ []) z 0) e ∙ at ∙ there ∙ ap (λ (z : ℕ). length (below_level level (suc z) js)) (sym e)
]

-- unknown j has a place in the order from i on
abbrev pub IsLater : List ℕ → ℕ → ℕ → Type 0
IsLater order i j = (t : ℕ) × (i ≤ t) × (t < length order) × (get_or order t 0 ≡ j)

pub forget_start : (order rank : List ℕ) → AreOwners (length order) (by_place order) rank → (j : ℕ) → get_or rank j 0 ≢ 0 → IsLater order 0 j
forget_start order rank ranks j some =
    let at = ranks.owns j (get_or rank j 0 - 1) (omega (arith, some)) in
    (get_or rank j 0 - 1, omega arith, at.0, at.1)

pub forget_next : (order rank : List ℕ) (i x : ℕ) → x ≡ get_or order i 0 → x < length rank → ((j : ℕ) → get_or rank j 0 ≢ 0 → IsLater order i j)
    → (j : ℕ) → get_or (set rank x 0) j 0 ≢ 0 → IsLater order (i + 1) j
forget_next order rank i x is l to j = elim (eqb_tells j x) [
  | inl e ↦ rw (e.1, get_or-set_same rank x 0 0 l) (λ some. absurd (some refl))
  | inr e ↦ rw (get_or-set_other rank x j 0 0 e.1) (λ some.
      let there = to j some in
      let past : there.0 ≢ i = λ same. e.1 (sym there.3 ∙ ap (λ (z : ℕ). get_or order z 0) same ∙ sym is) in
      (there.0, omega (arith, there.1, past), there.2, there.3))
]

pub forget_done : (order rank : List ℕ) (i : ℕ) → length order ≤ i → ((j : ℕ) → get_or rank j 0 ≢ 0 → IsLater order i j) → (j : ℕ) → get_or rank j 0 ≡ 0
forget_done order rank i all to j = elim (eqb_tells (get_or rank j 0) 0) [
  | inl e ↦ e.1
  | inr e ↦ let there = to j e.1 in absurd (omega (arith, there.1, there.2))
]

-- an entry by the number of its row
pub unknown_back : (g : Signature) (i k u : ℕ) → u ≡ unknown_at g (i + 1 - 1) k → u ≡ unknown_at g i k
unknown_back g i k u is = let back : i + 1 - 1 ≡ i = omega arith in rw back at is

pub order_back : (g : Signature) (i k s : ℕ) → s ≡ order_at g (i + 1 - 1) k → s ≡ order_at g i k
order_back g i k s is = let back : i + 1 - 1 ≡ i = omega arith in rw back at is

pub ranks_low : (order rank : List ℕ) → AreOwners (length order) (by_place order) rank → (j : ℕ) → get_or rank j 0 ≤ length order
ranks_low order rank ranks j = elim (eqb_tells (get_or rank j 0) 0) [
  | inl e ↦ rw e.1 (omega arith)
  | inr e ↦ let at = ranks.owns j (get_or rank j 0 - 1) (omega (arith, e.1)) in omega (arith, at.0, e.1)
]
