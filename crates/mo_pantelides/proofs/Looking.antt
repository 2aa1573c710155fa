-- How many entries a search has looked at.
use Rattle.std.proofs.Common.{◌≡◌, ◌≢◌, ℕ, suc, ◌+◌, ◌-◌, ◌*◌, ◌<◌, ◌≤◌, inl, inr, List, length, get_or, set, refl, sym, ◌∙◌, arith, get_or-set_other, get_or-set_same}
use Rattle.std.proofs.lemmas.Bool.Decides.{eqb_tells}
use Rattle.mo_incidence.specs.Counting.{sum_below}
use Rattle.mo_incidence.specs.Signature.{Signature, equations, row_len, entries, IsSound}
use Rattle.mo_incidence.proofs.Counting.{without, without_same, without_other, sum_without, sum_same, sum_le}
use Rattle.mo_pantelides.specs.steps.Seeking.{looked_at, looked}

-- the two sums differ by the values at k
sum_change : (f g : ℕ → ℕ) (k n : ℕ) → k < n → ((i : ℕ) → i < n → i ≢ k → f i ≡ g i) → sum_below f n + g k ≡ sum_below g n + f k
sum_change f g k n l same =
    let rest : sum_below (without f k) n ≡ sum_below (without g k) n =
    sum_same (without f k) (without g k) n (λ i il. elim (eqb_tells i k) [
      | inl e ↦ rw (e.1, without_same f k, without_same g k) refl
      | inr e ↦ rw (without_other f k i e.1, without_other g k i e.1) (same i il e.1)
    ]) in
    omega (arith, sum_without f k n l, sum_without g k n l)

looked_open : (g : Signature) (t mk : List ℕ) (x : ℕ) → get_or t x 0 ≡ 0 → looked_at g t mk x ≡ get_or mk x 0 - 1
unfolding looked_at
looked_open g t mk x e = rw e refl

looked_fixed : (g : Signature) (t mk : List ℕ) (x : ℕ) → get_or t x 0 ≢ 0 → looked_at g t mk x ≡ row_len g x
unfolding looked_at
looked_fixed g t mk x ne = elim (eqb_tells (get_or t x 0) 0) [ inl e ↦ absurd (ne e.1) | inr e ↦ rw e.0 refl ]

looked_same : (g : Signature) (t mk mk' : List ℕ) (x : ℕ) → get_or mk x 0 - 1 ≡ get_or mk' x 0 - 1 → looked_at g t mk x ≡ looked_at g t mk' x
looked_same g t mk mk' x e = elim (eqb_tells (get_or t x 0) 0) [
  | inl z ↦ looked_open g t mk x z.1 ∙ e ∙ sym (looked_open g t mk' x z.1)
  | inr z ↦ looked_fixed g t mk x z.1 ∙ sym (looked_fixed g t mk' x z.1)
]

-- an equation that is not fixed has one entry more looked at
pub looked_more : (g : Signature) (t mk mk' : List ℕ) (x k : ℕ) → x < equations g → get_or t x 0 ≡ 0 → get_or mk x 0 ≡ k + 1 → get_or mk' x 0 ≡ k + 2
    → ((y : ℕ) → y ≢ x → get_or mk' y 0 - 1 ≡ get_or mk y 0 - 1) → looked g t mk' ≡ looked g t mk + 1
unfolding looked
looked_more g t mk mk' x k xm none is is' other =
    let change = sum_change (looked_at g t mk') (looked_at g t mk) x (equations g) xm (λ y ym ne. looked_same g t mk' mk y (other y ne)) in
    omega (arith, change, looked_open g t mk x none, looked_open g t mk' x none, is, is')

-- an equation that was looked at whole is fixed
pub looked_whole : (g : Signature) (t mk : List ℕ) (x u : ℕ) → x < length t → x < length mk → get_or t x 0 ≡ 0 → u ≢ 0 → get_or mk x 0 ≡ suc (row_len g x) → looked g (set t x u) (set mk x 0) ≡ looked g t mk
unfolding looked
looked_whole g t mk x u xt xm none some whole =
    let here : get_or (set t x u) x 0 ≡ u = get_or-set_same t x u 0 xt in
    sum_same (looked_at g (set t x u) (set mk x 0)) (looked_at g t mk) (equations g) (λ y ym. elim (eqb_tells y x) [
      | inl e ↦
          let one : looked_at g (set t x u) (set mk x 0) x ≡ row_len g x = looked_fixed g (set t x u) (set mk x 0) x (rw here some) in
          let two : looked_at g t mk x ≡ row_len g x = looked_open g t mk x none ∙ omega (arith, whole) in
          rw e.1 (one ∙ sym two)
      | inr e ↦ elim (eqb_tells (get_or t y 0) 0) [
        | inl z ↦
            let off : get_or (set t x u) y 0 ≡ get_or t y 0 = get_or-set_other t x y u 0 e.1 in
            let mark_off : get_or (set mk x 0) y 0 ≡ get_or mk y 0 = get_or-set_other mk x y 0 0 e.1 in
            looked_open g (set t x u) (set mk x 0) y (off ∙ z.1) ∙ rw mark_off refl ∙ sym (looked_open g t mk y z.1)
        | inr z ↦
            let off : get_or (set t x u) y 0 ≡ get_or t y 0 = get_or-set_other t x y u 0 e.1 in
            looked_fixed g (set t x u) (set mk x 0) y (rw off z.1) ∙ sym (looked_fixed g t mk y z.1)
      ]
    ])

pub looked_few : (g : Signature) (t mk : List ℕ) → ((x : ℕ) → x < equations g → get_or mk x 0 ≤ suc (row_len g x)) → looked g t mk ≤ entries g
unfolding looked entries
looked_few g t mk within = sum_le (looked_at g t mk) (row_len g) (equations g) (λ x xm. elim (eqb_tells (get_or t x 0) 0) [
  | inl e ↦ let le = within x xm in omega (arith, looked_open g t mk x e.1, le)
  | inr e ↦ omega (arith, looked_fixed g t mk x e.1)
])

-- a mark that says that none was looked at
pub looked_root : (g : Signature) (t mk : List ℕ) (x : ℕ) → get_or mk x 0 ≡ 0 → x < length mk → looked g t (set mk x 1) ≡ looked g t mk
unfolding looked
looked_root g t mk x none l =
    sum_same (looked_at g t (set mk x 1)) (looked_at g t mk) (equations g) (λ y ym. looked_same g t (set mk x 1) mk y (elim (eqb_tells y x) [
      | inl e ↦ rw (e.1, get_or-set_same mk x 1 0 l) (omega (arith, none))
      | inr e ↦ rw (get_or-set_other mk x y 1 0 e.1) refl
    ]))

row_entries : (g : Signature) (x : ℕ) → x < equations g → row_len g x ≤ entries g
unfolding entries
row_entries g x xm = omega (arith, sum_without (row_len g) x (equations g) xm)

pub row_few : (g : Signature) (x : ℕ) → IsSound g → x < equations g → row_len g x ≤ 1000000
row_few g x sound xm = let le = row_entries g x xm in omega (arith, le, sound.few_entries)

-- ---- the search ends

pub smaller_look : (e p p' t t' h h' m : ℕ) → p' ≡ p + 1 → p' ≤ e → t' ≤ t + 1 → h' ≡ h → 2 * (e - p') + t' + (m - h') < 2 * (e - p) + t + (m - h)
smaller_look e p p' t t' h h' m one few more same = omega (arith, one, few, more, same)

pub cost_look : (s0 l0 s s' p p' : ℕ) → s + l0 ≡ s0 + p → s' ≡ s + 1 → p' ≡ p + 1 → s' + l0 ≡ s0 + p'
cost_look s0 l0 s s' p p' was one more = omega (arith, was, one, more)

pub cost_found : (s0 l0 s e p : ℕ) → s + l0 ≡ s0 + p → p ≤ e → s ≤ s0 + e
cost_found s0 l0 s e p was few = omega (arith, was, few)
