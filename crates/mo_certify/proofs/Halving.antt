-- Rows ascend, so an unknown can be looked for by halves.
use Rattle.std.proofs.Common.{◌≡◌, ℕ, zero, suc, ◌+◌, ◌<◌, ◌≤◌, inl, inr, arith}
use Rattle.std.proofs.lemmas.Bool.{cases_lt}
use Rattle.std.proofs.lemmas.Bool.Decides.{eqb_tells}
use Rattle.mo_incidence.specs.Signature.{Signature, equations, row_len, unknown_at, IsSound}

module _ (g : Signature) (i : ℕ) (sound : IsSound g) (l : i < equations g) where
  pub rises : (n k : ℕ) → k < n → n < row_len g i → unknown_at g i k < unknown_at g i n
  rises zero k kn nl = absurd (omega arith)
  rises (suc n) k kn nl =
      let next : n + 1 ≡ suc n = omega arith in
      let up = sound.ascending i n l (omega arith) in
      let step : unknown_at g i n < unknown_at g i (suc n) = rw next at up in
      elim (eqb_tells k n) [
        | inl e ↦ rw e.1 step
        | inr e ↦ let before = rises n k (omega (arith, e.1)) (omega arith) in omega (arith, before, step)
      ]

  pub one_entry : (k n : ℕ) → k < row_len g i → n < row_len g i → unknown_at g i k ≡ unknown_at g i n → n ≡ k
  one_entry k n kl nl same = elim (cases_lt k n) [
    | inl h ↦ absurd (let up = rises n k h nl in omega (arith, up, same))
    | inr h ↦ elim (cases_lt n k) [
      | inl h' ↦ absurd (let up = rises k n h' kl in omega (arith, up, same))
      | inr h' ↦ omega arith
    ]
  ]

-- what is known of the entries before `low` and from `high` on
pub record IsBetween (g : Signature) (i u low high : ℕ) : Type 0 where
  pub order : low ≤ high
  pub within : high ≤ row_len g i
  pub before : (n : ℕ) → n < low → unknown_at g i n < u
  pub after : (n : ℕ) → high ≤ n → n < row_len g i → u < unknown_at g i n

module _ (g : Signature) (i u low high : ℕ) (sound : IsSound g) (l : i < equations g) (between : IsBetween g i u low high) (middle : ℕ) (above : low ≤ middle) (below : middle < high) where
  pub between_up : unknown_at g i middle < u → IsBetween g i u (middle + 1) high
  between_up less = record {
    order = omega arith;
    within = between.within;
    before = λ n nl. elim (eqb_tells n middle) [
      | inl e ↦ rw e.1 less
      | inr e ↦ let up = rises g i sound l middle n (omega (arith, e.1)) (omega (arith, between.within)) in omega (arith, up, less)
    ];
    after = between.after;
  }

  pub between_down : u < unknown_at g i middle → IsBetween g i u low middle
  between_down more = record {
    order = above;
    within = omega (arith, between.within);
    before = between.before;
    after = λ n le nl. elim (eqb_tells n middle) [
      | inl e ↦ rw e.1 more
      | inr e ↦ let up = rises g i sound l n middle (omega (arith, e.1)) nl in omega (arith, up, more)
    ];
  }

pub between_none : (g : Signature) (i u low high : ℕ) → IsBetween g i u low high → high ≤ low → (n : ℕ) → n < row_len g i → unknown_at g i n ≡ u → ⊥
between_none g i u low high between over n nl is = elim (cases_lt n low) [
  | inl h ↦ let b = between.before n h in omega (arith, b, is)
  | inr h ↦ let a = between.after n (omega arith) nl in omega (arith, a, is)
]
