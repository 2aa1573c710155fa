-- There is one least transversal.
use Rattle.std.proofs.Common.{◌≡◌, ℕ, zero, suc, ◌<◌, inl, inr, sym, arith}
use Rattle.std.proofs.lemmas.Bool.{cases_lt}
use Rattle.std.proofs.lemmas.Bool.Decides.{eqb_tells}
use Rattle.mo_incidence.specs.Signature.{Signature, equations}
use Rattle.mo_incidence.specs.Assignment.{Assigns, CoversAll}
use Rattle.mo_incidence.specs.Offsets.{IsTight}
use Rattle.mo_incidence.specs.Transversal.{IsLeastSequence}

module _ (g : Signature) (c d t u : ℕ → ℕ) (tight : Assigns (IsTight g c d) (equations g) t) (covers : CoversAll g t) (least : IsLeastSequence g c d t)
    (tight' : Assigns (IsTight g c d) (equations g) u) (covers' : CoversAll g u) (least' : IsLeastSequence g c d u) where
  same_below : (n : ℕ) → ((i : ℕ) → i < n → i < equations g → t i ≡ u i)
  same_below zero i l il = absurd (omega arith)
  same_below (suc n) i l il = elim (eqb_tells i n) [
    | inr e ↦ same_below n i (omega (arith, e.1)) il
    | inl e ↦
        let before : (k : ℕ) → k < i → t k ≡ u k = λ k kl. same_below n k (omega (arith, e.1)) (omega arith) in
        elim (cases_lt (t i) (u i)) [
          | inl h ↦ absurd (least'.none t tight covers (record { place = i; below = il; same = before; less = h }))
          | inr h ↦ elim (cases_lt (u i) (t i)) [
            | inl h' ↦ absurd (least.none u tight' covers' (record { place = i; below = il; same = λ k kl. sym (before k kl); less = h' }))
            | inr h' ↦ omega arith
          ]
        ]
  ]

  pub one_transversal : (i : ℕ) → i < equations g → t i ≡ u i
  one_transversal i l = same_below (equations g) i l l
