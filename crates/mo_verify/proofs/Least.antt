-- Chains of reasons show that printed offsets are the least (Pryce 2001).
use Rattle.std.proofs.Common.{◌≡◌, ℕ, zero, suc, ◌+◌, ◌<◌, ◌≤◌, inl, inr, get_or, sym, arith}
use Rattle.std.proofs.lemmas.Bool.{cases_lt}
use Rattle.mo_incidence.specs.Signature.{Signature, equations, unknown_at, order_at, IsSound}
use Rattle.mo_incidence.specs.Assignment.{Assigns, CoversAll}
use Rattle.mo_incidence.specs.Offsets.{Fits, IsTight, IsAdmissible, IsLeast, by_place, by_number}
use Rattle.mo_incidence.specs.Reasons.{IsWithin}
use Rattle.mo_certify.proofs.Leastness.{above_along, above_all}
use Rattle.mo_verify.specs.Printed.{Printed}
use Rattle.mo_verify.specs.Faults.{AreChainedTo}
use Rattle.mo_verify.specs.Finding.{HaveSizes, HasNoFault}

module _ (g : Signature) (p : Printed) (sizes : HaveSizes g p) (right : HasNoFault g p) where
  pub fits : Fits g (by_place p.c) (by_number p.d)
  fits = record {
    entry = λ i k below within.
        let none = right.fit.rows i k below within in
        elim (cases_lt (by_number p.d (unknown_at g i k)) (order_at g i k + get_or p.c i 0)) [ inl low ↦ absurd (none low) | inr high ↦ omega arith ];
  }

  tight_at : (i : ℕ) → i < equations g → IsTight g (by_place p.c) (by_number p.d) i (get_or p.pairs i 0)
  unfolding IsTight
  tight_at i below =
      let entry = right.orders i below in
      let high : get_or p.c i 0 + order_at g i entry.0 ≤ by_number p.d (unknown_at g i entry.0) = fits.entry i entry.0 below entry.1 in
      let meet = right.meet i below in
      let same : by_number p.d (get_or p.pairs i 0) ≡ get_or p.c i 0 + order_at g i entry.0 =
      elim (cases_lt (get_or p.orders i 0 + get_or p.c i 0) (by_number p.d (get_or p.pairs i 0))) [
        | inl loose ↦ absurd (meet loose)
        | inr bound ↦ (let there : get_or p.c i 0 + order_at g i entry.0 ≤ by_number p.d (get_or p.pairs i 0) = rw entry.2 at high in omega (arith, entry.3, bound, there))
      ] in
      (entry.0, entry.1, entry.2, same)

  pub tight : Assigns (IsTight g (by_place p.c) (by_number p.d)) (equations g) (by_place p.pairs)
  tight = record {
    allowed = λ i below some. tight_at i below;
    apart = λ i k below under some same. elim (cases_lt i k) [
      | inl before ↦ absurd (right.apart i k before under same)
      | inr after ↦ elim (cases_lt k i) [
        | inl before ↦ absurd (right.apart k i before below (sym same))
        | inr after' ↦ omega arith
      ]
    ];
  }

  pub covers : CoversAll g (by_place p.pairs)
  covers i below none = let known = (sizes.known i below).0 in omega (arith, known, none)

  pub admissible : IsAdmissible g (by_place p.c) (by_number p.d)
  admissible = record { fits = fits; tight = (by_place p.pairs, tight, covers) }

  module _ (sound : IsSound g) (square : equations g ≡ g.unknowns) (chains : AreChainedTo g p (equations g)) where
    module _ (c' d' : ℕ → ℕ) (rival : IsAdmissible g c' d') where
      below_at : (n i : ℕ) → i < equations g → IsWithin g (by_place p.c) (by_number p.d) (by_place p.pairs) n i → get_or p.c i 0 ≤ c' i
      below_at zero i below nought = omega (arith, nought)
      below_at (suc n) i below (inl nought) = omega (arith, nought)
      below_at (suc n) i below (inr (k, candidate, rest)) =
          above_along g (by_place p.c) (by_number p.d) (by_place p.pairs) sound square fits tight covers c' d' rival i k below candidate.known candidate.tight (below_at n k candidate.known rest)

    pub least : IsLeast g (by_place p.c) (by_number p.d)
    least = record {
      admissible = admissible;
      least = record {
        below = λ c' d' rival. above_all g (by_place p.c) (by_number p.d) (by_place p.pairs) sound square fits tight covers c' d' rival
            (λ i below. let chain = chains i below in below_at c' d' rival chain.0 i below chain.1);
      };
    }
