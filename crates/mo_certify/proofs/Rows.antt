-- Rows that are right up to a place.
use Rattle.std.proofs.Common.{◌≡◌, ℕ, suc, ◌+◌, ◌-◌, ◌<◌, ◌≤◌, ◌⊎◌, inl, inr, List, length, get_or, arith}
use Rattle.std.proofs.lemmas.Bool.Decides.{eqb_tells}
use Rattle.mo_incidence.specs.Signature.{Signature, equations, row_len, unknown_at, order_at, IsSound}
use Rattle.mo_incidence.specs.Offsets.{Fits, IsTight, IsAdmissible, by_place, by_number}
use Rattle.mo_certify.specs.Deficiency.{AreDistinctBelow}
use Rattle.mo_certify.specs.Offsets.{AreOffsets}

below_next : (s t : ℕ) → s < t + 1 → (s < t) ⊎ (s ≡ t)
below_next s t l = elim (eqb_tells s t) [ inl e ↦ inr e.1 | inr e ↦ inl (omega (arith, e.1)) ]

-- the rows before i fit, and are tight at their pairs
pub record AreRowsTo (g : Signature) (c d pairs : List ℕ) (i : ℕ) : Type 0 where
  pub fits : (r k : ℕ) → r < i → k < row_len g r → get_or c r 0 + order_at g r k ≤ get_or d (unknown_at g r k - 1) 0
  pub tight : (r : ℕ) → r < i → IsTight g (by_place c) (by_number d) r (get_or pairs r 0)

pub rows_begin : (g : Signature) (c d pairs : List ℕ) → AreRowsTo g c d pairs 0
rows_begin g c d pairs = record { fits = λ r k l. absurd (omega arith); tight = λ r l. absurd (omega arith) }

module _ (g : Signature) (c d pairs : List ℕ) (i : ℕ) where
  back : i + 1 - 1 ≡ i
  back = omega arith

  tight_here : (k : ℕ) × (k < row_len g (i + 1 - 1)) × (unknown_at g (i + 1 - 1) k ≡ get_or pairs i 0) × (get_or d (unknown_at g (i + 1 - 1) k - 1) 0 ≡ get_or c i 0 + order_at g (i + 1 - 1) k)
      → IsTight g (by_place c) (by_number d) i (get_or pairs i 0)
  unfolding IsTight
  tight_here h = let there = rw back at h in (there.0, there.1, there.2, rw there.2 at there.3)

  tight_parts : IsTight g (by_place c) (by_number d) i (get_or pairs i 0)
      → (k : ℕ) × (k < row_len g i) × (unknown_at g i k ≡ get_or pairs i 0) × (get_or d (get_or pairs i 0 - 1) 0 ≡ get_or c i 0 + order_at g i k)
  unfolding IsTight
  tight_parts t = t

  pub rows_next : AreRowsTo g c d pairs i
      → ((k : ℕ) → k < row_len g (i + 1 - 1) → get_or c i 0 + order_at g (i + 1 - 1) k ≤ get_or d (unknown_at g (i + 1 - 1) k - 1) 0)
      → (k : ℕ) × (k < row_len g (i + 1 - 1)) × (unknown_at g (i + 1 - 1) k ≡ get_or pairs i 0) × (get_or d (unknown_at g (i + 1 - 1) k - 1) 0 ≡ get_or c i 0 + order_at g (i + 1 - 1) k)
      → AreRowsTo g c d pairs (i + 1)
  rows_next to fit tight = record {
    fits = λ r k l. elim (below_next r i l) [
      | inl h ↦ to.fits r k h
      | inr e ↦ rw e (let here = rw back at fit in here k)
    ];
    tight = λ r l. elim (below_next r i l) [
      | inl h ↦ to.tight r h
      | inr e ↦ rw e (tight_here tight)
    ];
  }

  pub row_unfit : i < equations g → (k : ℕ) × (k < row_len g (i + 1 - 1)) × (get_or d (unknown_at g (i + 1 - 1) k - 1) 0 < get_or c i 0 + order_at g (i + 1 - 1) k) → AreOffsets g c d pairs → ⊥
  row_unfit l h right = let there = rw back at h in let fit = right.fits.entry i there.0 l there.1 in omega (arith, there.2)

  pub row_slack : i < equations g
      → ((k : ℕ) → k < row_len g (i + 1 - 1) → unknown_at g (i + 1 - 1) k ≡ get_or pairs i 0 → get_or d (unknown_at g (i + 1 - 1) k - 1) 0 ≡ get_or c i 0 + order_at g (i + 1 - 1) k → ⊥)
      → AreOffsets g c d pairs → ⊥
  row_slack l none right =
      let here = rw back at none in
      let parts = tight_parts (right.tight.allowed i l (right.covers i l)) in
      here parts.0 parts.1 parts.2 (rw parts.2 parts.3)

pub rows_fit : (g : Signature) (c d pairs : List ℕ) (i : ℕ) → equations g ≤ i → AreRowsTo g c d pairs i → Fits g (by_place c) (by_number d)
rows_fit g c d pairs i all to = record { entry = λ r k rl kl. to.fits r k (omega arith) kl }

tight_entry : (g : Signature) (c d : ℕ → ℕ) (i j : ℕ) → IsTight g c d i j → (k : ℕ) × (k < row_len g i) × (unknown_at g i k ≡ j)
unfolding IsTight
tight_entry g c d i j t = (t.0, t.1, t.2)

-- pairs of offsets are distinct and known
pub pairs_distinct : (g : Signature) (c d pairs : List ℕ) → IsSound g → AreOffsets g c d pairs → AreDistinctBelow pairs (suc g.unknowns)
pairs_distinct g c d pairs sound right = record {
  in_range = λ i l.
      let il : i < equations g = omega (arith, right.pairs_all) in
      let entry = tight_entry g (by_place c) (by_number d) i (get_or pairs i 0) (right.tight.allowed i il (right.covers i il)) in
      let known : (0 < get_or pairs i 0) × (get_or pairs i 0 ≤ g.unknowns) = rw entry.2 at (sound.known i entry.0 il entry.1) in
      (known.0, omega (arith, known.1));
  apart = λ i k l l' same.
      let il : i < equations g = omega (arith, right.pairs_all) in
      let kl : k < equations g = omega (arith, right.pairs_all) in
      right.tight.apart i k il kl (right.covers i il) same;
}

pub offsets_right : (g : Signature) (c d pairs : List ℕ) → length c ≡ equations g → length d ≡ g.unknowns → length pairs ≡ equations g
    → AreDistinctBelow pairs (suc g.unknowns) → Fits g (by_place c) (by_number d)
    → ((i : ℕ) → i < equations g → IsTight g (by_place c) (by_number d) i (get_or pairs i 0)) → AreOffsets g c d pairs
offsets_right g c d pairs size_c size_d size_p distinct fits tight = record {
  equations_all = size_c;
  unknowns_all = size_d;
  pairs_all = size_p;
  fits = fits;
  tight = record {
    allowed = λ i l some. tight i l;
    apart = λ i k il kl some same. distinct.apart i k (omega arith) (omega arith) same;
  };
  covers = λ i l. let known = distinct.in_range i (omega arith) in omega (arith, known.0);
}

pub offsets_admissible : (g : Signature) (c d pairs : List ℕ) → AreOffsets g c d pairs → IsAdmissible g (by_place c) (by_number d)
offsets_admissible g c d pairs right = record { fits = right.fits; tight = (by_place pairs, right.tight, right.covers) }
