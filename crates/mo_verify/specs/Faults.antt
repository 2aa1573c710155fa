-- What can be wrong with printed orders, offsets and pairs (J. D. Pryce, A simple structural analysis method for DAEs, BIT 41, 2001).
use Rattle.std.specs.Prelude.{◌≡◌, ◌≢◌, ℕ, ◌+◌, ◌<◌, Option, Some, None}
use Rattle.std.proofs.Common.{get_or}
use Rattle.mo_incidence.specs.Signature.{Signature, row_len, unknown_at, order_at}
use Rattle.mo_incidence.specs.Offsets.{IsAdmissible, by_place, by_number}
use Rattle.mo_incidence.specs.Reasons.{IsWithin}
use Rattle.mo_verify.specs.Printed.{Printed}

-- the highest order at which unknown j stands in the equation at place i, None where it does not stand there
abbrev pub IsSigma : Signature → ℕ → ℕ → Option ℕ → Type 0
IsSigma g i j None = (k : ℕ) → k < row_len g i → unknown_at g i k ≢ j
IsSigma g i j (Some order) = (k : ℕ) × (k < row_len g i) × (unknown_at g i k ≡ j) × (order_at g i k ≡ order)

-- the printed order of each of the first n equations is that of its pair
abbrev pub HaveOrders : Signature → Printed → ℕ → Type 0
HaveOrders g p n = (i : ℕ) → i < n → IsSigma g i (get_or p.pairs i 0) (Some (get_or p.orders i 0))

-- entry k of the equation at place i passes the difference of the offsets
abbrev pub IsLowAt : Signature → Printed → ℕ → ℕ → Type 0
IsLowAt g p i k = by_number p.d (unknown_at g i k) < order_at g i k + get_or p.c i 0

-- no entry before entry k of the equation at place i does
pub record FitTo (g : Signature) (p : Printed) (i k : ℕ) : Type 0 where
  pub rows : (r e : ℕ) → r < i → e < row_len g r → IsLowAt g p r e → ⊥
  pub here : (e : ℕ) → e < k → IsLowAt g p i e → ⊥

-- the pair of the equation at place i does not make up the difference of the offsets
abbrev pub IsLooseAt : Printed → ℕ → Type 0
IsLooseAt p i = get_or p.orders i 0 + get_or p.c i 0 < by_number p.d (get_or p.pairs i 0)

abbrev pub MeetTo : Printed → ℕ → Type 0
MeetTo p n = (i : ℕ) → i < n → IsLooseAt p i → ⊥

-- the first n equations have distinct unknowns
abbrev pub AreApartTo : Printed → ℕ → Type 0
AreApartTo p n = (i k : ℕ) → i < k → k < n → get_or p.pairs i 0 ≢ get_or p.pairs k 0

-- following reasons leads from the equation at place i to one with an offset of 0
abbrev pub IsChained : Signature → Printed → ℕ → Type 0
IsChained g p i = (n : ℕ) × IsWithin g (by_place p.c) (by_number p.d) (by_place p.pairs) n i

abbrev pub AreChainedTo : Signature → Printed → ℕ → Type 0
AreChainedTo g p n = (i : ℕ) → i < n → IsChained g p i

-- some admissible offsets have this one for the equation at place i
pub record HasOffset (g : Signature) (i offset : ℕ) : Type 0 where
  pub c : ℕ → ℕ
  pub d : ℕ → ℕ
  pub admissible : IsAdmissible g c d
  pub is : c i ≡ offset
