-- Offsets of equations and unknowns, and the least of them (J. D. Pryce, A simple structural analysis method for DAEs, BIT 41, 2001).
-- c goes by the places of equations and says how often each is differentiated, d by the numbers of unknowns and says which
-- derivative of each is the highest.
use Rattle.std.specs.Prelude.{◌≡◌, ◌≢◌, ℕ, ◌+◌, ◌-◌, ◌<◌, ◌≤◌, List, length}
use Rattle.std.proofs.Common.{get_or, zero, suc}
use Rattle.mo_graph.specs.Counting.{sum_below}
use Rattle.mo_incidence.specs.declared.findings.Offsets.{Offsets}
use Rattle.mo_incidence.specs.Signature.{Signature, equations, row_len, unknown_at, order_at}
use Rattle.mo_incidence.specs.Assignment.{Assigns, CoversAll}

-- the equation at place i has an entry at unknown j whose order makes up the difference of the offsets
unfoldable pub IsTight : Signature → (ℕ → ℕ) → (ℕ → ℕ) → ℕ → ℕ → Type 0
IsTight g c d i j = (k : ℕ) × (k < row_len g i) × (unknown_at g i k ≡ j) × (d j ≡ c i + order_at g i k)

-- the pairs q are an assignment of the equations by tight entries
abbrev pub ArePaired : Signature → (ℕ → ℕ) → (ℕ → ℕ) → (ℕ → ℕ) → Type 0
ArePaired g c d q = Assigns (IsTight g c d) (equations g) q

-- no entry passes the difference of the offsets
pub record Fits (g : Signature) (c d : ℕ → ℕ) : Type 0 where
  pub entry : (i k : ℕ) → i < equations g → k < row_len g i → c i + order_at g i k ≤ d (unknown_at g i k)

-- and some assignment of all equations has equality at each of its entries
pub record IsAdmissible (g : Signature) (c d : ℕ → ℕ) : Type 0 where
  pub fits : Fits g c d
  pub tight : (q : ℕ → ℕ) × Assigns (IsTight g c d) (equations g) q × CoversAll g q

-- no offset of c and d is above the one of c' and d'
pub record AreBelow (g : Signature) (c d c' d' : ℕ → ℕ) : Type 0 where
  pub equation : (i : ℕ) → i < equations g → c i ≤ c' i
  pub unknown : (j : ℕ) → 0 < j → j ≤ g.unknowns → d j ≤ d' j

-- no admissible offsets are anywhere smaller
pub record IsBelowAll (g : Signature) (c d : ℕ → ℕ) : Type 0 where
  pub below : (c' d' : ℕ → ℕ) → IsAdmissible g c' d' → AreBelow g c d c' d'

pub record IsLeast (g : Signature) (c d : ℕ → ℕ) : Type 0 where
  pub admissible : IsAdmissible g c d
  pub least : IsBelowAll g c d

-- the numbers of a list by places, and by numbers from 1
abbrev pub by_place : List ℕ → ℕ → ℕ
by_place xs i = get_or xs i 0

abbrev pub by_number : List ℕ → ℕ → ℕ
by_number xs j = get_or xs (j - 1) 0

-- how often the equation at a place is differentiated, the order of the highest derivative of an unknown, and the unknown of the equation
-- at a place
abbrev pub c_of : Offsets → ℕ → ℕ
c_of offsets = by_place offsets.c.items

abbrev pub d_of : Offsets → ℕ → ℕ
d_of offsets = by_number offsets.d.items

abbrev pub pairs_of : Offsets → ℕ → ℕ
pairs_of offsets = by_place offsets.pairs.items

-- h is at least the order of each entry, at its unknown
pub record BoundsOrders (g : Signature) (h : ℕ → ℕ) : Type 0 where
  pub entry : (i k : ℕ) → i < equations g → k < row_len g i → order_at g i k ≤ h (unknown_at g i k)

-- the sum over the unknowns
unfoldable pub sum_unknowns : Signature → (ℕ → ℕ) → ℕ
sum_unknowns g h = sum_below (λ u. h (u + 1)) g.unknowns

-- there is a number c and a pair for each equation, and a number d for each unknown
abbrev pub AreSized : Signature → List ℕ → List ℕ → List ℕ → Type 0
AreSized g c d pairs = (length c ≡ equations g) × (length d ≡ g.unknowns) × (length pairs ≡ equations g)

abbrev pub HasSizes : Signature → Offsets → Type 0
HasSizes g offsets = AreSized g offsets.c.items offsets.d.items offsets.pairs.items

-- the pairs that stand with the offsets are an assignment of the equations by tight entries
abbrev pub HasPairs : Signature → Offsets → Type 0
HasPairs g offsets = ArePaired g (c_of offsets) (d_of offsets) (pairs_of offsets)

-- how many differentiations of equations there are in all
abbrev pub differentiations : Signature → Offsets → ℕ
differentiations g offsets = sum_below (c_of offsets) (equations g)

-- n is the number of degrees of freedom
abbrev pub HasFreedom : Signature → Offsets → ℕ → Type 0
HasFreedom g offsets n = n + differentiations g offsets ≡ sum_unknowns g (d_of offsets)

-- the place that is reached from i by n reasons
abbrev pub after_reasons : (ℕ → ℕ) → ℕ → ℕ → ℕ
after_reasons r zero i = i
after_reasons r (suc n) i = after_reasons r n (r i)

-- the reason of each equation with an offset above 0 is another equation that is tight at its unknown, and following
-- reasons ends at an offset of 0
pub record AreReasons (g : Signature) (c d t r : ℕ → ℕ) : Type 0 where
  pub tight : (i : ℕ) → i < equations g → c i ≢ 0 → (r i < equations g) × (r i ≢ i) × IsTight g c d (r i) (t i)
  pub ends : (i : ℕ) → i < equations g → (n : ℕ) × (c (after_reasons r n i) ≡ 0)
