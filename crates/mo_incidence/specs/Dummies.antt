-- Dummy derivatives, and the states that are left (S. E. Mattsson and G. Söderlind, Index reduction in differential-algebraic
-- equations using dummy derivatives, SIAM J. Sci. Comput. 14, 1993). c and t go by the places of equations, d by the numbers of
-- unknowns; t gives each equation its unknown. At stage s the equations are the derivatives of order c - s + 1 of those that are
-- differentiated at least s times, and each makes the highest derivative of its unknown a dummy.
use Rattle.std.specs.Prelude.{ℕ, ◌+◌, ◌-◌, Bool, false, ◌&&◌, ◌||◌, ◌==◌, if◌then◌else◌, List, [], ◌∷◌, ◌++◌, map, nat_lt}
use Rattle.std.proofs.Common.{zero, suc}
use Rattle.mo_incidence.specs.declared.findings.Offsets.{Offsets}
use Rattle.mo_incidence.specs.Offsets.{c_of, d_of, pairs_of}
use Rattle.mo_incidence.specs.Signature.{Signature, equations}

-- the equations before place n that are differentiated at least s times
abbrev pub differentiated : (ℕ → ℕ) → ℕ → ℕ → List ℕ
differentiated c s zero = []
differentiated c s (suc n) = if nat_lt (c n) s then differentiated c s n else differentiated c s n ++ n ∷ []

-- the dummy of the equation at place i at stage s: unknown, order, stage and equation
abbrev pub dummy : (d t : ℕ → ℕ) → ℕ → ℕ → ℕ × ℕ × ℕ × ℕ
dummy d t s i = (t i, d (t i) - s + 1, s, suc i)

-- the dummies of the first s stages of m equations, by stage, then equation
abbrev pub dummies_to : (c d t : ℕ → ℕ) → ℕ → ℕ → List (ℕ × ℕ × ℕ × ℕ)
dummies_to c d t m zero = []
dummies_to c d t m (suc s) = dummies_to c d t m s ++ map (dummy d t (suc s)) (differentiated c (suc s) m)

-- the greatest of the first n numbers
abbrev pub greatest : (ℕ → ℕ) → ℕ → ℕ
greatest c zero = 0
greatest c (suc n) = if nat_lt (greatest c n) (c n) then c n else greatest c n

-- the dummies of all stages of m equations
abbrev pub dummies_of : (c d t : ℕ → ℕ) → ℕ → List (ℕ × ℕ × ℕ × ℕ)
dummies_of c d t m = dummies_to c d t m (greatest c m)

-- whether the derivative of order k of unknown j is among the dummies
abbrev pub is_dummy : List (ℕ × ℕ × ℕ × ℕ) → ℕ → ℕ → Bool
is_dummy [] j k = false
is_dummy (x ∷ xs) j k = (x.0 == j && x.1 == k) || is_dummy xs j k

-- the derivatives of unknown j below order k whose next derivative is no dummy
abbrev pub states_below : List (ℕ × ℕ × ℕ × ℕ) → ℕ → ℕ → List (ℕ × ℕ)
states_below dummies j zero = []
states_below dummies j (suc k) = if is_dummy dummies j (suc k) then states_below dummies j k else states_below dummies j k ++ (j, k) ∷ []

-- those of the first n unknowns below their orders in d, by unknown, then order
abbrev pub states_to : List (ℕ × ℕ × ℕ × ℕ) → (ℕ → ℕ) → ℕ → List (ℕ × ℕ)
states_to dummies d zero = []
states_to dummies d (suc n) = states_to dummies d n ++ states_below dummies (suc n) (d (suc n))

-- the states of n unknowns
abbrev pub states_of : (c d t : ℕ → ℕ) → ℕ → ℕ → List (ℕ × ℕ)
states_of c d t m n = states_to (dummies_of c d t m) d n

-- those of a system by the offsets with their pairs
abbrev pub dummies_by : Signature → Offsets → List (ℕ × ℕ × ℕ × ℕ)
dummies_by g offsets = dummies_of (c_of offsets) (d_of offsets) (pairs_of offsets) (equations g)

abbrev pub states_by : Signature → Offsets → List (ℕ × ℕ)
states_by g offsets = states_of (c_of offsets) (d_of offsets) (pairs_of offsets) (equations g) g.unknowns
