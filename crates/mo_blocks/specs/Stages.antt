-- What dummy derivatives and states promise, and words on listing them (S. E. Mattsson and G. Söderlind, Index reduction in
-- differential-algebraic equations using dummy derivatives, SIAM J. Sci. Comput. 14, 1993).
use Rattle.std.specs.Prelude.{◌≡◌, ℕ, ◌+◌, ◌-◌, ◌<◌, ◌≤◌, Contains, if◌then◌else◌, List, [], ◌∷◌, ◌++◌, length, nat_lt}
use Rattle.std.proofs.Common.{zero, suc}
use Rattle.mo_incidence.specs.declared.findings.Offsets.{Offsets}
use Rattle.mo_incidence.specs.Assignment.{CoversAll}
use Rattle.mo_incidence.specs.Counting.{sum_below}
use Rattle.mo_incidence.specs.Dummies.{states_of}
use Rattle.mo_incidence.specs.Offsets.{ArePaired, c_of, pairs_of, sum_unknowns}
use Rattle.mo_incidence.specs.Signature.{IsSound, Signature, equations, row_len, unknown_at, order_at}

-- the first k derivatives of unknown j
abbrev pub derivatives_below : ℕ → ℕ → List (ℕ × ℕ)
derivatives_below j zero = []
derivatives_below j (suc k) = derivatives_below j k ++ (j, k) ∷ []

-- the first derivatives of the first n unknowns, as many as `count` says of each
abbrev pub derivatives_to : (ℕ → ℕ) → ℕ → List (ℕ × ℕ)
derivatives_to count zero = []
derivatives_to count (suc n) = derivatives_to count n ++ derivatives_below (suc n) (count n)

-- of the places in the list, those of equations that are differentiated at least s times
abbrev pub kept : (ℕ → ℕ) → ℕ → List ℕ → List ℕ
kept c s [] = []
kept c s (i ∷ is) = if nat_lt (c i) s then kept c s is else i ∷ kept c s is

-- each equation has a dummy at each stage up to its c, and a dummy of a stage is that of one equation
pub record HaveOwn (c t : ℕ → ℕ) (m : ℕ) (dummies : List (ℕ × ℕ × ℕ × ℕ)) : Type 0 where
  pub some : (i s : ℕ) → i < m → 0 < s → s ≤ c i → (k : ℕ) × Contains dummies (t i, k, s, suc i)
  pub own : (x y : ℕ × ℕ × ℕ × ℕ) → Contains dummies x → Contains dummies y → x.2 ≡ y.2 → x.0 ≡ y.0 → x ≡ y

abbrev pub HaveOwnBy : Signature → Offsets → List (ℕ × ℕ × ℕ × ℕ) → Type 0
HaveOwnBy g offsets = HaveOwn (c_of offsets) (pairs_of offsets) (equations g)

-- a dummy of stage s is the highest derivative of its unknown in derivative c - s + 1 of its equation: that of the entry's order raised
-- by the number of derivatives
pub record AreHighest (g : Signature) (c : ℕ → ℕ) (dummies : List (ℕ × ℕ × ℕ × ℕ)) : Type 0 where
  pub entry : (x : ℕ × ℕ × ℕ × ℕ) → Contains dummies x
      → (k : ℕ) × (k < row_len g (x.3 - 1)) × (unknown_at g (x.3 - 1) k ≡ x.0) × (x.1 ≡ order_at g (x.3 - 1) k + (c (x.3 - 1) - x.2 + 1))

-- the next derivative of a dummy of stage s + 1 is a dummy of stage s of the same equation
pub record AreFollowed (dummies : List (ℕ × ℕ × ℕ × ℕ)) : Type 0 where
  pub next : (j k s e : ℕ) → 0 < s → Contains dummies (j, k, suc s, e) → Contains dummies (j, suc k, s, e)

-- a square system has as many states as degrees of freedom, where the pairs are an assignment of all equations by tight entries
abbrev pub CountsStates : Signature → (c d t : ℕ → ℕ) → Type 0
CountsStates g c d t =
    IsSound g → equations g ≡ g.unknowns → ArePaired g c d t → CoversAll g t → length (states_of c d t (equations g) g.unknowns) + sum_below c (equations g) ≡ sum_unknowns g d
