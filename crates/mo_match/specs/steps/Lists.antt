-- Lists of the numbers where a function is not 0.
use Rattle.std.specs.Prelude.{ℕ, ◌-◌, ◌==◌, if◌then◌else◌, List, [], ◌∷◌, ◌++◌}
use Rattle.std.proofs.Common.{get_or, zero, suc}
use Rattle.mo_incidence.specs.Counting.{sign}

-- the numbers from 1 to n with f not 0 at the place before, ascending
abbrev pub numbers_where : (ℕ → ℕ) → ℕ → List ℕ
numbers_where f zero = []
numbers_where f (suc n) = if f n == 0 then numbers_where f n else numbers_where f n ++ suc n ∷ []

-- 1 where unknown j has an equation with a mark
abbrev pub reached : List ℕ → List ℕ → ℕ → ℕ
reached owner mark j = if get_or owner j 0 == 0 then 0 else sign (get_or mark (get_or owner j 0 - 1) 0)
