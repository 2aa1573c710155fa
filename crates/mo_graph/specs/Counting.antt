-- Sums and counts over the numbers below a bound.
use Rattle.std.specs.Prelude.{ℕ, ◌+◌, ◌==◌, if◌then◌else◌}
use Rattle.std.proofs.Common.{zero, suc}

-- the sum of f over the numbers below n
abbrev pub sum_below : (ℕ → ℕ) → ℕ → ℕ
sum_below f zero = 0
sum_below f (suc n) = f n + sum_below f n

-- 1 where the number is not 0
abbrev pub sign : ℕ → ℕ
sign x = if x == 0 then 0 else 1

-- at how many numbers below n the function is not 0
abbrev pub count_below : (ℕ → ℕ) → ℕ → ℕ
count_below f n = sum_below (λ i. sign (f i)) n
