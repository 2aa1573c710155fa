-- Ascending lists of numbers.
use Rattle.std.specs.Prelude.{ℕ, ◌<◌, ◌≤◌, List, Contains}
use Rattle.std.specs.List.Sorted.{IsStrictlyIncreasing}

-- the list ascends and has exactly the numbers from 1 to n of which P holds
pub record ListsWhere (P : ℕ → Type 0) (n : ℕ) (xs : List ℕ) : Type 0 where
  pub ascending : IsStrictlyIncreasing xs
  pub only : (x : ℕ) → Contains xs x → (0 < x) × (x ≤ n) × P x
  pub all : (x : ℕ) → 0 < x → x ≤ n → P x → Contains xs x
