-- A set that is being listed: words that only an inner contract needs.
use Rattle.std.specs.Prelude.{ℕ, ◌<◌, ◌⊎◌, List, Contains}
use Rattle.std.specs.BTreeSet.{BTreeSet}
use Rattle.std.specs.List.Sorted.{IsStrictlyIncreasing}
use Rattle.mo_graph.specs.steps.Placing.{Has}

-- the least numbers of a set, and those that are left
pub record IsListedTo (set left : BTreeSet ℕ) (made : List ℕ) : Type 0 where
  pub ascending : IsStrictlyIncreasing made
  pub below : (x y : ℕ) → Contains made x → Has left y → x < y
  pub kept : (x : ℕ) → Has set x → Contains made x ⊎ Has left x
  pub only : (x : ℕ) → Contains made x ⊎ Has left x → Has set x
