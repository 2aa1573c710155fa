-- The vertices of each class as a list, and where the classes stand.
use Rattle.std.specs.Prelude.{ℕ, ◌==◌, if◌then◌else◌, List, [], ◌∷◌, ◌++◌}
use Rattle.std.proofs.Common.{zero, suc}
use Rattle.mo_graph.specs.Edges.{AreReplaced}
use Rattle.mo_graph.specs.steps.Placing.{AreOrdered}

-- the numbers from 1 to n with f equal to q at the place before, ascending
abbrev pub members : (ℕ → ℕ) → ℕ → ℕ → List ℕ
members f q zero = []
members f q (suc n) = if f n == q then members f q n ++ suc n ∷ [] else members f q n

-- the leaders have places in an order in which the edges between classes lead back
pub record IsArranged (m : ℕ) (sources targets leader placed : List ℕ) (count : ℕ) : Type 0 where
  pub new_sources : List ℕ
  pub new_targets : List ℕ
  pub order : List ℕ
  pub replaced_sources : AreReplaced leader sources new_sources
  pub replaced_targets : AreReplaced leader targets new_targets
  pub ordered : AreOrdered m new_sources new_targets leader order placed count
