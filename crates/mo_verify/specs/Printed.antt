-- What a printed report says of the equations and unknowns of a model.
use Rattle.std.specs.Prelude.{ℕ, List}

-- c, d and the pairs, and the order that stands at each pair, by places from 0
pub record Printed : Type 0 where
  pub c : List ℕ
  pub d : List ℕ
  pub pairs : List ℕ
  pub orders : List ℕ
