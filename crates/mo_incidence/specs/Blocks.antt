-- The irreducible blocks of a square system, in an order in which they can be solved one after another: its block triangular form
-- (I. S. Duff and J. K. Reid, An implementation of Tarjan's algorithm for the block triangularization of a matrix, ACM Trans. Math.
-- Softw. 4, 1978). Equations are named by their places, from 0. c and t go by places, d by the numbers of unknowns; t gives each
-- equation its unknown.
use Rattle.std.specs.Prelude.{ℕ, ◌<◌, List}
use Rattle.mo_graph.specs.Order.{IsInOrder}
use Rattle.mo_incidence.specs.Signature.{Signature, equations}
use Rattle.mo_incidence.specs.Offsets.{IsTight, c_of, d_of, pairs_of}
use Rattle.mo_incidence.specs.declared.findings.Offsets.{Offsets}
pub use Rattle.mo_graph.specs.Order.{numbers_in}

-- the equation at place i needs the one at place k: it is tight at the unknown of that one
pub record Needs (g : Signature) (c d t : ℕ → ℕ) (i k : ℕ) : Type 0 where
  pub from : i < equations g
  pub to : k < equations g
  pub tight : IsTight g c d i (t k)

-- that by the offsets with their pairs
abbrev pub NeedsBy : Signature → Offsets → ℕ → ℕ → Type 0
NeedsBy g offsets = Needs g (c_of offsets) (d_of offsets) (pairs_of offsets)

-- the lists are the irreducible blocks in order of dependence
abbrev pub AreBlocksInOrder : Signature → (c d t : ℕ → ℕ) → List (List ℕ) → Type 0
AreBlocksInOrder g c d t blocks = IsInOrder (Needs g c d t) (equations g) blocks

-- those by the offsets with their pairs
abbrev pub AreBlocksBy : Signature → Offsets → List (List ℕ) → Type 0
AreBlocksBy g offsets = AreBlocksInOrder g (c_of offsets) (d_of offsets) (pairs_of offsets)
