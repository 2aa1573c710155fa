-- When a report is right for a flat model: its parts are those of the definitions, for the least transversal
-- (J. D. Pryce, A simple structural analysis method for DAEs, BIT 41, 2001; S. E. Mattsson and G. Söderlind, Index reduction in
-- differential-algebraic equations using dummy derivatives, SIAM J. Sci. Comput. 14, 1993).
use Rattle.std.specs.Prelude.{◌≡◌, ◌≢◌, ◌==◌, ◌||◌, ℕ, ◌+◌, ◌<◌, Bool, false, List, [], Some, None, length, if◌then◌else◌}
use Rattle.std.proofs.Common.{zero, suc}
use Rattle.mo_flat.specs.declared.model.FlatModel.{FlatModel}
use Rattle.mo_incidence.specs.declared.findings.Offsets.{Offsets}
use Rattle.mo_incidence.specs.declared.findings.Deficit.{Deficit}
use Rattle.mo_incidence.specs.Counting.{sum_below}
use Rattle.mo_incidence.specs.Signature.{Signature, equations, row_len, unknown_at, order_at}
use Rattle.mo_incidence.specs.Assignment.{Assigns, CoversAll, ListsWhere, IsDeficit, IsUndetermined}
use Rattle.mo_incidence.specs.Offsets.{IsTight, IsLeast, by_place, sum_unknowns, c_of, d_of, pairs_of}
use Rattle.mo_incidence.specs.Transversal.{IsLeastSequence}
use Rattle.mo_incidence.specs.Reasons.{AreReasonsOf}
use Rattle.mo_incidence.specs.Model.{incidence_of}
use Rattle.mo_incidence.specs.Blocks.{AreBlocksInOrder, numbers_in}
use Rattle.mo_incidence.specs.Dummies.{dummies_of, states_of, greatest}
use Rattle.mo_report.specs.declared.report.Report.{Report}
use Rattle.mo_report.specs.Size.{unknown_names}

-- some unknown has the highest order 0
abbrev pub has_zero : (ℕ → ℕ) → ℕ → Bool
has_zero d zero = false
has_zero d (suc n) = has_zero d n || (d (n + 1) == 0)

-- the structural index: the greatest number of differentiations, and one more if some unknown stands in no derivative
abbrev pub index_of : Signature → (c d : ℕ → ℕ) → ℕ
index_of g c d = if has_zero d g.unknowns then greatest c (equations g) + 1 else greatest c (equations g)

-- the least offsets, with the lexicographically least assignment of all equations by tight entries
pub record AreLeastOffsets (g : Signature) (offsets : Offsets) : Type 0 where
  pub equations_all : length offsets.c.items ≡ equations g
  pub unknowns_all : length offsets.d.items ≡ g.unknowns
  pub pairs_all : length offsets.pairs.items ≡ equations g
  pub least : IsLeast g (c_of offsets) (d_of offsets)
  pub tight : Assigns (IsTight g (c_of offsets) (d_of offsets)) (equations g) (pairs_of offsets)
  pub covers : CoversAll g (pairs_of offsets)
  pub sequence : IsLeastSequence g (c_of offsets) (d_of offsets) (pairs_of offsets)

-- the orders at the pairs
pub record AreOrdersAt (g : Signature) (pairs orders : List ℕ) : Type 0 where
  pub all : length orders ≡ equations g
  pub order : (i : ℕ) → i < equations g → (k : ℕ) × (k < row_len g i) × (unknown_at g i k ≡ by_place pairs i) × (order_at g i k ≡ by_place orders i)

-- what only square systems have
pub record HasSquareParts (g : Signature) (offsets : Offsets) (r : Report) : Type 0 where
  pub reasons : AreReasonsOf g (c_of offsets) (d_of offsets) (pairs_of offsets) r.reasons.items
  pub blocks : AreBlocksInOrder g (c_of offsets) (d_of offsets) (pairs_of offsets) (numbers_in r.blocks.0.items)
  pub dummies : r.dummies.chosen.items ≡ dummies_of (c_of offsets) (d_of offsets) (pairs_of offsets) (equations g)
  pub states : r.dummies.states.items ≡ states_of (c_of offsets) (d_of offsets) (pairs_of offsets) (equations g) g.unknowns
  pub index : r.index ≡ index_of g (c_of offsets) (d_of offsets)
  pub freedom : r.freedom + sum_below (c_of offsets) (equations g) ≡ sum_unknowns g (d_of offsets)

pub record HasNoSquareParts (r : Report) : Type 0 where
  pub reasons : r.reasons.items ≡ []
  pub blocks : r.blocks.0.items ≡ []
  pub dummies : r.dummies.chosen.items ≡ []
  pub states : r.dummies.states.items ≡ []
  pub index : r.index ≡ 0
  pub freedom : r.freedom ≡ 0

-- where all equations can have unknowns of their own
pub record HasOffsets (g : Signature) (offsets : Offsets) (r : Report) : Type 0 where
  pub no_deficit : r.deficit ≡ None
  pub given : r.offsets ≡ Some offsets
  pub least : AreLeastOffsets g offsets
  pub orders : AreOrdersAt g offsets.pairs.items r.orders.items

-- what is found of a signature
pub data IsRightFor (g : Signature) (r : Report) : Type 0 where
  -- some equation can have no unknown of its own
  singular : (deficit : Deficit) (k : ℕ) → k ≢ 0 → r.deficit ≡ Some deficit → IsDeficit g deficit.equations.items deficit.unknowns.items k
      → r.offsets ≡ None → r.orders.items ≡ [] → r.loose.items ≡ [] → HasNoSquareParts r → IsRightFor g r
  -- fewer equations than unknowns
  underdetermined : (offsets : Offsets) → equations g < g.unknowns → HasOffsets g offsets r
      → ListsWhere (IsUndetermined g) g.unknowns r.loose.items → HasNoSquareParts r → IsRightFor g r
  square : (offsets : Offsets) → equations g ≡ g.unknowns → HasOffsets g offsets r → r.loose.items ≡ [] → HasSquareParts g offsets r → IsRightFor g r

-- the report is right for the model
pub record IsRightReport (m : FlatModel) (r : Report) : Type 0 where
  pub name : r.name ≡ m.name
  pub unknowns : r.unknowns ≡ unknown_names m.vars
  pub equations : r.equations ≡ length m.equations
  pub found : IsRightFor (incidence_of m) r
