-- Lists of offsets with pairs.
use Rattle.std.specs.Prelude.{◌≡◌, ◌↔◌, ℕ, Bool, IfOk, IsTrue, List, Result, length}
use Rattle.mo_incidence.specs.declared.findings.Offsets.{Offsets}
use Rattle.mo_incidence.specs.Signature.{Signature, equations}
use Rattle.mo_incidence.specs.Assignment.{Assigns, CoversAll}
use Rattle.mo_incidence.specs.Blocks.{AreBlocksInOrder}
use Rattle.mo_incidence.specs.Offsets.{Fits, IsTight, by_place, by_number, c_of, d_of, pairs_of}

-- The lengths fit, no entry passes the difference of the offsets, and the pairs are an assignment of all equations with equality
-- at each of its entries: the offsets are admissible (Pryce 2001).
pub record AreOffsets (g : Signature) (c d pairs : List ℕ) : Type 0 where
  pub equations_all : length c ≡ equations g
  pub unknowns_all : length d ≡ g.unknowns
  pub pairs_all : length pairs ≡ equations g
  pub fits : Fits g (by_place c) (by_number d)
  pub tight : Assigns (IsTight g (by_place c) (by_number d)) (equations g) (by_place pairs)
  pub covers : CoversAll g (by_place pairs)

-- the same of offsets as they are held
abbrev pub AreHeldOffsets : Signature → Offsets → Type 0
AreHeldOffsets g offsets = AreOffsets g offsets.c.items offsets.d.items offsets.pairs.items

-- the offsets are admissible, the system is square, and these are its irreducible blocks in order of dependence
abbrev pub AreRightBlocks : Signature → Offsets → List (List ℕ) → Type 0
AreRightBlocks g offsets blocks =
    AreHeldOffsets g offsets × (equations g ≡ g.unknowns) × AreBlocksInOrder g (c_of offsets) (d_of offsets) (pairs_of offsets) blocks

-- The answer is yes exactly where that holds; want of memory says nothing.
abbrev pub Decides : {E : Type 0} → Result Bool E → Type 0 → Type 0
Decides result P = IfOk result (λ yes. IsTrue yes ↔ P)
