-- Words on the report on the structure of a model.
use Rattle.std.specs.Prelude.{◌≡◌, ◌≢◌, ℕ, ◌-◌, ◌<◌, [], Option, Some, None}
use Rattle.mo_flat.specs.declared.model.FlatModel.{FlatModel}
use Rattle.mo_incidence.specs.declared.findings.Deficit.{Deficit}
use Rattle.mo_incidence.specs.declared.findings.Offsets.{Offsets}
use Rattle.mo_incidence.specs.Assignment.{IsDeficit, IsUndetermined, ListsWhere}
use Rattle.mo_incidence.specs.Reasons.{AreReasonsOf}
use Rattle.mo_incidence.specs.Signature.{Signature, equations}
use Rattle.mo_incidence.specs.Offsets.{c_of, d_of, pairs_of}
use Rattle.mo_report.specs.declared.report.Report.{Report}
use Rattle.mo_report.specs.Right.{AreLeastOffsets, IsRightFor, HasNoSquareParts}
use Rattle.mo_front.specs.declared.structure.Found.{Found}
use Rattle.mo_report.specs.Size.{unknown_names}

-- the order at which the unknown of the equation at place i stands in it: the difference of their offsets
abbrev pub order_by_offsets : Offsets → ℕ → ℕ
order_by_offsets offsets i = d_of offsets (pairs_of offsets i) - c_of offsets i

-- the report has the names of the model and what is found of the signature
pub record IsReportOn (m : FlatModel) (g : Signature) (r : Report) : Type 0 where
  pub name : r.name ≡ m.name
  pub unknowns : r.unknowns ≡ unknown_names m.vars
  pub equations : r.equations ≡ equations g
  pub found : IsRightFor g r

-- a report in which nothing is found
pub record IsEmptyReport (m : FlatModel) (g : Signature) (r : Report) : Type 0 where
  pub name : r.name ≡ m.name
  pub unknowns : r.unknowns ≡ unknown_names m.vars
  pub equations : r.equations ≡ equations g
  pub orders : r.orders.items ≡ []
  pub deficit : r.deficit ≡ None
  pub offsets : r.offsets ≡ None
  pub loose : r.loose.items ≡ []
  pub square : HasNoSquareParts r

-- a deficit of the signature
abbrev pub IsLeftOut : Signature → Option Deficit → Type 0
IsLeftOut g deficit = (found : Deficit) × (k : ℕ) × (k ≢ 0) × (deficit ≡ Some found) × IsDeficit g found.equations.items found.unknowns.items k

-- what is found of a signature before a report is made of it
pub data IsFoundOf (g : Signature) (f : Found) : Type 0 where
  -- some equation can have no unknown of its own
  missing : (deficit : Deficit) (k : ℕ) → k ≢ 0 → f.deficit ≡ Some deficit → IsDeficit g deficit.equations.items deficit.unknowns.items k
      → f.offsets ≡ None → IsFoundOf g f
  -- fewer equations than unknowns
  fewer_equations : (offsets : Offsets) → equations g < g.unknowns → f.deficit ≡ None → f.offsets ≡ Some offsets → AreLeastOffsets g offsets
      → ListsWhere (IsUndetermined g) g.unknowns f.loose.items → IsFoundOf g f
  as_many : (offsets : Offsets) → equations g ≡ g.unknowns → f.deficit ≡ None → f.offsets ≡ Some offsets → AreLeastOffsets g offsets
      → AreReasonsOf g (c_of offsets) (d_of offsets) (pairs_of offsets) f.reasons.items → IsFoundOf g f
