-- The least offsets of a flat model, by which the phases behind the incidence go.
use Rattle.std.specs.Prelude.{◌≢◌, ℕ, List, Option, Some, None}
use Rattle.mo_flat.specs.declared.model.FlatModel.{FlatModel}
use Rattle.mo_incidence.specs.declared.findings.Offsets.{Offsets}
use Rattle.mo_incidence.specs.Assignment.{IsDeficit}
use Rattle.mo_incidence.specs.Model.{incidence_of}
use Rattle.mo_incidence.specs.Signature.{Signature}
use Rattle.mo_report.specs.Right.{AreLeastOffsets}

-- the least offsets of a signature, none where some equation can have no unknown of its own
pub data IsLeastFor (g : Signature) : Option Offsets → Type 0 where
  left_out : (deficient mentioned : List ℕ) (k : ℕ) → k ≢ 0 → IsDeficit g deficient mentioned k → IsLeastFor g None
  least_offsets : {offsets : Offsets} → AreLeastOffsets g offsets → IsLeastFor g (Some offsets)

abbrev pub IsLeastOf : FlatModel → Option Offsets → Type 0
IsLeastOf m = IsLeastFor (incidence_of m)
