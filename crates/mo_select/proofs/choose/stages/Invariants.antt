use Rattle.std.proofs.Common.{◌≡◌, ◌-◌, ℕ, suc, length, slice_index}
use Rattle.mo_incidence.specs.Signature.{equations}
use Rattle.mo_incidence.specs.Offsets.{by_place, by_number}
use Rattle.mo_incidence.specs.Dummies.{greatest}
use Rattle.mo_select.specs.steps.Staging.{AreMadeTo}
use Rattle.mo_select.proofs.choose.stages.Given as goal

abbrev pub invariant-on : goal.invariant-on
invariant-on l = record {
  made : AreMadeTo l.inc (by_place l.c) (by_number l.d) (by_number l.level) l.stages l.candidates.items l.active.items l.done;
  size : length l.rank ≡ suc l.inc.unknowns;
  clear : (j : ℕ) → slice_index l.rank j ≡ 0;
}

abbrev pub decreases-on : goal.decreases-on
decreases-on l = greatest (by_place l.c) (equations l.inc) - l.done
