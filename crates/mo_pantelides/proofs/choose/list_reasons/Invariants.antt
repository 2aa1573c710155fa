use Rattle.std.proofs.Common.{◌≡◌, ◌≤◌, ◌-◌, vec_capacity, slice_index}
use Rattle.mo_incidence.specs.Offsets.{by_place}
use Rattle.mo_incidence.specs.Reasons.{listed_reasons}
use Rattle.mo_pantelides.proofs.choose.list_reasons.Given as goal

abbrev pub invariant-loop-i : goal.invariant-loop-i
invariant-loop-i l = record {
  items : l.list.items ≡ listed_reasons (by_place l.c) (λ i. slice_index l.best i - 1) l.i;
  room : vec_capacity l.fn.list ≤ vec_capacity l.list;
}
