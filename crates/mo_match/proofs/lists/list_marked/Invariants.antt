use Rattle.std.proofs.Common.{◌≡◌, ◌≤◌, vec_capacity}
use Rattle.mo_incidence.specs.Offsets.{by_place}
use Rattle.mo_match.specs.steps.Lists.{numbers_where}
use Rattle.mo_match.proofs.lists.list_marked.Given as goal

abbrev pub invariant-loop-i : goal.invariant-loop-i
invariant-loop-i l = record {
  items : l.list.items ≡ numbers_where (by_place l.mark) l.i;
  room : vec_capacity l.fn.list ≤ vec_capacity l.list;
}
