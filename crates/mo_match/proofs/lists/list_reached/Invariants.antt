use Rattle.std.proofs.Common.{◌≡◌, ◌≤◌, ◌+◌, vec_capacity}
use Rattle.mo_match.specs.steps.Lists.{numbers_where, reached}
use Rattle.mo_match.proofs.lists.list_reached.Given as goal

abbrev pub invariant-loop-u : goal.invariant-loop-u
invariant-loop-u l = record {
  items : l.list.items ≡ numbers_where (λ u. reached l.owner l.mark (u + 1)) l.u;
  room : vec_capacity l.fn.list ≤ vec_capacity l.list;
}
