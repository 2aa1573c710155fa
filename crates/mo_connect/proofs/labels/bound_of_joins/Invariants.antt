use Rattle.std.proofs.Common.{ℕ, ◌<◌, ◌≤◌, ◌^◌, get_or}
use Rattle.mo_connect.specs.declared.joins.Join.{Join}
use Rattle.mo_connect.proofs.labels.bound_of_joins.Given as goal

abbrev pub invariant-loop-join : goal.invariant-loop-join
invariant-loop-join l = (l.bound ≤ 2 ^ 32) × ((j : ℕ) (d : Join) → j < l.join-index → ((get_or l.joins j d).left.variable < l.bound) × ((get_or l.joins j d).right.variable < l.bound))
