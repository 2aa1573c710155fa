use Rattle.std.proofs.Common.{ℕ, ◌<◌, ◌≤◌, ◌^◌, get_or}
use Rattle.mo_syntax.specs.declared.place.Place.{Place}
use Rattle.mo_connect.proofs.labels.bound_of_flows.Given as goal

abbrev pub invariant-loop-flow : goal.invariant-loop-flow
invariant-loop-flow l = (l.bound ≤ 2 ^ 32) × ((j : ℕ) (d : ℕ × Place) → j < l.flow-index → (get_or l.flows j d).0 < l.bound)
