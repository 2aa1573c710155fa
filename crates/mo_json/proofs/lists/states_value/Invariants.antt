-- The values so far.
use Rattle.std.proofs.Common.{◌≡◌, map, take}
use Rattle.serde_json.specs.View.{view}
use Rattle.mo_json.specs.Values.{derivative_data}
use Rattle.mo_json.proofs.lists.states_value.Given as goal

abbrev pub invariant-loop-state : goal.invariant-loop-state
invariant-loop-state l = map view l.list.items ≡ map (derivative_data l.names) (take l.state-index l.states)
