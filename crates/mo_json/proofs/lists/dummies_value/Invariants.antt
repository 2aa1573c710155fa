-- The values so far.
use Rattle.std.proofs.Common.{◌≡◌, map, take}
use Rattle.serde_json.specs.View.{view}
use Rattle.mo_json.specs.Values.{dummy_data}
use Rattle.mo_json.proofs.lists.dummies_value.Given as goal

abbrev pub invariant-loop-dummy : goal.invariant-loop-dummy
invariant-loop-dummy l = map view l.list.items ≡ map (dummy_data l.names) (take l.dummy-index l.dummies)
