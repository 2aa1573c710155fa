-- The values so far.
use Rattle.std.proofs.Common.{◌≡◌, map, take}
use Rattle.serde_json.specs.View.{view}
use Rattle.mo_json.specs.Values.{name_data}
use Rattle.mo_json.proofs.lists.names_value.Given as goal

abbrev pub invariant-loop-unknown : goal.invariant-loop-unknown
invariant-loop-unknown l = map view l.list.items ≡ map (name_data l.names) (take l.unknown-index l.unknowns)
