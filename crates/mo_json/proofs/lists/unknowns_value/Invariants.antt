-- The values so far.
use Rattle.std.proofs.Common.{◌≡◌, map}
use Rattle.serde_json.specs.View.{view}
use Rattle.mo_json.specs.Values.{data_below, unknown_data}
use Rattle.mo_json.proofs.lists.unknowns_value.Given as goal

abbrev pub invariant-loop-at : goal.invariant-loop-at
invariant-loop-at l = map view l.list.items ≡ data_below (unknown_data l.names l.offsets) l.at
