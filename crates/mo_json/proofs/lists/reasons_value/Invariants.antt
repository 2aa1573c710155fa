-- The values so far.
use Rattle.std.proofs.Common.{◌≡◌, map, take}
use Rattle.serde_json.specs.View.{view}
use Rattle.mo_json.specs.Values.{reason_data}
use Rattle.mo_json.proofs.lists.reasons_value.Given as goal

abbrev pub invariant-loop-reason : goal.invariant-loop-reason
invariant-loop-reason l = map view l.list.items ≡ map reason_data (take l.reason-index l.reasons)
