-- One unknown more.
use Rattle.mo_json.specs.Values.{unknown_data}
use Rattle.mo_json.proofs.Below.{below_next}
use Rattle.mo_json.proofs.lists.unknowns_value.Goals as goal

pub loop-at-preserved : goal.loop-at-preserved
loop-at-preserved c = below_next (unknown_data c.args.names.now c.args.offsets.now) c.loop-at.at _ _ _ c.loop-at.invariant c.in_ok-unknown_value.ensures c.in_ok-push.ensures.items
