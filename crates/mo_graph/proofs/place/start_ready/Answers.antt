use Rattle.mo_graph.proofs.Waking.{ready_begin, ready_next}
use Rattle.mo_graph.proofs.place.start_ready.Goals as goal

pub loop-v-init : goal.loop-v-init
loop-v-init c = ready_begin _ _ _ c.new-ready.ensures.empty

pub loop-v-preserved : goal.loop-v-preserved
loop-v-preserved c = ready_next _ _ c.loop-v.v _ _ c.loop-v.invariant c.if-leader-v.false c.if-waits-v-ne0.false c.in_ok-insert.ensures.updates
