use Rattle.mo_connect.proofs.TableLemmas.{table_flow}
use Rattle.mo_connect.proofs.declared.tell_flows.Goals as goal

pub loop-flow-preserved : goal.loop-flow-preserved
loop-flow-preserved c =
    rw c.tell_flow.ensures (table_flow _ _ _ _ _ _ _ c.loop-flow-test.true c.requires.below c.loop-flow.invariant)
