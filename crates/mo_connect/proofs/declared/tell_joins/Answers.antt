use Rattle.mo_connect.proofs.TableLemmas.{table_join}
use Rattle.mo_connect.proofs.declared.tell_joins.Goals as goal

pub loop-join-preserved : goal.loop-join-preserved
loop-join-preserved c =
    table_join _ _ _ _ _ _ _ _ _ c.loop-join-test.true c.requires.below c.tell.ensures c.tell-in-loop-join.ensures c.loop-join.invariant
