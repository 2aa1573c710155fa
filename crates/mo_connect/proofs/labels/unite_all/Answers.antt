use Rattle.mo_connect.proofs.LabelLemmas.{united_none, united_at}
use Rattle.mo_connect.proofs.labels.unite_all.Goals as goal

pub loop-join-init : goal.loop-join-init
loop-join-init c = united_none _ _ c.requires.each

pub loop-join-preserved : goal.loop-join-preserved
loop-join-preserved c =
    united_at _ _ _ _ _ _ _ _ c.loop-join-test.true c.number.ensures c.number-in-loop-join.ensures c.loop-join.invariant c.unite.ensures
