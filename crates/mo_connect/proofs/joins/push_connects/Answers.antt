use Rattle.mo_connect.specs.Alike.{IsConnectable}
use Rattle.mo_connect.specs.Joins.{HasDistinctLeaves, JoinsConnectAt}
use Rattle.mo_connect.proofs.JoinLemmas.{gains_before_none, gains_more, connect_at, holds_at}
use Rattle.mo_connect.proofs.joins.push_connects.Goals as goal

pub loop-connect-init : goal.loop-connect-init
loop-connect-init c = λ distinct. gains_before_none _ (JoinsConnectAt c.args.connects.now)

pub loop-connect-preserved : goal.loop-connect-preserved
loop-connect-preserved c = λ distinct.
    gains_more _ _ _ (JoinsConnectAt c.args.connects.now) _ (c.loop-connect.invariant distinct)
    (connect_at _ _ _ _ _ c.connect-item.is c.loop-connect-test.true
    (c.in_ok-push_connect.ensures (holds_at HasDistinctLeaves _ _ _ c.connect-item.is c.loop-connect-test.true distinct)))

pub push_connect-requires : goal.push_connect-requires
push_connect-requires c = holds_at IsConnectable _ _ _ c.connect-item.is c.loop-connect-test.true c.requires
