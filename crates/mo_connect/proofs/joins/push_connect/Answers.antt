use Rattle.mo_connect.specs.Joins.{JoinsElementAt}
use Rattle.mo_connect.proofs.JoinLemmas.{gains_before_none, gains_more}
use Rattle.mo_connect.proofs.joins.push_connect.Goals as goal

pub loop-k-init : goal.loop-k-init
loop-k-init c = λ distinct. gains_before_none _ (JoinsElementAt c.args.connect.now)

pub loop-k-preserved : goal.loop-k-preserved
loop-k-preserved c = λ distinct.
    gains_more _ _ _ (JoinsElementAt c.args.connect.now) _ (c.loop-k.invariant distinct) (c.in_ok-push_element.ensures distinct)
