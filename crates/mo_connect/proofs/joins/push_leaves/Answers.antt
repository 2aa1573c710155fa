use Rattle.mo_connect.specs.Joins.{JoinsLeafAt}
use Rattle.mo_connect.proofs.JoinLemmas.{gains_before_none, gains_more, leaf_at, leaf_partner}
use Rattle.mo_connect.proofs.joins.push_leaves.Goals as goal

pub loop-i-init : goal.loop-i-init
loop-i-init c = λ distinct. gains_before_none _ (JoinsLeafAt c.args.left_side c.args.lefts.now c.args.right_side c.args.rights.now)

pub loop-i-preserved : goal.loop-i-preserved
loop-i-preserved c = λ distinct.
    gains_more _ _ _ (JoinsLeafAt c.args.left_side c.args.lefts.now c.args.right_side c.args.rights.now) _ (c.loop-i.invariant distinct)
    (leaf_at _ _ _ _ _ _ _ _ c.index-lefts-i.is c.loop-i-test.true (c.in_ok-push_leaf.ensures distinct))

pub push_leaf-requires : goal.push_leaf-requires
push_leaf-requires c = leaf_partner _ _ _ _ c.index-lefts-i.is c.loop-i-test.true c.requires
