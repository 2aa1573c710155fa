use Rattle.mo_connect.specs.Joins.{JoinsLeaf}
use Rattle.mo_connect.proofs.JoinLemmas.{gains_none, gains_leaf, no_partner}
use Rattle.mo_connect.proofs.joins.push_leaf.Goals as goal

pub returns-in-None : goal.returns-in-None
returns-in-None c = λ distinct.
    gains_none _ (JoinsLeaf c.args.left_side c.args.leaf.now c.args.right_side c.args.rights.now)
    (λ x p. no_partner _ _ c.requires c.in-None.ensures)

pub returns-in_ok-push-in-Some : goal.returns-in_ok-push-in-Some
returns-in_ok-push-in-Some c = λ distinct.
    rw (c.in_ok-push-in-Some.ensures.ok, c.seen-right.ensures, c.seen-left.ensures) (gains_leaf _ _ _ _ _ _ _ c.index-rights-k.is c.in-Some.ensures distinct)
