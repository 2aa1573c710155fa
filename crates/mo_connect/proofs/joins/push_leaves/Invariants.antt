use Rattle.mo_connect.specs.Joins.{AreDistinct, Gains, IsBefore, JoinsLeafAt}
use Rattle.mo_connect.proofs.joins.push_leaves.Given as goal

abbrev pub invariant-loop-i : goal.invariant-loop-i
invariant-loop-i l = AreDistinct l.rights → Gains l.initial.made l.made (IsBefore (JoinsLeafAt l.left_side l.lefts l.right_side l.rights) l.i)
