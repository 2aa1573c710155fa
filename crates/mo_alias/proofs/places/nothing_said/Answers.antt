use Rattle.std.proofs.Common.{rules, arith}
use Rattle.mo_alias.proofs.Noting.{none_more}
use Rattle.mo_alias.proofs.places.nothing_said.Goals as goal

pub loop-at-preserved : goal.loop-at-preserved
loop-at-preserved c = (search (rules, arith), rw c.in_ok-push.ensures.items (none_more c.loop-at.said.items c.loop-at.invariant.1))
