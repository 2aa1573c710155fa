use Rattle.std.proofs.Common.{rules, arith}
use Rattle.mo_alias.proofs.Firsts.{none_more}
use Rattle.mo_alias.proofs.find.no_firsts.Goals as goal

pub loop-at-preserved : goal.loop-at-preserved
loop-at-preserved c = (search (rules, arith), rw c.in_ok-push.ensures.items (none_more c.loop-at.firsts.items c.loop-at.invariant.1))
