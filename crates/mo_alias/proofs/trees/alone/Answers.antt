use Rattle.std.proofs.Common.{rules, arith}
use Rattle.mo_alias.proofs.Counting.{alone_more}
use Rattle.mo_alias.proofs.trees.alone.Goals as goal

pub loop-unknown-preserved : goal.loop-unknown-preserved
loop-unknown-preserved c =
    (search (rules, arith), rw c.in_ok-push.ensures.items (alone_more c.loop-unknown.parent.items c.loop-unknown.unknown c.loop-unknown.invariant.0 c.loop-unknown.invariant.1))

pub returns-clause-alone : goal.returns-clause-alone
returns-clause-alone c = c.loop-unknown.invariant.1
