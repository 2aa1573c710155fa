use Rattle.std.proofs.Common.{arith}
use Rattle.mo_verify.specs.Finding.{printed_in}
use Rattle.mo_verify.proofs.Faulty.{orders_none, orders_more, order_fault}
use Rattle.mo_verify.proofs.faults.wrong_order.Goals as goal

pub loop-i-init : goal.loop-i-init
loop-i-init c = orders_none c.args.inc.now (printed_in c.args.claims.now)

pub loop-i-preserved : goal.loop-i-preserved
loop-i-preserved c = orders_more c.args.inc.now (printed_in c.args.claims.now) c.loop-i.i _ _ (omega arith) c.loop-i.invariant c.sigma-found.ensures (c.differs.ensures.no c.if-differs.false)

pub returns-then-differs-clause-some : goal.returns-then-differs-clause-some
returns-then-differs-clause-some c = order_fault c.args.inc.now (printed_in c.args.claims.now) c.loop-i.i _ _ (omega arith) (omega arith) c.loop-i.invariant c.sigma-found.ensures (c.differs.ensures.yes c.if-differs.true)
