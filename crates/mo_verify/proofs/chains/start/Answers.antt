use Rattle.std.proofs.Common.{arith}
use Rattle.mo_verify.specs.Finding.{printed_in}
use Rattle.mo_verify.proofs.Chaining.{start_none, start_takes}
use Rattle.mo_verify.proofs.chains.start.Goals as goal

pub loop-i-init : goal.loop-i-init
loop-i-init c = rw c.new-queue.ensures.items (start_none c.args.inc.now (printed_in c.args.claims.now) c.args.marks.now c.requires.size c.requires.clear)

pub loop-i-preserved : goal.loop-i-preserved
loop-i-preserved c =
    rw c.in_ok-push.ensures.items
    (start_takes c.args.inc.now (printed_in c.args.claims.now) c.loop-i.marks c.loop-i.queue.items c.loop-i.i c.loop-i.invariant (omega arith) c.if-claims-i-ne0.false)
