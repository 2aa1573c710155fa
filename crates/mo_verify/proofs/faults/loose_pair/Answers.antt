use Rattle.std.proofs.Common.{◌+◌, ◌-◌, ◌<◌, get_or, arith}
use Rattle.mo_verify.specs.Finding.{printed_in}
use Rattle.mo_verify.proofs.Faulty.{meet_none, meet_more, loose_fault}
use Rattle.mo_verify.proofs.faults.loose_pair.Goals as goal

pub loop-i-init : goal.loop-i-init
loop-i-init c = meet_none c.args.inc.now (printed_in c.args.claims.now)

pub loop-i-preserved : goal.loop-i-preserved
loop-i-preserved c =
    meet_more c.args.inc.now (printed_in c.args.claims.now) c.loop-i.i c.loop-i.invariant
    (λ loose.
    let l : get_or c.args.claims.now.orders.now c.loop-i.i 0 + get_or c.args.claims.now.c.now c.loop-i.i 0 < get_or c.args.claims.now.d.now (get_or c.args.claims.now.pairs.now c.loop-i.i 0 - 1) 0 = loose in
    omega (arith, l))

pub returns-then-from-clause-some : goal.returns-then-from-clause-some
returns-then-from-clause-some c =
    let l : get_or c.args.claims.now.orders.now c.loop-i.i 0 + get_or c.args.claims.now.c.now c.loop-i.i 0 < get_or c.args.claims.now.d.now (get_or c.args.claims.now.pairs.now c.loop-i.i 0 - 1) 0 = omega arith in
    loose_fault c.args.inc.now (printed_in c.args.claims.now) c.loop-i.i (omega arith) c.loop-i.invariant l
