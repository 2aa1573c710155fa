use Rattle.std.proofs.Common.{◌≡◌, ◌+◌, ◌-◌, arith}
use Rattle.mo_verify.specs.Finding.{printed_in}
use Rattle.mo_verify.proofs.Chaining.{row_begins, row_goes_on, row_ends}
use Rattle.mo_verify.proofs.chains.mark_row.Goals as goal

pub loop-n-init : goal.loop-n-init
loop-n-init c = row_begins c.args.inc.now (printed_in c.args.claims.now) _ _ _ c.args.k c.requires.marked c.requires.head.0 c.requires.head.1

pub loop-n-preserved : goal.loop-n-preserved
loop-n-preserved c =
    let back : c.args.k + 1 - 1 ≡ c.args.k = omega arith in
    let end = rw back at c.row_len-n-end.ensures in
    row_goes_on c.args.inc.now (printed_in c.args.claims.now) _ _ _ _ c.args._head c.args.k c.loop-n.n _ c.led_by-led.result c.loop-n.invariant (omega (arith, end)) c.led_by-led.ensures.some c.led_by-led.ensures.only
    c.led_by-led.ensures.none c.in_ok-mark.ensures

pub returns-clause-marked : goal.returns-clause-marked
returns-clause-marked c =
    let back : c.args.k + 1 - 1 ≡ c.args.k = omega arith in
    let end = rw back at c.row_len-n-end.ensures in
    row_ends c.args.inc.now (printed_in c.args.claims.now) c.loop-n.marks c.loop-n.queue.items c.args._head c.args.k c.loop-n.n _ c.loop-n.invariant (omega (arith, end))
