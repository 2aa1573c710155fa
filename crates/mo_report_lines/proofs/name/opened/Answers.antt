use Rattle.std.proofs.Common.{arith, ap, length}
use Rattle.mo_report_lines.proofs.Derivatives.{none_opened, one_opened}
use Rattle.mo_report_lines.proofs.name.opened.Goals as goal

pub opened-init : goal.opened-init
opened-init c = record { opened = none_opened c.args.text.now; small = omega arith }

pub opened-preserved : goal.opened-preserved
opened-preserved c =
    let e = c.in-Some.ensures.some in
    record { opened = one_opened c.args.text.now c.opened.rest.now c.in-Some.inner.now c.opened.depth c.opened.invariant.opened e; small = omega (arith, c.opened.invariant.small, ap length e) }

pub opened-smaller : goal.opened-smaller
opened-smaller c = let e = c.in-Some.ensures.some in omega (arith, ap length e)

pub returns : goal.returns
returns c = record { to = c.opened.invariant.opened.to; back = c.opened.invariant.opened.back; end = c.in_default.ensures.none }
