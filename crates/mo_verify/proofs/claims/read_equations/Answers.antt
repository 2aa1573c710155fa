use Rattle.std.proofs.Common.{length, refl, ap, arith}
use Rattle.mo_verify.specs.Steps.{printed_of}
use Rattle.mo_verify.proofs.Claiming.{none_read, one_longer, more_equations, other_equation}
use Rattle.mo_verify.proofs.claims.read_equations.Goals as goal

pub loop-at-init : goal.loop-at-init
loop-at-init c = record {
  read = none_read c.args._names.now c.args.count c.args._report.now (printed_of c.args.claims.now) c.args.text.now c.requires.at;
  c_all = ap length c.requires.empty.0;
  pairs_all = ap length c.requires.empty.1;
  orders_all = ap length c.requires.empty.2;
  d = refl;
}

pub loop-at-preserved : goal.loop-at-preserved
loop-at-preserved c = record {
  read =
      more_equations c.args._names.now c.args.count c.args._report.now (printed_of c.loop-at.claims) c.loop-at.at c.loop-at.rest.now c.first_line.result.0.now c.first_line.result.1.now c.loop-at.invariant.read
      (record { whole = c.first_line.ensures.whole; lines = c.first_line.ensures.lines; some = c.first_line.ensures.some }) _ _ _ _ _ _
      (omega arith) c.loop-at.invariant.c_all c.loop-at.invariant.pairs_all c.loop-at.invariant.orders_all c.in_ok-push.ensures.items c.in_ok-push-2.ensures.items c.in_ok-push-3.ensures.items c.in-Some.ensures.some;
  c_all = one_longer _ _ _ c.loop-at.at c.in_ok-push.ensures.items c.loop-at.invariant.c_all;
  pairs_all = one_longer _ _ _ c.loop-at.at c.in_ok-push-2.ensures.items c.loop-at.invariant.pairs_all;
  orders_all = one_longer _ _ _ c.loop-at.at c.in_ok-push-3.ensures.items c.loop-at.invariant.orders_all;
  d = c.loop-at.invariant.d;
}

pub returns-in_default-clause-misshapen : goal.returns-in_default-clause-misshapen
returns-in_default-clause-misshapen c =
    other_equation c.args._names.now c.args.count c.args._report.now (printed_of c.loop-at.claims) c.loop-at.at c.loop-at.rest.now c.first_line.result.0.now c.first_line.result.1.now c.loop-at.invariant.read
    (record { whole = c.first_line.ensures.whole; lines = c.first_line.ensures.lines; some = c.first_line.ensures.some }) _ _ c.loop-at.invariant.orders_all
    (omega arith) c.in_ok-shape_verdict.ensures c.in_default.ensures.none
