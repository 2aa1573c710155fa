use Rattle.std.proofs.Common.{arith, refl}
use Rattle.mo_verify.specs.Finding.{printed_in}
use Rattle.mo_verify.proofs.Faulty.{fit_none, fit_more, low_fault}
use Rattle.mo_verify.proofs.faults.low_entry.Goals as goal

pub loop-i-init : goal.loop-i-init
loop-i-init c = fit_none c.args.inc.now (printed_in c.args.claims.now)

pub loop-i-preserved : goal.loop-i-preserved
loop-i-preserved c = fit_more c.args.inc.now (printed_in c.args.claims.now) c.loop-i.i _ (omega arith) c.loop-i.invariant c.in_default.ensures.none

pub returns-in-Some-clause-some : goal.returns-in-Some-clause-some
returns-in-Some-clause-some c =
    low_fault c.args.inc.now (printed_in c.args.claims.now) c.loop-i.i _ c.in-Some.k (omega arith) (omega arith) c.loop-i.invariant c.in-Some.ensures.some.0 c.in-Some.ensures.some.1 c.in-Some.ensures.first _ _ _
    c.entry-unknown.ensures.unknown c.entry-unknown.ensures.order refl
