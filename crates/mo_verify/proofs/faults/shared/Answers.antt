use Rattle.std.proofs.Common.{arith, refl}
use Rattle.mo_verify.specs.Finding.{printed_in}
use Rattle.mo_verify.proofs.Faulty.{taken_none, taken_more, twice_fault}
use Rattle.mo_verify.proofs.faults.shared.Goals as goal

pub loop-i-init : goal.loop-i-init
loop-i-init c = taken_none c.args.inc.now (printed_in c.args.claims.now) c.args.owner.now c.requires.size c.requires.clear

pub loop-i-preserved : goal.loop-i-preserved
loop-i-preserved c = taken_more c.args.inc.now (printed_in c.args.claims.now) _ c.loop-i.i c.loop-i.invariant (c.requires.sizes.known c.loop-i.i (omega arith)).1 c.if-first-ne0.false

pub returns-then-first-ne0-clause-some : goal.returns-then-first-ne0-clause-some
returns-then-first-ne0-clause-some c = twice_fault c.args.inc.now (printed_in c.args.claims.now) _ c.loop-i.i c.loop-i.invariant (c.requires.sizes.known c.loop-i.i (omega arith)).1 (omega arith) _ refl (λ zero. omega arith)

pub returns-clause-none : goal.returns-clause-none
returns-clause-none c = λ i k before below. c.loop-i.invariant.apart i k before (omega (arith, below))
