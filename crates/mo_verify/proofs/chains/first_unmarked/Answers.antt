use Rattle.std.proofs.Common.{arith}
use Rattle.mo_verify.specs.Finding.{printed_in}
use Rattle.mo_verify.proofs.Chaining.{chained_none, chained_more, unchained_at}
use Rattle.mo_verify.proofs.chains.first_unmarked.Goals as goal

pub loop-i-init : goal.loop-i-init
loop-i-init c = chained_none c.args._inc.now (printed_in c.args.claims.now)

pub loop-i-preserved : goal.loop-i-preserved
loop-i-preserved c = chained_more c.args._inc.now (printed_in c.args.claims.now) c.loop-i.i c.loop-i.invariant (c.requires.yes c.loop-i.i c.if-not-marks-i.false)

pub returns-then-not-marks-i-clause-some : goal.returns-then-not-marks-i-clause-some
returns-then-not-marks-i-clause-some c =
    unchained_at c.args._inc.now (printed_in c.args.claims.now) c.loop-i.i (omega (arith, c.requires.size)) c.loop-i.invariant (c.requires.no c.loop-i.i (omega (arith, c.requires.size)) c.if-not-marks-i.true)
