use Rattle.std.proofs.Common.{arith}
use Rattle.mo_match.proofs.Threading.{all_threaded}
use Rattle.mo_match.proofs.threads.thread.Goals as goal

pub returns : goal.returns
returns c = all_threaded _ _ _ _ _ c.loop-i.i (omega (arith, c.equations-i-end.ensures.count)) c.loop-i.invariant
