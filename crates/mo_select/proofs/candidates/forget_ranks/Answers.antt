use Rattle.std.proofs.Common.{refl, arith}
use Rattle.mo_select.proofs.Ranks.{forget_start, forget_next, forget_done}
use Rattle.mo_select.proofs.candidates.forget_ranks.Goals as goal

pub loop-candidate-init : goal.loop-candidate-init
loop-candidate-init c = forget_start c.args.order.now c.args.rank.now c.requires.ranked

pub loop-candidate-preserved : goal.loop-candidate-preserved
loop-candidate-preserved c =
    forget_next c.args.order.now c.loop-candidate.rank c.loop-candidate.candidate-index _ refl (omega (arith, c.requires.known c.loop-candidate.candidate-index (omega arith))) c.loop-candidate.invariant

pub returns : goal.returns
returns c = forget_done c.args.order.now c.loop-candidate.rank c.loop-candidate.candidate-index (omega arith) c.loop-candidate.invariant
