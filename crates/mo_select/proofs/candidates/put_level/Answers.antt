use Rattle.std.proofs.Common.{sym, ◌∙◌, arith}
use Rattle.mo_incidence.specs.Offsets.{by_number}
use Rattle.mo_select.proofs.Picking.{level_passed, level_taken, level_whole}
use Rattle.mo_select.proofs.candidates.put_level.Goals as goal

pub loop-candidate-preserved-then-at_number-wanted : goal.loop-candidate-preserved-then-at_number-wanted
loop-candidate-preserved-then-at_number-wanted c =
    level_passed (by_number c.args.level.now) c.args.wanted c.args.candidates.now _ _ c.loop-candidate.candidate-index c.loop-candidate.invariant (omega arith)
    (λ same. c.if-at_number-wanted.true (c.at_number.ensures ∙ same))

pub loop-candidate-preserved : goal.loop-candidate-preserved
loop-candidate-preserved c =
    rw c.in_ok-push.ensures.items
    (level_taken (by_number c.args.level.now) c.args.wanted c.args.candidates.now _ _ c.loop-candidate.candidate-index c.loop-candidate.invariant (omega arith) (sym c.at_number.ensures ∙ c.if-at_number-wanted.false))

pub returns : goal.returns
returns c = level_whole (by_number c.args.level.now) c.args.wanted c.args.candidates.now _ _ c.loop-candidate.candidate-index c.loop-candidate.invariant (omega arith)
