use Rattle.std.proofs.Common.{refl, arith, get_or}
use Rattle.mo_select.proofs.Deepening.{noted_none, noted_known, noted_next}
use Rattle.mo_select.proofs.states.note_stage.Goals as goal

pub loop-pair-init : goal.loop-pair-init
loop-pair-init c = noted_none c.args.stage c.args.depth.now

pub bounds-depth-unknown : goal.bounds-depth-unknown
bounds-depth-unknown c =
    let at = c.requires _ (noted_known c.args.chosen.now c.loop-pair.pair-index (get_or c.args.chosen.now c.loop-pair.pair-index (0, 0)) (omega arith) refl) in
    omega (arith, at.0, at.1)

pub overflow_sub-depth : goal.overflow_sub-depth
overflow_sub-depth c =
    let at = c.requires _ (noted_known c.args.chosen.now c.loop-pair.pair-index (get_or c.args.chosen.now c.loop-pair.pair-index (0, 0)) (omega arith) refl) in
    omega (arith, at.0)

pub loop-pair-preserved : goal.loop-pair-preserved
loop-pair-preserved c =
    let at = c.requires _ (noted_known c.args.chosen.now c.loop-pair.pair-index (get_or c.args.chosen.now c.loop-pair.pair-index (0, 0)) (omega arith) refl) in
    noted_next c.args.chosen.now c.args.stage c.loop-pair.pair-index c.args.depth.now c.loop-pair.depth (get_or c.args.chosen.now c.loop-pair.pair-index (0, 0)) (omega arith) refl c.loop-pair.invariant at.0 (omega (arith, at.1))
