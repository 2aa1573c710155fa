use Rattle.std.proofs.Common.{◌∙◌, arith}
use Rattle.mo_select.proofs.Growing.{grown_none, grown_skip, grown_next}
use Rattle.mo_select.proofs.grow.grow_all.Goals as goal

pub loop-root-init : goal.loop-root-init
loop-root-init c = rw (c.clear-2.ensures.kept.0, c.clear-2.ensures.kept.1)
    (grown_none _ _ _ _ _ _ (c.clear.ensures.sizes.0 ∙ c.requires.room.0) (c.clear.ensures.sizes.1 ∙ c.requires.room.1) c.requires.room_search.0 c.requires.room_search.1
    (c.clear-2.ensures.size ∙ c.requires.room_search.2) c.clear.ensures.pairs c.clear.ensures.owner c.clear-2.ensures.mark)

pub loop-root-preserved : goal.loop-root-preserved
loop-root-preserved c =
    let step = c.extend-base.ensures in
    grown_next _ _ _ _ _ _ _ _ c.requires.sound (omega (arith, c.loop-root.invariant.assigned.matching.equations_all)) c.loop-root.invariant
    _ _ _ _ _ _ step.matching step.tree step.closed step.gained step.first step.kept step.bare step.marked

pub loop-root-preserved-then-mark_of-ne0 : goal.loop-root-preserved-then-mark_of-ne0
loop-root-preserved-then-mark_of-ne0 c =
    grown_skip _ _ _ _ _ _ _ _ c.requires.sound (omega (arith, c.loop-root.invariant.assigned.matching.equations_all)) c.loop-root.invariant (rw c.mark_of.ensures at c.if-mark_of-ne0.true)
