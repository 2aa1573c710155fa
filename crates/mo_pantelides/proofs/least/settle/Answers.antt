use Rattle.std.proofs.Common.{◌∙◌}
use Rattle.mo_match.proofs.Deficit.{tree_none}
use Rattle.mo_pantelides.proofs.Raises.{matching_raised, gap_smaller, rising_raised, cost_raised}
use Rattle.mo_pantelides.proofs.Starting.{room_equations, room_unknowns}
use Rattle.mo_pantelides.proofs.least.settle.Goals as goal

pub raise-requires-clause-room_c : goal.raise-requires-clause-room_c
raise-requires-clause-room_c g c = room_equations _ _ _ c.requires.sound c.again.invariant.rising.small

pub raise-requires-clause-room_d : goal.raise-requires-clause-room_d
raise-requires-clause-room_d g c = room_unknowns _ _ _ c.requires.sound c.again.invariant.rising.small

pub again-smaller : goal.again-smaller
again-smaller g c =
    let step = c.extend_tight-tail.ensures in
    let failed = step.failed c.if-tail-eq0.false in
    gap_smaller _ _ _ _ _ _ _ _ _ c.requires.sound step.matching step.tree step.closed failed.0 (rw failed.1 failed.2) c.again.invariant.rising.fits _ _ c.raise.ensures.raised c.requires.can

pub again-preserved : goal.again-preserved
again-preserved g c =
    let step = c.extend_tight-tail.ensures in
    let failed = step.failed c.if-tail-eq0.false in
    let less = gap_smaller _ _ _ _ _ _ _ _ _ c.requires.sound step.matching step.tree step.closed failed.0 (rw failed.1 failed.2) c.again.invariant.rising.fits _ _ c.raise.ensures.raised c.requires.can in
    record {
      rising = rising_raised _ _ _ _ _ _ _ _ _ c.requires.sound step.matching step.tree step.closed failed.0 (rw failed.1 failed.2) c.again.invariant.rising.fits _ _ c.raise.ensures.raised c.requires.can c.again.invariant.rising;
      matching = matching_raised _ _ _ _ _ _ _ _ _ c.requires.sound step.matching step.tree step.closed failed.0 (rw failed.1 failed.2) c.again.invariant.rising.fits _ _ c.raise.ensures.raised;
      tree = rw (c.raise.ensures.kept.0, c.raise.ensures.kept.1) (tree_none _ _ _ _ _ _ step.tree.queue_all step.tree.parent_all (c.raise.ensures.size ∙ step.tree.mark_all) c.raise.ensures.cleared);
      bare = failed.2;
      kept = λ x some. step.kept x (c.again.invariant.kept x some);
      cost = cost_raised _ _ _ _ _ _ step.cost less c.again.invariant.cost;
    }
