use Rattle.std.proofs.Common.{◌∙◌, arith}
use Rattle.mo_incidence.specs.Offsets.{by_place, by_number}
use Rattle.mo_select.proofs.Staging.{order_known, order_apart, ends_low, stage_made}
use Rattle.mo_select.proofs.choose.stage.Goals as goal

pub note_ranks-requires-clause-known : goal.note_ranks-requires-clause-known
note_ranks-requires-clause-known c = λ t l.
    let at = order_known c.args.inc.now (by_place c.args.remaining.now.c.now) (by_number c.args.remaining.now.d.now) (by_number c.args.level.now) c.args.remaining.now.active.now c.args.candidates.now c.requires.unknowns _ (c.deref.ensures.value ∙ c.in_ok-order.ensures.order) t l in
    omega (arith, at.1)

pub note_ranks-requires-clause-apart : goal.note_ranks-requires-clause-apart
note_ranks-requires-clause-apart c =
    order_apart c.args.inc.now (by_place c.args.remaining.now.c.now) (by_number c.args.remaining.now.d.now) (by_number c.args.level.now) c.args.remaining.now.active.now c.args.candidates.now c.requires.unknowns _ (c.deref.ensures.value ∙ c.in_ok-order.ensures.order)

pub ranked_stage-requires-clause-candidates : goal.ranked_stage-requires-clause-candidates
ranked_stage-requires-clause-candidates c = λ k l. (c.requires.unknowns.known k l).1

pub ranked_stage-requires-clause-ranks : goal.ranked_stage-requires-clause-ranks
ranked_stage-requires-clause-ranks c = rw (c.deref-2.ensures.value, ← c.deref.ensures.value) c.note_ranks.ensures

pub ranked_stage-requires-clause-ends : goal.ranked_stage-requires-clause-ends
ranked_stage-requires-clause-ends c =
    ends_low c.args.inc.now (by_place c.args.remaining.now.c.now) (by_number c.args.remaining.now.d.now) (by_number c.args.level.now) c.args.remaining.now.active.now c.args.candidates.now c.requires.unknowns _ _ (c.deref-2.ensures.value ∙ c.in_ok-order.ensures.order)
    (rw c.deref-3.ensures.value c.in_ok-order.ensures.count) (rw c.deref-3.ensures.value c.in_ok-order.ensures.ends)

pub forget_ranks-requires-clause-known : goal.forget_ranks-requires-clause-known
forget_ranks-requires-clause-known c = λ t l.
    let at = order_known c.args.inc.now (by_place c.args.remaining.now.c.now) (by_number c.args.remaining.now.d.now) (by_number c.args.level.now) c.args.remaining.now.active.now c.args.candidates.now c.requires.unknowns _ (c.deref-4.ensures.value ∙ c.in_ok-order.ensures.order) t l in
    omega (arith, at.1, c.note_ranks.auto.rank)

pub forget_ranks-requires-clause-ranked : goal.forget_ranks-requires-clause-ranked
forget_ranks-requires-clause-ranked c = rw (c.deref-4.ensures.value, ← c.deref.ensures.value) c.note_ranks.ensures

pub returns-clause-stage : goal.returns-clause-stage
returns-clause-stage c =
    stage_made c.args.inc.now (by_place c.args.remaining.now.c.now) (by_number c.args.remaining.now.d.now) (by_number c.args.level.now) c.args.remaining.now.active.now c.args.candidates.now c.requires.unknowns c.deref-2.result.now c.deref-3.result.now c.note_ranks.new.rank _
    (c.deref-2.ensures.value ∙ c.in_ok-order.ensures.order) (rw (c.deref-2.ensures.value, ← c.deref.ensures.value) c.note_ranks.ensures) (rw c.deref-3.ensures.value c.in_ok-order.ensures.count)
    (rw c.deref-3.ensures.value c.in_ok-order.ensures.ends) c.requires.low c.requires.can c.in_ok-made.ensures

pub ranked_stage-requires-clause-sizes : goal.ranked_stage-requires-clause-sizes
ranked_stage-requires-clause-sizes c = (c.requires.sizes.0, c.requires.sizes.1, c.note_ranks.auto.rank ∙ c.requires.sizes.2)

pub ranked_stage-requires-clause-few : goal.ranked_stage-requires-clause-few
ranked_stage-requires-clause-few c = (c.requires.few, c.equations-equations.ensures.sound.few_equations)
