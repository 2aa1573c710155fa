use Rattle.std.proofs.Common.{inl, inr, ◌∙◌}
use Rattle.mo_certify.proofs.Following.{below_next}
use Rattle.mo_certify.proofs.least.all_lead_to_zero.Goals as goal

pub loop-start-preserved : goal.loop-start-preserved
loop-start-preserved c =
    let yes = c.if-not-leads_to_zero.false in (
      c.leads_to_zero.ensures.size ∙ c.loop-start.invariant.0,
      c.leads_to_zero.ensures.settled yes,
      c.leads_to_zero.ensures.low,
      λ i l. elim (below_next i c.loop-start.start l) [
        | inl h ↦ c.loop-start.invariant.3 i h
        | inr e ↦ rw e (c.leads_to_zero.ensures.yes yes)
      ],
    )
