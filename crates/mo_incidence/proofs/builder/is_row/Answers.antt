use Rattle.std.proofs.Common.{refl, sym, ◌∙◌}
use Rattle.mo_incidence.proofs.Building.{row_stops}
use Rattle.mo_incidence.proofs.builder.is_row.Goals as goal

pub returns-then-not-is_next : goal.returns-then-not-is_next
returns-then-not-is_next c =
    (λ bad. absurd cc, λ right. sym c.if-not-is_next.true ∙ c.is_next.ensures.1 (row_stops _ _ _ _ _ c.loop-entry.invariant refl c.loop-entry-test.true right))
