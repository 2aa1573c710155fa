use Rattle.std.proofs.Common.{ℕ, ap, ◌∙◌}
use Rattle.mo_incidence.specs.steps.Given.{given}
use Rattle.mo_select.proofs.stage.opened.Goals as goal

pub returns-in-Ok : goal.returns-in-Ok
returns-in-Ok c = record {
  rows = c.deref.result.now;
  is = c.in-Ok.ensures.ok ∙ ap (λ (n : ℕ). given n c.deref.result.now) c.unknowns.ensures;
  size = rw c.deref.ensures.value c.in_ok-rows.ensures.count;
  row_is = rw c.deref.ensures.value c.in_ok-rows.ensures.rows;
}
