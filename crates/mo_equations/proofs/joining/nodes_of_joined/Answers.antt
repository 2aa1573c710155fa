-- Each sum capped.
use Rattle.std.proofs.Common.{ℕ, ◌+◌, length, ap, ◌∙◌}
use Rattle.std.specs.Prelude.{sum_by}
use Rattle.mo_equations.specs.steps.Flats.{capped}
use Rattle.mo_equations.proofs.Joined.{joined_capped}
use Rattle.mo_equations.proofs.joining.nodes_of_joined.Goals as goal

pub returns : goal.returns
returns c =
    let branches = c.args.branches.now in
    let other = c.args.other.now in
    joined_capped (sum_by (λ b. b.0.nodes) branches) (length branches) other.count (sum_by (λ b. b.1.nodes) branches) other.nodes
    c.saturating_add.result c.saturating_add-each.result c.saturating_mul.result c.saturating_add-2.result c.saturating_add-3.result
    (c.saturating_add.ensures ∙ ap (λ (n : ℕ). capped (n + length branches)) c.nodes_of_conditions.ensures) c.saturating_add-each.ensures c.saturating_mul.ensures
    (c.saturating_add-2.ensures ∙ ap (λ (n : ℕ). capped (c.saturating_mul.result + n)) c.nodes_of_branches.ensures) c.saturating_add-3.ensures
