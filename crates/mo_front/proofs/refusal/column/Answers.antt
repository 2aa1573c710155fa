use Rattle.std.proofs.Common.{ℕ, List, length, ◌+◌, ◌==◌, ◌∙◌, ap}
use Rattle.std.specs.List.{after_last}
use Rattle.mo_front.proofs.Columns.{length_after_last}
use Rattle.mo_front.proofs.refusal.column.Goals as goal

pub returns : goal.returns
returns c =
    ap (λ (n : ℕ). 1 + n)
    (c.after_line_feed.ensures ∙ length_after_last (λ b. b == 10) c.before-2.result.now ∙ ap (λ (xs : List ℕ). length (after_last (λ b. b == 10) xs)) c.before-2.ensures)
