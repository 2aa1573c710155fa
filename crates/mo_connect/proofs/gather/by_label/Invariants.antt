use Rattle.std.proofs.Common.{◌≡◌, ℕ, [], length, get_or}
use Rattle.mo_connect.specs.steps.Gathering.{labelled}
use Rattle.mo_connect.proofs.gather.by_label.Given as goal

abbrev pub invariant-loop-n : goal.invariant-loop-n
invariant-loop-n l = (length l.made.items ≡ length l.labels) × ((r : ℕ) → get_or l.made.items r [] ≡ labelled l.labels r l.n)
