use Rattle.std.proofs.Common.{◌≡◌, ℕ, ◌<◌, ◌≤◌, length, slice_index, drop}
use Rattle.mo_certify.specs.Reasons.{first_reason}
use Rattle.mo_certify.proofs.least.first_reasons.Given as goal

abbrev pub invariant-each : goal.invariant-each
invariant-each l = (l.left ≤ length l.why) × (length l.from ≡ length l.initial.from) × ((x : ℕ) → x < length l.from → slice_index l.from x ≡ first_reason (drop l.left l.why) x)

abbrev pub decreases-each : goal.decreases-each
decreases-each l = l.left
