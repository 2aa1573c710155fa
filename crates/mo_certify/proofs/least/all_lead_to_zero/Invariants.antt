use Rattle.std.proofs.Common.{◌≡◌, ◌≢◌, ℕ, ◌<◌, ◌≤◌, length, slice_index}
use Rattle.mo_incidence.specs.Offsets.{by_place}
use Rattle.mo_certify.specs.Reasons.{named, LeadsToZero}
use Rattle.mo_certify.proofs.least.all_lead_to_zero.Given as goal

abbrev pub invariant-loop-start : goal.invariant-loop-start
invariant-loop-start l =
    (length l.marks ≡ length l.c)
    × ((i : ℕ) → slice_index l.marks i ≢ 0 → LeadsToZero (by_place l.c) (named l.from) i)
    × ((i : ℕ) → slice_index l.marks i ≤ l.start)
    × ((i : ℕ) → i < l.start → LeadsToZero (by_place l.c) (named l.from) i)
