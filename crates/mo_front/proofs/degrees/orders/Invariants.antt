use Rattle.std.proofs.Common.{◌≡◌, ℕ, ◌<◌, length, get_or}
use Rattle.mo_front.specs.steps.Structure.{order_by_offsets}
use Rattle.mo_front.proofs.degrees.orders.Given as goal

abbrev pub invariant-loop-i : goal.invariant-loop-i
invariant-loop-i l =
    (length l.orders.items ≡ l.i)
    × ((k : ℕ) → k < l.i → get_or l.orders.items k 0 ≡ order_by_offsets l.offsets k)
