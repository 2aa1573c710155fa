use Rattle.std.proofs.Common.{◌≡◌, ℕ, None, length, get_or}
use Rattle.mo_connect.proofs.declared.empty_table.Given as goal

abbrev pub invariant-loop-i : goal.invariant-loop-i
invariant-loop-i l = (length l.made.items ≡ l._i) × ((v : ℕ) → get_or l.made.items v None ≡ None)
