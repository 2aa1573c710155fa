use Rattle.std.proofs.Common.{◌≡◌, ℕ, [], length, get_or}
use Rattle.mo_select.specs.steps.Ties.{entries_in}
use Rattle.mo_select.proofs.ties.empty_rows.Given as goal

abbrev pub invariant-loop-t : goal.invariant-loop-t
invariant-loop-t l = record {
  count : length (entries_in l.rows.items) ≡ l._t;
  empty : (t : ℕ) → get_or (entries_in l.rows.items) t [] ≡ [];
}
