use Rattle.std.proofs.Common.{◌≡◌, length}
use Rattle.mo_incidence.specs.Offsets.{by_place, by_number}
use Rattle.mo_select.specs.steps.Ties.{entries_in, AreOpenRows}
use Rattle.mo_select.proofs.ties.open_rows.Given as goal

abbrev pub invariant-loop-place : goal.invariant-loop-place
invariant-loop-place l = record {
  count : length (entries_in l.rows.items) ≡ l.place-index;
  rows : AreOpenRows l.inc (by_place l.remaining.c.now) (by_number l.remaining.d.now) l.remaining.active.now l.rank l.end (entries_in l.rows.items);
}
