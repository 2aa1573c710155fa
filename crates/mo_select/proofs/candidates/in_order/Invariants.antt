use Rattle.std.proofs.Common.{◌≡◌, ◌<◌, ℕ, suc, length, get_or}
use Rattle.mo_incidence.specs.Offsets.{by_number}
use Rattle.mo_select.specs.Selection.{below_level}
use Rattle.mo_select.proofs.candidates.in_order.Given as goal

abbrev pub invariant-loop-wanted : goal.invariant-loop-wanted
invariant-loop-wanted l = record {
  order : l.order.items ≡ below_level (by_number l.level) l.wanted l.candidates;
  count : length l.ends.items ≡ l.wanted;
  ends : (n : ℕ) → n < l.wanted → get_or l.ends.items n 0 ≡ length (below_level (by_number l.level) (suc n) l.candidates);
}
