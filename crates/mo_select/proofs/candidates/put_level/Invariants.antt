use Rattle.std.proofs.Common.{◌≡◌, ◌++◌, drop}
use Rattle.mo_incidence.specs.Offsets.{by_number}
use Rattle.mo_select.specs.Selection.{of_level}
use Rattle.mo_select.proofs.candidates.put_level.Given as goal

abbrev pub invariant-loop-candidate : goal.invariant-loop-candidate
invariant-loop-candidate l = l.order.items ++ of_level (by_number l.level) l.wanted (drop l.candidate-index l.candidates) ≡ l.fn.order.items ++ of_level (by_number l.level) l.wanted l.candidates
