use Rattle.std.proofs.Common.{◌≡◌, ◌+◌}
use Rattle.mo_incidence.specs.Counting.{count_below}
use Rattle.mo_incidence.specs.Offsets.{by_place}
use Rattle.mo_match.proofs.lists.count_missing.Given as goal

abbrev pub invariant-loop-unknown : goal.invariant-loop-unknown
invariant-loop-unknown l = count_below (by_place l.pairs) l.unknown-index + l.missing ≡ l.unknown-index
