use Rattle.std.proofs.Common.{◌≡◌, ◌≤◌, ◌+◌, drop, length}
use Rattle.mo_report.specs.Size.{unknown_names, report_size, report_limit}
use Rattle.mo_report.proofs.size.are_within.Given as goal

abbrev pub invariant-loop-v : goal.invariant-loop-v
invariant-loop-v l =
    (l.at ≤ length l.orders)
    × (l.left ≤ report_limit)
    × (report_size (unknown_names l.vars) l.orders + l.left ≡ report_limit + report_size (unknown_names (drop l.v-index l.vars)) (drop l.at l.orders))
