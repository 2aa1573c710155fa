use Rattle.std.proofs.Common.{◌≡◌, ◌++◌, drop}
use Rattle.mo_report.specs.Size.{unknown_names}
use Rattle.mo_verify.proofs.head.unknown_names.Given as goal

abbrev pub invariant-loop-v : goal.invariant-loop-v
invariant-loop-v l = l.names ++ unknown_names (drop l.v-index l.vars) ≡ unknown_names l.vars
