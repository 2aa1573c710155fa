use Rattle.std.proofs.Common.{◌≡◌, ◌++◌, drop}
use Rattle.mo_incidence.specs.steps.Gathered.{last_of_each}
use Rattle.mo_incidence.proofs.gather.highest.Given as goal

abbrev pub invariant-loop-i : goal.invariant-loop-i
invariant-loop-i l = l.row.items ++ last_of_each (drop l.i l.entries) ≡ last_of_each l.entries
