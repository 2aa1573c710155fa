use Rattle.std.proofs.Common.{◌≡◌, drop}
use Rattle.mo_symdiff.specs.Reduced.{first_given}
use Rattle.mo_symdiff.proofs.reduce.first_given.Given as goal

abbrev pub invariant-loop-i : goal.invariant-loop-i
invariant-loop-i l = first_given l.vars (drop l.i l.equations) (drop l.i l.counts) ≡ first_given l.vars l.equations l.counts
