use Rattle.std.proofs.Common.{◌≡◌, ◌++◌, take}
use Rattle.mo_symdiff.proofs.build.copy_factors.Given as goal

abbrev pub invariant-loop-factor : goal.invariant-loop-factor
invariant-loop-factor l = l.made ≡ l.initial.made ++ take l.factor-index l.factors
