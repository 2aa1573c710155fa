use Rattle.mo_values.proofs.Splitting.{AreDims}
use Rattle.mo_values.proofs.chains.dims_before.Given as goal

abbrev pub invariant-loop-factor : goal.invariant-loop-factor
invariant-loop-factor l = AreDims l.factors l.factor-index l.dims
