use Rattle.mo_values.proofs.Splitting.{IsSplit, AreDims}
use Rattle.mo_values.proofs.chains.last_matrix_factor.Given as goal

abbrev pub invariant-loop-j : goal.invariant-loop-j
invariant-loop-j l = IsSplit l.factors l.j l.last × AreDims l.factors l.j l.dims
