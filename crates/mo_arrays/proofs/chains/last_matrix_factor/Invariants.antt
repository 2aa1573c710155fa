use Rattle.mo_arrays.proofs.Splitting.{IsSplit}
use Rattle.mo_arrays.proofs.chains.last_matrix_factor.Given as goal

abbrev pub invariant-loop-j : goal.invariant-loop-j
invariant-loop-j l = IsSplit l.factors l.j l.last l.dims
