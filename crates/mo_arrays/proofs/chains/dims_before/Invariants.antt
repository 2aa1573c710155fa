use Rattle.std.proofs.Common.{◌≡◌}
use Rattle.mo_arrays.specs.steps.Parts.{chain_before}
use Rattle.mo_arrays.proofs.chains.dims_before.Given as goal

abbrev pub invariant-loop-factor : goal.invariant-loop-factor
invariant-loop-factor l = l.dims ≡ (chain_before l.factors l.factor-index).dims
