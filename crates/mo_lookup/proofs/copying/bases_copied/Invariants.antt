-- The bases that were copied.
use Rattle.std.proofs.Common.{◌≡◌, take}
use Rattle.mo_lookup.proofs.copying.bases_copied.Given as goal

abbrev pub invariant-loop-base : goal.invariant-loop-base
invariant-loop-base l = l.made ≡ take l.base-index l.bases
