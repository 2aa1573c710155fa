-- The elements that were copied.
use Rattle.std.proofs.Common.{◌≡◌, take}
use Rattle.mo_lookup.proofs.copying.inherited_copied.Given as goal

abbrev pub invariant-loop-one : goal.invariant-loop-one
invariant-loop-one l = l.made ≡ take l.one-index l.held
