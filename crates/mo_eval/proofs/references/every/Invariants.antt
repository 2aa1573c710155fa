use Rattle.std.proofs.Common.{◌≡◌, take}
use Rattle.mo_eval.specs.References.{every}
use Rattle.mo_eval.proofs.references.every.Given as goal

abbrev pub invariant-loop-size : goal.invariant-loop-size
invariant-loop-size l = l.made ≡ every (take l._size-index l.dims)
