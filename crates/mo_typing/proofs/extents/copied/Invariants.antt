use Rattle.std.proofs.Common.{◌≡◌, take}
use Rattle.mo_typing.proofs.extents.copied.Given as goal

abbrev pub invariant-loop-n : goal.invariant-loop-n
invariant-loop-n l = l.made ≡ take l.n-index l.dims
