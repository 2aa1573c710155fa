use Rattle.std.proofs.Common.{◌≡◌, ◌++◌, drop}
use Rattle.mo_typing.specs.Dims.{subscripted}
use Rattle.mo_typing.proofs.extents.subscripted.Given as goal

abbrev pub invariant-loop-k : goal.invariant-loop-k
invariant-loop-k l = l.made ++ subscripted (drop l.k l.subs) (drop l.k l.dims) ≡ subscripted l.subs l.dims
