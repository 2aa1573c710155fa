use Rattle.std.proofs.Common.{◌≡◌, map, take}
use Rattle.mo_typing.specs.Shape.{size_of}
use Rattle.mo_values.proofs.selecting.sizes_of.Given as goal

abbrev pub invariant-loop-n : goal.invariant-loop-n
invariant-loop-n l = l.made ≡ map size_of (take l.n-index l.numbers)
