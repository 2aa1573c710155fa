use Rattle.std.proofs.Common.{◌≡◌, drop, Ok}
use Rattle.mo_typing.specs.Outcome.{each}
use Rattle.mo_typing.specs.Dims.{size}
use Rattle.mo_typing.proofs.Gathering.{gathered}
use Rattle.mo_typing.proofs.Lists.{snoc}
use Rattle.mo_typing.proofs.extents.sizes_of.Given as goal

abbrev pub invariant-loop-n : goal.invariant-loop-n
invariant-loop-n l = gathered (λ n. n) size snoc (λ made. Ok made) l.made (drop l.n-index l.sizes) ≡ each size l.sizes
