-- What is said of those that are left is said of all.
use Rattle.std.proofs.Common.{◌≡◌, drop}
use Rattle.std.specs.Prelude.{nat_eq}
use Rattle.std.specs.List.{list_any}
use Rattle.mo_typing.proofs.indexing.has_none.Given as goal

abbrev pub invariant-loop-size : goal.invariant-loop-size
invariant-loop-size l = list_any (λ n. nat_eq n 0) (drop l.size-index l.dims) ≡ list_any (λ n. nat_eq n 0) l.dims
