use Rattle.std.proofs.Common.{◌≡◌, fold, take, Ok}
use Rattle.mo_syntax.specs.declared.meaning.Kind.TheVariants.{Whole}
use Rattle.mo_typing.specs.Kinds.{with_number}
use Rattle.mo_typing.proofs.agree.arithmetic.Given as goal

abbrev pub invariant-loop-kind : goal.invariant-loop-kind
invariant-loop-kind l = l.all ≡ fold (with_number l.place) (Ok Whole) (take l.kind-index l.kinds)
