use Rattle.std.proofs.Common.{◌≡◌, ◌++◌, take}
use Rattle.mo_typing.proofs.shapes.joined_lists.Given as goal

abbrev pub invariant-loop-n : goal.invariant-loop-n
invariant-loop-n l = l.made ≡ take l.n-index l.a

abbrev pub invariant-loop-n-2 : goal.invariant-loop-n-2
invariant-loop-n-2 l = l.made ≡ l.a ++ take l.n-index l.b
