use Rattle.std.proofs.Common.{◌≡◌, true, take}
use Rattle.std.specs.List.{list_all}
use Rattle.mo_typing.specs.Subscripts.{is_within}
use Rattle.mo_values.proofs.selecting.are_within.Given as goal

abbrev pub invariant-loop-n : goal.invariant-loop-n
invariant-loop-n l = list_all (is_within l.size) (take l.n-index l.numbers) ≡ true
