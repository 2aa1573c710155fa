use Rattle.std.proofs.Common.{◌≡◌, true, take}
use Rattle.std.specs.List.{list_all}
use Rattle.mo_values.specs.Made.{is_joined}
use Rattle.mo_values.proofs.making.are_joined.Given as goal

abbrev pub invariant-loop-term : goal.invariant-loop-term
invariant-loop-term l = list_all is_joined (take l.term-index l.terms) ≡ true
