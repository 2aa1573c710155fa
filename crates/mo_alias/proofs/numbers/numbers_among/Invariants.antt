use Rattle.std.proofs.Common.{◌≡◌, ◌+◌, ◌++◌, drop, length}
use Rattle.mo_flat.specs.Roles.{unknowns_from, unknown_numbers}
use Rattle.mo_alias.specs.Numbers.{numbers_from, numbers_among}
use Rattle.mo_alias.proofs.numbers.numbers_among.Given as goal

abbrev pub invariant-loop-v : goal.invariant-loop-v
invariant-loop-v l =
    (l.numbers.items ++ numbers_from l.count (drop l.v-index l.vars) ≡ numbers_among l.vars)
    × (l.count + length (unknowns_from (l.v-index + 1) (drop l.v-index l.vars)) ≡ length (unknown_numbers l.vars))
