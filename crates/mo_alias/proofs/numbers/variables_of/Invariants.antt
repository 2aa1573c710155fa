use Rattle.std.proofs.Common.{◌≡◌, ◌+◌, ◌++◌, ◌∷◌, drop}
use Rattle.mo_flat.specs.Roles.{unknowns_from, unknown_numbers}
use Rattle.mo_alias.proofs.numbers.variables_of.Given as goal

abbrev pub invariant-loop-v : goal.invariant-loop-v
invariant-loop-v l =
    (l.variables.items ++ unknowns_from (l.number + 1) (drop l.v-index l.vars) ≡ 0 ∷ unknown_numbers l.vars)
    × (l.number ≡ l.v-index)
