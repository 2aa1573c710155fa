use Rattle.std.proofs.Common.{◌≡◌, ◌+◌, ◌++◌, drop, map}
use Rattle.mo_alias.specs.steps.Placing.{flag_at, place_at}
use Rattle.mo_alias.specs.Without.{kept_from, replaced_variable}
use Rattle.mo_alias.proofs.without.variables.Given as goal

abbrev pub invariant-loop-v : goal.invariant-loop-v
invariant-loop-v l =
    (l.number ≡ l.v-index)
    × (l.made ++ map (replaced_variable (place_at l.places)) (kept_from (flag_at l.stays) (l.number + 1) (drop l.v-index l.vars))
    ≡ map (replaced_variable (place_at l.places)) (kept_from (flag_at l.stays) 1 l.vars))
