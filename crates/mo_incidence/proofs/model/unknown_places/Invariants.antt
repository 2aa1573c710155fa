use Rattle.std.proofs.Common.{◌≡◌, ◌≤◌, ◌+◌, ◌++◌, drop, length}
use Rattle.mo_flat.specs.Roles.{unknowns_from, unknown_numbers}
use Rattle.mo_incidence.specs.steps.Gathered.{places_from, unknown_places}
use Rattle.mo_incidence.proofs.model.unknown_places.Given as goal

abbrev pub invariant-loop-v : goal.invariant-loop-v
invariant-loop-v l =
    (l.places.items ++ places_from l.count (drop l.v-index l.vars) ≡ unknown_places l.vars)
    × (l.count + length (unknowns_from (l.v-index + 1) (drop l.v-index l.vars)) ≡ length (unknown_numbers l.vars))
    × (l.count ≤ l.v-index)
