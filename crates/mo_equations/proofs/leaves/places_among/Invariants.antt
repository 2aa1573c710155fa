-- The places so far.
use Rattle.std.proofs.Common.{◌≡◌, Some, map, take}
use Rattle.mo_equations.specs.steps.LeafTables.{instances_at, leaves_in}
use Rattle.mo_equations.proofs.leaves.places_among.Given as goal

abbrev pub invariant-loop-instance : goal.invariant-loop-instance
invariant-loop-instance l = (l.place ≡ l.instance-index) × (instances_at l.instances l.made ≡ map (λ instance. Some instance) (leaves_in (take l.instance-index l.instances)))
