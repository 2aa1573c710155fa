use Rattle.std.proofs.Common.{◌≡◌, ◌+◌, ◌++◌, drop, map}
use Rattle.std.specs.Prelude.{not}
use Rattle.mo_alias.specs.steps.Placing.{flag_at, place_at}
use Rattle.mo_alias.specs.Without.{kept_from, replaced_equation}
use Rattle.mo_alias.proofs.without.kept_equations.Given as goal

abbrev pub invariant-loop-q : goal.invariant-loop-q
invariant-loop-q l =
    (l.number ≡ l.q-index)
    × (l.made ++ map (replaced_equation (place_at l.places)) (kept_from (λ i. not (flag_at l.out i)) (l.number + 1) (drop l.q-index l.equations))
    ≡ map (replaced_equation (place_at l.places)) (kept_from (λ i. not (flag_at l.out i)) 1 l.equations))
