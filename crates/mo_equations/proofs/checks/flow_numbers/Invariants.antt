-- Those so far.
use Rattle.std.proofs.Common.{ℕ, All, take}
use Rattle.mo_syntax.specs.declared.place.Place.{Place}
use Rattle.mo_connect.specs.Equations.{IsNumericVariable}
use Rattle.mo_equations.proofs.checks.flow_numbers.Given as goal

abbrev pub invariant-loop-flow : goal.invariant-loop-flow
invariant-loop-flow l = All (λ (flow : ℕ × Place). IsNumericVariable l.vars flow.0) (take l.flow-index l.flows)
