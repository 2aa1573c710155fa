use Rattle.std.proofs.Common.{◌≡◌, drop}
use Rattle.mo_incidence.specs.Model.{first_uncarried}
use Rattle.mo_incidence.proofs.carrying.first_uncarried.Given as goal

abbrev pub invariant-loop-equation : goal.invariant-loop-equation
invariant-loop-equation l = first_uncarried l.vars (drop l.equation-index l.equations) ≡ first_uncarried l.vars l.equations
