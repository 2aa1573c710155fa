use Rattle.std.proofs.Common.{◌≡◌, map, take}
use Rattle.mo_flat.specs.Sound.{IsSoundModel}
use Rattle.mo_incidence.specs.Model.{row_of}
use Rattle.mo_incidence.proofs.model.rows.Given as goal

abbrev pub invariant-loop-equation : goal.invariant-loop-equation
invariant-loop-equation l = IsSoundModel l.m → map (λ row. row.items) l.rows.items ≡ map (row_of l.m.vars) (take l.equation-index l.m.equations)
