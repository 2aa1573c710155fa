-- How deep the equations under conditions go, as measures of recursions.
use Rattle.std.proofs.Common.{◌≡◌, ap, ◌≤◌, ◌<◌, ℕ, zero, suc, List, [], ◌∷◌, get_or, length, arith}
use denote.Param.Weighed.{most}
use Rattle.mo_syntax.specs.declared.expr.Expr.{Expr}
use Rattle.mo_syntax.specs.declared.equation.EquationOf.{EquationOf}
use Rattle.mo_syntax.specs.declared.equation.EquationKind.{EquationKind}
use Rattle.mo_syntax.specs.declared.equation.EquationKind.TheShapes as equation_shapes
use Rattle.mo_syntax.proofs.equation.EquationKind.TheLaws.{the_size as equation_size}

abbrev pub depth_of_equations : List (EquationOf EquationKind) → ℕ
depth_of_equations equations = most (equation_shapes.weighed-EquationKind-If-0-at-3.weight EquationKind equation_size) equations

abbrev pub depth_under_equations : List (Expr × List (EquationOf EquationKind)) → ℕ
depth_under_equations branches = equation_shapes.weighed-EquationKind-If-0.weight EquationKind equation_size branches

equations_within : (branches : List (Expr × List (EquationOf EquationKind))) (i : ℕ) (d : Expr × List (EquationOf EquationKind)) → i < length branches → depth_of_equations (get_or branches i d).1 ≤ depth_under_equations branches
equations_within [] i d l = absurd (omega arith)
equations_within (branch ∷ branches) zero d l = omega arith
equations_within (branch ∷ branches) (suc i) d l = let deeper = equations_within branches i d (omega arith) in omega arith

pub equations_below : (branches : List (Expr × List (EquationOf EquationKind))) (i : ℕ) (branch : Expr × List (EquationOf EquationKind)) (equations : List (EquationOf EquationKind)) → i < length branches → branch ≡ get_or branches i branch → equations ≡ branch.1 →
    depth_of_equations equations ≤ depth_under_equations branches
equations_below branches i branch equations l at same = rw (same, ap (λ b. b.1) at) (equations_within branches i branch l)
