-- Equations between two expressions (Modelica Language Specification 3.5, sections 8.3.1 and 10.6.1): one scalar equation for each element,
-- the last index fastest.
use Rattle.std.specs.Prelude.{List, [], Ok}
use Rattle.mo_syntax.specs.Outcome.{Outcome, and_then}
use Rattle.mo_syntax.specs.declared.expr.Expr.{Expr}
use Rattle.mo_syntax.specs.declared.place.Place.{Place}
use Rattle.mo_flat.specs.declared.array.ArrayExpr.{ArrayExpr}
use Rattle.mo_flat.specs.declared.model.FlatEquation.{FlatEquation}
use Rattle.mo_scope.specs.Frames.{Scope}
use Rattle.mo_typing.specs.Outcome.{each}
use Rattle.mo_arrays.specs.Equations.{equations_of}
use Rattle.mo_eval.specs.Virtuals.{Virtual, Making, make, make_then}
use Rattle.mo_values.specs.Asked.{for_flat}
use Rattle.mo_eval.specs.Resolving.{made}
use Rattle.mo_eval.specs.Values.{most_references, reading}
use Rattle.mo_equations.specs.Leaves.{Tree}
use Rattle.mo_equations.specs.Replacing.{of_variable, with_variables}
use Rattle.mo_equations.specs.Variables.{replacing}

-- two sides, resolved over one list of variables
abbrev pub Sides : Type 0
Sides = (ArrayExpr × ArrayExpr) × List Virtual

abbrev pub made_side : Tree → Scope → Expr → Making ArrayExpr
made_side tree scope e = made tree.classes (reading tree.classes most_references) scope e for_flat

abbrev pub made_sides : Making ArrayExpr → Making ArrayExpr → Outcome Sides
made_sides left right = make_then left (λ left. make_then right (λ right. make (left, right))) []

abbrev pub replaced_sides : Tree → List Virtual → FlatEquation → Outcome FlatEquation
replaced_sides tree virtuals q =
    and_then (with_variables (of_variable (replacing tree) virtuals) q.left) (λ left.
    and_then (with_variables (of_variable (replacing tree) virtuals) q.right) (λ right.
    Ok (record { left = left; right = right; place = q.place })))

-- Their kinds, their dimensions and their subscripts are asked, each of the left one before the right one; then the names in their elements
-- are replaced, equation by equation.
abbrev pub equalities_of : Tree → Place → Sides → Outcome (List FlatEquation)
equalities_of tree place sides = and_then (equations_of sides.0.0 sides.0.1 place) (each (replaced_sides tree sides.1))

-- the scalar equations of two sides
abbrev pub equalities : Tree → Scope → Place → Expr → Expr → Outcome (List FlatEquation)
equalities tree scope place left right =
    and_then (made_sides (made_side tree scope left) (made_side tree scope right)) (equalities_of tree place)
