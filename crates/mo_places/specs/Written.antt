-- What is written in the trees of files, and has a place or holds places.
use Rattle.mo_syntax.specs.declared.equation.EquationKind.{EquationKind}
use Rattle.mo_syntax.specs.declared.equation.EquationOf.{EquationOf}
use Rattle.mo_syntax.specs.declared.expr.Expr.{Expr}
use Rattle.mo_syntax.specs.declared.place.Place.{Place}

-- The place of a name, a clause or an argument; an expression: a value, a dimension or a condition; an equation.
pub data Written : Type 0 where
  At : Place → Written
  Valued : Expr → Written
  Stated : EquationOf EquationKind → Written
