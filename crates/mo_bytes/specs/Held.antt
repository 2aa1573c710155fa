-- What an expression or an equation holds, however deep.
use Rattle.std.specs.Prelude.{Contains}
use Rattle.mo_syntax.specs.declared.equation.EquationKind.{EquationKind}
use Rattle.mo_syntax.specs.declared.equation.EquationOf.{EquationOf}
use Rattle.mo_syntax.specs.declared.expr.Expr.{Expr}
use Rattle.mo_syntax.specs.declared.place.Place.{Place}
use Rattle.mo_places.specs.Written.{Written, At, Valued, Stated}
use Rattle.mo_places.specs.Pieces.{in_equation, in_expression}

-- the place is held by what is written
pub data IsHeld (place : Place) : Written → Type 0 where
  itself : IsHeld place (At place)
  by_expression : {e : Expr} {w : Written} → Contains (in_expression e) w → IsHeld place w → IsHeld place (Valued e)
  by_equation : {equation : EquationOf EquationKind} {w : Written} → Contains (in_equation equation) w → IsHeld place w → IsHeld place (Stated equation)

-- all places that are held by it have the property
abbrev pub HoldsAll : (Place → Type 0) → Written → Type 0
HoldsAll Q w = (place : Place) → IsHeld place w → Q place
