-- What is written in files: what their classes hold, and what expressions and equations among it hold.
use Rattle.std.specs.Prelude.{◌≡◌, ◌⊎◌, List, Contains}
use Rattle.mo_syntax.specs.declared.class.FileTree.{FileTree}
use Rattle.mo_syntax.specs.declared.equation.EquationKind.{EquationKind}
use Rattle.mo_syntax.specs.declared.equation.EquationOf.{EquationOf}
use Rattle.mo_syntax.specs.declared.expr.Expr.{Expr}
use Rattle.mo_syntax.specs.declared.place.Place.{Place}
use Rattle.mo_places.specs.Written.{Written, At, Valued, Stated}
use Rattle.mo_places.specs.TreeWritten.{places_in_files}
use Rattle.mo_places.specs.Pieces.{in_equation, in_expression}
use Rattle.mo_places.specs.Stands.{Every}

pub data IsWritten (files : List FileTree) : Written → Type 0 where
  in_class : (w : Written) → Contains (places_in_files files) w → IsWritten files w
  within : (e : Expr) (w : Written) → IsWritten files (Valued e) → Contains (in_expression e) w → IsWritten files w
  among : (equation : EquationOf EquationKind) (w : Written) → IsWritten files (Stated equation) → Contains (in_equation equation) w → IsWritten files w

-- a place that is written in the files
abbrev pub StandsIn : List FileTree → Place → Type 0
StandsIn files place = IsWritten files (At place)

-- what is written in the files, and the place at which is asked
abbrev pub WrittenOrAsked : List FileTree → Place → Written → Type 0
WrittenOrAsked files asked w = IsWritten files w ⊎ (w ≡ At asked)

-- What holds of an expression or an equation holds of what these hold.
pub record Descends (P : Written → Type 0) : Type 0 where
  pub expression : (e : Expr) → P (Valued e) → Every P (in_expression e)
  pub equation : (equation : EquationOf EquationKind) → P (Stated equation) → Every P (in_equation equation)
