-- The parts of an assert.
use Rattle.std.specs.Prelude.{List, map, Option, Some, None, Result, Ok}
use Rattle.std.specs.Borrow.{Bor}
use Rattle.mo_syntax.specs.Outcome.{Outcome, and_then}
use Rattle.mo_syntax.specs.declared.expr.Expr.{Expr}
use Rattle.mo_syntax.specs.declared.meaning.Kind.TheVariants.{Str}
use Rattle.mo_syntax.specs.declared.place.Stop.{Stop}
use Rattle.mo_flat.specs.declared.expr.FlatExpr.{FlatExpr}
use Rattle.mo_flat.specs.declared.model.FlatAssert.{FlatAssert}
use Rattle.mo_scope.specs.Frames.{Scope}
use Rattle.mo_equations.specs.declared.flat.Flat.{Flat}
use Rattle.mo_equations.specs.declared.made.Made.{Made as MadeAt}
use Rattle.mo_equations.specs.Asserts.{assert_with, assertion_level, flat_argument}
use Rattle.mo_equations.specs.Gathering.{Made, made_assert}
use Rattle.mo_equations.specs.Leaves.{Tree}
use Rattle.mo_equations.specs.steps.Flats.{Answers, IsFlat}
use Rattle.mo_equations.specs.steps.Makings.{IsFlatOption, IsMade}

abbrev pub values_seen : List (Bor Expr) → List Expr
values_seen values = map (λ e. e.now) values

abbrev pub level_of : Tree → Scope → Option Expr → Outcome (Option FlatExpr)
level_of tree scope None = Ok None
level_of tree scope (Some level) = and_then (flat_argument tree scope assertion_level level) (λ e. Ok (Some e))

abbrev pub assert_with_level : Tree → Scope → Expr → Expr → Option Expr → Outcome FlatAssert
assert_with_level tree scope condition message level = assert_with tree scope condition message (level_of tree scope level)

abbrev pub GivesAssert : Result MadeAt Stop → Outcome FlatAssert → Type 0
GivesAssert result told = Answers IsMade result (and_then told (λ assert. Ok (made_assert assert)))

-- ---- what stands behind the condition: the message with the level

abbrev pub rest_of : Tree → Scope → Expr → Option Expr → Outcome (FlatExpr × Option FlatExpr)
rest_of tree scope message level = and_then (flat_argument tree scope Str message) (λ m. and_then (level_of tree scope level) (λ l. Ok (m, l)))

abbrev pub IsRest : Flat × Option Flat → FlatExpr × Option FlatExpr → Type 0
IsRest held rest = IsFlat held.0 rest.0 × IsFlatOption held.1 rest.1

abbrev pub made_with : FlatExpr → FlatExpr × Option FlatExpr → Outcome Made
made_with condition rest = Ok (made_assert (record { condition = condition; message = rest.0; level = rest.1 }))
