-- What the calls of a reader answer of expressions in the scopes of a world.
use Rattle.std.specs.Prelude.{ℕ, List}
use Rattle.mo_syntax.specs.Outcome.{Outcome}
use Rattle.mo_syntax.specs.declared.expr.Expr.{Expr}
use Rattle.mo_syntax.specs.declared.expr.ReferenceOf.{ReferenceOf}
use Rattle.mo_flat.specs.declared.array.ArrayExpr.{ArrayExpr}
use Rattle.mo_scope.specs.declared.source.ScopeAt.{ScopeAt}
use Rattle.mo_scope.specs.Sights.{scope_at}
use Rattle.mo_scope.specs.Worlds.{World, table_in}
use Rattle.mo_typing.specs.Dims.{Dims}
use Rattle.mo_typing.specs.Indices.{Index}
use Rattle.mo_values.specs.declared.value.Value.{Value}
use Rattle.mo_eval.specs.Ends.{Ended, ended_of}
use Rattle.mo_eval.specs.Values.{most_references, resolved, resolved_for_value, sides_of, sizes_of, value_of}
use Rattle.mo_eval.specs.Virtuals.{Resolved, Virtual}

-- the value of an expression at its pending indices
abbrev pub value_in_scope : World → ScopeAt → Expr → Index → Outcome Value
value_in_scope world at e index = value_of (table_in world) most_references (scope_at world at) e index

-- its dimensions
abbrev pub sizes_in_scope : World → ScopeAt → Expr → Outcome Dims
sizes_in_scope world at e = sizes_of (table_in world) most_references (scope_at world at) e

-- an expression of the flat model, resolved where so many references may still be read
abbrev pub resolved_in_scope : World → (left : ℕ) → ScopeAt → Expr → Outcome Resolved
resolved_in_scope world left at e = resolved (table_in world) left (scope_at world at) e

-- one that is read for its value
abbrev pub resolved_for_value_in_scope : World → (left : ℕ) → ScopeAt → Expr → Outcome Resolved
resolved_for_value_in_scope world left at e = resolved_for_value (table_in world) left (scope_at world at) e

-- the two sides of an equation of the flat model, over one list of variables
abbrev pub sides_in_scope : World → ScopeAt → (left right : Expr) → Outcome ((ArrayExpr × ArrayExpr) × List Virtual)
sides_in_scope world at left right = sides_of (table_in world) (scope_at world at) left right

-- what an end of a connect names and selects
abbrev pub ended_in_scope : World → ScopeAt → ReferenceOf Expr → Outcome Ended
ended_in_scope world at reference = ended_of (table_in world) (scope_at world at) reference
