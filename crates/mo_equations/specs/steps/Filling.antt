-- Parts of an expression with their variables replaced, and what a list of counted expressions puts in their place.
use Rattle.std.specs.Prelude.{ℕ, ◌-◌, Bool, List, Option, Some, None, Ok, slice_get}
use Rattle.mo_flat.specs.declared.expr.FlatExpr.{FlatExpr}
use Rattle.mo_equations.specs.declared.flat.Flat.{Flat}
use Rattle.mo_equations.specs.Replacing.{branch_of, marked, with_variables}
use Rattle.mo_syntax.specs.Outcome.{Outcome, breaks}

-- the expression that is built for a variable; a rule that none has the number of where there is none
abbrev pub built_at : List (Option Flat) → ℕ → Outcome FlatExpr
built_at replaced n = built_in (slice_get replaced (n - 1))
  where
    built_of : Option FlatExpr → Outcome FlatExpr
    built_of (Some e) = Ok e
    built_of None = breaks 0 (record { file = 0; byte = 0 })

    built_in : Option (Option Flat) → Outcome FlatExpr
    built_in (Some (Some flat)) = built_of flat.built
    built_in other = breaks 0 (record { file = 0; byte = 0 })

abbrev pub signed_with : (ℕ → Outcome FlatExpr) → Bool × FlatExpr → Outcome (Bool × FlatExpr)
signed_with variable term = marked (term.0, with_variables variable term.1)

abbrev pub branch_with : (ℕ → Outcome FlatExpr) → FlatExpr × FlatExpr → Outcome (FlatExpr × FlatExpr)
branch_with variable branch = branch_of (with_variables variable branch.0, with_variables variable branch.1)
