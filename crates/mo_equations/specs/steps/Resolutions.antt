-- What is resolved of an expression for the flat model, with its layers.
use Rattle.std.specs.Prelude.{◌≡◌, ℕ}
use Rattle.mo_flat.specs.declared.expr.FlatExpr.{FlatExpr}
use Rattle.mo_syntax.specs.Outcome.{Outcome}
use Rattle.mo_values.specs.Asked.{IsLayered}
use Rattle.mo_scope.specs.Worlds.{World}
use Rattle.mo_eval.specs.Seen.{AreThere, virtuals_at}
use Rattle.mo_eval.specs.Values.{most_references}
use Rattle.mo_eval.specs.declared.virtuals.Resolved.{Resolved as ResolvedAt}
use Rattle.mo_equations.specs.declared.desk.Resolution.{Resolution}
use Rattle.mo_equations.specs.declared.leaves.Leaves.{Leaves}
use Rattle.mo_equations.specs.Replacing.{of_variable}
use Rattle.mo_equations.specs.steps.Standing.{AreReplaced, replacing_in}

-- with what replaces the variables that were asked of so far
pub record IsResolution (world : World) (leaves : Leaves) (resolution : Resolution) : Type 0 where
  pub there : AreThere world resolution.resolved.virtuals
  pub layers : IsLayered resolution.resolved.expression resolution.layers
  pub replaced : AreReplaced (of_variable (replacing_in world leaves most_references) (virtuals_at world resolution.resolved.virtuals)) resolution.replaced.items

-- of that, with its layers; no variable was asked of
pub record IsResolvedSo (resolution : Resolution) (of : ResolvedAt) : Type 0 where
  pub resolved : resolution.resolved ≡ of
  pub layers : IsLayered resolution.resolved.expression resolution.layers
  pub unasked : (replace : ℕ → Outcome FlatExpr) → AreReplaced replace resolution.replaced.items
