use Rattle.std.proofs.Common.{◌≡◌, drop}
use Rattle.std.specs.Prelude.{is_some}
use Rattle.mo_scope.specs.Rows.{Table}
use Rattle.mo_scope.specs.Frames.{Scope}
use Rattle.mo_eval.specs.Virtuals.{Ask}
use Rattle.mo_eval.specs.steps.Calling.{plain}
use Rattle.mo_eval.proofs.callee.are_values.Given as goal

abbrev pub invariant-loop-arg : goal.invariant-loop-arg
invariant-loop-arg l = (table : Table) (ask : Ask) (scope : Scope) → is_some (plain table ask scope (drop l.arg-index l.args)) ≡ is_some (plain table ask scope l.args)
