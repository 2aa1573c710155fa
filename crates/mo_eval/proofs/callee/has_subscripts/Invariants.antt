use Rattle.std.proofs.Common.{◌≡◌, map, drop}
use Rattle.mo_syntax.specs.declared.expr.Expr.{Expr}
use Rattle.mo_eval.specs.Contexts.{Part}
use Rattle.mo_eval.specs.Calls.{has_subscripts}
use Rattle.mo_eval.specs.steps.Parts.{as_identifier}
use Rattle.mo_eval.proofs.callee.has_subscripts.Given as goal

abbrev pub invariant-loop-part : goal.invariant-loop-part
invariant-loop-part l = (part : Expr → Part) → has_subscripts (map (as_identifier part) (drop l.part-index l.parts)) ≡ has_subscripts (map (as_identifier part) l.parts)
