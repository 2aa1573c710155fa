use Rattle.std.proofs.Common.{◌≡◌, map, drop}
use Rattle.mo_syntax.specs.declared.expr.Expr.{Expr}
use Rattle.mo_eval.specs.Contexts.{Part}
use Rattle.mo_eval.specs.Calls.{last_identifier}
use Rattle.mo_eval.specs.steps.Parts.{as_identifier}
use Rattle.mo_eval.proofs.Calling.{last_or}
use Rattle.mo_eval.proofs.callee.last_identifier.Given as goal

abbrev pub invariant-loop-part : goal.invariant-loop-part
invariant-loop-part l = (part : Expr → Part) → last_or l.last (map (as_identifier part) (drop l.part-index l.parts)) ≡ last_identifier (map (as_identifier part) l.parts)
