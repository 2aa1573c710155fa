use Rattle.std.proofs.Common.{◌≡◌, List, drop}
use Rattle.std.specs.List.{list_any}
use Rattle.mo_syntax.specs.declared.expr.Expr.{Expr}
use Rattle.mo_scope.specs.Frames.{Frame}
use Rattle.mo_scope.specs.Rows.{is_constant}
use Rattle.mo_eval.specs.Contexts.{Part}
use Rattle.mo_eval.specs.steps.Naming.{names_seen}
use Rattle.mo_eval.proofs.references.are_constant.Given as goal

abbrev pub invariant-loop-name : goal.invariant-loop-name
invariant-loop-name l = (f : Expr → Part) (frames : List Frame) → list_any (λ name. is_constant name.0.declares) (names_seen f frames (drop l.name-index l.names)) ≡ list_any (λ name. is_constant name.0.declares) (names_seen f frames l.names)
