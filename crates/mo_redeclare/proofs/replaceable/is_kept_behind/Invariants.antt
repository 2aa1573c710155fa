-- Whether it stays replaceable in those that are left is whether it does in all.
use Rattle.std.proofs.Common.{◌≡◌, List, false, drop, map}
use Rattle.mo_scope.specs.Frames.{Frame}
use Rattle.mo_scope.specs.Sights.{redeclaration_in}
use Rattle.mo_redeclare.specs.steps.Comparing.{kept_behind}
use Rattle.mo_redeclare.proofs.replaceable.is_kept_behind.Given as goal

abbrev pub invariant-loop-redeclaration : goal.invariant-loop-redeclaration
invariant-loop-redeclaration l = (frames : List Frame) →
    kept_behind l.behind l.place (map (redeclaration_in frames) (drop l.redeclaration-index l.redeclarations)) ≡ kept_behind false l.place (map (redeclaration_in frames) l.redeclarations)
