-- Whether one is left is whether there is one at all.
use Rattle.std.proofs.Common.{◌≡◌, List, drop, is_some, map}
use Rattle.mo_scope.specs.Frames.{Frame}
use Rattle.mo_scope.specs.Parts.{first_of, redeclarations_in}
use Rattle.mo_scope.specs.Sights.{saying_in}
use Rattle.mo_scope.proofs.sources.is_redeclared.Given as goal

abbrev pub invariant-loop-saying : goal.invariant-loop-saying
invariant-loop-saying l = (frames : List Frame) →
    is_some (first_of (redeclarations_in (map (saying_in frames) (drop l.saying-index l.sayings)))) ≡ is_some (first_of (redeclarations_in (map (saying_in frames) l.sayings)))
