-- What was made with what is left is what all give.
use Rattle.std.proofs.Common.{◌≡◌, ◌++◌, List, length, map}
use Rattle.std.specs.Vec.Iter.{into_iter_items, into_iter_len}
use Rattle.mo_scope.specs.Frames.{Frame}
use Rattle.mo_scope.specs.Parts.{redeclarations_in}
use Rattle.mo_scope.specs.Sights.{redeclaration_in, saying_in}
use Rattle.mo_scope.proofs.sources.redeclarations_among.Given as goal

abbrev pub invariant-loop-saying : goal.invariant-loop-saying
invariant-loop-saying l = record {
  left : (frames : List Frame) → map (redeclaration_in frames) l.made ++ redeclarations_in (map (saying_in frames) (into_iter_items l.saying-iterator))
      ≡ redeclarations_in (map (saying_in frames) (into_iter_items l.initial.saying-iterator));
  counted : into_iter_len l.saying-iterator ≡ length (into_iter_items l.saying-iterator);
}
