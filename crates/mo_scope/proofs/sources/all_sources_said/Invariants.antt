-- What was made with what is left is what all give.
use Rattle.std.proofs.Common.{◌≡◌, ◌++◌, true, List, length, map}
use Rattle.std.specs.Vec.Iter.{into_iter_items, into_iter_len}
use Rattle.mo_scope.specs.Frames.{Frame}
use Rattle.mo_scope.specs.Parts.{sources_said}
use Rattle.mo_scope.specs.Sights.{saying_in, source_seen}
use Rattle.mo_scope.specs.Worlds.{sources_in}
use Rattle.mo_scope.proofs.sources.all_sources_said.Given as goal

abbrev pub invariant-loop-saying : goal.invariant-loop-saying
invariant-loop-saying l = record {
  left : (frames : List Frame) → sources_in frames (map source_seen l.made) ++ sources_said l.wins (map (saying_in frames) (into_iter_items l.saying-iterator))
      ≡ sources_said true (map (saying_in frames) (into_iter_items l.initial.saying-iterator));
  counted : into_iter_len l.saying-iterator ≡ length (into_iter_items l.saying-iterator);
}
