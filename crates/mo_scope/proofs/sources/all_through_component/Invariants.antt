-- What was made with what is left is what all give.
use Rattle.std.proofs.Common.{◌≡◌, ◌++◌, List, length, map}
use Rattle.std.specs.Vec.Iter.{into_iter_items, into_iter_len}
use Rattle.mo_scope.specs.Frames.{Frame}
use Rattle.mo_scope.specs.Parts.{through_component}
use Rattle.mo_scope.specs.Sights.{source_seen}
use Rattle.mo_scope.specs.Worlds.{sources_in}
use Rattle.mo_scope.proofs.sources.all_through_component.Given as goal

abbrev pub invariant-loop-source : goal.invariant-loop-source
invariant-loop-source l = record {
  left : (frames : List Frame) → sources_in frames (map source_seen l.made) ++ map through_component (sources_in frames (map source_seen (into_iter_items l.source-iterator)))
      ≡ map through_component (sources_in frames (map source_seen (into_iter_items l.initial.source-iterator)));
  counted : into_iter_len l.source-iterator ≡ length (into_iter_items l.source-iterator);
}
