-- What was made with what is left is what all give.
use Rattle.std.proofs.Common.{◌≡◌, ◌++◌, List, length, map}
use Rattle.std.specs.Vec.Iter.{into_iter_items, into_iter_len}
use Rattle.mo_scope.specs.Frames.{Frame}
use Rattle.mo_scope.specs.Parts.{without_value}
use Rattle.mo_scope.specs.Sights.{source_seen}
use Rattle.mo_scope.specs.Worlds.{sources_in}
use Rattle.mo_scope.proofs.sources.all_without_value.Given as goal

abbrev pub invariant-loop-source : goal.invariant-loop-source
invariant-loop-source l = record {
  left : (frames : List Frame) → sources_in frames (map source_seen l.made) ++ map without_value (sources_in frames (map source_seen (into_iter_items l.source-iterator)))
      ≡ map without_value (sources_in frames (map source_seen (into_iter_items l.initial.source-iterator)));
  counted : into_iter_len l.source-iterator ≡ length (into_iter_items l.source-iterator);
}
