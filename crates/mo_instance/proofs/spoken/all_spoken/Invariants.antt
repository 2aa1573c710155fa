-- What was put is what the sources so far speak of.
use Rattle.std.proofs.Common.{◌≡◌, List, flat_map, map, take}
use Rattle.mo_scope.specs.Frames.{Frame}
use Rattle.mo_scope.specs.Sights.{source_seen}
use Rattle.mo_scope.specs.Worlds.{source_in, table_in}
use Rattle.mo_instance.specs.steps.Speeches.{speech_seen, speeches_of}
use Rattle.mo_instance.proofs.spoken.all_spoken.Given as goal

abbrev pub invariant-loop-source : goal.invariant-loop-source
invariant-loop-source l = (frames : List Frame) →
    map speech_seen l.made ≡ flat_map (λ source. speeches_of (table_in l.scopes) (source_in frames (source_seen source))) (take l.source-index l.sources)
