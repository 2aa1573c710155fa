-- What was put is the arguments of the sources so far.
use Rattle.std.proofs.Common.{◌≡◌, List, flat_map, map, take}
use Rattle.mo_scope.specs.Arguments.{asked_of}
use Rattle.mo_scope.specs.Frames.{Frame}
use Rattle.mo_scope.specs.Sights.{source_seen}
use Rattle.mo_scope.specs.Worlds.{source_in, table_in}
use Rattle.mo_mods.specs.PathSights.{asked_seen}
use Rattle.mo_mods.proofs.asked.arguments.Given as goal

abbrev pub invariant-loop-source : goal.invariant-loop-source
invariant-loop-source l = (frames : List Frame) →
    map asked_seen l.made ≡ flat_map (λ source. asked_of (table_in l.scopes) (source_in frames (source_seen source))) (take l.source-index l.sources)
