-- What was put behind the list is what was taken.
use Rattle.std.proofs.Common.{◌≡◌, ◌++◌, map, take}
use Rattle.mo_scope.specs.Sights.{source_seen}
use Rattle.mo_scope.proofs.copies.extend_sources.Given as goal

abbrev pub invariant-loop-source : goal.invariant-loop-source
invariant-loop-source l = map source_seen l.made ≡ map source_seen l.initial.made ++ map source_seen (take l.source-index l.sources)
