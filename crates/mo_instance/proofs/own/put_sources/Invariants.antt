-- What was put is the paths of the sources so far.
use Rattle.std.proofs.Common.{◌≡◌, ◌++◌, flat_map, map, take}
use Rattle.mo_mods.specs.PathSights.{claim_seen}
use Rattle.mo_scope.specs.Sights.{source_seen}
use Rattle.mo_scope.specs.Worlds.{frames_of, source_in, table_in}
use Rattle.mo_instance.specs.Passes.{source_claims}
use Rattle.mo_instance.proofs.own.put_sources.Given as goal

abbrev pub invariant-loop-source : goal.invariant-loop-source
invariant-loop-source l = map claim_seen l.made
    ≡ map claim_seen l.initial.made ++ flat_map (λ source. source_claims (table_in l.s) l.place (source_in (frames_of l.s) (source_seen source))) (take l.source-index l.sources)
