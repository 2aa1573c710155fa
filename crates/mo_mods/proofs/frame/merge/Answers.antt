-- The frames of the sources exist.
use Rattle.std.proofs.Common.{List, map, sym, subst}
use Rattle.mo_scope.specs.declared.source.Source.{Source as SourceAt}
use Rattle.mo_scope.specs.Sights.{source_seen}
use Rattle.mo_scope.specs.Worlds.{AreFrames}
use Rattle.mo_mods.proofs.frame.merge.Goals as goal

pub returns-clause-exist : goal.returns-clause-exist
returns-clause-exist c =
    c.in_ok-merged_sources.ensures.exist c.args.scopes.now
    (subst (λ (sources : List SourceAt). AreFrames c.args.scopes.now (map source_seen sources)) (sym c.as_slice.ensures) c.sources.ensures.exist)
