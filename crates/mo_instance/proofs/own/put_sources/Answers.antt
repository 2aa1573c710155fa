-- One source after another.
use Rattle.std.proofs.Common.{◌++◌, List, flat_map, map, ap, sym, ◌∙◌}
use Rattle.std.proofs.lemmas.List.Folds.{flat_map-map}
use Rattle.mo_mods.specs.PathSights.{claim_seen}
use Rattle.mo_scope.specs.declared.source.Source.{Source as SourceAt}
use Rattle.mo_scope.specs.Arguments.{Claim}
use Rattle.mo_scope.specs.Sights.{source_seen}
use Rattle.mo_scope.specs.Worlds.{SourceEntry, frames_of, source_in, table_in}
use Rattle.mo_scope.proofs.Sayings.{gathered_all, gathered_more}
use Rattle.mo_instance.specs.Passes.{source_claims}
use Rattle.mo_instance.proofs.own.put_sources.Goals as goal

pub loop-source-preserved : goal.loop-source-preserved
loop-source-preserved c =
    let F = frames_of c.args.s.now in
    gathered_more (λ (source : SourceAt). source_claims (table_in c.args.s.now) c.args.place (source_in F (source_seen source)))
    (map claim_seen c.args.made.now) (map claim_seen c.loop-source.made) (map claim_seen c.put_source.new.made)
    c.as_slice-sources.result.now c.loop-source.source-index c.source-item.result c.loop-source-test.true c.source-item.is c.loop-source.invariant (c.in_ok-put_source.ensures F)

pub returns : goal.returns
returns c =
    let F = frames_of c.args.s.now in
    let claims = source_claims (table_in c.args.s.now) c.args.place in
    gathered_all (λ (source : SourceAt). claims (source_in F (source_seen source)))
    (map claim_seen c.args.made.now) (map claim_seen c.loop-source.made) c.as_slice-sources.result.now c.loop-source.source-index c.loop-source-test.false c.loop-source.invariant
    ∙ ap (λ (ys : List Claim). map claim_seen c.args.made.now ++ ys)
    (ap (λ (xs : List SourceAt). flat_map (λ (source : SourceAt). claims (source_in F (source_seen source))) xs) c.as_slice-sources.ensures
    ∙ sym (flat_map-map claims (source_in F) (map source_seen c.sources.result.now) ∙ flat_map-map (λ (source : SourceEntry). claims (source_in F source)) source_seen c.sources.result.now)
    ∙ ap (flat_map claims) c.sources.ensures.is)
