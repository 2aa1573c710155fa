-- One source after another.
use Rattle.std.proofs.Common.{[], List, flat_map, map, ap, sym, ◌∙◌}
use Rattle.std.proofs.lemmas.List.Folds.{flat_map-map}
use Rattle.mo_scope.specs.declared.source.Source.{Source as SourceAt}
use Rattle.mo_scope.specs.Frames.{Source}
use Rattle.mo_scope.specs.Sights.{source_seen}
use Rattle.mo_scope.specs.Spoken.{spoken_of}
use Rattle.mo_scope.specs.Worlds.{SourceEntry, frames_of, source_in, sources_in, table_in}
use Rattle.mo_scope.proofs.Sayings.{gathered_more, gathered_all, flat_map_flat_map}
use Rattle.mo_redeclare.specs.steps.Sights.{named_seen}
use Rattle.mo_redeclare.specs.steps.Comparing.{redeclares_in, redeclares_of}
use Rattle.mo_redeclare.proofs.Speaking.{source_exists}
use Rattle.mo_redeclare.proofs.spoken.redeclared_in.Goals as goal

pub add_source-requires-clause-scope : goal.add_source-requires-clause-scope
add_source-requires-clause-scope c =
    source_exists c.args.s.now c.as_slice-sources.result.now c.sources.result.now c.loop-source.source-index c.source-item.result c.as_slice-sources.ensures c.sources.ensures.exist c.loop-source-test.true c.source-item.is

pub loop-source-preserved : goal.loop-source-preserved
loop-source-preserved c =
    let F = frames_of c.args.s.now in
    record {
      are = gathered_more (λ (source : SourceAt). redeclares_in (spoken_of (table_in c.args.s.now) (source_in F (source_seen source))))
          [] (map (named_seen F) c.loop-source.made) (map (named_seen F) c.add_source.new.made)
          c.as_slice-sources.result.now c.loop-source.source-index c.source-item.result c.loop-source-test.true c.source-item.is c.loop-source.invariant.are c.in_ok-add_source.ensures.are;
      exist = c.in_ok-add_source.ensures.exist;
    }

pub returns-clause-are : goal.returns-clause-are
returns-clause-are c =
    let F = frames_of c.args.s.now in
    let says = λ (source : Source). redeclares_in (spoken_of (table_in c.args.s.now) source) in
    gathered_all (λ (source : SourceAt). says (source_in F (source_seen source))) [] (map (named_seen F) c.loop-source.made) c.as_slice-sources.result.now c.loop-source.source-index c.loop-source-test.false c.loop-source.invariant.are
    ∙ ap (λ (xs : List SourceAt). flat_map (λ (source : SourceAt). says (source_in F (source_seen source))) xs) c.as_slice-sources.ensures
    ∙ sym (flat_map-map says (source_in F) (map source_seen c.sources.result.now) ∙ flat_map-map (λ (source : SourceEntry). says (source_in F source)) source_seen c.sources.result.now)
    ∙ sym (flat_map_flat_map redeclares_of (spoken_of (table_in c.args.s.now)) (sources_in F (map source_seen c.sources.result.now)))
    ∙ ap (λ (xs : List Source). redeclares_in (flat_map (spoken_of (table_in c.args.s.now)) xs)) c.sources.ensures.is
