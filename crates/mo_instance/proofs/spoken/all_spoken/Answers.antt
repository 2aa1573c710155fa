-- One source after another.
use Rattle.std.proofs.Common.{[], map, sym, ◌∙◌}
use Rattle.std.proofs.lemmas.List.Folds.{flat_map-map}
use Rattle.mo_scope.specs.declared.source.Source.{Source as SourceAt}
use Rattle.mo_scope.specs.Sights.{source_seen}
use Rattle.mo_scope.specs.Worlds.{SourceEntry, source_in, table_in}
use Rattle.mo_scope.proofs.Sayings.{gathered_all, gathered_more}
use Rattle.mo_instance.specs.steps.Speeches.{speech_seen, speeches_of}
use Rattle.mo_instance.proofs.spoken.all_spoken.Goals as goal

pub loop-source-preserved : goal.loop-source-preserved
loop-source-preserved c = λ frames.
    gathered_more (λ (source : SourceAt). speeches_of (table_in c.args.scopes.now) (source_in frames (source_seen source)))
    [] (map speech_seen c.loop-source.made) (map speech_seen c.put_source.new.made)
    c.args.sources.now c.loop-source.source-index c.source-item.result c.loop-source-test.true c.source-item.is (c.loop-source.invariant frames) (c.in_ok-put_source.ensures frames)

pub returns : goal.returns
returns c = λ frames.
    gathered_all (λ (source : SourceAt). speeches_of (table_in c.args.scopes.now) (source_in frames (source_seen source)))
    [] (map speech_seen c.loop-source.made) c.args.sources.now c.loop-source.source-index c.loop-source-test.false (c.loop-source.invariant frames)
    ∙ sym (flat_map-map (speeches_of (table_in c.args.scopes.now)) (source_in frames) (map source_seen c.args.sources.now)
    ∙ flat_map-map (λ (source : SourceEntry). speeches_of (table_in c.args.scopes.now) (source_in frames source)) source_seen c.args.sources.now)
