-- The frames of the sources exist.
use Rattle.std.proofs.Common.{List, map, ap, sym, subst, ◌∙◌}
use Rattle.std.proofs.lemmas.Result.{IfOk-weaker}
use Rattle.mo_scope.specs.declared.source.Source.{Source as SourceAt}
use Rattle.mo_scope.specs.Sights.{source_seen}
use Rattle.mo_scope.specs.Worlds.{AreFrames, frames_of, sources_in, table_in}
use Rattle.mo_mods.specs.Merged.{StandsFor}
use Rattle.mo_mods.specs.Sights.{merged_in}
use Rattle.mo_instance.proofs.leaf.table_of.Goals as goal

pub returns-clause-stands : goal.returns-clause-stands
returns-clause-stands c =
    let F = frames_of c.args.s.now in
    IfOk-weaker c.merged_sources.result _ _
    (λ made stands.
    subst (StandsFor (table_in c.args.s.now) (merged_in F made))
    (ap (λ (sources : List SourceAt). sources_in F (map source_seen sources)) c.as_slice-sources.ensures ∙ c.sources.ensures.is)
    (stands F))
    c.merged_sources.ensures.stands

pub returns-clause-exist : goal.returns-clause-exist
returns-clause-exist c =
    IfOk-weaker c.merged_sources.result _ _
    (λ made exist. exist c.args.s.now (subst (λ (sources : List SourceAt). AreFrames c.args.s.now (map source_seen sources)) (sym c.as_slice-sources.ensures) c.sources.ensures.exist))
    c.merged_sources.ensures.exist
