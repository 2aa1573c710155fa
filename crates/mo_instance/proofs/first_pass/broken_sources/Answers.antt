-- One source after another.
use Rattle.std.proofs.Common.{List, map, ap, sym, ◌∙◌}
use Rattle.std.specs.Prelude.{option_copied}
use Rattle.std.proofs.lemmas.List.{drop_all}
use Rattle.mo_scope.specs.declared.source.Source.{Source as SourceAt}
use Rattle.mo_scope.specs.Sights.{source_seen}
use Rattle.mo_scope.specs.Worlds.{frame_at, frames_of, sources_in, table_in}
use Rattle.mo_names.specs.Sights.{walk_seen}
use Rattle.mo_names.proofs.Circling.{left_from}
use Rattle.mo_instance.specs.steps.FirstPass.{broken_source, is_replaced_by}
use Rattle.mo_instance.specs.Passes.{first_of_all}
use Rattle.mo_instance.specs.steps.Walks.{walk_or_none}
use Rattle.mo_instance.proofs.Lists.{later_none, later_some}
use Rattle.mo_instance.proofs.first_pass.broken_sources.Goals as goal

pub returns-in-Some : goal.returns-in-Some
returns-in-Some c =
    let F = frames_of c.args.s.now in
    let G = λ (xs : List SourceAt). first_of_all (broken_source (table_in c.args.s.now) (frame_at c.args.s.now c.args.frame.0) (is_replaced_by (walk_or_none F (option_copied c.args.replaced))) (walk_seen F c.args.walk.now)) (sources_in F (map source_seen xs)) in
    later_some _ _ _ c.in-Some.broken (sym c.in-Some.is ∙ c.in_ok-found.ensures) (left_from G c.args.sources.now c.loop-source.source-index c.source-item.result _ c.loop-source-test.true c.source-item.is c.loop-source.invariant)

pub loop-source-preserved : goal.loop-source-preserved
loop-source-preserved c =
    let F = frames_of c.args.s.now in
    let G = λ (xs : List SourceAt). first_of_all (broken_source (table_in c.args.s.now) (frame_at c.args.s.now c.args.frame.0) (is_replaced_by (walk_or_none F (option_copied c.args.replaced))) (walk_seen F c.args.walk.now)) (sources_in F (map source_seen xs)) in
    later_none _ _ _ (sym c.in-None.is ∙ c.in_ok-found.ensures) (left_from G c.args.sources.now c.loop-source.source-index c.source-item.result _ c.loop-source-test.true c.source-item.is c.loop-source.invariant)

pub returns : goal.returns
returns c =
    let F = frames_of c.args.s.now in
    let G = λ (xs : List SourceAt). first_of_all (broken_source (table_in c.args.s.now) (frame_at c.args.s.now c.args.frame.0) (is_replaced_by (walk_or_none F (option_copied c.args.replaced))) (walk_seen F c.args.walk.now)) (sources_in F (map source_seen xs)) in
    ap G (sym (drop_all c.loop-source.source-index c.args.sources.now c.loop-source-test.false)) ∙ c.loop-source.invariant
