-- Every redeclaration wins at first, and no source gives nothing.
use Rattle.std.proofs.Common.{Bool, List, length, map, true, ap, sym, ◌∙◌}
use Rattle.std.proofs.lemmas.List.{drop_all, length-map}
use Rattle.mo_scope.specs.declared.source.Source.{Source as SourceAt}
use Rattle.mo_scope.specs.steps.Picks.{picked_with}
use Rattle.mo_scope.specs.Sights.{source_seen}
use Rattle.mo_scope.specs.Worlds.{sources_in}
use Rattle.mo_scope.proofs.PathPicking.{all_win, nothing_picked}
use Rattle.mo_scope.proofs.pick_path.pick.Goals as goal

pub loop-source-init : goal.loop-source-init
loop-source-init c = record {
  is = λ frames table.
      let all = sources_in frames (map source_seen c.args.sources.now) in
      ap (λ (wins : List Bool). picked_with table wins all c.args.path.now) c.win_all.ensures
      ∙ all_win table c.args.work.now all c.args.path.now;
  size = ap length c.win_all.ensures ∙ length-map c.args.work.now (λ before. true) ∙ c.requires;
}

pub returns : goal.returns
returns c = λ frames table.
    sym (nothing_picked table c.loop-source.work c.args.path.now)
    ∙ ap (λ (xs : List SourceAt). picked_with table c.loop-source.work (sources_in frames (map source_seen xs)) c.args.path.now) (sym (drop_all c.loop-source.source-index c.args.sources.now c.loop-source-test.false))
    ∙ c.loop-source.invariant.is frames table
