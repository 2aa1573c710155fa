-- The class is entered in the frames around it.
use Rattle.std.proofs.Common.{List, Some, [], ap, map, ◌∙◌}
use Rattle.std.specs.Prelude.{option_map}
use Rattle.std.proofs.lemmas.Result.{IfOk-weaker}
use Rattle.mo_scope.specs.declared.source.Source.{Source as SourceAt}
use Rattle.mo_scope.specs.Entries.{number_of}
use Rattle.mo_scope.specs.Frames.{In, Indexed, Top, gathered}
use Rattle.mo_scope.specs.Sights.{source_seen}
use Rattle.mo_scope.specs.Worlds.{frame_or_top, frames_of, sources_in, table_in}
use Rattle.mo_instance.specs.steps.Roots.{names_seen}
use Rattle.mo_instance.proofs.Rooting.{root_made}
use Rattle.mo_names.proofs.Later.{grows_refl, grows_trans}
use Rattle.mo_instance.proofs.root.root_frame.Goals as goal

pub returns-clause-is : goal.returns-clause-is
returns-clause-is c =
    IfOk-weaker c.enter.result _ _
    (λ frame is row at.
    let T = table_in c.args.s.now in
    let F = frames_of c.enclosing_frame.new.s in
    let outer = frame_or_top F (option_map number_of c.in_ok-outer.outer) in
    is
    ∙ ap (λ (xs : List SourceAt). In c.args.class.0 (gathered (sources_in F (map source_seen xs))) outer (Some c.new.result) Top) c.new-2.ensures
    ∙ ap (λ (path : Indexed). In c.args.class.0 (gathered []) outer (Some path) Top) c.new.ensures
    ∙ root_made T c.args.class.0 row outer (names_seen c.as_slice.result.now) at c.in_ok-outer.ensures.is (ap names_seen c.as_slice.ensures ∙ c.in_ok-path.ensures row at))
    c.enter.ensures.is

pub returns-in_err-path-clause-grows : goal.returns-in_err-path-clause-grows
returns-in_err-path-clause-grows c = grows_refl _

pub returns-clause-grows : goal.returns-clause-grows
returns-clause-grows c = grows_trans _ _ _ c.in_ok-outer.ensures.grows c.enter.ensures.grows
