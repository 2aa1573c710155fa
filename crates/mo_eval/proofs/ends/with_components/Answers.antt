use Rattle.std.proofs.Common.{◌<◌, arith, length}
use Rattle.std.proofs.lemmas.Grind.{common_steps}
use Rattle.mo_scope.specs.Worlds.{frames_of, table_in}
use Rattle.mo_eval.specs.Ends.{ended_seen}
use Rattle.mo_eval.specs.steps.Sites.{part_in}
use Rattle.mo_eval.specs.steps.Ending.{selection_of}
use Rattle.mo_eval.specs.steps.Naming.{names_seen}
use Rattle.mo_eval.proofs.Earlier.{seen_as}
use Rattle.mo_eval.proofs.Ending.{with_some}
use Rattle.mo_names.proofs.Later.{grows_refl}
use Rattle.mo_eval.proofs.ends.with_components.Goals as goal

pub returns-clause-there : goal.returns-clause-there
returns-clause-there c = c.or_removed.ensures.there c.selected_elements.new.s c.selected_elements.ensures.there

pub returns-clause-exact : goal.returns-clause-exact
returns-clause-exact c =
    let w = c.args.s.now in
    let table = table_in w in
    let f = part_in w c.args.site.now in
    let frames = frames_of c.selected_elements.new.s in
    let some : 0 < length c.args.names.now = grind (arith, common_steps, c.is_empty.ensures, c.if-is_empty.false) in
    seen_as (ended_seen frames) c.or_removed.result _ _ (with_some table c.args.place f (frames_of w) c.args.names.now some)
    (c.or_removed.ensures.exact frames (selection_of table c.args.place (names_seen f (frames_of w) c.args.names.now)) c.selected_elements.ensures.exact)

pub returns-then-is_empty-clause-grows : goal.returns-then-is_empty-clause-grows
returns-then-is_empty-clause-grows c = grows_refl _
