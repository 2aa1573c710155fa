-- By what the end names and selects.
use Rattle.std.proofs.Common.{◌≡◌, ℕ, List, [], Some, Ok, Err, ap, sym, subst, ◌∙◌, rules}
use Rattle.mo_flat.specs.declared.connect.End.{End}
use Rattle.mo_flat.specs.declared.connect.Side.TheVariants.{Neither}
use Rattle.mo_scope.specs.Worlds.{frames_of, scope_in}
use Rattle.mo_typing.specs.Outcome.{Gives}
use Rattle.mo_eval.specs.Ends.{ended_seen, first_identifier}
use Rattle.mo_equations.specs.Ends.{no_connector}
use Rattle.mo_equations.specs.steps.Standing.{tree_in}
use Rattle.mo_equations.specs.steps.Ends.{elements_in}
use Rattle.mo_equations.proofs.Ended.{are_elements_later, end_made, end_other, end_refused, end_removed, end_stops, same_end}
use Rattle.mo_equations.proofs.Staying.{desk_grown, desk_later, reads, stays_grown, stays_on}
use Rattle.mo_equations.proofs.ends.end_of.Goals as goal

pub returns-in_err-end-clause-exact : goal.returns-in_err-end-clause-exact
returns-in_err-end-clause-exact c =
    let u = c.args.s.now in
    let v = c.end.new.s in
    let stop = c.in_err-end.field-0.0 in
    let p : c.from_residual.result ≡ Err stop = search rules in
    rw p (end_stops (tree_in u c.args.desk.now.leaves) (scope_in (frames_of u) c.args.at.now.frame.0 c.args.at.now.iters) c.args.reference.now (ended_seen (frames_of v)) stop c.in_err-end.ensures.exact)

pub returns-in-Removed-clause-exact : goal.returns-in-Removed-clause-exact
returns-in-Removed-clause-exact c =
    let u = c.args.s.now in
    end_removed (tree_in u c.args.desk.now.leaves) (scope_in (frames_of u) c.args.at.now.frame.0 c.args.at.now.iters) c.args.reference.now (rw c.in-Removed.is at c.in_ok-end.ensures.exact)

pub returns-in-Other-clause-exact : goal.returns-in-Other-clause-exact
returns-in-Other-clause-exact c =
    let u = c.args.s.now in
    let is = c.end_of_neither.ensures
    ∙ (ap (λ (ds : List ℕ). record { place = c.place_of-place.result; side = Neither; dims = ds; elements = [] }) c.new.ensures ∙ ap no_connector (c.place_of-place.ensures ∙ ap first_identifier c.as_slice.ensures)) in
    end_other (tree_in u c.args.desk.now.leaves) (scope_in (frames_of u) c.args.at.now.frame.0 c.args.at.now.iters) c.args.reference.now (rw c.in-Other.is at c.in_ok-end.ensures.exact)
    ∙ ap (λ (e : End). Ok (Some e)) (sym is)

pub end_with-requires-clause-members : goal.end_with-requires-clause-members
end_with-requires-clause-members c =
    are_elements_later c.end.new.s c.side_of.new.s c.in-Selected.selected.elements c.in_ok-side-in-Selected.ensures.grows (rw c.in-Selected.is at c.in_ok-end.ensures.there)

pub end_with-requires-clause-desk : goal.end_with-requires-clause-desk
end_with-requires-clause-desk c =
    let u = c.args.s.now in
    let v = c.end.new.s in
    desk_grown v c.side_of.new.s (record c.args.desk.now { reader = c.end.new.self }) c.in_ok-side-in-Selected.ensures.grows
    (desk_later u v c.args.desk.now c.end.new.self c.in_ok-end.ensures.grows c.in_ok-end.ensures.kept c.requires.desk)

pub returns-in_err-end_with-in-Selected-clause-stays : goal.returns-in_err-end_with-in-Selected-clause-stays
returns-in_err-end_with-in-Selected-clause-stays c =
    let u = c.args.s.now in
    let v = c.end.new.s in
    let w = c.side_of.new.s in
    let before = c.args.desk.now in
    let after = record before { reader = c.end.new.self } in
    stays_on u v w before after after (reads u v before c.end.new.self c.in_ok-end.ensures.grows c.in_ok-end.ensures.kept c.requires.desk)
    (stays_grown v w after c.in_ok-side-in-Selected.ensures.grows (desk_later u v before c.end.new.self c.in_ok-end.ensures.grows c.in_ok-end.ensures.kept c.requires.desk))

pub returns-in_ok-end_with-in-Selected-clause-stays : goal.returns-in_ok-end_with-in-Selected-clause-stays
returns-in_ok-end_with-in-Selected-clause-stays c =
    let u = c.args.s.now in
    let v = c.end.new.s in
    let w = c.side_of.new.s in
    let before = c.args.desk.now in
    let after = record before { reader = c.end.new.self } in
    stays_on u v w before after after (reads u v before c.end.new.self c.in_ok-end.ensures.grows c.in_ok-end.ensures.kept c.requires.desk)
    (stays_grown v w after c.in_ok-side-in-Selected.ensures.grows (desk_later u v before c.end.new.self c.in_ok-end.ensures.grows c.in_ok-end.ensures.kept c.requires.desk))

pub returns-in_err-end_with-in-Selected-clause-exact : goal.returns-in_err-end_with-in-Selected-clause-exact
returns-in_err-end_with-in-Selected-clause-exact c =
    let u = c.args.s.now in
    let v = c.end.new.s in
    let w = c.side_of.new.s in
    let at = c.args.at.now in
    let reference = c.args.reference.now in
    let selected = c.in-Selected.selected in
    let told = rw c.in-Selected.is at c.in_ok-end.ensures.exact in
    let same = same_end u v w c.args.desk.now.leaves at.frame.0 at.iters reference c.place_of-place.result selected.dims selected.subs selected.elements c.in_ok-side-in-Selected.side c.in_ok-end.ensures.grows
    c.in_ok-side-in-Selected.ensures.grows c.requires.desk.leaves.exist c.requires.frame (rw c.in-Selected.is at c.in_ok-end.ensures.there) (c.place_of-place.ensures ∙ ap first_identifier c.as_slice.ensures)
    c.in_ok-side-in-Selected.ensures.value in
    let stop = c.in_err-end_with-in-Selected.field-0.0 in
    let p : c.from_residual-in_err-end_with-in-Selected.result ≡ Err stop = search rules in
    rw p (end_refused (tree_in u c.args.desk.now.leaves) (scope_in (frames_of u) at.frame.0 at.iters) reference selected.dims selected.subs (elements_in (frames_of v) selected.elements) told stop
    (subst (Gives {T = End} (Err stop)) same c.in_err-end_with-in-Selected.ensures))

pub returns-in_ok-end_with-in-Selected-clause-exact : goal.returns-in_ok-end_with-in-Selected-clause-exact
returns-in_ok-end_with-in-Selected-clause-exact c =
    let u = c.args.s.now in
    let v = c.end.new.s in
    let w = c.side_of.new.s in
    let at = c.args.at.now in
    let reference = c.args.reference.now in
    let selected = c.in-Selected.selected in
    let told = rw c.in-Selected.is at c.in_ok-end.ensures.exact in
    let same = same_end u v w c.args.desk.now.leaves at.frame.0 at.iters reference c.place_of-place.result selected.dims selected.subs selected.elements c.in_ok-side-in-Selected.side c.in_ok-end.ensures.grows
    c.in_ok-side-in-Selected.ensures.grows c.requires.desk.leaves.exist c.requires.frame (rw c.in-Selected.is at c.in_ok-end.ensures.there) (c.place_of-place.ensures ∙ ap first_identifier c.as_slice.ensures)
    c.in_ok-side-in-Selected.ensures.value in
    end_made (tree_in u c.args.desk.now.leaves) (scope_in (frames_of u) at.frame.0 at.iters) reference selected.dims selected.subs (elements_in (frames_of v) selected.elements) told
    c.in_ok-end_with-in-Selected.field-0 (sym same ∙ c.in_ok-end_with-in-Selected.ensures)

pub returns-in_err-end-clause-stays : goal.returns-in_err-end-clause-stays
returns-in_err-end-clause-stays c = reads c.args.s.now c.end.new.s c.args.desk.now c.end.new.self c.in_err-end.ensures.grows c.in_err-end.ensures.kept c.requires.desk

pub returns-in_err-side-in-Selected-clause-stays : goal.returns-in_err-side-in-Selected-clause-stays
returns-in_err-side-in-Selected-clause-stays c =
    let u = c.args.s.now in
    let v = c.end.new.s in
    let w = c.side_of.new.s in
    let before = c.args.desk.now in
    let after = record before { reader = c.end.new.self } in
    stays_on u v w before after after (reads u v before c.end.new.self c.in_ok-end.ensures.grows c.in_ok-end.ensures.kept c.requires.desk)
    (stays_grown v w after c.in_err-side-in-Selected.ensures.grows (desk_later u v before c.end.new.self c.in_ok-end.ensures.grows c.in_ok-end.ensures.kept c.requires.desk))

pub returns-in-Removed-clause-stays : goal.returns-in-Removed-clause-stays
returns-in-Removed-clause-stays c = reads c.args.s.now c.end.new.s c.args.desk.now c.end.new.self c.in_ok-end.ensures.grows c.in_ok-end.ensures.kept c.requires.desk

pub returns-in-Other-clause-stays : goal.returns-in-Other-clause-stays
returns-in-Other-clause-stays c = reads c.args.s.now c.end.new.s c.args.desk.now c.end.new.self c.in_ok-end.ensures.grows c.in_ok-end.ensures.kept c.requires.desk
