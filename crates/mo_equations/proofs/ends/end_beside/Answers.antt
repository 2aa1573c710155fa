-- The subscripts, then the leaves.
use Rattle.std.proofs.Common.{◌≡◌, List, Err, map, ap, sym, subst, ◌∙◌, rules}
use Rattle.mo_scope.specs.declared.row.Member.{Member as MemberAt}
use Rattle.mo_scope.specs.Places.{Every}
use Rattle.mo_scope.specs.Worlds.{frames_of}
use Rattle.mo_names.specs.Sights.{IsMember}
use Rattle.mo_typing.specs.Indices.{Index}
use Rattle.mo_equations.specs.Ends.{leaves_of}
use Rattle.mo_equations.specs.steps.Standing.{tree_in}
use Rattle.mo_equations.specs.steps.Ends.{elements_in}
use Rattle.mo_equations.proofs.Ended.{beside_made, beside_stops}
use Rattle.mo_equations.proofs.ends.end_beside.Goals as goal

pub returns-in_err-dims : goal.returns-in_err-dims
returns-in_err-dims c =
    let u = c.args.s.now in
    let selected = c.args.selected in
    let stop = c.in_err-dims.field-0.0 in
    let p : c.from_residual.result ≡ Err stop = search rules in
    rw p (beside_stops (tree_in u c.args.desk.now.leaves) c.args.place selected.dims selected.subs (elements_in (frames_of u) selected.elements) c.args.side stop c.in_err-dims.ensures)

pub leaves_of_all-requires : goal.leaves_of_all-requires
leaves_of_all-requires c = record {
  members = subst (Every (λ (element : MemberAt × Index). IsMember c.args.s.now element.0)) (sym c.as_slice.ensures) c.requires.members;
  leaves = c.requires.desk.leaves;
}

pub returns : goal.returns
returns c =
    let u = c.args.s.now in
    let tree = tree_in u c.args.desk.now.leaves in
    let selected = c.args.selected in
    beside_made tree c.args.place selected.dims selected.subs (elements_in (frames_of u) selected.elements) c.args.side c.in_ok-dims.dims c.in_ok-elements.elements c.in_ok-dims.ensures
    (c.in_ok-elements.ensures ∙ ap (λ (es : List (MemberAt × Index)). map (leaves_of tree) (elements_in (frames_of u) es)) c.as_slice.ensures)
