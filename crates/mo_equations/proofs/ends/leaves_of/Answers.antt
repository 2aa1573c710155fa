-- By the path of the element.
use Rattle.std.proofs.Common.{ap, sym, ◌∙◌}
use Rattle.mo_scope.specs.Frames.{at_of}
use Rattle.mo_scope.specs.Names.{path_below}
use Rattle.mo_scope.specs.Worlds.{frame_at, frames_of}
use Rattle.mo_scope.specs.Sights.{member_seen}
use Rattle.mo_names.specs.Sights.{member_of}
use Rattle.mo_equations.specs.Connectors.{leaves_below}
use Rattle.mo_equations.specs.steps.Standing.{tree_in}
use Rattle.mo_equations.proofs.Ended.{leaves_at_path, leaves_nowhere}
use Rattle.mo_equations.proofs.Making.{if_ok}
use Rattle.mo_equations.proofs.ends.leaves_of.Goals as goal

pub returns-in-Some : goal.returns-in-Some
returns-in-Some c =
    let u = c.args.s.now in
    let tree = tree_in u c.args.leaves.now in
    let element = c.args.element.now in
    let told = ap (path_below (at_of (frame_at u element.0.home.0)) (member_seen element.0).name) (sym c.as_slice.ensures) ∙ (sym c.in_ok-path.ensures ∙ c.in-Some.is) in
    if_ok c.leaves_below.result
    (λ made h. h ∙ (ap (leaves_below tree) c.as_slice-in-Some.ensures ∙ sym (leaves_at_path tree (member_of (frames_of u) element.0, element.1) c.in-Some.path told)))
    c.leaves_below.ensures

pub returns-in-None : goal.returns-in-None
returns-in-None c =
    let u = c.args.s.now in
    let tree = tree_in u c.args.leaves.now in
    let element = c.args.element.now in
    let told = ap (path_below (at_of (frame_at u element.0.home.0)) (member_seen element.0).name) (sym c.as_slice.ensures) ∙ (sym c.in_ok-path.ensures ∙ c.in-None.is) in
    c.new.ensures ∙ sym (leaves_nowhere tree (member_of (frames_of u) element.0, element.1) told)
