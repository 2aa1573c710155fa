-- Nothing is asked where no index is pending.
use Rattle.std.proofs.Common.{sym, ◌∙◌, ap}
use Rattle.mo_scope.specs.Frames.{at_of}
use Rattle.mo_scope.specs.Worlds.{frame_at}
use Rattle.mo_equations.specs.steps.Standing.{tree_in}
use Rattle.mo_equations.specs.Leaves.{sizes_along}
use Rattle.mo_equations.specs.Variables.{indices_if, indices_of}
use Rattle.mo_equations.proofs.Declares.{none_fit, ranges_fit}
use Rattle.mo_equations.proofs.variables.ranges_of.Goals as goal

pub returns-then-is_empty : goal.returns-then-is_empty
returns-then-is_empty c = λ variable at. none_fit c.args.chosen.now.value.now.place c.args.chosen.now.pending _ _ _ _ (c.is_empty.ensures.0 c.if-is_empty.true)

pub returns : goal.returns
returns c = λ variable at.
    let tree = tree_in c.args.s.now c.args.leaves.now in
    ranges_fit c.args.chosen.now.value.now.place c.args.chosen.now.pending c.in_ok-before.before (indices_if (at_of (frame_at c.args.s.now c.args.chosen.now.scope.frame.0)))
    c.in_ok-indices.indices (indices_of variable.instance.path) c.in_ok-sizes.sizes (sizes_along tree variable.instance.path)
    c.in_ok-before.ensures (c.in_ok-indices.ensures ∙ ap indices_of (c.as_slice.ensures ∙ sym at)) (c.in_ok-sizes.ensures ∙ ap (sizes_along tree) (c.as_slice-2.ensures ∙ sym at))
