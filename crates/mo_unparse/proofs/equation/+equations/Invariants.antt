-- What is written so far, and how deep each function goes.
use Rattle.std.proofs.Common.{◌≡◌, ◌++◌, ◌+◌, ◌*◌, max, take, eqb}
use Rattle.mo_pieces.specs.Gathered.{gathered}
use Rattle.mo_pieces.specs.Lines.{lines_of}
use Rattle.mo_pieces.specs.ShownEquations.{branches_of, pieces_of_equation}
use Rattle.mo_unparse.proofs.Depths.{depth_of_equations, depth_under_equations}
use Rattle.mo_unparse.proofs.equation.+equations.Given as goal

abbrev pub invariant-write_equations-loop-equation : goal.invariant-write_equations-loop-equation
invariant-write_equations-loop-equation l = gathered l.out ≡ gathered l.initial.out ++ lines_of pieces_of_equation (take l.equation-index l.equations)

abbrev pub invariant-write_branches-loop-branch : goal.invariant-write_branches-loop-branch
invariant-write_branches-loop-branch l =
    (gathered l.out ≡ gathered l.initial.out ++ branches_of l.word l.other pieces_of_equation (take l.branch-index l.branches)) × (l.first ≡ eqb l.branch-index 0)

abbrev pub decreases-write_equation : goal.decreases-write_equation
decreases-write_equation l = 9 * goal.size-write_equation l + 1

abbrev pub decreases-write_equations : goal.decreases-write_equations
decreases-write_equations l = 9 * goal.size-write_equations l + 2

abbrev pub decreases-write_block : goal.decreases-write_block
decreases-write_block l = 9 * goal.size-write_block l + 3

abbrev pub decreases-write_branch : goal.decreases-write_branch
decreases-write_branch l = 9 * depth_of_equations l.equations.now + 4

abbrev pub decreases-write_branches : goal.decreases-write_branches
decreases-write_branches l = 9 * depth_under_equations l.branches.now + 5

abbrev pub decreases-write_else : goal.decreases-write_else
decreases-write_else l = 9 * goal.size-write_else l + 4

abbrev pub decreases-write_if : goal.decreases-write_if
decreases-write_if l = 9 * max (depth_under_equations l.branches.now) (depth_of_equations l.others.now) + 6

abbrev pub decreases-write_when : goal.decreases-write_when
decreases-write_when l = 9 * depth_under_equations l.branches.now + 6

abbrev pub decreases-write_for : goal.decreases-write_for
decreases-write_for l = 9 * depth_of_equations l.equations.now + 6
