-- What is written so far, and how deep each function goes.
use Rattle.std.proofs.Common.{◌≡◌, ◌++◌, ◌+◌, ◌*◌, max, take, eqb}
use Rattle.mo_pieces.specs.Gathered.{gathered}
use Rattle.mo_pieces.specs.Lines.{lines_of}
use Rattle.mo_pieces.specs.ShownEquations.{branches_of, pieces_of_statement}
use Rattle.mo_unparse.proofs.Depths.{depth_of_statements, depth_under_statements}
use Rattle.mo_unparse.proofs.statement.+statements.Given as goal

abbrev pub invariant-write_statements-loop-statement : goal.invariant-write_statements-loop-statement
invariant-write_statements-loop-statement l = gathered l.out ≡ gathered l.initial.out ++ lines_of pieces_of_statement (take l.statement-index l.statements)

abbrev pub invariant-write_branches-loop-branch : goal.invariant-write_branches-loop-branch
invariant-write_branches-loop-branch l =
    (gathered l.out ≡ gathered l.initial.out ++ branches_of l.word l.other pieces_of_statement (take l.branch-index l.branches)) × (l.first ≡ eqb l.branch-index 0)

abbrev pub decreases-write_statement : goal.decreases-write_statement
decreases-write_statement l = 9 * goal.size-write_statement l + 1

abbrev pub decreases-write_statements : goal.decreases-write_statements
decreases-write_statements l = 9 * goal.size-write_statements l + 2

abbrev pub decreases-write_block : goal.decreases-write_block
decreases-write_block l = 9 * goal.size-write_block l + 3

abbrev pub decreases-write_branch : goal.decreases-write_branch
decreases-write_branch l = 9 * depth_of_statements l.statements.now + 4

abbrev pub decreases-write_branches : goal.decreases-write_branches
decreases-write_branches l = 9 * depth_under_statements l.branches.now + 5

abbrev pub decreases-write_else : goal.decreases-write_else
decreases-write_else l = 9 * goal.size-write_else l + 4

abbrev pub decreases-write_if : goal.decreases-write_if
decreases-write_if l = 9 * max (depth_under_statements l.branches.now) (depth_of_statements l.others.now) + 6

abbrev pub decreases-write_when : goal.decreases-write_when
decreases-write_when l = 9 * depth_under_statements l.branches.now + 6

abbrev pub decreases-write_for : goal.decreases-write_for
decreases-write_for l = 9 * depth_of_statements l.statements.now + 6

abbrev pub decreases-write_while : goal.decreases-write_while
decreases-write_while l = 9 * depth_of_statements l.statements.now + 6
