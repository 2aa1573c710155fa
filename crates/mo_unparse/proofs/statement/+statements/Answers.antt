-- What is written in each turn, and that each call goes deeper.
use Rattle.std.proofs.Common.{arith}
use Rattle.mo_pieces.specs.Gathered.{gathered}
use Rattle.mo_pieces.specs.ShownEquations.{pieces_of_statement}
use Rattle.mo_unparse.proofs.Depths.{statements_below}
use Rattle.mo_unparse.proofs.Rows.{not_first}
use Rattle.mo_unparse.proofs.Listed.{branch_turn}
use Rattle.mo_unparse.proofs.statement.+statements.Goals as goal

pub write_branches-write_branch-requires : goal.write_branches-write_branch-requires
write_branches-write_branch-requires t c =
    let deeper = statements_below c.args.branches.now c.loop-branch.branch-index c.branch-item.result c.as_slice.result.now c.loop-branch-test.true c.branch-item.is c.as_slice.ensures in
    (omega arith, tt)

pub write_branches-loop-branch-preserved : goal.write_branches-loop-branch-preserved
write_branches-loop-branch-preserved t c = (
  branch_turn pieces_of_statement c.args.word.now c.args.other.now c.word_of-begin.result.now c.args.branches.now c.loop-branch.branch-index c.branch-item.result c.as_slice.result.now c.loop-branch.first
      (gathered c.args.out.now) (gathered c.loop-branch.out) (gathered c.line_between.new.out) (gathered c.write_branch.new.out)
      c.loop-branch-test.true c.branch-item.is c.loop-branch.invariant.1 c.loop-branch.invariant.0 c.word_of-begin.ensures c.as_slice.ensures c.in_ok-line_between.ensures c.in_ok-write_branch.ensures,
  not_first _,
)
