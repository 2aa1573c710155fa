-- One more item, for each loop.
use Rattle.std.proofs.Common.{refl, arith}
use Rattle.mo_grammar.specs.Lexeme.{lexemes}
use Rattle.mo_grammar.specs.Language.{limits_inside}
use Rattle.mo_grammar.proofs.Loops.{turn}
use Rattle.mo_read_body.specs.steps.StatementParts.{statement_line, elseif_branch, elsewhen_branch}
use Rattle.mo_read_body.proofs.+statement.Goals as goal

pub algorithms::statements-each-preserved : goal.algorithms::statements-each-preserved
algorithms::statements-each-preserved t c = record {
  so_far = turn statement_line refl refl (limits_inside c.args.left) c.each.all _ (lexemes c.each.rest.now) _ _ _ c.each-test.ensures c.in_ok-next.ensures.reads c.in_ok-push.ensures.ok c.each.invariant.so_far;
  no_longer = omega (arith, c.in_ok-next.ensures.shorter, c.each.invariant.no_longer);
}

pub nested_statements::elseif_branches-each-preserved : goal.nested_statements::elseif_branches-each-preserved
nested_statements::elseif_branches-each-preserved t c = record {
  so_far = turn elseif_branch refl refl (limits_inside c.args.left) c.each.all _ (lexemes c.each.rest.now) _ _ _ c.each-test.ensures c.in_ok-next.ensures.reads c.in_ok-push.ensures.ok c.each.invariant.so_far;
  no_longer = omega (arith, c.in_ok-next.ensures.shorter, c.each.invariant.no_longer);
}

pub nested_statements::elsewhen_branches-each-preserved : goal.nested_statements::elsewhen_branches-each-preserved
nested_statements::elsewhen_branches-each-preserved t c = record {
  so_far = turn elsewhen_branch refl refl (limits_inside c.args.left) c.each.all _ (lexemes c.each.rest.now) _ _ _ c.each-test.ensures c.in_ok-next.ensures.reads c.in_ok-push.ensures.ok c.each.invariant.so_far;
  no_longer = omega (arith, c.in_ok-next.ensures.shorter, c.each.invariant.no_longer);
}
