-- One more equation or branch, for each loop.
use Rattle.std.proofs.Common.{sym, ◌∙◌, arith}
use Rattle.mo_grammar.specs.Lexeme.{lexemes}
use Rattle.mo_grammar.specs.Language.{limits_inside}
use Rattle.mo_read_body.proofs.Listing.{for_turn, else_turn, when_turn, if_turn, branch_turn_when, branch_turn_if, for_done, else_done, when_done, if_done, branches_done_when, branches_done_if}
use Rattle.mo_read_body.proofs.+equation.Goals as goal

pub equations::for_equations-each-preserved : goal.equations::for_equations-each-preserved
equations::for_equations-each-preserved t c = record {
  so_far = for_turn (limits_inside c.args.left) c.each.all _ (lexemes c.each.rest.now) _ _ _ (sym c.each-test.true ∙ c.are_next.ensures) c.in_ok-next.ensures.reads c.in_ok-push.ensures.ok c.each.invariant.so_far;
  no_longer = omega (arith, c.in_ok-next.ensures.shorter, c.each.invariant.no_longer);
}

pub if_equations::else_equations-each-preserved : goal.if_equations::else_equations-each-preserved
if_equations::else_equations-each-preserved t c = record {
  so_far = else_turn (limits_inside c.args.left) c.each.all _ (lexemes c.each.rest.now) _ _ _ (sym c.each-test.true ∙ c.are_next.ensures) c.in_ok-next.ensures.reads c.in_ok-push.ensures.ok c.each.invariant.so_far;
  no_longer = omega (arith, c.in_ok-next.ensures.shorter, c.each.invariant.no_longer);
}

pub if_equations::if_equations-each-preserved : goal.if_equations::if_equations-each-preserved
if_equations::if_equations-each-preserved t c = record {
  so_far = if_turn (limits_inside c.args.left) c.each.all _ (lexemes c.each.rest.now) _ _ _ (sym c.each-test.true ∙ c.ends_if_branch.ensures) c.in_ok-next.ensures.reads c.in_ok-push.ensures.ok c.each.invariant.so_far;
  no_longer = omega (arith, c.in_ok-next.ensures.shorter, c.each.invariant.no_longer);
}

pub when_equations::when_equations-each-preserved : goal.when_equations::when_equations-each-preserved
when_equations::when_equations-each-preserved t c = record {
  so_far = when_turn (limits_inside c.args.left) c.each.all _ (lexemes c.each.rest.now) _ _ _ (sym c.each-test.true ∙ c.ends_when_branch.ensures) c.in_ok-next.ensures.reads c.in_ok-push.ensures.ok c.each.invariant.so_far;
  no_longer = omega (arith, c.in_ok-next.ensures.shorter, c.each.invariant.no_longer);
}

pub when_equations::when_branches-each-preserved : goal.when_equations::when_branches-each-preserved
when_equations::when_branches-each-preserved t c = record {
  so_far = branch_turn_when (limits_inside c.args.left) c.each.all _ (lexemes c.each.rest.now) _ _ _ c.each-test.ensures c.in_ok-next.ensures.reads c.in_ok-push-2.ensures.ok c.each.invariant.so_far;
  shorter = omega (arith, c.in_ok-next.ensures.shorter, c.each.invariant.shorter);
}

pub if_equations::if_branches-each-preserved : goal.if_equations::if_branches-each-preserved
if_equations::if_branches-each-preserved t c = record {
  so_far = branch_turn_if (limits_inside c.args.left) c.each.all _ (lexemes c.each.rest.now) _ _ _ c.each-test.ensures c.in_ok-next.ensures.reads c.in_ok-push-2.ensures.ok c.each.invariant.so_far;
  shorter = omega (arith, c.in_ok-next.ensures.shorter, c.each.invariant.shorter);
}

pub equations::for_equations-returns-clause-reads : goal.equations::for_equations-returns-clause-reads
equations::for_equations-returns-clause-reads t c = for_done (limits_inside c.args.left) c.each.all (lexemes c.each.rest.now) _ _ _ _ _ (sym c.each-test.false ∙ c.are_next.ensures) c.in_ok-rest.ensures.reads c.in_ok-rest-2.ensures.reads c.each.invariant.so_far

pub if_equations::else_equations-returns-clause-reads : goal.if_equations::else_equations-returns-clause-reads
if_equations::else_equations-returns-clause-reads t c = else_done (limits_inside c.args.left) c.each.all (lexemes c.each.rest.now) _ _ _ _ _ (sym c.each-test.false ∙ c.are_next.ensures) c.in_ok-rest.ensures.reads c.in_ok-rest-2.ensures.reads c.each.invariant.so_far

pub if_equations::if_equations-returns-clause-reads : goal.if_equations::if_equations-returns-clause-reads
if_equations::if_equations-returns-clause-reads t c = if_done (limits_inside c.args.left) c.each.all (lexemes c.each.rest.now) _ (sym c.each-test.false ∙ c.ends_if_branch.ensures) c.each.invariant.so_far

pub when_equations::when_equations-returns-clause-reads : goal.when_equations::when_equations-returns-clause-reads
when_equations::when_equations-returns-clause-reads t c = when_done (limits_inside c.args.left) c.each.all (lexemes c.each.rest.now) _ (sym c.each-test.false ∙ c.ends_when_branch.ensures) c.each.invariant.so_far

pub when_equations::when_branches-returns-clause-reads : goal.when_equations::when_branches-returns-clause-reads
when_equations::when_branches-returns-clause-reads t c = branches_done_when (limits_inside c.args.left) c.each.all (lexemes c.each.rest.now) _ _ _ _ _ c.each-test.ensures c.in_ok-rest.ensures.reads c.in_ok-rest-2.ensures.reads c.each.invariant.so_far

pub if_equations::if_branches-returns-clause-reads : goal.if_equations::if_branches-returns-clause-reads
if_equations::if_branches-returns-clause-reads t c = branches_done_if (limits_inside c.args.left) c.each.all (lexemes c.each.rest.now) _ _ _ c.each-test.ensures c.in_ok-otherwise.ensures.reads c.each.invariant.so_far
