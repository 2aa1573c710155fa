-- One more item, for each loop.
use Rattle.std.proofs.Common.{refl, arith}
use Rattle.mo_grammar.specs.Lexeme.{lexemes}
use Rattle.mo_grammar.specs.Codes.{comma, semicolon, dot, or_word, and_word}
use Rattle.mo_grammar.specs.Grammar.{symbol}
use Rattle.mo_grammar.specs.Forms.{behind, optional}
use Rattle.mo_grammar.specs.Symbols.{Expressions, Conjunctions, Negations}
use Rattle.mo_grammar.specs.Expressions.{further_branch, further_term, further_factor, exprs, part, subscript, named, index}
use Rattle.mo_grammar.specs.Language.{limits_inside}
use Rattle.mo_grammar.proofs.Loops.{turn}
use Rattle.mo_read_expr.proofs.ArgumentLoops.{plain_turn, named_done}
use Rattle.mo_read_expr.proofs.+readers.Goals as goal

pub expressions::further_branches-each-preserved : goal.expressions::further_branches-each-preserved
expressions::further_branches-each-preserved t c = record {
  so_far = turn further_branch refl refl (limits_inside c.args.left) c.each.all _ (lexemes c.each.rest.now) _ _ _ c.each-test.ensures c.in_ok-next.ensures.reads c.in_ok-push.ensures.ok c.each.invariant.so_far;
  no_longer = omega (arith, c.in_ok-next.ensures.shorter, c.each.invariant.no_longer);
}

pub expressions::further_conjunctions-each-preserved : goal.expressions::further_conjunctions-each-preserved
expressions::further_conjunctions-each-preserved t c = record {
  so_far = turn (behind or_word (symbol Conjunctions)) refl refl (limits_inside c.args.left) c.each.all _ (lexemes c.each.rest.now) _ _ _ c.each-test.ensures c.in_ok-next.ensures.reads c.in_ok-push.ensures.ok c.each.invariant.so_far;
  no_longer = omega (arith, c.in_ok-next.ensures.shorter, c.each.invariant.no_longer);
}

pub expressions::further_negations-each-preserved : goal.expressions::further_negations-each-preserved
expressions::further_negations-each-preserved t c = record {
  so_far = turn (behind and_word (symbol Negations)) refl refl (limits_inside c.args.left) c.each.all _ (lexemes c.each.rest.now) _ _ _ c.each-test.ensures c.in_ok-next.ensures.reads c.in_ok-push.ensures.ok c.each.invariant.so_far;
  no_longer = omega (arith, c.in_ok-next.ensures.shorter, c.each.invariant.no_longer);
}

pub expressions::further_terms-each-preserved : goal.expressions::further_terms-each-preserved
expressions::further_terms-each-preserved t c = record {
  so_far = turn further_term refl refl (limits_inside c.args.left) c.each.all _ (lexemes c.each.rest.now) _ _ _ c.each-test.ensures c.in_ok-next.ensures.reads c.in_ok-push.ensures.ok c.each.invariant.so_far;
  no_longer = omega (arith, c.in_ok-next.ensures.shorter, c.each.invariant.no_longer);
}

pub expressions::further_factors-each-preserved : goal.expressions::further_factors-each-preserved
expressions::further_factors-each-preserved t c = record {
  so_far = turn further_factor refl refl (limits_inside c.args.left) c.each.all _ (lexemes c.each.rest.now) _ _ _ c.each-test.ensures c.in_ok-next.ensures.reads c.in_ok-push.ensures.ok c.each.invariant.so_far;
  no_longer = omega (arith, c.in_ok-next.ensures.shorter, c.each.invariant.no_longer);
}

pub primaries::further_outputs-each-preserved : goal.primaries::further_outputs-each-preserved
primaries::further_outputs-each-preserved t c = record {
  so_far = turn (behind comma (optional (symbol Expressions))) refl refl (limits_inside c.args.left) c.each.all _ (lexemes c.each.rest.now) _ _ _ c.each-test.ensures c.in_ok-next.ensures.reads c.in_ok-push.ensures.ok c.each.invariant.so_far;
  no_longer = omega (arith, c.in_ok-next.ensures.shorter, c.each.invariant.no_longer);
}

pub primaries::further_rows-each-preserved : goal.primaries::further_rows-each-preserved
primaries::further_rows-each-preserved t c = record {
  so_far = turn (behind semicolon exprs) refl refl (limits_inside c.args.left) c.each.all _ (lexemes c.each.rest.now) _ _ _ c.each-test.ensures c.in_ok-next.ensures.reads c.in_ok-push.ensures.ok c.each.invariant.so_far;
  no_longer = omega (arith, c.in_ok-next.ensures.shorter, c.each.invariant.no_longer);
}

pub primaries::further_expressions-each-preserved : goal.primaries::further_expressions-each-preserved
primaries::further_expressions-each-preserved t c = record {
  so_far = turn (behind comma (symbol Expressions)) refl refl (limits_inside c.args.left) c.each.all _ (lexemes c.each.rest.now) _ _ _ c.each-test.ensures c.in_ok-next.ensures.reads c.in_ok-push.ensures.ok c.each.invariant.so_far;
  no_longer = omega (arith, c.in_ok-next.ensures.shorter, c.each.invariant.no_longer);
}

pub references::further_parts-each-preserved : goal.references::further_parts-each-preserved
references::further_parts-each-preserved t c = record {
  so_far = turn (behind dot part) refl refl (limits_inside c.args.left) c.each.all _ (lexemes c.each.rest.now) _ _ _ c.each-test.ensures c.in_ok-next.ensures.reads c.in_ok-push.ensures.ok c.each.invariant.so_far;
  no_longer = omega (arith, c.in_ok-next.ensures.shorter, c.each.invariant.no_longer);
}

pub references::further_subscripts-each-preserved : goal.references::further_subscripts-each-preserved
references::further_subscripts-each-preserved t c = record {
  so_far = turn (behind comma subscript) refl refl (limits_inside c.args.left) c.each.all _ (lexemes c.each.rest.now) _ _ _ c.each-test.ensures c.in_ok-next.ensures.reads c.in_ok-push.ensures.ok c.each.invariant.so_far;
  no_longer = omega (arith, c.in_ok-next.ensures.shorter, c.each.invariant.no_longer);
}

pub arguments::further_named-each-preserved : goal.arguments::further_named-each-preserved
arguments::further_named-each-preserved t c = record {
  so_far = turn (behind comma named) refl refl (limits_inside c.args.left) c.each.all _ (lexemes c.each.rest.now) _ _ _ c.each-test.ensures c.in_ok-next.ensures.reads c.in_ok-push.ensures.ok c.each.invariant.so_far;
  no_longer = omega (arith, c.in_ok-next.ensures.shorter, c.each.invariant.no_longer);
}

pub arguments::further_indices-each-preserved : goal.arguments::further_indices-each-preserved
arguments::further_indices-each-preserved t c = record {
  so_far = turn (behind comma index) refl refl (limits_inside c.args.left) c.each.all _ (lexemes c.each.rest.now) _ _ _ c.each-test.ensures c.in_ok-next.ensures.reads c.in_ok-push.ensures.ok c.each.invariant.so_far;
  no_longer = omega (arith, c.in_ok-next.ensures.shorter, c.each.invariant.no_longer);
}

pub arguments::more_arguments-each-preserved : goal.arguments::more_arguments-each-preserved
arguments::more_arguments-each-preserved t c = record {
  so_far = plain_turn (limits_inside c.args.left) c.each.plain _ (lexemes c.each.rest.now) _ (lexemes c.in_ok-next.behind.now) _ _ _ c.each-test.ensures c.in_ok-next.ensures.reads c.if-not-is_next.ensures c.in_ok-behind.ensures.reads c.in_ok-push.ensures.ok c.each.invariant.so_far;
  no_longer = omega (arith, c.in_ok-next.ensures.shorter, c.in_ok-behind.ensures.shorter, c.each.invariant.no_longer);
}

pub arguments::more_arguments-returns-clause-reads : goal.arguments::more_arguments-returns-clause-reads
arguments::more_arguments-returns-clause-reads t c = named_done (limits_inside c.args.left) c.each.plain (lexemes c.each.rest.now) c.in_ok-named.named _ _ c.each-test.ensures c.in_ok-named.ensures.reads c.each.invariant.so_far
