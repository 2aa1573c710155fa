-- One more argument, and one more literal.
use Rattle.std.proofs.Common.{refl, arith}
use Rattle.mo_grammar.specs.Lexeme.{lexemes}
use Rattle.mo_grammar.specs.Codes.{comma}
use Rattle.mo_grammar.specs.Grammar.{symbol}
use Rattle.mo_grammar.specs.Forms.{behind}
use Rattle.mo_grammar.specs.Symbols.{ModArguments}
use Rattle.mo_grammar.specs.Language.{limits_inside}
use Rattle.mo_grammar.proofs.Loops.{turn}
use Rattle.mo_read_body.specs.steps.Parts.{literal}
use Rattle.mo_read_body.proofs.+modification.Goals as goal

pub modifications::listed_arguments-each-preserved : goal.modifications::listed_arguments-each-preserved
modifications::listed_arguments-each-preserved t c = record {
  so_far = turn (behind comma (symbol ModArguments)) refl refl (limits_inside c.args.left) c.each.all _ (lexemes c.each.rest.now) _ _ _ c.each-test.ensures c.in_ok-next.ensures.reads c.in_ok-push-2.ensures.ok c.each.invariant.so_far;
  shorter = omega (arith, c.in_ok-next.ensures.shorter, c.each.invariant.shorter);
}

pub short_classes::literals-each-preserved : goal.short_classes::literals-each-preserved
short_classes::literals-each-preserved t c = record {
  so_far = turn (behind comma literal) refl refl (limits_inside c.args.left) c.each.all _ (lexemes c.each.rest.now) _ _ _ c.each-test.ensures c.in_ok-next.ensures.reads c.in_ok-push-2.ensures.ok c.each.invariant.so_far;
  shorter = omega (arith, c.in_ok-next.ensures.shorter, c.each.invariant.shorter);
}
