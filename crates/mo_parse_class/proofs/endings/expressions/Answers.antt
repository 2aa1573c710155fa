-- One more expression.
use Rattle.std.proofs.Common.{refl, arith}
use Rattle.mo_grammar.specs.Lexeme.{lexemes}
use Rattle.mo_grammar.specs.Codes.{comma}
use Rattle.mo_grammar.specs.Grammar.{symbol}
use Rattle.mo_grammar.specs.Forms.{behind}
use Rattle.mo_grammar.specs.Symbols.{Expressions}
use Rattle.mo_grammar.proofs.Loops.{turn}
use Rattle.mo_class_heads.specs.Left.{limits}
use Rattle.mo_parse_class.proofs.endings.expressions.Goals as goal

pub each-preserved : goal.each-preserved
each-preserved c = record {
  so_far = turn (behind comma (symbol Expressions)) refl refl (limits c.args.left) c.each.all _ (lexemes c.each.rest.now) _ _ _ c.each-test.ensures c.in_ok-next.ensures.reads c.in_ok-push-2.ensures.ok c.each.invariant.so_far;
  shorter = omega (arith, c.in_ok-next.ensures.shorter, c.each.invariant.shorter);
}
