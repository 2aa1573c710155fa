-- One more string.
use Rattle.std.proofs.Common.{refl, arith, ◌∷◌, []}
use Rattle.mo_grammar.specs.Lexeme.{lexemes}
use Rattle.mo_grammar.specs.Codes.{string, plus}
use Rattle.mo_grammar.specs.Grammar.{token}
use Rattle.mo_grammar.specs.Forms.{behind}
use Rattle.mo_grammar.specs.Language.{whole_limits}
use Rattle.mo_class_heads.proofs.Untraced.{untraced_turn}
use Rattle.mo_class_heads.proofs.prefixes.strings.Goals as goal

pub loop-rest-preserved : goal.loop-rest-preserved
loop-rest-preserved c = record {
  so_far = untraced_turn (behind plus (token (string ∷ []))) refl refl whole_limits (lexemes c.loop-rest.rest.now) _ _ _ c.loop-rest-test.ensures c.in_ok-behind.ensures.reads c.loop-rest.invariant.so_far;
  shorter = omega (arith, c.in_ok-behind.ensures.shorter, c.loop-rest.invariant.shorter);
}
