-- One more identifier.
use Rattle.std.proofs.Common.{refl, arith, ◌∷◌, [], ◌∙◌, ap}
use Rattle.std.proofs.lemmas.List.{map-append}
use Rattle.mo_syntax.specs.Lexeme.{lexeme, lexemes}
use Rattle.mo_grammar.specs.Codes.{ident, comma}
use Rattle.mo_grammar.specs.Grammar.{token}
use Rattle.mo_grammar.specs.Forms.{behind}
use Rattle.mo_grammar.specs.Language.{whole_limits}
use Rattle.mo_grammar.proofs.Loops.{turn}
use Rattle.mo_class_heads.proofs.names.identifiers.Goals as goal

pub loop-rest-preserved : goal.loop-rest-preserved
loop-rest-preserved c = record {
  so_far = turn (behind comma (token (ident ∷ []))) refl refl whole_limits (lexemes c.loop-rest.all) _ (lexemes c.loop-rest.rest.now) _ _ _ c.loop-rest-test.ensures c.in_ok-next.ensures.reads (ap lexemes c.in_ok-push-2.ensures.ok ∙ map-append lexeme c.loop-rest.all _) c.loop-rest.invariant.so_far;
  shorter = omega (arith, c.in_ok-next.ensures.shorter, c.loop-rest.invariant.shorter);
}
