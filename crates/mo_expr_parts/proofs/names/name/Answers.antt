-- One more identifier.
use Rattle.std.proofs.Common.{refl, arith, ◌∷◌, [], ◌∙◌, ap}
use Rattle.std.proofs.lemmas.List.{map-append}
use Rattle.mo_syntax.specs.Lexeme.{lexeme, lexemes}
use Rattle.mo_grammar.specs.Codes.{ident, dot}
use Rattle.mo_grammar.specs.Grammar.{token}
use Rattle.mo_grammar.specs.Forms.{behind}
use Rattle.mo_grammar.specs.Language.{limits_inside}
use Rattle.mo_grammar.proofs.Loops.{turn}
use Rattle.mo_expr_parts.proofs.names.name.Goals as goal

pub each-preserved : goal.each-preserved
each-preserved c = record {
  so_far = turn (behind dot (token (ident ∷ []))) refl refl (limits_inside c.args._left) (lexemes c.each.all) _ (lexemes c.each.rest.now) _ _ _ c.each-test.ensures c.in_ok-next.ensures.reads (ap lexemes c.in_ok-push-2.ensures.ok ∙ map-append lexeme c.each.all _) c.each.invariant.so_far;
  shorter = omega (arith, c.in_ok-next.ensures.shorter, c.each.invariant.shorter);
}
