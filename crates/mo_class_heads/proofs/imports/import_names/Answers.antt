-- The first identifier, and one more.
use Rattle.std.proofs.Common.{sym, arith, ◌∷◌, ◌++◌, [], ◌∙◌, ap}
use Rattle.std.proofs.lemmas.List.{map-append}
use Rattle.mo_syntax.specs.Lexeme.{lexeme, lexemes}
use Rattle.mo_grammar.specs.Language.{whole_limits, reads_form}
use Rattle.mo_class_heads.specs.Left.{limits}
use Rattle.mo_class_heads.specs.Imports.{import_tail, with_names}
use Rattle.mo_class_heads.proofs.ImportNames.{names_first, names_next}
use Rattle.mo_class_heads.proofs.imports.import_names.Goals as goal

pub loop-rest-init : goal.loop-rest-init
loop-rest-init c = record {
  so_far = ap (λ names. with_names (lexemes names) (reads_form import_tail (limits c.args.left) (lexemes c.in_ok-first.rest.now))) (c.in_ok-push.ensures.ok ∙ ap (λ names. names ++ c.in_ok-first.first ∷ []) c.new-names.ensures) ∙ names_first (limits c.args.left) _ (lexemes c.args.tokens.now) (lexemes c.in_ok-first.rest.now) c.in_ok-first.ensures.reads;
  shorter = c.in_ok-first.ensures.shorter;
}

pub loop-rest-preserved : goal.loop-rest-preserved
loop-rest-preserved c = record {
  so_far = ap (λ names. with_names names (reads_form import_tail (limits c.args.left) (lexemes c.in_ok-next.behind.now))) (ap lexemes c.in_ok-push-2.ensures.ok ∙ map-append lexeme c.loop-rest.names _) ∙ sym (names_next (limits c.args.left) whole_limits (lexemes c.loop-rest.names) (lexemes c.loop-rest.rest.now) _ (lexemes c.in_ok-next.behind.now) (sym c.loop-rest-test.ensures) c.in_ok-next.ensures.reads) ∙ c.loop-rest.invariant.so_far;
  shorter = omega (arith, c.in_ok-next.ensures.shorter, c.loop-rest.invariant.shorter);
}
