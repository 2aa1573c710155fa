-- One more component.
use Rattle.std.proofs.Common.{refl, arith}
use Rattle.mo_grammar.specs.Lexeme.{lexemes}
use Rattle.mo_grammar.specs.Codes.{comma}
use Rattle.mo_grammar.specs.Grammar.{made}
use Rattle.mo_grammar.specs.Forms.{behind}
use Rattle.mo_grammar.specs.Classes.{component, components}
use Rattle.mo_grammar.proofs.Loops.{turn}
use Rattle.mo_class_heads.specs.Left.{limits}
use Rattle.mo_parse_class.specs.steps.Parts.{what_of}
use Rattle.mo_grammar.specs.ClassTrees.{whats_of_components}
use Rattle.mo_grammar.specs.Language.{reads_form}
use Rattle.mo_grammar.specs.Answers.{with_rest}
use Rattle.mo_parse_class.proofs.Passed.{stuck_passed, stuck_there}
use Rattle.mo_parse_class.proofs.Mapped.{list_begins, list_ends, list_stuck}
use Rattle.mo_parse_class.proofs.components.components.Goals as goal

pub each-preserved : goal.each-preserved
each-preserved c = record {
  so_far = λ h behind_head e. turn (behind comma (made (what_of h) component)) refl refl (limits c.args.left) c.each.all _ (lexemes c.each.rest.now) _ _ _ c.each-test.ensures (c.in_ok-next.ensures.reads h behind_head e) c.in_ok-push-2.ensures.ok (c.each.invariant.so_far h behind_head e);
  shorter = omega (arith, c.in_ok-next.ensures.shorter, c.each.invariant.shorter);
}

pub each-init : goal.each-init
each-init c = record {
  so_far = list_begins (limits c.args.left) (lexemes c.args.tokens.now) _ (lexemes c.in_ok-rest.rest.now) _ _ _ _ c.in_ok-rest.ensures.reads c.in_ok-first.ensures.reads c.in_ok-push.ensures.ok c.new-all.ensures;
  shorter = omega (arith, c.in_ok-rest.ensures.shorter, c.in_ok-first.ensures.shorter);
}

pub returns-clause-reads : goal.returns-clause-reads
returns-clause-reads c = list_ends (limits c.args.left) (lexemes c.args.tokens.now) _ (lexemes c.in_ok-rest.rest.now) c.each.all (lexemes c.each.rest.now) c.in_ok-rest.ensures.reads c.each.invariant.so_far c.each-test.ensures

pub returns-in_err-next-clause-reads : goal.returns-in_err-next-clause-reads
returns-in_err-next-clause-reads c =
    stuck_passed with_rest c.from_residual-in_err-next.result c.in_err-next.field-0.0 (reads_form (made whats_of_components components) (limits c.args.left) (lexemes c.args.tokens.now)) c.from_residual-in_err-next.ensures.0 c.from_residual-in_err-next.ensures.1
    (λ fault stop is. list_stuck (limits c.args.left) (lexemes c.args.tokens.now) _ (lexemes c.in_ok-rest.rest.now) c.each.all (lexemes c.each.rest.now) fault (lexemes stop.now) c.in_ok-rest.ensures.reads c.each.invariant.so_far c.each-test.ensures
    (λ h u e. stuck_there with_rest c.in_err-next.field-0.0 (reads_form (behind comma (made (what_of h) component)) (limits c.args.left) (lexemes c.each.rest.now)) (c.in_err-next.ensures.reads h u e) fault stop is))
