-- One more equation, and what follows the last.
use Rattle.std.proofs.Common.{arith}
use Rattle.mo_grammar.specs.Codes.{semicolon}
use Rattle.mo_grammar.specs.Lexeme.{lexemes}
use Rattle.mo_grammar.specs.Grammar.{symbol}
use Rattle.mo_grammar.specs.Forms.{before}
use Rattle.mo_grammar.specs.Symbols.{EquationItems, Sections, SectionEquations}
use Rattle.mo_grammar.specs.Language.{reads, reads_form}
use Rattle.mo_grammar.specs.Answers.{with_rest}
use Rattle.mo_parse_class.specs.steps.Parts.{before_sections}
use Rattle.mo_parse_class.proofs.Passed.{stuck_passed, stuck_there}
use Rattle.mo_class_heads.specs.Left.{limits}
use Rattle.mo_parse_class.proofs.SectionLists.{equations_turn, equations_done, equations_stuck}
use Rattle.mo_parse_class.proofs.sections.section_equations.Goals as goal

pub each-preserved : goal.each-preserved
each-preserved c = record {
  so_far = equations_turn (limits c.args.left) c.each.all _ (lexemes c.each.rest.now) _ _ _ c.each-test.ensures c.in_ok-equation.ensures.reads c.in_ok-push.ensures.ok c.each.invariant.so_far;
  no_longer = omega (arith, c.in_ok-equation.ensures.shorter, c.each.invariant.no_longer);
}

pub returns-clause-reads : goal.returns-clause-reads
returns-clause-reads c = equations_done (limits c.args.left) c.each.all (lexemes c.each.rest.now) _ c.each-test.ensures c.each.invariant.so_far

pub returns-in_err-equation-clause-reads : goal.returns-in_err-equation-clause-reads
returns-in_err-equation-clause-reads c =
    stuck_passed (λ x. before_sections x.0 (reads Sections (limits c.args.left) (lexemes x.1.now))) c.from_residual.result c.in_err-equation.field-0.0 (reads SectionEquations (limits c.args.left) (lexemes c.args.tokens.now)) c.from_residual.ensures.0 c.from_residual.ensures.1
    (λ fault stop is. equations_stuck (limits c.args.left) c.each.all (lexemes c.each.rest.now) fault (lexemes stop.now) _ c.each-test.ensures
    (stuck_there with_rest c.in_err-equation.field-0.0 (reads_form (before (symbol EquationItems) semicolon) (limits c.args.left) (lexemes c.each.rest.now)) c.in_err-equation.ensures.reads fault stop is) c.each.invariant.so_far)
