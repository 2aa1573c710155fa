-- Elements and sections, one after another.
use Rattle.std.proofs.Common.{◌≡◌, Bool, true, false, List, [], None, refl, sym, ap, subst, ◌∙◌, arith}
use Rattle.std.specs.Borrow.{Bor}
use Rattle.mo_syntax.specs.declared.token.Token.{Token}
use Rattle.mo_syntax.specs.declared.class.ElementFlags.{ElementFlags}
use Rattle.mo_grammar.specs.Codes.{semicolon}
use Rattle.mo_grammar.specs.Lexeme.{lexemes}
use Rattle.mo_grammar.specs.Grammar.{symbol}
use Rattle.mo_grammar.specs.Forms.{before}
use Rattle.mo_grammar.specs.Symbols.{ElementItems, Compositions, Sections}
use Rattle.mo_grammar.specs.Reading.{read}
use Rattle.mo_grammar.specs.Language.{reads, reads_form}
use Rattle.mo_grammar.specs.Answers.{with_rest}
use Rattle.mo_class_heads.specs.Left.{limits}
use Rattle.mo_parse_class.specs.steps.Parts.{element_list, closing, limit}
use Rattle.mo_parse_class.proofs.ElementLists.{elements_turn, elements_stuck, gives_items}
use Rattle.mo_parse_class.proofs.Members.{members_limited, members_kept}
use Rattle.mo_parse_class.proofs.SectionLists.{public_is, protected_is}
use Rattle.mo_parse_class.proofs.Compositions.{elements_done, composition_begins, composition_stuck, sections_end, end_stuck}
use Rattle.mo_parse_class.proofs.Passed.{stuck_passed, stuck_there}
use Rattle.mo_parse_class.proofs.+classes.Goals as goal

pub elements::elements-each-preserved : goal.elements::elements-each-preserved
elements::elements-each-preserved t c = record {
  so_far = elements_turn c.args.hidden (limits c.args.left) c.each.all _ (lexemes c.each.rest.now) _ _ _ c.each-test.ensures c.in_ok-items.ensures.reads c.in_ok-append.ensures.ok c.each.invariant.so_far;
  no_longer = omega (arith, c.in_ok-items.ensures.shorter, c.each.invariant.no_longer);
}

pub elements::elements-returns-in_err-items-clause-reads : goal.elements::elements-returns-in_err-items-clause-reads
elements::elements-returns-in_err-items-clause-reads t c =
    stuck_passed with_rest c.from_residual.result c.in_err-items.field-0.0 (reads_form (element_list c.args.hidden) (limits c.args.left) (lexemes c.args.tokens.now)) c.from_residual.ensures.0 c.from_residual.ensures.1
    (λ fault stop is. elements_stuck c.args.hidden (limits c.args.left) c.each.all (lexemes c.each.rest.now) fault (lexemes stop.now) _ c.each-test.ensures
    (stuck_there with_rest c.in_err-items.field-0.0 (reads_form (before (symbol (ElementItems c.args.hidden)) semicolon) (limits c.args.left) (lexemes c.each.rest.now)) c.in_err-items.ensures.reads fault stop is) c.each.invariant.so_far)

pub elements::elements-returns-clause-reads : goal.elements::elements-returns-clause-reads
elements::elements-returns-clause-reads t c = elements_done c.args.hidden (limits c.args.left) c.each.all (lexemes c.each.rest.now) _ c.each-test.ensures c.each.invariant.so_far

pub elements::members-member_items-requires : goal.elements::members-member_items-requires
elements::members-member_items-requires t c = record {
  told = (lexemes c.in_ok-limit.rest.now, subst (λ b. reads_form (limit b) (limits c.args.left) (lexemes c.in_ok-whats.limit_at.now) ≡ read c.in_ok-limit.limit (lexemes c.in_ok-limit.rest.now)) (sym (ap (λ (f : ElementFlags). f.replaceable) c.replaceable-flags.ensures)) c.in_ok-limit.ensures.reads);
}

pub elements::members-member_items-requires-else-is_next : goal.elements::members-member_items-requires-else-is_next
elements::members-member_items-requires-else-is_next t c = record {
  told = (lexemes c.in_ok-whats-2.rest.now, subst (λ b. reads_form (limit b) (limits c.args.left) (lexemes c.in_ok-whats-2.rest.now) ≡ read None (lexemes c.in_ok-whats-2.rest.now)) (sym c.element_flags.ensures.kept) refl);
}

pub elements::members-returns-in_ok-items-clause-reads : goal.elements::members-returns-in_ok-items-clause-reads
elements::members-returns-in_ok-items-clause-reads t c =
    members_limited c.args.hidden (limits c.args.left) (lexemes c.args.tokens.now) c.element_flags.result.0 c.replaceable-flags.result (lexemes c.element_flags.result.1.now) _ (lexemes c.in_ok-rest.rest.now) c.in_ok-whats.whats (lexemes c.in_ok-whats.limit_at.now) c.in_ok-limit.limit (lexemes c.in_ok-limit.rest.now) c.in_ok-items.items c.element_flags.ensures.reads c.element_flags.ensures.hidden c.replaceable-flags.ensures c.in_ok-rest.ensures.reads c.in_ok-whats.ensures.reads c.in_ok-limit.ensures.reads c.in_ok-items.ensures

pub elements::members-returns-in_ok-items-2-clause-reads : goal.elements::members-returns-in_ok-items-2-clause-reads
elements::members-returns-in_ok-items-2-clause-reads t c =
    members_kept c.args.hidden (limits c.args.left) (lexemes c.args.tokens.now) _ _ _ (lexemes c.in_ok-whats-2.rest.now) _ c.element_flags.ensures.reads c.element_flags.ensures.hidden c.element_flags.ensures.kept (sym c.is_next.ensures ∙ c.if-is_next.false) c.in_ok-whats-2.ensures.reads c.in_ok-items-2.ensures

pub sections::composition-returns-in_err-items-clause-reads : goal.sections::composition-returns-in_err-items-clause-reads
sections::composition-returns-in_err-items-clause-reads t c =
    stuck_passed with_rest c.from_residual.result c.in_err-items.field-0.0 (reads Compositions (limits c.args.left) (lexemes c.args.tokens.now)) c.from_residual.ensures.0 c.from_residual.ensures.1
    (λ fault stop is. composition_stuck (limits c.args.left) (lexemes c.args.tokens.now) fault (lexemes stop.now)
    (stuck_there with_rest c.in_err-items.field-0.0 (reads_form (element_list false) (limits c.args.left) (lexemes c.args.tokens.now)) c.in_err-items.ensures.reads fault stop is))

pub sections::composition-each-init : goal.sections::composition-each-init
sections::composition-each-init t c = record {
  so_far = composition_begins (limits c.args.left) (lexemes c.args.tokens.now) c.in_ok-items.items (lexemes c.in_ok-items.rest.now) c.in_ok-items.ensures.reads;
  no_longer = c.in_ok-items.ensures.no_longer;
}

pub sections::composition-returns-in_err-external-clause-reads : goal.sections::composition-returns-in_err-external-clause-reads
sections::composition-returns-in_err-external-clause-reads t c =
    stuck_passed with_rest c.from_residual-in_err-external.result c.in_err-external.field-0.0 (reads Compositions (limits c.args.left) (lexemes c.args.tokens.now)) c.from_residual-in_err-external.ensures.0 c.from_residual-in_err-external.ensures.1
    (λ fault stop is. end_stuck (limits c.args.left) c.each.items (lexemes c.each.rest.now) fault (lexemes stop.now) _ c.each-test.ensures
    (stuck_there (λ (x : Bool × Bor (List Token)). read ([], x.0) (lexemes x.1.now)) c.in_err-external.field-0.0 (reads_form closing (limits c.args.left) (lexemes c.each.rest.now)) c.in_err-external.ensures.reads fault stop is) c.each.invariant.so_far)

pub sections::composition-returns-clause-reads : goal.sections::composition-returns-clause-reads
sections::composition-returns-clause-reads t c = sections_end (limits c.args.left) c.each.items (lexemes c.each.rest.now) c.in_ok-external.external (lexemes c.in_ok-external.rest.now) _ c.each-test.ensures c.in_ok-external.ensures.reads c.each.invariant.so_far

pub sections::public_elements-returns-clause-reads : goal.sections::public_elements-returns-clause-reads
sections::public_elements-returns-clause-reads t c = gives_items c.elements.result (reads_form (element_list false) (limits c.args.left) (lexemes c.in_ok-rest.rest.now)) (reads Sections (limits c.args.left) (lexemes c.args.tokens.now)) (limits c.args.left) c.elements.ensures.reads (public_is (limits c.args.left) (lexemes c.args.tokens.now) _ (lexemes c.in_ok-rest.rest.now) c.in_ok-rest.ensures.reads)

pub sections::protected_elements-returns-clause-reads : goal.sections::protected_elements-returns-clause-reads
sections::protected_elements-returns-clause-reads t c = gives_items c.elements.result (reads_form (element_list true) (limits c.args.left) (lexemes c.in_ok-rest.rest.now)) (reads Sections (limits c.args.left) (lexemes c.args.tokens.now)) (limits c.args.left) c.elements.ensures.reads (protected_is (limits c.args.left) (lexemes c.args.tokens.now) _ (lexemes c.in_ok-rest.rest.now) c.in_ok-rest.ensures.reads)
