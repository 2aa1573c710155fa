-- What a section holds, and what follows it.
use Rattle.std.proofs.Common.{◌∙◌, ap, sym}
use Rattle.mo_grammar.specs.Lexeme.{lexemes}
use Rattle.mo_grammar.specs.Symbols.{Sections}
use Rattle.mo_grammar.specs.Language.{reads}
use Rattle.mo_class_heads.specs.Left.{limits}
use Rattle.mo_parse_class.specs.steps.Parts.{with_items}
use Rattle.mo_parse_class.proofs.SectionLists.{equations_is, algorithm_is}
use Rattle.mo_parse_class.proofs.sections.behavior.Goals as goal

pub returns-in_ok-single-clause-reads : goal.returns-in_ok-single-clause-reads
returns-in_ok-single-clause-reads c =
    equations_is c.args.initial (limits c.args.left) (lexemes c.args.tokens.now) _ (lexemes c.in_ok-rest.rest.now) _ (reads Sections (limits c.args.left) (lexemes c.in_ok-equations.rest.now)) c.in_ok-rest.ensures.reads c.in_ok-equations.ensures.reads
    ∙ ap (λ items. with_items items (reads Sections (limits c.args.left) (lexemes c.in_ok-equations.rest.now))) (sym c.in_ok-single.ensures)

pub returns-in_ok-single-2-clause-reads : goal.returns-in_ok-single-2-clause-reads
returns-in_ok-single-2-clause-reads c =
    algorithm_is c.args.initial (limits c.args.left) (lexemes c.args.tokens.now) _ (lexemes c.in_ok-rest-2.rest.now) _ (lexemes c.in_ok-statements.rest.now) c.in_ok-rest-2.ensures.reads c.in_ok-statements.ensures.reads
    ∙ ap (λ items. with_items items (reads Sections (limits c.args.left) (lexemes c.in_ok-statements.rest.now))) (sym c.in_ok-single-2.ensures)
