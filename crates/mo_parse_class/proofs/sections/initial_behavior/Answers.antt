-- Behind `initial` stands the section.
use Rattle.std.proofs.Common.{sym, subst}
use Rattle.mo_grammar.specs.Lexeme.{lexemes}
use Rattle.mo_grammar.specs.Symbols.{Sections}
use Rattle.mo_grammar.specs.Language.{reads}
use Rattle.mo_grammar.specs.Answers.{Gives}
use Rattle.mo_class_heads.specs.Left.{limits}
use Rattle.mo_parse_class.specs.steps.Parts.{with_items}
use Rattle.mo_parse_class.proofs.SectionLists.{initial_is}
use Rattle.mo_parse_class.proofs.sections.initial_behavior.Goals as goal

pub returns-clause-reads : goal.returns-clause-reads
returns-clause-reads c = subst (λ o. Gives (λ x. with_items x.0 (reads Sections (limits c.args.left) (lexemes x.1.now))) c.behavior.result o) (sym (initial_is (limits c.args.left) (lexemes c.args.tokens.now) _ (lexemes c.in_ok-rest.rest.now) c.in_ok-rest.ensures.reads)) c.behavior.ensures.reads
