-- Nothing else may stand behind a dot.
use Rattle.std.proofs.Common.{sym, ◌∙◌}
use Rattle.mo_grammar.specs.Lexeme.{lexemes}
use Rattle.mo_class_heads.specs.Left.{limits}
use Rattle.mo_class_heads.proofs.ImportNames.{names_stuck}
use Rattle.mo_class_heads.proofs.imports.taken.Goals as goal

pub returns-else-is_next-3-clause-reads : goal.returns-else-is_next-3-clause-reads
returns-else-is_next-3-clause-reads c = names_stuck (limits c.args.left) (lexemes c.args.tokens.now) _ _ c.requires.last c.in_ok-rest-2.ensures.reads (sym c.is_next-3.ensures ∙ c.if-is_next-2.false) (sym c.is_next-else-is_next-2.ensures ∙ c.if-is_next-3.false)
