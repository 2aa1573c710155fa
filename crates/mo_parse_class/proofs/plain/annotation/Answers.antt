-- It is read in a class as outside of all.
use Rattle.std.proofs.Common.{refl}
use Rattle.mo_grammar.specs.Lexeme.{lexemes}
use Rattle.mo_grammar.specs.Grammar.{this_name}
use Rattle.mo_grammar.specs.Classes.{annotation_part}
use Rattle.mo_class_heads.proofs.Apart.{within}
use Rattle.mo_parse_class.proofs.plain.annotation.Goals as goal

pub returns-clause-reads : goal.returns-clause-reads
returns-clause-reads c = within annotation_part refl _ c.annotation.result c.args.left.constructs c.args.left.classes (this_name c.args.left.name.now) (lexemes c.args.tokens.now) c.annotation.ensures.reads
