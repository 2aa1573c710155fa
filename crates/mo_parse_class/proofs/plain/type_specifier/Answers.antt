-- It is read in a class as outside of all.
use Rattle.std.proofs.Common.{refl}
use Rattle.mo_grammar.specs.Grammar.{symbol}
use Rattle.mo_grammar.specs.Symbols.{TypeSpecs}
use Rattle.mo_class_heads.proofs.Apart.{within}
use Rattle.mo_parse_class.proofs.plain.type_specifier.Goals as goal

pub returns-clause-reads : goal.returns-clause-reads
returns-clause-reads c = within (symbol TypeSpecs) refl _ _ _ _ _ _ c.type_specifier.ensures.reads
