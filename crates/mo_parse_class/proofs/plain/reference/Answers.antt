-- It is read in a class as outside of all.
use Rattle.std.proofs.Common.{refl}
use Rattle.mo_grammar.specs.Grammar.{symbol}
use Rattle.mo_grammar.specs.Symbols.{References}
use Rattle.mo_class_heads.proofs.Apart.{within}
use Rattle.mo_parse_class.proofs.plain.reference.Goals as goal

pub returns-clause-reads : goal.returns-clause-reads
returns-clause-reads c = within (symbol References) refl _ _ _ _ _ _ c.reference.ensures.reads
