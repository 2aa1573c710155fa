use Rattle.mo_grammar.specs.Language.{reads}
use Rattle.mo_grammar.proofs.GrammarLaws.{stuck_law, one_impossible}
use Rattle.mo_grammar.specs.Productions.{rule}
use Rattle.mo_grammar.specs.Tables.{tables}
use Rattle.mo_grammar.proofs.Tested.{passed}
use Rattle.mo_grammar.proofs.laws.first_impossible.Goals as goal

pub returns-clause-stuck : goal.returns-clause-stuck
unfolding reads
returns-clause-stuck c = λ x l tokens rest fault e. stuck_law tables rule passed x l tokens rest fault e

pub returns-clause-one : goal.returns-clause-one
returns-clause-one c = λ x l tokens before after other rest t u e d i j. one_impossible tables rule passed x l tokens before after other rest t u e d i j
