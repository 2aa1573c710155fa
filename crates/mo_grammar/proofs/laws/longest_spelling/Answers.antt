use Rattle.mo_grammar.specs.Language.{reads}
use Rattle.mo_grammar.proofs.GrammarLaws.{read_law, whole_law}
use Rattle.mo_grammar.specs.Productions.{rule}
use Rattle.mo_grammar.specs.Tables.{tables}
use Rattle.mo_grammar.proofs.Tested.{passed}
use Rattle.mo_grammar.proofs.laws.longest_spelling.Goals as goal

pub returns-clause-sound : goal.returns-clause-sound
unfolding reads
returns-clause-sound c = λ x l tokens a rest e. read_law tables rule passed x l tokens a rest e

pub returns-clause-complete : goal.returns-clause-complete
unfolding reads
returns-clause-complete c = λ x plain l tokens front rest a f s. whole_law tables rule passed x plain l tokens front rest a f s
