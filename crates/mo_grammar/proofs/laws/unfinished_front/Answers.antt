use Rattle.mo_grammar.specs.Language.{reads}
use Rattle.mo_grammar.proofs.GrammarLaws.{misplaced_law, misnamed_law}
use Rattle.mo_grammar.specs.Productions.{rule}
use Rattle.mo_grammar.specs.Tables.{tables}
use Rattle.mo_grammar.proofs.Tested.{passed}
use Rattle.mo_grammar.proofs.laws.unfinished_front.Goals as goal

pub returns-clause-misplaced : goal.returns-clause-misplaced
unfolding reads
returns-clause-misplaced c = λ x plain l tokens rest e. misplaced_law tables rule passed x plain l tokens rest e

pub returns-clause-misnamed : goal.returns-clause-misnamed
unfolding reads
returns-clause-misnamed c = λ x plain l tokens rest e. misnamed_law tables rule passed x plain l tokens rest e
