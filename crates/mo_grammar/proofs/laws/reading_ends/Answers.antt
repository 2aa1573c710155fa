use Rattle.std.proofs.Common.{subst}
use Rattle.mo_grammar.specs.Language.{reads}
use Rattle.mo_grammar.proofs.Outcomes.{Finished}
use Rattle.mo_grammar.proofs.GrammarLaws.{reads_finished}
use Rattle.mo_grammar.specs.Productions.{rule}
use Rattle.mo_grammar.specs.Tables.{tables}
use Rattle.mo_grammar.proofs.Tested.{passed}
use Rattle.mo_grammar.proofs.laws.reading_ends.Goals as goal

pub returns : goal.returns
unfolding reads
returns c = λ x l tokens e. subst Finished e (reads_finished tables rule passed x l tokens)
