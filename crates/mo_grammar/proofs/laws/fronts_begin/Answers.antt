use Rattle.mo_grammar.proofs.Fronts.{front_begins}
use Rattle.mo_grammar.specs.Productions.{rule}
use Rattle.mo_grammar.specs.Tables.{tables}
use Rattle.mo_grammar.proofs.Tested.{passed}
use Rattle.mo_grammar.proofs.laws.fronts_begin.Goals as goal

pub returns : goal.returns
returns c = λ x l front rest b. front_begins tables rule passed x l front rest b
