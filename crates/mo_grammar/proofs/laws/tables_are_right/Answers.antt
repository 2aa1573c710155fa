use Rattle.mo_grammar.proofs.Tested.{tables_right}
use Rattle.mo_grammar.proofs.laws.tables_are_right.Goals as goal

pub returns : goal.returns
returns c = tables_right
