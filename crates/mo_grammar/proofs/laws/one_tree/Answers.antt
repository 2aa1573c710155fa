use Rattle.mo_grammar.proofs.GrammarLaws.{one_value}
use Rattle.mo_grammar.specs.Productions.{rule}
use Rattle.mo_grammar.specs.Tables.{tables}
use Rattle.mo_grammar.proofs.Tested.{passed}
use Rattle.mo_grammar.proofs.laws.one_tree.Goals as goal

pub returns : goal.returns
returns c = λ x l m tokens a b s t. one_value tables rule passed x l m tokens a b s t
