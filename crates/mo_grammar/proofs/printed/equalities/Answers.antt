use Rattle.mo_grammar.proofs.EqualityForms.{equalities_agree}
use Rattle.mo_grammar.proofs.printed.equalities.Goals as goal

pub returns : goal.returns
returns c = equalities_agree
