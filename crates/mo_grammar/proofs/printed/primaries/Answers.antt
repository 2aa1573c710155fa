use Rattle.mo_grammar.proofs.FactorForms.{primaries_agree, arrays_agree}
use Rattle.mo_grammar.proofs.printed.primaries.Goals as goal

pub returns-clause-primary : goal.returns-clause-primary
returns-clause-primary c = primaries_agree

pub returns-clause-array : goal.returns-clause-array
returns-clause-array c = arrays_agree
