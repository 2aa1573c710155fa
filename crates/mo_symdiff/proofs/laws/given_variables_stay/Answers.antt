use Rattle.mo_symdiff.proofs.SigmaGiven.{carried_given, derived_given}
use Rattle.mo_symdiff.proofs.laws.given_variables_stay.Goals as goal

pub returns-clause-derivative : goal.returns-clause-derivative
returns-clause-derivative c = λ vars e. derived_given vars e

pub returns-clause-carried : goal.returns-clause-carried
returns-clause-carried c = λ vars e. carried_given vars e
