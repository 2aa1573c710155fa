use Rattle.mo_symdiff.proofs.SigmaGiven.{carries_apart}
use Rattle.mo_symdiff.proofs.laws.carried_out_without_given.Goals as goal

pub returns : goal.returns
returns c = λ vars e. carries_apart vars e
