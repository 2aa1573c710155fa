use Rattle.mo_symdiff.proofs.SigmaLaws.{sigma_derived}
use Rattle.mo_symdiff.proofs.laws.derivative_raises_orders.Goals as goal

pub returns : goal.returns
returns c = λ vars e v u h. sigma_derived vars e v u h
