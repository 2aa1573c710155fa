use Rattle.mo_symdiff.proofs.SigmaLaws.{sigma_raised}
use Rattle.mo_symdiff.proofs.laws.orders_without_carrying_out.Goals as goal

pub returns : goal.returns
returns c = λ vars e v u h. sigma_raised vars e v u h
