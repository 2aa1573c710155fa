use Rattle.mo_alias.proofs.Linking.{roots_at}
use Rattle.mo_alias.proofs.Marking.{one_sign}
use Rattle.mo_alias.proofs.laws.chains_say_one_sign.Goals as goal

pub returns : goal.returns
returns c = λ said n u v one other j k. let r = roots_at said n in one_sign said n r.0 r.1 r.2 u v one other j k
