use Rattle.mo_front.proofs.OneAsked.{one_of_words}
use Rattle.mo_front.proofs.laws.words_tell_one.Goals as goal

pub returns : goal.returns
returns c = λ words contents status other text more. one_of_words words contents status other text more
