use Rattle.mo_front.proofs.Once.{one_of_files}
use Rattle.mo_front.proofs.laws.files_give_one.Goals as goal

pub returns : goal.returns
returns c = λ path names contents o p f g. one_of_files path names contents o p f g
