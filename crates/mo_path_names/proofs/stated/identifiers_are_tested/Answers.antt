use Rattle.mo_path_names.proofs.laws.Splitting.{tests_identifiers}
use Rattle.mo_path_names.proofs.stated.identifiers_are_tested.Goals as goal

pub returns : goal.returns
returns c = λ text. tests_identifiers text
