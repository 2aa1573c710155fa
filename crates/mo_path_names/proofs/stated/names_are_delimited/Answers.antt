use Rattle.mo_path_names.proofs.laws.Splitting.{are_delimited}
use Rattle.mo_path_names.proofs.stated.names_are_delimited.Goals as goal

pub returns : goal.returns
returns c = are_delimited
