use Rattle.mo_told_names.proofs.laws.Told.{of_files}
use Rattle.mo_told_names.proofs.stated.file_names_are_identifiers.Goals as goal

pub returns : goal.returns
returns c = of_files
