use Rattle.mo_told_names.proofs.laws.Told.{of_texts}
use Rattle.mo_told_names.proofs.stated.text_names_are_identifiers.Goals as goal

pub returns : goal.returns
returns c = of_texts
