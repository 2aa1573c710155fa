use Rattle.mo_told_names.proofs.laws.Told.{texts_printed}
use Rattle.mo_told_names.proofs.stated.text_names_pass.Goals as goal

pub returns : goal.returns
returns c = texts_printed
