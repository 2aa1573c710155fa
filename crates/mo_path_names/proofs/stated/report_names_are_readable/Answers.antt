use Rattle.mo_path_names.proofs.laws.Readable.{report_names}
use Rattle.mo_path_names.proofs.stated.report_names_are_readable.Goals as goal

pub returns : goal.returns
returns c = λ files sound path m tells. report_names files sound path m tells
