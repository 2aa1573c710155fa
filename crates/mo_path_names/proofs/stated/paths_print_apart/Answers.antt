use Rattle.mo_path_names.proofs.laws.Printing.{print_apart}
use Rattle.mo_path_names.proofs.stated.paths_print_apart.Goals as goal

pub returns : goal.returns
returns c = print_apart
