use Rattle.mo_select.proofs.Unique.{one_selection_holds}
use Rattle.mo_select.proofs.laws.one_selection.Goals as goal

pub returns : goal.returns
returns c = λ g e d level low a b. one_selection_holds g e d level a b low
