use Rattle.mo_symdiff.proofs.Bounding.{lighter}
use Rattle.mo_symdiff.proofs.reduce.carried_line_weight.Goals as goal

pub returns : goal.returns
returns c = lighter _ _ _ _ _ c.in_ok-left.ensures c.in_ok-right.ensures c.saturating_add.ensures
