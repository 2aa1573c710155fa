use Rattle.mo_symdiff.proofs.Bounding.{lighter}
use Rattle.mo_symdiff.proofs.reduce.line_weight.Goals as goal

pub returns : goal.returns
returns c = lighter _ _ _ _ _ c.size_of-left.ensures.whole_is c.size_of-right.ensures.whole_is c.saturating_add.ensures
