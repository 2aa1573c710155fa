use Rattle.mo_symdiff.proofs.Bounding.{lighter}
use Rattle.mo_symdiff.proofs.reduce.derived_weight.Goals as goal

pub returns : goal.returns
returns c = lighter _ _ _ _ _ c.size_of-left.ensures.slope_is c.size_of-right.ensures.slope_is c.saturating_add.ensures
