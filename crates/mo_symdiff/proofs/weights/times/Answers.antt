use Rattle.mo_symdiff.proofs.Weighing.{capped_product}
use Rattle.mo_symdiff.proofs.weights.times.Goals as goal

pub returns : goal.returns
returns c n x h k = capped_product _ _ n x _ h k c.saturating_mul.ensures
