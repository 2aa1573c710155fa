use Rattle.mo_symdiff.specs.Derivative.{derived}
use Rattle.mo_symdiff.proofs.Weighing.{base_term_weighs, by_row}
use Rattle.mo_symdiff.proofs.sizes.base_term_weight.Goals as goal

pub returns : goal.returns
returns c vars base exponent h k =
    by_row vars c.args.measure _ _ _ _ _ _ (base_term_weighs vars c.args.measure base (derived vars base) exponent) c.row_of.ensures
    (c.row_weight.ensures _ _ (c.add-arguments.ensures _ _ h.whole_is (c.add.ensures _ _ k.whole_is k.whole_is)) h.slope_is)
