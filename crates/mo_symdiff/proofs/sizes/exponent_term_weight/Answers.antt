use Rattle.mo_symdiff.specs.Derivative.{derived}
use Rattle.mo_symdiff.proofs.Weighing.{by_row, exponent_term_weighs}
use Rattle.mo_symdiff.proofs.sizes.exponent_term_weight.Goals as goal

pub returns : goal.returns
returns c vars base exponent h k =
    by_row vars c.args.measure _ _ _ _ _ _ (exponent_term_weighs vars c.args.measure base exponent (derived vars exponent)) c.row_of.ensures
    (c.row_weight.ensures _ _ (c.add-arguments.ensures _ _ h.whole_is (c.add.ensures _ _ h.whole_is k.whole_is)) k.slope_is)
