use Rattle.mo_symdiff.proofs.Weighing.{branches_more}
use Rattle.mo_symdiff.proofs.sizes.with_branch.Goals as goal

pub returns : goal.returns
returns c vars m branches k e h first second =
    branches_more vars m branches k e _ _ _ _ _ h.still_is second.still_is c.and.ensures
    (c.add-2.ensures _ _ h.whole_is (c.add.ensures _ _ first.whole_is second.whole_is)) (c.add-4.ensures _ _ h.slope_is (c.add-3.ensures _ _ first.whole_is second.slope_is))
