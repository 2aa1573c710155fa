use Rattle.mo_select.proofs.Tying.{ties_none}
use Rattle.mo_select.proofs.ties.ties.Goals as goal

pub loop-e-init : goal.loop-e-init
loop-e-init c = ties_none _ _ _ _ _ _ c.in_ok-rows.ensures.count c.in_ok-rows.ensures.empty
