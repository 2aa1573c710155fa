use Rattle.std.proofs.Common.{arith}
use Rattle.mo_select.proofs.Staging.{evidence_none, evidence_next}
use Rattle.mo_select.proofs.stage.evidence.Goals as goal

pub loop-end-init : goal.loop-end-init
loop-end-init c = rw (c.new-counts.ensures, c.new-without.ensures) (evidence_none _ _ _ _ _ _ _)

pub loop-end-preserved : goal.loop-end-preserved
loop-end-preserved c =
    rw (c.in_ok-push.ensures.ok, c.in_ok-push-2.ensures.ok) (evidence_next _ _ _ _ _ _ _ _ _ _ _ _ c.loop-end.invariant c.count_first.ensures c.in_ok-left.ensures)

pub left_out-requires-clause-end : goal.left_out-requires-clause-end
left_out-requires-clause-end c = c.requires.ends c.loop-end.end-index (omega arith)

pub count_first-requires : goal.count_first-requires
count_first-requires c = let low = c.requires.ends c.loop-end.end-index (omega arith) in (omega (arith, c.requires.pairs.0), c.requires.pairs.1)
