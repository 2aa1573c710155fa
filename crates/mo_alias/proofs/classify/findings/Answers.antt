use Rattle.std.proofs.Common.{◌∙◌}
use Rattle.mo_alias.proofs.Looping.{findings_none, findings_put, forest_begin}
use Rattle.mo_alias.proofs.classify.findings.Goals as goal

pub loop-at-init : goal.loop-at-init
loop-at-init c =
    (findings_none c.args.said.now c.new-findings.result.items c.new-findings.ensures.items, forest_begin c.args.said.now c.in_ok-trees.trees c.in_ok-trees.ensures.trees c.in_ok-trees.ensures.roots, c.in_ok-trees.ensures.size)

pub loop-at-preserved : goal.loop-at-preserved
loop-at-preserved c =
    (rw c.in_ok-push.ensures.items (findings_put c.args.said.now c.loop-at.at c.loop-at.findings.items c.finding_at.result c.loop-at.invariant.0 c.finding_at.ensures.finding), c.finding_at.ensures.forest, c.finding_at.ensures.size ∙ c.loop-at.invariant.2)
