use Rattle.std.proofs.Common.{◌≡◌, ◌+◌, length}
use Rattle.mo_alias.specs.steps.Findings.{AreFindings}
use Rattle.mo_alias.specs.steps.Forests.{IsForest}
use Rattle.mo_alias.proofs.classify.findings.Given as goal

abbrev pub invariant-loop-at : goal.invariant-loop-at
invariant-loop-at l = AreFindings l.said l.at l.findings.items × IsForest l.said l.trees l.at × (length l.trees.parent.items ≡ l.count + 1)
