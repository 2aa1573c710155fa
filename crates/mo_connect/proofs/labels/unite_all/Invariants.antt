use Rattle.mo_connect.specs.steps.Labels.{AreUnited}
use Rattle.mo_connect.proofs.labels.unite_all.Given as goal

abbrev pub invariant-loop-join : goal.invariant-loop-join
invariant-loop-join l = AreUnited l.joins l.join-index l.parent
