use Rattle.mo_connect.specs.Joins.{HasDistinctLeaves, Gains, IsBefore, JoinsElementAt}
use Rattle.mo_connect.proofs.joins.push_connect.Given as goal

abbrev pub invariant-loop-k : goal.invariant-loop-k
invariant-loop-k l = HasDistinctLeaves l.connect → Gains l.initial.made l.made (IsBefore (JoinsElementAt l.connect) l.k)
