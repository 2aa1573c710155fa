use Rattle.std.specs.Prelude.{All}
use Rattle.mo_connect.specs.Joins.{HasDistinctLeaves, Gains, IsBefore, JoinsConnectAt}
use Rattle.mo_connect.proofs.joins.push_connects.Given as goal

abbrev pub invariant-loop-connect : goal.invariant-loop-connect
invariant-loop-connect l = All HasDistinctLeaves l.connects → Gains l.initial.made l.made (IsBefore (JoinsConnectAt l.connects) l.connect-index)
