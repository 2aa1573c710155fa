use Rattle.std.proofs.Common.{length}
use Rattle.mo_connect.specs.steps.Gathering.{IsTable}
use Rattle.mo_connect.proofs.declared.tell_joins.Given as goal

abbrev pub invariant-loop-join : goal.invariant-loop-join
invariant-loop-join l = IsTable (length l.initial.table) l.joins l.flows l.join-index 0 l.table
