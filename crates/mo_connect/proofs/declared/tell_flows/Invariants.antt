use Rattle.std.proofs.Common.{length}
use Rattle.mo_connect.specs.steps.Gathering.{IsTable}
use Rattle.mo_connect.proofs.declared.tell_flows.Given as goal

abbrev pub invariant-loop-flow : goal.invariant-loop-flow
invariant-loop-flow l = IsTable (length l.initial.table) l.joins l.flows (length l.joins) l.flow-index l.table
