use Rattle.std.proofs.Common.{length, ◌-◌}
use Rattle.mo_ports.proofs.Writing.{IsPutUpTo}
use Rattle.mo_ports.proofs.put.put_all.Given as goal

abbrev pub invariant-loop-done : goal.invariant-loop-done
invariant-loop-done g l = IsPutUpTo (g.W.Sink.written l.initial.out) l.bytes l.done (g.W.Sink.written l.out) (g.W.Sink.faults l.initial.out) (g.W.Sink.faults l.out)

abbrev pub decreases-loop-done : goal.decreases-loop-done
decreases-loop-done g l = length l.bytes - l.done
