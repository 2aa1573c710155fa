use Rattle.std.proofs.Common.{◌≡◌, ◌++◌, string_bytes, take, flat_map}
use Rattle.mo_report.specs.Lines.{state_line}
use Rattle.mo_report.proofs.square.write_states.Given as goal

abbrev pub invariant-loop-state : goal.invariant-loop-state
invariant-loop-state l = string_bytes l.out ≡ string_bytes l.initial.out ++ flat_map (state_line l.names) (take l.state-index l.states)
