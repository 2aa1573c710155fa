use Rattle.std.proofs.Common.{◌≡◌, ◌++◌}
use Rattle.mo_blocks.specs.Stages.{derivatives_below}
use Rattle.mo_select.proofs.states.list_derivatives.Given as goal

abbrev pub invariant-loop-k : goal.invariant-loop-k
invariant-loop-k l = l.states ≡ l.fn.states ++ derivatives_below l.unknown l.k
