use Rattle.std.proofs.Common.{◌≡◌, ◌-◌, slice_index}
use Rattle.mo_blocks.specs.Stages.{derivatives_to}
use Rattle.mo_select.proofs.states.list_states.Given as goal

abbrev pub invariant-loop-u : goal.invariant-loop-u
invariant-loop-u l = l.states ≡ derivatives_to (λ u. slice_index l.d u - slice_index l.depth u) l.u
