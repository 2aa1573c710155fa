use Rattle.std.proofs.Common.{◌≡◌, ◌<◌, ℕ, length, slice_index}
use Rattle.mo_graph.specs.steps.Placing.{waiting, leads_away}
use Rattle.mo_graph.proofs.place.count_waits.Given as goal

abbrev pub invariant-loop-x : goal.invariant-loop-x
invariant-loop-x l = (b : ℕ) → b < length l.waits → slice_index l.waits b ≡ waiting l.sources (leads_away l.sources l.targets) l.x b
