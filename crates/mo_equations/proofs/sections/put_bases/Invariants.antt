-- Those of the bases so far.
use Rattle.std.proofs.Common.{◌≡◌, ◌++◌, take}
use Rattle.mo_equations.specs.steps.Placing.{last_frames}
use Rattle.mo_equations.proofs.sections.put_bases.Given as goal

abbrev pub invariant-loop-through : goal.invariant-loop-through
invariant-loop-through l = l.frames ≡ l.initial.frames ++ last_frames (take l.through-index l.bases)
