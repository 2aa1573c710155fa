-- Those so far are sound.
use Rattle.std.proofs.Common.{All, take}
use Rattle.mo_flat.specs.Sound.{IsSoundEquation}
use Rattle.mo_sound.proofs.sound.are_sound_equations.Given as goal

abbrev pub invariant-loop-equation : goal.invariant-loop-equation
invariant-loop-equation l = All (IsSoundEquation l.vars) (take l.equation-index l.list)
