-- Those so far are sound.
use Rattle.std.proofs.Common.{All, take}
use Rattle.mo_flat.specs.Sound.{IsSoundVariable}
use Rattle.mo_sound.proofs.sound.are_sound_variables.Given as goal

abbrev pub invariant-loop-v : goal.invariant-loop-v
invariant-loop-v l = All (IsSoundVariable l.vars) (take l.v-index l.list)
