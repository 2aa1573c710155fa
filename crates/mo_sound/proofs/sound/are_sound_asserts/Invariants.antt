-- Those so far are sound.
use Rattle.std.proofs.Common.{All, take}
use Rattle.mo_flat.specs.Sound.{IsSoundAssert}
use Rattle.mo_sound.proofs.sound.are_sound_asserts.Given as goal

abbrev pub invariant-loop-assert : goal.invariant-loop-assert
invariant-loop-assert l = All (IsSoundAssert l.vars) (take l.assert-index l.list)
