-- What is declared anew among what is left is that among all.
use Rattle.std.proofs.Common.{◌≡◌, List, drop, map}
use Rattle.mo_scope.specs.Frames.{Frame}
use Rattle.mo_mods.specs.Left.{anew_first}
use Rattle.mo_mods.specs.Sights.{said_in}
use Rattle.mo_mods.proofs.left.anew_first.Given as goal

abbrev pub invariant-loop-one : goal.invariant-loop-one
invariant-loop-one l = (frames : List Frame) → anew_first (map (said_in frames) (drop l.one-index l.said)) ≡ anew_first (map (said_in frames) l.said)
