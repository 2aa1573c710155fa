-- What those that are left give is what all give.
use Rattle.std.proofs.Common.{◌≡◌, List, drop, map}
use Rattle.mo_scope.specs.Frames.{Frame}
use Rattle.mo_mods.specs.Left.{value_left}
use Rattle.mo_mods.specs.Sights.{left_in}
use Rattle.mo_mods.proofs.left.value_left.Given as goal

abbrev pub invariant-loop-left : goal.invariant-loop-left
invariant-loop-left l = (frames : List Frame) → value_left (map (left_in frames) (drop l.left-index l.lefts)) ≡ value_left (map (left_in frames) l.lefts)
