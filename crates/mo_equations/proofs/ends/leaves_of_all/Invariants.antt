-- Those so far.
use Rattle.std.proofs.Common.{◌≡◌, map, take}
use Rattle.mo_scope.specs.Worlds.{frames_of}
use Rattle.mo_equations.specs.Ends.{leaves_of}
use Rattle.mo_equations.specs.steps.Standing.{tree_in}
use Rattle.mo_equations.specs.steps.Ends.{elements_in}
use Rattle.mo_equations.proofs.ends.leaves_of_all.Given as goal

abbrev pub invariant-loop-element : goal.invariant-loop-element
invariant-loop-element l = l.made ≡ map (leaves_of (tree_in l.s l.leaves)) (elements_in (frames_of l.s) (take l.element-index l.elements))
