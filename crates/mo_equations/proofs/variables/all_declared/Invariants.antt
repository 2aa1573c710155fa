-- So many variables were declared.
use Rattle.std.proofs.Common.{◌≡◌, List, Ok, length, map, take}
use Rattle.mo_scope.specs.Trees.{instance_in}
use Rattle.mo_scope.specs.Worlds.{frames_of}
use Rattle.mo_typing.specs.Outcome.{each}
use Rattle.mo_equations.specs.Leaves.{variables_from}
use Rattle.mo_equations.specs.Variables.{Declared, declared}
use Rattle.mo_equations.specs.steps.Declaring.{AreDeclared}
use Rattle.mo_equations.specs.steps.Desks.{Stays}
use Rattle.mo_equations.specs.steps.Standing.{tree_in}
use Rattle.mo_equations.proofs.variables.all_declared.Given as goal

abbrev pub invariant-loop-instance : goal.invariant-loop-instance
invariant-loop-instance l =
    Stays l.initial.s l.s l.initial.desk l.desk
    × (l.number ≡ length (variables_from 1 (map (instance_in (frames_of l.initial.s)) (take l.instance-index l.instances))))
    × (all : List Declared)
    × AreDeclared l.declared all
    × (each (declared (tree_in l.initial.s l.initial.desk.leaves)) (variables_from 1 (map (instance_in (frames_of l.initial.s)) (take l.instance-index l.instances))) ≡ Ok all)
