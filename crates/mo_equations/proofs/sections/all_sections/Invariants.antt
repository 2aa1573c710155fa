-- What was put is what the frames so far give.
use Rattle.std.proofs.Common.{◌≡◌, List, Ok, flat_map, take}
use Rattle.mo_equations.specs.Expansion.{Parts, made_placed}
use Rattle.mo_equations.specs.Gathering.{turn_each}
use Rattle.mo_equations.specs.steps.Desks.{Goes}
use Rattle.mo_equations.specs.steps.Standing.{tree_in}
use Rattle.mo_equations.specs.steps.Placing.{AreParts, sections_with}
use Rattle.mo_equations.proofs.sections.all_sections.Given as goal

abbrev pub invariant-loop-frame : goal.invariant-loop-frame
invariant-loop-frame l = record {
  goes : Goes l.initial.s l.s l.initial.desk l.desk;
  parts : List Parts;
  told : turn_each (made_placed (tree_in l.initial.s l.initial.desk.leaves)) (flat_map (sections_with l.initial.s) (take l.frame-index l.frames)) l.initial.desk.turns ≡ Ok (parts, l.desk.turns);
  are : AreParts l.parts parts;
}
