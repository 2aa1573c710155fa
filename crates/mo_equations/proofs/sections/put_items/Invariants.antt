-- What was put is what the items so far give.
use Rattle.std.proofs.Common.{Ok, flat_map, take}
use Rattle.mo_scope.specs.Worlds.{frames_of}
use Rattle.mo_equations.specs.Expansion.{made_placed}
use Rattle.mo_equations.specs.Gathering.{turn_each}
use Rattle.mo_equations.specs.steps.Desks.{Goes}
use Rattle.mo_equations.specs.steps.Standing.{tree_in}
use Rattle.mo_equations.specs.steps.Placing.{PutsParts, item_placed}
use Rattle.mo_equations.proofs.sections.put_items.Given as goal

abbrev pub invariant-loop-item : goal.invariant-loop-item
invariant-loop-item l = record {
  goes : Goes l.initial.s l.s l.initial.desk l.desk;
  put : PutsParts (Ok tt) l.initial.parts l.parts l.desk (turn_each (made_placed (tree_in l.initial.s l.initial.desk.leaves)) (flat_map (item_placed (frames_of l.initial.s) l.placed) (take l.item-index l.items)) l.initial.desk.turns);
}
