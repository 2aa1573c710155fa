-- What was put are the equations of the rows so far.
use Rattle.std.proofs.Common.{◌+◌, ◌*◌, ◌++◌, ◌∷◌, [], Ok, flat_map, length, map}
use Rattle.mo_scope.specs.Worlds.{frames_of}
use Rattle.mo_typing.specs.Indices.{indices, numbers_to}
use Rattle.mo_typing.specs.Outcome.{each}
use Rattle.mo_arrays.specs.Equations.{equation}
use Rattle.mo_eval.specs.Seen.{AreThere, virtuals_seen}
use Rattle.mo_eval.specs.Values.{most_references}
use Rattle.mo_equations.specs.Equalities.{replaced_sides}
use Rattle.mo_equations.specs.Replacing.{of_variable}
use Rattle.mo_equations.specs.steps.Desks.{Stays}
use Rattle.mo_equations.specs.steps.Equalities.{PutsEquations}
use Rattle.mo_equations.specs.steps.Standing.{AreReplaced, replacing_in, tree_in}
use Rattle.mo_equations.proofs.equalities.+rows.Given as goal

abbrev pub invariant-put_rows-loop-k : goal.invariant-put_rows-loop-k
invariant-put_rows-loop-k l = record {
  stays : Stays l.initial.s l.s l.initial.desk l.desk;
  there : AreThere l.s l.sides.virtuals;
  replaced : AreReplaced (of_variable (replacing_in l.initial.s l.initial.desk.leaves most_references) (virtuals_seen (frames_of l.initial.s) l.sides.virtuals)) l.row.replaced.items;
  put : PutsEquations (Ok tt) l.initial.row.made l.row.made
      (each (replaced_sides (tree_in l.initial.s l.initial.desk.leaves) (virtuals_seen (frames_of l.initial.s) l.sides.virtuals))
      (flat_map (λ k. map (λ index. equation l.sides.left l.sides.right l.below.place ((l.below.begun.now ++ k ∷ []) ++ index)) (indices l.below.dims.now)) (numbers_to l.k)));
}

abbrev pub decreases-put_below : goal.decreases-put_below
decreases-put_below l = 2 * length l.below.dims.now + 0

abbrev pub decreases-put_rows : goal.decreases-put_rows
decreases-put_rows l = 2 * length l.below.dims.now + 1
