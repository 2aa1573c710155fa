-- All variables so far were asked; calls go to fewer references left.
use Rattle.std.proofs.Common.{◌+◌, ◌*◌, take}
use Rattle.mo_scope.specs.Places.{Every}
use Rattle.mo_scope.specs.Worlds.{frames_of}
use Rattle.mo_eval.specs.Seen.{AreThere, virtuals_seen}
use Rattle.mo_equations.specs.Replacing.{of_variable}
use Rattle.mo_equations.specs.steps.Desks.{Stays}
use Rattle.mo_equations.specs.steps.Standing.{AreReplaced, IsAskedAt, replacing_in}
use Rattle.mo_equations.proofs.standing.+standing.Given as goal

abbrev pub invariant-ask-loop-n : goal.invariant-ask-loop-n
invariant-ask-loop-n l = record {
  stays : Stays l.initial.s l.s l.initial.desk l.desk;
  there : AreThere l.s l.virtuals;
  replaced : AreReplaced (of_variable (replacing_in l.initial.s l.initial.desk.leaves l.left) (virtuals_seen (frames_of l.initial.s) l.virtuals)) l.replaced.items;
  asked : Every (IsAskedAt l.replaced.items) (take l.n-index l.n-items);
}

abbrev pub decreases-flat_at : goal.decreases-flat_at
decreases-flat_at l = 8 * l.asked.now.left + 7

abbrev pub decreases-flat_element : goal.decreases-flat_element
decreases-flat_element l = 8 * l.left + 6

abbrev pub decreases-ask : goal.decreases-ask
decreases-ask l = 8 * l.left + 5

abbrev pub decreases-of_virtual : goal.decreases-of_virtual
decreases-of_virtual l = 8 * l.left + 4

abbrev pub decreases-standing : goal.decreases-standing
decreases-standing l = 8 * l.left + 3

abbrev pub decreases-constant : goal.decreases-constant
decreases-constant l = 8 * l.left + 2

abbrev pub decreases-constant_by : goal.decreases-constant_by
decreases-constant_by l = 8 * l.left + 9

abbrev pub decreases-constant_expression : goal.decreases-constant_expression
decreases-constant_expression l = 8 * l.left + 8
