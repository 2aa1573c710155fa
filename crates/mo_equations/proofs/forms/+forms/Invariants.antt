-- What was made is what the equations, the turns and the branches so far give.
use Rattle.std.proofs.Common.{◌≡◌, ◌+◌, ◌*◌, ◌^◌, ◌++◌, List, Ok, drop, length, map, max, take}
use Rattle.mo_flat.specs.declared.expr.FlatExpr.{FlatExpr}
use Rattle.mo_scope.specs.Worlds.{frames_of}
use Rattle.mo_equations.specs.Equations.{made_loop, with_iteration}
use Rattle.mo_equations.specs.Gathering.{Made, one_turn, turn_none, turn_then}
use Rattle.mo_equations.specs.Leaves.{place_of_root}
use Rattle.mo_equations.specs.steps.Choices.{AreBranches}
use Rattle.mo_equations.specs.steps.Desks.{Goes}
use Rattle.mo_equations.specs.steps.Standing.{tree_in}
use Rattle.mo_equations.specs.steps.Makings.{IsMade}
use Rattle.mo_equations.specs.steps.Ranges.{numbers_seen}
use Rattle.mo_equations.specs.steps.Turns.{all_made_at, choice_at, formed_at, site_in}
use Rattle.mo_equations.proofs.Depths.{depth_of_equations, depth_under_equations}
use Rattle.mo_equations.proofs.Turning.{Gathers}
use Rattle.mo_equations.proofs.forms.+forms.Given as goal

abbrev pub invariant-made_section-loop-equation : goal.invariant-made_section-loop-equation
invariant-made_section-loop-equation l = record {
  goes : Goes l.initial.s l.s l.initial.desk l.desk;
  made : Made;
  is : IsMade l.made made;
  gathers : Gathers (λ equation. equation.what equation.place (site_in (frames_of l.initial.s) l.site)) (map (formed_at (tree_in l.initial.s l.initial.desk.leaves)) (take l.equation-index l.equations))
      l.initial.desk.turns made l.desk.turns;
}

abbrev pub invariant-turns-loop-k : goal.invariant-turns-loop-k
invariant-turns-loop-k l = record {
  goes : Goes l.initial.s l.s l.initial.desk l.desk;
  made : Made;
  is : IsMade l.made made;
  gathers : Gathers
      (λ n. one_turn (place_of_root (tree_in l.initial.s l.initial.desk.leaves))
      (made_loop (tree_in l.initial.s l.initial.desk.leaves) l.iteration.place l.indices (all_made_at (tree_in l.initial.s l.initial.desk.leaves) l.body)
      (with_iteration (site_in (frames_of l.initial.s) l.site) l.iteration.name.now n)))
      (take l.k (numbers_seen l.iteration.numbers.now)) l.initial.desk.turns made l.desk.turns;
}

-- The answer for the branches that are left, behind those that were made, is the answer for all.
abbrev pub invariant-choice-loop-branch : goal.invariant-choice-loop-branch
invariant-choice-loop-branch l = record {
  goes : Goes l.initial.s l.s l.initial.desk l.desk;
  branches : List (FlatExpr × Made);
  are : AreBranches l.made branches;
  left :
      turn_then (choice_at (tree_in l.initial.s l.initial.desk.leaves) (record { scope = (site_in (frames_of l.initial.s) l.site).scope; undecided = l.undecided }) (drop l.branch-index l.branches) l.others)
      (λ choice. turn_none (Ok (branches ++ choice.0, choice.1))) l.desk.turns
      ≡ choice_at (tree_in l.initial.s l.initial.desk.leaves) (site_in (frames_of l.initial.s) l.site) l.branches l.others l.initial.desk.turns;
}

abbrev pub decreases-made_equation : goal.decreases-made_equation
decreases-made_equation l = 2 ^ 70 * goal.size-made_equation l + 1

abbrev pub decreases-made_section : goal.decreases-made_section
decreases-made_section l = 2 ^ 70 * depth_of_equations l.equations.now + 2

abbrev pub decreases-undecided_branch : goal.decreases-undecided_branch
decreases-undecided_branch l = 2 ^ 70 * depth_of_equations l.equations.now + 3

abbrev pub decreases-choice : goal.decreases-choice
decreases-choice l = 2 ^ 70 * max (depth_under_equations l.branches.now) (depth_of_equations l.others.now) + 4

abbrev pub decreases-looped : goal.decreases-looped
decreases-looped l = 2 ^ 70 * depth_of_equations l.body.now + 4 * length l.indices.now + 4

abbrev pub decreases-turns : goal.decreases-turns
decreases-turns l = 2 ^ 70 * depth_of_equations l.body.now + 4 * length l.indices.now + 5
