-- What holds of the kinds of those so far.
use Rattle.std.proofs.Common.{◌≡◌, ◌+◌, ◌*◌, ◌∷◌, true, map, max, take}
use Rattle.std.specs.List.{list_all}
use Rattle.mo_flat.specs.declared.expr.FlatExpr.{size-FlatExpr}
use Rattle.mo_flat.specs.Sound.{is_truth, kind_of}
use Rattle.mo_sound.specs.SoundKinds.{AreSummed}
use Rattle.mo_sound.proofs.kinds.+kinds.Given as goal

abbrev pub invariant-kinds_of_signed-loop-term : goal.invariant-kinds_of_signed-loop-term
invariant-kinds_of_signed-loop-term l = AreSummed l.kinds (map (λ term. kind_of l.vars term.1) (take l.term-index l.terms))

abbrev pub invariant-kinds_of-loop-part : goal.invariant-kinds_of-loop-part
invariant-kinds_of-loop-part l = AreSummed l.kinds (map (kind_of l.vars) (take l.part-index l.parts))

abbrev pub invariant-kind_of_choice-loop-branch : goal.invariant-kind_of_choice-loop-branch
invariant-kind_of_choice-loop-branch l = record {
  kinds : AreSummed l.kinds (kind_of l.vars l.other ∷ map (λ branch. kind_of l.vars branch.1) (take l.branch-index l.branches));
  conditions : list_all (λ branch. is_truth (kind_of l.vars branch.0)) (take l.branch-index l.branches) ≡ true;
}

abbrev pub decreases-kind_of : goal.decreases-kind_of
decreases-kind_of l = 4 * size-FlatExpr l.e.now + 0

abbrev pub decreases-kinds_of_signed : goal.decreases-kinds_of_signed
decreases-kinds_of_signed l = 4 * goal.size-kinds_of_signed l + 1

abbrev pub decreases-kinds_of : goal.decreases-kinds_of
decreases-kinds_of l = 4 * goal.size-kinds_of l + 1

abbrev pub decreases-kind_of_choice : goal.decreases-kind_of_choice
decreases-kind_of_choice l = 4 * max (goal.size-kind_of_choice l) (size-FlatExpr l.other.now) + 2
