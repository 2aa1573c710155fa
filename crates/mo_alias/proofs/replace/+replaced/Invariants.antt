use Rattle.std.proofs.Common.{◌≡◌, ◌+◌, ◌*◌, max, map, take}
use Rattle.mo_flat.specs.declared.expr.FlatExpr.{size-FlatExpr}
use Rattle.mo_alias.specs.Without.{replaced}
use Rattle.mo_alias.specs.steps.Placing.{place_at}
use Rattle.mo_alias.proofs.replace.+replaced.Given as goal

abbrev pub invariant-replaced_branches-loop-branch : goal.invariant-replaced_branches-loop-branch
invariant-replaced_branches-loop-branch l = l.made ≡ map (λ b. (replaced (place_at l.places) b.0, replaced (place_at l.places) b.1)) (take l.branch-index l.branches)

abbrev pub invariant-replaced_list-loop-part : goal.invariant-replaced_list-loop-part
invariant-replaced_list-loop-part l = l.made ≡ map (replaced (place_at l.places)) (take l.part-index l.parts)

abbrev pub invariant-replaced_signed-loop-term : goal.invariant-replaced_signed-loop-term
invariant-replaced_signed-loop-term l = l.made ≡ map (λ t. (t.0, replaced (place_at l.places) t.1)) (take l.term-index l.terms)

abbrev pub decreases-replaced : goal.decreases-replaced
decreases-replaced l = 4 * goal.size-replaced l + 0

abbrev pub decreases-replaced_box : goal.decreases-replaced_box
decreases-replaced_box l = 4 * goal.size-replaced_box l + 1

abbrev pub decreases-replaced_boxes : goal.decreases-replaced_boxes
decreases-replaced_boxes l = 4 * max (size-FlatExpr l.a.now) (size-FlatExpr l.b.now) + 2

abbrev pub decreases-replaced_list : goal.decreases-replaced_list
decreases-replaced_list l = 4 * goal.size-replaced_list l + 1

abbrev pub decreases-replaced_signed : goal.decreases-replaced_signed
decreases-replaced_signed l = 4 * goal.size-replaced_signed l + 1

abbrev pub decreases-replaced_branches : goal.decreases-replaced_branches
decreases-replaced_branches l = 4 * goal.size-replaced_branches l + 1

abbrev pub decreases-replaced_choice : goal.decreases-replaced_choice
decreases-replaced_choice l = 4 * max (goal.size-replaced_choice l) (size-FlatExpr l.other.now) + 2
