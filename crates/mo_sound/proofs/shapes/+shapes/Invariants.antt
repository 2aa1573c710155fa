-- Those so far are well shaped.
use Rattle.std.proofs.Common.{◌≡◌, ◌&&◌, true, take}
use Rattle.std.specs.List.{list_all}
use Rattle.mo_flat.specs.Sound.{is_shaped}
use Rattle.mo_sound.proofs.shapes.+shapes.Given as goal

abbrev pub invariant-are_signed_shaped-loop-term : goal.invariant-are_signed_shaped-loop-term
invariant-are_signed_shaped-loop-term l = list_all (λ term. is_shaped l.vars term.1) (take l.term-index l.terms) ≡ true

abbrev pub invariant-are_shaped-loop-part : goal.invariant-are_shaped-loop-part
invariant-are_shaped-loop-part l = list_all (is_shaped l.vars) (take l.part-index l.parts) ≡ true

abbrev pub invariant-are_branches_shaped-loop-branch : goal.invariant-are_branches_shaped-loop-branch
invariant-are_branches_shaped-loop-branch l = list_all (λ branch. is_shaped l.vars branch.0 && is_shaped l.vars branch.1) (take l.branch-index l.branches) ≡ true
