-- The orders of those so far stay low.
use Rattle.std.proofs.Common.{◌≡◌, ◌&&◌, true, take}
use Rattle.std.specs.List.{list_all}
use Rattle.mo_sound.specs.SoundKinds.{orders_at}
use Rattle.mo_sound.proofs.orders.+orders.Given as goal

abbrev pub invariant-orders_of_signed_fit-loop-term : goal.invariant-orders_of_signed_fit-loop-term
invariant-orders_of_signed_fit-loop-term l = list_all (λ term. orders_at term.1 l.around) (take l.term-index l.terms) ≡ true

abbrev pub invariant-orders_of_all_fit-loop-part : goal.invariant-orders_of_all_fit-loop-part
invariant-orders_of_all_fit-loop-part l = list_all (λ part. orders_at part l.around) (take l.part-index l.parts) ≡ true

abbrev pub invariant-orders_of_branches_fit-loop-branch : goal.invariant-orders_of_branches_fit-loop-branch
invariant-orders_of_branches_fit-loop-branch l = list_all (λ branch. orders_at branch.0 l.around && orders_at branch.1 l.around) (take l.branch-index l.branches) ≡ true
