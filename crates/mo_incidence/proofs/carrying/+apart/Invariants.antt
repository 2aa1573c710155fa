use Rattle.std.proofs.Common.{◌≡◌, false, true, take}
use Rattle.std.specs.Prelude.{◌&&◌}
use Rattle.std.specs.List.{list_all}
use Rattle.mo_symdiff.specs.Orders.{apart_in}
use Rattle.mo_incidence.proofs.carrying.+apart.Given as goal

abbrev pub invariant-all_apart-loop-part : goal.invariant-all_apart-loop-part
invariant-all_apart-loop-part l = list_all (λ p. apart_in l.vars p l.around) (take l.part-index l.parts) ≡ true

abbrev pub invariant-signed_apart-loop-term : goal.invariant-signed_apart-loop-term
invariant-signed_apart-loop-term l = list_all (λ t. apart_in l.vars t.1 l.around) (take l.term-index l.terms) ≡ true

abbrev pub invariant-branches_apart-loop-branch : goal.invariant-branches_apart-loop-branch
invariant-branches_apart-loop-branch l = list_all (λ b. apart_in l.vars b.0 false && apart_in l.vars b.1 l.around) (take l.branch-index l.branches) ≡ true
