use Rattle.std.proofs.Common.{◌≡◌, ◌+◌, ◌-◌, ◌^◌, min, take}
use Rattle.std.specs.Prelude.{sum_by}
use Rattle.mo_flat.specs.Nodes.{node_count}
use Rattle.mo_flat.proofs.nodes.+nodes.Given as goal

abbrev pub invariant-counted_signed-loop-term : goal.invariant-counted_signed-loop-term
invariant-counted_signed-loop-term l = l.all ≡ min (sum_by (λ term. node_count term.1) (take l.term-index l.terms)) (2 ^ 64 - 1)

abbrev pub invariant-counted_list-loop-part : goal.invariant-counted_list-loop-part
invariant-counted_list-loop-part l = l.all ≡ min (sum_by node_count (take l.part-index l.parts)) (2 ^ 64 - 1)

abbrev pub invariant-counted_branches-loop-branch : goal.invariant-counted_branches-loop-branch
invariant-counted_branches-loop-branch l = l.all ≡ min (sum_by (λ branch. node_count branch.0 + node_count branch.1) (take l.branch-index l.branches)) (2 ^ 64 - 1)
