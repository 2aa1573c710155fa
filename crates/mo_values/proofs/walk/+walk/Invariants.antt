use Rattle.std.proofs.Common.{◌≡◌, ℕ, ◌+◌, ◌*◌, ◌^◌, ◌∷◌, [], ◌++◌, max, map, flat_map, take, drop, length, Ok}
use Rattle.std.specs.Prelude.{fold, slice_get, slice_range}
use Rattle.mo_flat.specs.declared.array.ArrayExpr.{size-ArrayExpr}
use Rattle.mo_syntax.specs.Outcome.{Outcome}
use Rattle.mo_typing.specs.Indices.{indices, numbers_to}
use Rattle.mo_values.specs.declared.value.Reckoned.{Reckoned}
use Rattle.mo_values.specs.Scalars.{Known, of_known, read_all, chained}
use Rattle.mo_values.specs.Walk.{at, number, sum_at, part_of, signed_of, branch_of, branch_reads, known_by, read_as}
use Rattle.mo_values.specs.Told.{AreRead, Tells}
use Rattle.mo_values.specs.steps.Chains.{chain_before, acting, inner_sum, gathered, chain_left, behind_last}
use Rattle.mo_values.proofs.walk.+walk.Given as goal

abbrev pub invariant-of_terms-loop-term : goal.invariant-of_terms-loop-term
invariant-of_terms-loop-term l = (variable : ℕ → Outcome Known) → AreRead l.read variable → Tells l.read l.all (fold (sum_at l.index) (Ok (number 0)) (map (signed_of variable) (take l.term-index l.terms)))

abbrev pub invariant-chained-loop-part : goal.invariant-chained-loop-part
invariant-chained-loop-part l = (variable : ℕ → Outcome Known) → AreRead l.read variable →
    chain_left l.undecided l.deciding (map (λ part. at (part_of variable part) l.index) (drop l.part-index l.parts)) ≡ chained l.deciding (map (λ part. at (part_of variable part) l.index) l.parts)

abbrev pub invariant-of_branches-loop-branch : goal.invariant-of_branches-loop-branch
invariant-of_branches-loop-branch l = (variable : ℕ → Outcome Known) → AreRead l.read variable → Tells l.read l.all (read_all (branch_reads l.index (map (branch_of variable) (take l.branch-index l.branches))))

abbrev pub invariant-of_args-loop-arg : goal.invariant-of_args-loop-arg
invariant-of_args-loop-arg l = (variable : ℕ → Outcome Known) → AreRead l.read variable → Tells l.read l.all (read_all (map (λ arg. at (part_of variable arg) l.index) (take l.arg-index l.args)))

abbrev pub invariant-acting-loop-j : goal.invariant-acting-loop-j
invariant-acting-loop-j l = (variable : ℕ → Outcome Known) → AreRead l.read variable → (so_far : Outcome Reckoned) → Tells l.read l.fn.begun so_far → Tells l.read l.all (acting variable l.index so_far (slice_range l.factors l.from l.j))

abbrev pub invariant-inner_sum-loop-k : goal.invariant-inner_sum-loop-k
invariant-inner_sum-loop-k l = (variable : ℕ → Outcome Known) → AreRead l.read variable → Tells l.read l.all (inner_sum variable (chain_before variable l.factors l.m) (slice_get l.factors l.m) l.row l.column l.k)

abbrev pub invariant-gathered_rows-loop-k : goal.invariant-gathered_rows-loop-k
invariant-gathered_rows-loop-k l = (variable : ℕ → Outcome Known) → AreRead l.read variable → (so_far : Outcome Reckoned) → Tells l.read l.before.so_far so_far →
    Tells l.read l.all (gathered l.before.multiplies so_far (flat_map (λ k. map (λ index. read_as of_known (known_by variable l.e ((l.begun ++ k ∷ []) ++ index))) (indices l.more)) (numbers_to l.k)))

abbrev pub decreases-known : goal.decreases-known
decreases-known l = 2 ^ 70 * goal.size-known l + 0

abbrev pub decreases-result_of_node : goal.decreases-result_of_node
decreases-result_of_node l = 2 ^ 70 * goal.size-result_of_node l + 0

abbrev pub decreases-at : goal.decreases-at
decreases-at l = 2 ^ 70 * goal.size-at l + 1

abbrev pub decreases-of_terms : goal.decreases-of_terms
decreases-of_terms l = 2 ^ 70 * goal.size-of_terms l + 2

abbrev pub decreases-of_args : goal.decreases-of_args
decreases-of_args l = 2 ^ 70 * goal.size-of_args l + 2

abbrev pub decreases-chained : goal.decreases-chained
decreases-chained l = 2 ^ 70 * goal.size-chained l + 2

abbrev pub decreases-of_branches : goal.decreases-of_branches
decreases-of_branches l = 2 ^ 70 * goal.size-of_branches l + 2

abbrev pub decreases-of_array : goal.decreases-of_array
decreases-of_array l = 2 ^ 70 * goal.size-of_array l + 1

abbrev pub decreases-of_sized : goal.decreases-of_sized
decreases-of_sized l = 2 ^ 70 * goal.size-of_sized l + 1

abbrev pub decreases-of_two : goal.decreases-of_two
decreases-of_two l = 2 ^ 70 * max (size-ArrayExpr l.first.now) (size-ArrayExpr l.second.now) + 3

abbrev pub decreases-of_choice : goal.decreases-of_choice
decreases-of_choice l = 2 ^ 70 * max (goal.size-of_choice l) (size-ArrayExpr l.other.now) + 3

abbrev pub decreases-crossed : goal.decreases-crossed
decreases-crossed l = 2 ^ 70 * max (size-ArrayExpr l.a.now) (size-ArrayExpr l.b.now) + 5

abbrev pub decreases-crossed_at : goal.decreases-crossed_at
decreases-crossed_at l = 2 ^ 70 * max (size-ArrayExpr l.a.now) (size-ArrayExpr l.b.now) + 4

abbrev pub decreases-product_of_two : goal.decreases-product_of_two
decreases-product_of_two l = 2 ^ 70 * max (size-ArrayExpr l.a.now) (size-ArrayExpr l.b.now) + 3

abbrev pub decreases-acting : goal.decreases-acting
decreases-acting l = 2 ^ 70 * goal.size-acting l + 3

abbrev pub decreases-chain_at : goal.decreases-chain_at
decreases-chain_at l = 2 ^ 70 * goal.size-chain_at l + (8 * l.n + 4)

abbrev pub decreases-begun_by : goal.decreases-begun_by
decreases-begun_by l = 2 ^ 70 * goal.size-begun_by l + 8 * behind_last l.last

abbrev pub decreases-inner_term : goal.decreases-inner_term
decreases-inner_term l = 2 ^ 70 * goal.size-inner_term l + (8 * l.m + 5)

abbrev pub decreases-inner_sum : goal.decreases-inner_sum
decreases-inner_sum l = 2 ^ 70 * goal.size-inner_sum l + (8 * l.m + 6)

abbrev pub decreases-inner_product : goal.decreases-inner_product
decreases-inner_product l = 2 ^ 70 * goal.size-inner_product l + (8 * l.m + 7)

abbrev pub decreases-gathered : goal.decreases-gathered
decreases-gathered l = 2 ^ 70 * goal.size-gathered l + (8 * length l.dims.now + 2)

abbrev pub decreases-gathered_rows : goal.decreases-gathered_rows
decreases-gathered_rows l = 2 ^ 70 * goal.size-gathered_rows l + (8 * length l.more.now + 3)

abbrev pub decreases-of_call_of_one : goal.decreases-of_call_of_one
decreases-of_call_of_one l = 2 ^ 70 * goal.size-of_call_of_one l + (2 ^ 68 + 1)

abbrev pub decreases-of_call_of_two : goal.decreases-of_call_of_two
decreases-of_call_of_two l = 2 ^ 70 * max (size-ArrayExpr l.a.now) (size-ArrayExpr l.b.now) + 6

abbrev pub decreases-of_call : goal.decreases-of_call
decreases-of_call l = 2 ^ 70 * goal.size-of_call l + (2 ^ 68 + 6)
