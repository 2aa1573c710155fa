use Rattle.std.proofs.Common.{rules, ◌≡◌, ◌<◌, ◌≤◌, ◌+◌, ◌∷◌, [], ◌++◌, length, get_or, map, flat_map, Ok, arith, refl, ap, sym, ◌∙◌}
use Rattle.std.specs.Prelude.{slice_get}
use Rattle.std.proofs.lemmas.Option.{slice_get-get_or}
use Rattle.mo_typing.proofs.Empty.{no_rows}
use Rattle.mo_typing.specs.Indices.{indices, numbers_to}
use Rattle.mo_values.specs.Scalars.{of_known}
use Rattle.mo_values.specs.Walk.{at, number, sum_at, part_of, signed_of, branch_of, branch_reads, known_by, read_as}
use Rattle.mo_values.specs.Told.{Tells}
use Rattle.mo_values.specs.steps.Chains.{chain_before, gathered}
use Rattle.mo_values.proofs.Nodes.{known_expression, at_Whole, at_Decimal, at_Str, at_Truth, at_Literal, at_Time, at_Vars, at_Sum, at_Product, at_Power, at_Relation, at_Not, at_All, at_Any, at_If, at_Call, at_Der, at_Array, at_Range, at_Size, at_Sized, at_many}
use Rattle.mo_values.proofs.Splitting.{got, acting_more}
use Rattle.mo_values.proofs.Lists.{fold_taken, read_all_more, read_taken, branches_taken, undecided_alone, inner_more, inner_begins, gathered_more, gathered_one, begun_more, opened}
use Rattle.mo_values.proofs.Telling.{tells, told_as}
use Rattle.mo_values.proofs.walk.+walk.Goals as goal

pub known-returns : goal.known-returns
known-returns t c = λ variable read.
    rw (known_expression variable c.args.e.now c.args.index.now)
    (rw c.kind_or_real.ensures at (c.settle.ensures _ _ (rw c.get.ensures at (c.result_of_node-given.ensures variable read))))

pub result_of_node-returns-in-Whole : goal.result_of_node-returns-in-Whole
result_of_node-returns-in-Whole t c = λ variable read. rw (c.in-Whole.is, at_Whole variable c.in-Whole.n c.args.index.now) (search rules)

pub result_of_node-returns-in-Decimal : goal.result_of_node-returns-in-Decimal
result_of_node-returns-in-Decimal t c = λ variable read. rw (c.in-Decimal.is, at_Decimal variable c.in-Decimal.field-0 c.args.index.now) (tells _ _ refl)

pub result_of_node-returns-in-Str : goal.result_of_node-returns-in-Str
result_of_node-returns-in-Str t c = λ variable read. rw (c.in-Str.is, at_Str variable c.in-Str.field-0 c.args.index.now) (tells _ _ refl)

pub result_of_node-returns-in-Truth : goal.result_of_node-returns-in-Truth
result_of_node-returns-in-Truth t c = λ variable read. rw (c.in-Truth.is, at_Truth variable c.in-Truth.b c.args.index.now) (tells _ _ refl)

pub result_of_node-returns-in-Literal : goal.result_of_node-returns-in-Literal
result_of_node-returns-in-Literal t c = λ variable read. rw (c.in-Literal.is, at_Literal variable c.in-Literal.class c.in-Literal.n c.in-Literal.field-2 c.args.index.now) (tells _ _ refl)

pub result_of_node-returns-in-Time : goal.result_of_node-returns-in-Time
result_of_node-returns-in-Time t c = λ variable read. rw (c.in-Time.is, at_Time variable c.args.index.now) (tells _ _ refl)

pub result_of_node-returns-in-Vars : goal.result_of_node-returns-in-Vars
result_of_node-returns-in-Vars t c = λ variable read. rw (c.in-Vars.is, at_Vars variable c.in-Vars.vars c.in-Vars.kind c.in-Vars.dims c.in-Vars.subs c.args.index.now) (rw (c.as_slice.ensures, c.as_slice-in-Vars.ensures, c.as_slice-in-Vars-2.ensures) at (c.variable.ensures variable read))

pub result_of_node-returns-in-Sum : goal.result_of_node-returns-in-Sum
result_of_node-returns-in-Sum t c = λ variable read. rw (c.in-Sum.is, at_Sum variable c.in-Sum.terms c.args.index.now) (rw c.as_slice-in-Sum.ensures at (c.of_terms.ensures variable read))

pub result_of_node-returns-in-Product : goal.result_of_node-returns-in-Product
result_of_node-returns-in-Product t c = λ variable read. rw (c.in-Product.is, at_Product variable c.in-Product.factors c.args.index.now) (rw c.as_slice-factors.ensures at (c.chain_at.ensures variable read))

pub result_of_node-returns-in-Power : goal.result_of_node-returns-in-Power
result_of_node-returns-in-Power t c = λ variable read. rw (c.in-Power.is, at_Power variable c.in-Power.base c.in-Power.field-1 c.in-Power.exponent c.args.index.now) (c.undecided.ensures _ _ (c.of_two.ensures variable read))

pub result_of_node-returns-in-Relation : goal.result_of_node-returns-in-Relation
result_of_node-returns-in-Relation t c = λ variable read. rw (c.in-Relation.is, at_Relation variable c.in-Relation.op c.in-Relation.left c.in-Relation.right c.args.index.now) (c.relate.ensures _ _ _ (c.at.ensures variable read) (c.at-in-Relation.ensures variable read))

pub result_of_node-returns-in-Not : goal.result_of_node-returns-in-Not
result_of_node-returns-in-Not t c = λ variable read. rw (c.in-Not.is, at_Not variable c.in-Not.inner c.args.index.now) (c.negate.ensures _ _ (c.at-in-Not.ensures variable read))

pub result_of_node-returns-in-All : goal.result_of_node-returns-in-All
result_of_node-returns-in-All t c = λ variable read. rw (c.in-All.is, at_All variable c.in-All.parts c.args.index.now) (c.reckon.ensures _ _ (rw c.as_slice-in-All.ensures at (c.chained.ensures variable read)))

pub result_of_node-returns-in-Any : goal.result_of_node-returns-in-Any
result_of_node-returns-in-Any t c = λ variable read. rw (c.in-Any.is, at_Any variable c.in-Any.parts c.args.index.now) (c.reckon-in-Any.ensures _ _ (rw c.as_slice-in-Any.ensures at (c.chained-in-Any.ensures variable read)))

pub result_of_node-returns-in-If : goal.result_of_node-returns-in-If
result_of_node-returns-in-If t c = λ variable read. rw (c.in-If.is, at_If variable c.in-If.branches c.in-If.other c.args.index.now) (c.undecided-in-If.ensures _ _ (rw c.as_slice-in-If.ensures at (c.of_choice.ensures variable read)))

pub result_of_node-returns-in-Call : goal.result_of_node-returns-in-Call
result_of_node-returns-in-Call t c = λ variable read. rw (c.in-Call.is, at_Call variable c.in-Call.function c.in-Call.args c.args.index.now) (rw c.as_slice-in-Call.ensures at (c.of_call.ensures variable read))

pub result_of_node-returns-in-Der : goal.result_of_node-returns-in-Der
result_of_node-returns-in-Der t c = λ variable read. rw (c.in-Der.is, at_Der variable c.in-Der.inner c.args.index.now) (told_as _ _ _ (undecided_alone (at (part_of variable c.in-Der.inner) c.args.index.now)) (c.undecided-in-Der.ensures _ _ (c.at-in-Der.ensures variable read)))

pub result_of_node-returns-in-Array : goal.result_of_node-returns-in-Array
result_of_node-returns-in-Array t c = λ variable read. rw (c.in-Array.is, at_Array variable c.in-Array.parts c.args.index.now) (rw c.as_slice-in-Array.ensures at (c.of_array.ensures variable read))

pub result_of_node-returns-in-Range : goal.result_of_node-returns-in-Range
result_of_node-returns-in-Range t c = λ variable read. rw (c.in-Range.is, at_Range variable c.in-Range.first c.in-Range.step c.in-Range.field-2 c.args.index.now) (search rules)

pub result_of_node-returns-in-Size : goal.result_of_node-returns-in-Size
result_of_node-returns-in-Size t c = λ variable read. rw (c.in-Size.is, at_Size variable c.in-Size.inner c.in-Size.at c.args.index.now) (c.of_size.ensures _)

pub result_of_node-returns-in-Sized : goal.result_of_node-returns-in-Sized
result_of_node-returns-in-Sized t c = λ variable read. rw (c.in-Sized.is, at_Sized variable c.in-Sized.function c.in-Sized.part c.in-Sized.field-2 c.args.index.now) (c.of_sized.ensures variable read)

pub of_terms-loop-term-preserved : goal.of_terms-loop-term-preserved
of_terms-loop-term-preserved t c = λ variable read.
    told_as _ _ _ (fold_taken (sum_at c.args.index.now) (signed_of variable) (Ok (number 0)) c.args.terms.now c.loop-term.term-index c.term-item.result c.loop-term-test.true c.term-item.is)
    (c.sum-all.ensures _ _ _ (c.loop-term.invariant variable read) (c.reckon.ensures _ _ (c.at.ensures variable read)))

pub of_args-loop-arg-preserved : goal.of_args-loop-arg-preserved
of_args-loop-arg-preserved t c = λ variable read.
    told_as _ _ _ (read_taken (λ arg. at (part_of variable arg) c.args.index.now) c.args.args.now c.loop-arg.arg-index c.arg-item.result c.loop-arg-test.true c.arg-item.is)
    (c.read_also-all.ensures _ _ _ (c.loop-arg.invariant variable read) (c.at.ensures variable read))

pub of_branches-loop-branch-preserved : goal.of_branches-loop-branch-preserved
of_branches-loop-branch-preserved t c = λ variable read.
    told_as _ _ _ (branches_taken variable c.args.index.now c.args.branches.now c.loop-branch.branch-index c.branch-item.result c.loop-branch-test.true c.branch-item.is)
    (c.read_also-all.ensures _ _ _ (c.read_also-condition.ensures _ _ _ (c.loop-branch.invariant variable read) (c.at.ensures variable read)) (c.at-in-loop-branch.ensures variable read))

pub of_choice-returns : goal.of_choice-returns
of_choice-returns t c = λ variable read.
    told_as _ _ _ (read_all_more (branch_reads c.args.index.now (map (branch_of variable) c.args.branches.now)) (at (part_of variable c.args.other.now) c.args.index.now)) (c.read_also.ensures _ _ _ (c.of_branches.ensures variable read) (c.at.ensures variable read))

pub of_call-returns-in-len3-up : goal.of_call-returns-in-len3-up
of_call-returns-in-len3-up t c = λ variable read.
    let enough = c.in-len3-up.len_at_least in
    rw (at_many variable c.args.function c.args.args.now c.args.index.now (omega arith)) (c.undecided.ensures _ _ (c.of_args.ensures variable read))

pub of_call_of_one-returns-in_ok-dims-in-26 : goal.of_call_of_one-returns-in_ok-dims-in-26
of_call_of_one-returns-in_ok-dims-in-26 t c = λ variable read.
    rw c.in-26.is (rw (c.as_slice.ensures, c.in_ok-dims-in-26.ensures) at (c.gathered.ensures variable read (Ok (number 0)) (rw c.number-in-26.ensures (tells _ _ refl))))

pub of_call_of_one-returns-in_ok-dims-in-20 : goal.of_call_of_one-returns-in_ok-dims-in-20
of_call_of_one-returns-in_ok-dims-in-20 t c = λ variable read.
    rw c.in-20.is (rw (c.as_slice-in-20.ensures, c.in_ok-dims-in-20.ensures) at (c.gathered-in-20.ensures variable read (Ok (number 1)) (rw c.number-in-20.ensures (tells _ _ refl))))

pub crossed_at-returns : goal.crossed_at-returns
crossed_at-returns t c = λ variable read. c.sum.ensures _ _ _ (c.product_of_two-left.ensures variable read) (c.product_of_two-right.ensures variable read)

pub acting-loop-j-preserved : goal.acting-loop-j-preserved
acting-loop-j-preserved t c = λ variable read so_far h.
    let above = c.loop-j.auto.j in
    let test = c.loop-j-test.true in
    let within = c.requires.to in
    let low : c.args.from ≤ c.loop-j.j = omega arith in
    let small : c.loop-j.j < length c.args.factors.now = omega arith in
    told_as _ _ _ (sym (acting_more variable c.args.factors.now c.args.from c.loop-j.j c.index-factors-j.result c.args.index.now so_far low small c.index-factors-j.is))
    (c.product-all.ensures _ _ _ (c.loop-j.invariant variable read so_far h) (c.reckon.ensures _ _ (c.at.ensures variable read)))

pub inner_sum-loop-k-preserved : goal.inner_sum-loop-k-preserved
inner_sum-loop-k-preserved t c = λ variable read.
    told_as _ _ _ (inner_more variable (chain_before variable c.args.factors.now c.args.m) (slice_get c.args.factors.now c.args.m) c.args.row.now c.args.column.now c.loop-k.k) (c.sum-all.ensures _ _ _ (c.loop-k.invariant variable read) (c.inner_term-term.ensures variable read))

pub inner_product-returns : goal.inner_product-returns
inner_product-returns t c = λ variable read.
    told_as _ _ _
    (inner_begins variable (chain_before variable c.args.factors.now c.args.m) (slice_get c.args.factors.now c.args.m) c.index-factors-m.result c.in_ok-before.before c.in_ok-after.after c.in_ok-shape.shape c.args.index.now _ _ _ _ _
    (got c.args.factors.now c.args.m c.index-factors-m.result c.requires c.index-factors-m.is) (c.in_ok-before.ensures variable) c.in_ok-shape.ensures c.in_ok-after.ensures
    c.owned-index.ensures c.rows_of-rows.ensures c.first_of-row.ensures c.rest_of-column.ensures (rw c.as_slice.ensures at c.first_number-count.ensures))
    (c.inner_sum.ensures variable read)

pub gathered-returns-in-empty : goal.gathered-returns-in-empty
gathered-returns-in-empty t c = λ variable read so_far h.
    told_as _ _ _ (gathered_one c.args.before.multiplies so_far (λ i. read_as of_known (known_by variable c.args.e.now i)) c.args.begun.now c.args.dims.now c.in-empty.len_below)
    (c.gather.ensures _ _ _ h (c.reckon.ensures _ _ (c.known.ensures variable read)))

pub gathered_rows-returns-then-has_none : goal.gathered_rows-returns-then-has_none
gathered_rows-returns-then-has_none t c = λ variable read so_far h.
    told_as _ _ _
    (ap (λ is. gathered c.args.before.multiplies so_far (map (λ i. read_as of_known (known_by variable c.args.e.now (c.args.begun.now ++ i))) is)) (sym (no_rows c.args.n c.args.more.now (sym c.has_none.ensures ∙ c.if-has_none.true))))
    h

pub gathered_rows-loop-k-preserved : goal.gathered_rows-loop-k-preserved
gathered_rows-loop-k-preserved t c = λ variable read so_far h.
    let next : c.in_ok-index.index ≡ c.args.begun.now ++ (c.loop-k.k + 1) ∷ [] = search rules in
    told_as _ _ _
    (gathered_more c.args.before.multiplies so_far (λ k. map (λ i. read_as of_known (known_by variable c.args.e.now ((c.args.begun.now ++ k ∷ []) ++ i))) (indices c.args.more.now)) c.loop-k.k)
    (rw (c.as_slice.ensures, next) at (c.gathered-all.ensures variable read _ (c.loop-k.invariant variable read so_far h)))

pub gathered_rows-returns : goal.gathered_rows-returns
gathered_rows-returns t c = λ variable read so_far h.
    let end = c.loop-k.auto.k-end in
    let test = c.loop-k-test.false in
    let ended : c.loop-k.k ≡ c.args.n = omega arith in
    told_as _ _ _
    (ap (λ k. gathered c.args.before.multiplies so_far (flat_map (λ k. map (λ i. read_as of_known (known_by variable c.args.e.now ((c.args.begun.now ++ k ∷ []) ++ i))) (indices c.args.more.now)) (numbers_to k))) ended
    ∙ ap (gathered c.args.before.multiplies so_far) (begun_more (λ i. read_as of_known (known_by variable c.args.e.now i)) c.args.begun.now c.args.n c.args.more.now))
    (c.loop-k.invariant variable read so_far h)

pub gathered-returns-in-len1-up : goal.gathered-returns-in-len1-up
gathered-returns-in-len1-up t c = λ variable read so_far h.
    told_as _ _ _
    (ap (λ dims. gathered c.args.before.multiplies so_far (map (λ i. read_as of_known (known_by variable c.args.e.now (c.args.begun.now ++ i))) (indices dims))) (opened c.args.dims.now c.in-len1-up.len_at_least))
    (c.gathered_rows.ensures variable read so_far h)

pub inner_term-returns : goal.inner_term-returns
inner_term-returns t c = λ variable read.
    let left : c.in_ok-left.left ≡ c.args.row.now ++ c.args.k ∷ [] = search rules in
    let right : c.in_ok-right.right ≡ c.args.k ∷ c.args.column.now = search rules in
    let so_far : Tells c.args.read.now c.chain_at-so_far.result ((chain_before variable c.args.factors.now c.args.m).product (c.args.row.now ++ c.args.k ∷ [])) =
    told_as _ _ _ (ap (λ i. (chain_before variable c.args.factors.now c.args.m).product i) (c.as_slice.ensures ∙ left)) (c.chain_at-so_far.ensures variable read) in
    let factor : Tells c.args.read.now c.at-factor.result (at (part_of variable (get_or c.args.factors.now c.args.m c.index-factors-m.result).2) (c.args.k ∷ c.args.column.now)) =
    told_as _ _ _ (ap (λ i. at (part_of variable (get_or c.args.factors.now c.args.m c.index-factors-m.result).2) i) (c.as_slice-2.ensures ∙ right)) (c.at-factor.ensures variable read) in
    rw (slice_get-get_or c.args.factors.now c.args.m c.index-factors-m.result c.requires)
    (c.product.ensures _ _ _ so_far (c.reckon.ensures _ _ factor))
