use Rattle.std.proofs.Common.{rules, ◌≡◌, ◌<◌, ◌≤◌, ◌∷◌, [], ◌++◌, length, map, flat_map, ◌+◌, arith, refl, ap, sym, ◌∙◌}
use Rattle.mo_typing.proofs.Empty.{no_rows}
use Rattle.mo_typing.specs.Indices.{indices, numbers_to}
use Rattle.mo_arrays.specs.Elements.{plain, element_of}
use Rattle.mo_arrays.proofs.Forms.{at_expression, at_Whole, at_Decimal, at_Str, at_Truth, at_Literal, at_Time, at_Vars, at_Sum, at_Product, at_Power, at_Relation, at_Not, at_All, at_Any, at_If, at_Call, at_Der, at_Array, at_Range, at_Size, at_Sized, at_many}
use Rattle.mo_arrays.proofs.Splitting.{acting_more}
use Rattle.mo_arrays.proofs.Numbers.{flat_map_more, begun_more}
use Rattle.mo_arrays.proofs.elements.+elements.Goals as goal

pub element_at-returns : goal.element_at-returns
element_at-returns t c = rw (at_expression c.args.e.now c.args.index.now) (rw c.get.ensures at c.element_of_node.ensures)

pub element_of_node-returns-in-Whole : goal.element_of_node-returns-in-Whole
element_of_node-returns-in-Whole t c = rw (c.in-Whole.is, at_Whole c.in-Whole.n c.args.index.now) (search rules)

pub element_of_node-returns-in_ok-copy-in-Decimal : goal.element_of_node-returns-in_ok-copy-in-Decimal
element_of_node-returns-in_ok-copy-in-Decimal t c = rw (c.in-Decimal.is, at_Decimal c.in-Decimal.text c.args.index.now, c.in_ok-copy-in-Decimal.ensures) refl

pub element_of_node-returns-in_ok-copy-in-Str : goal.element_of_node-returns-in_ok-copy-in-Str
element_of_node-returns-in_ok-copy-in-Str t c = rw (c.in-Str.is, at_Str c.in-Str.text c.args.index.now, c.in_ok-copy-in-Str.ensures) refl

pub element_of_node-returns-in-Truth : goal.element_of_node-returns-in-Truth
element_of_node-returns-in-Truth t c = rw (c.in-Truth.is, at_Truth c.in-Truth.b c.args.index.now) refl

pub element_of_node-returns-in_ok-copy-in-Literal : goal.element_of_node-returns-in_ok-copy-in-Literal
element_of_node-returns-in_ok-copy-in-Literal t c = rw (c.in-Literal.is, at_Literal c.in-Literal.field-0 c.in-Literal.field-1 c.in-Literal.name c.args.index.now, c.in_ok-copy-in-Literal.ensures) refl

pub element_of_node-returns-in-Time : goal.element_of_node-returns-in-Time
element_of_node-returns-in-Time t c = rw (c.in-Time.is, at_Time c.args.index.now) refl

pub element_of_node-returns-in_ok-place-in-Vars : goal.element_of_node-returns-in_ok-place-in-Vars
element_of_node-returns-in_ok-place-in-Vars t c = rw (c.in-Vars.is, at_Vars c.in-Vars.vars c.in-Vars.kind c.in-Vars.dims c.in-Vars.subs c.args.index.now) (search rules)

pub element_of_node-returns-in_ok-of_terms-in-Sum : goal.element_of_node-returns-in_ok-of_terms-in-Sum
element_of_node-returns-in_ok-of_terms-in-Sum t c = rw (c.in-Sum.is, at_Sum c.in-Sum.terms c.args.index.now, c.sum_of.ensures, c.in_ok-of_terms-in-Sum.ensures, c.as_slice-in-Sum.ensures) refl

pub element_of_node-returns-in_ok-chain_at-in-Product : goal.element_of_node-returns-in_ok-chain_at-in-Product
element_of_node-returns-in_ok-chain_at-in-Product t c = rw (c.in-Product.is, at_Product c.in-Product.factors c.args.index.now, c.product_of.ensures, c.in_ok-chain_at-in-Product.ensures, c.as_slice-factors.ensures) refl

pub element_of_node-returns-in-Power : goal.element_of_node-returns-in-Power
element_of_node-returns-in-Power t c = rw (c.in-Power.is, at_Power c.in-Power.base c.in-Power.field-1 c.in-Power.exponent c.args.index.now) c.of_power.ensures

pub element_of_node-returns-in-Relation : goal.element_of_node-returns-in-Relation
element_of_node-returns-in-Relation t c = rw (c.in-Relation.is, at_Relation c.in-Relation.op c.in-Relation.left c.in-Relation.right c.args.index.now) c.of_relation.ensures

pub element_of_node-returns-in_ok-boxed_at-in-Not : goal.element_of_node-returns-in_ok-boxed_at-in-Not
element_of_node-returns-in_ok-boxed_at-in-Not t c = rw (c.in-Not.is, at_Not c.in-Not.inner c.args.index.now, c.in_ok-boxed_at-in-Not.ensures) refl

pub element_of_node-returns-in_ok-of_parts-in-All : goal.element_of_node-returns-in_ok-of_parts-in-All
element_of_node-returns-in_ok-of_parts-in-All t c = rw (c.in-All.is, at_All c.in-All.parts c.args.index.now, c.in_ok-of_parts-in-All.ensures, c.as_slice-in-All.ensures) refl

pub element_of_node-returns-in_ok-of_parts-in-Any : goal.element_of_node-returns-in_ok-of_parts-in-Any
element_of_node-returns-in_ok-of_parts-in-Any t c = rw (c.in-Any.is, at_Any c.in-Any.parts c.args.index.now, c.in_ok-of_parts-in-Any.ensures, c.as_slice-in-Any.ensures) refl

pub element_of_node-returns-in-If : goal.element_of_node-returns-in-If
element_of_node-returns-in-If t c = rw (c.in-If.is, at_If c.in-If.branches c.in-If.other c.args.index.now) (rw c.as_slice-in-If.ensures at c.of_choice.ensures)

pub element_of_node-returns-in-Call : goal.element_of_node-returns-in-Call
element_of_node-returns-in-Call t c = rw (c.in-Call.is, at_Call c.in-Call.function c.in-Call.args c.args.index.now) (rw c.as_slice-in-Call.ensures at c.of_call.ensures)

pub element_of_node-returns-in_ok-boxed_at-in-Der : goal.element_of_node-returns-in_ok-boxed_at-in-Der
element_of_node-returns-in_ok-boxed_at-in-Der t c = rw (c.in-Der.is, at_Der c.in-Der.inner c.args.index.now, c.in_ok-boxed_at-in-Der.ensures) refl

pub element_of_node-returns-in-Array : goal.element_of_node-returns-in-Array
element_of_node-returns-in-Array t c = rw (c.in-Array.is, at_Array c.in-Array.parts c.args.index.now) (rw c.as_slice-in-Array.ensures at c.of_array.ensures)

pub element_of_node-returns-in-Range : goal.element_of_node-returns-in-Range
element_of_node-returns-in-Range t c = rw (c.in-Range.is, at_Range c.in-Range.first c.in-Range.step c.in-Range.field-2 c.args.index.now) (search rules)

pub element_of_node-returns-in-Size : goal.element_of_node-returns-in-Size
element_of_node-returns-in-Size t c = rw (c.in-Size.is, at_Size c.in-Size.inner c.in-Size.at c.args.index.now) c.of_size.ensures

pub element_of_node-returns-in-Sized : goal.element_of_node-returns-in-Sized
element_of_node-returns-in-Sized t c = rw (c.in-Sized.is, at_Sized c.in-Sized.function c.in-Sized.part c.in-Sized.field-2 c.args.index.now) c.of_sized.ensures

pub acting-loop-j-preserved : goal.acting-loop-j-preserved
acting-loop-j-preserved t c =
    let above = c.loop-j.auto.j in
    let test = c.loop-j-test.true in
    let within = c.requires.to in
    let low : c.args.from ≤ c.loop-j.j = omega arith in
    let small : c.loop-j.j < length c.args.factors.now = omega arith in
    let pushed : c.push.new.self ≡ c.loop-j.made ++ (c.index-factors-j.result.0, c.in_ok-at.field-0) ∷ [] = search rules in
    rw (pushed, c.loop-j.invariant, c.in_ok-at.ensures) (sym (acting_more c.args.factors.now c.args.from c.loop-j.j c.index-factors-j.result c.args.index.now low small c.index-factors-j.is))

pub elements_of_rows-returns-then-has_none : goal.elements_of_rows-returns-then-has_none
elements_of_rows-returns-then-has_none t c =
    c.new-made.ensures ∙ sym (ap (map (λ i. plain (element_of c.args.e.now (c.args.begun.now ++ i)))) (no_rows c.args.n c.args.more.now (sym c.has_none.ensures ∙ c.if-has_none.true)))

pub elements_of_rows-loop-k-preserved : goal.elements_of_rows-loop-k-preserved
elements_of_rows-loop-k-preserved t c =
    let appended : c.append.new.self ≡ c.loop-k.made ++ c.in_ok-elements_below.field-0 = search rules in
    let next : c.in_ok-index.index ≡ c.args.begun.now ++ (c.loop-k.k + 1) ∷ [] = search rules in
    rw (appended, c.loop-k.invariant, c.in_ok-elements_below.ensures, c.as_slice.ensures, next)
    (sym (flat_map_more (λ k. map (λ i. plain (element_of c.args.e.now ((c.args.begun.now ++ k ∷ []) ++ i))) (indices c.args.more.now)) c.loop-k.k))

pub elements_of_rows-returns : goal.elements_of_rows-returns
elements_of_rows-returns t c =
    let end = c.loop-k.auto.k-end in
    let test = c.loop-k-test.false in
    let ended : c.loop-k.k ≡ c.args.n = omega arith in
    c.loop-k.invariant
    ∙ (ap (λ k. flat_map (λ k. map (λ i. plain (element_of c.args.e.now ((c.args.begun.now ++ k ∷ []) ++ i))) (indices c.args.more.now)) (numbers_to k)) ended
    ∙ begun_more (λ i. plain (element_of c.args.e.now i)) c.args.begun.now c.args.n c.args.more.now)

pub of_call-returns-in_ok-of_parts-in-len3-up : goal.of_call-returns-in_ok-of_parts-in-len3-up
of_call-returns-in_ok-of_parts-in-len3-up t c =
    let enough = c.in-len3-up.len_at_least in
    rw c.in_ok-of_parts-in-len3-up.ensures (at_many c.args.function c.args.args.now c.args.index.now (omega arith))
