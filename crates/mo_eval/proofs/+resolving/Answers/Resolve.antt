-- What is answered of the calls of resolve.rt.
use Rattle.mo_eval.proofs.Forms.{at_All, at_Any, at_Array, at_ArrayFor, at_Call, at_Decimal, at_EndMark, at_If, at_Matrix, at_Not, at_Power, at_Product, at_Range, at_Ref, at_Relation, at_Str, at_Sum, at_Truth, at_Tuple, at_Whole, made_expression}
use Rattle.mo_eval.proofs.Growing.{behind, behind_made as behind_made_of_growing, each_go_on, each_halt, given_made, halts_through, made_as, parts_go_on, parts_halt, same_made, same_part, two_halt, two_made, two_then}
use Rattle.mo_eval.proofs.Grown.{grows_on, same_virtuals, there_still}
use Rattle.mo_syntax.specs.Outcome.{and_then}
use Rattle.mo_values.specs.Made.{power_of}
use Rattle.mo_eval.specs.Resolving.{made_range, make_part, make_parts}
use Rattle.mo_eval.specs.Seen.{virtuals_seen}
use Rattle.mo_eval.specs.steps.Sites.{ask_of, elements_in, part_in, scope_of}
use Rattle.mo_eval.specs.Virtuals.{Virtual, make, make_each, make_from}
use Rattle.mo_eval.specs.steps.Parts.{as_factor, as_term, made_factor, made_term}
use Rattle.mo_flat.specs.declared.array.ArrayExpr.{roll-ArrayExpr}
use Rattle.mo_flat.specs.declared.array.ArrayNode.{ArrayNode}
use Rattle.mo_flat.specs.declared.array.ArrayNode.TheVariants.{Relation, Truth, Whole}
use Rattle.mo_scope.specs.Worlds.{frames_of, table_in}
use Rattle.mo_typing.proofs.Gathering.{opened}
use Rattle.std.proofs.Common.{Err, List, Ok, [], ap, drop, map, refl, rules, sym, ◌++◌, ◌+◌, ◌∙◌, ◌∷◌, ◌≡◌}
use Rattle.std.specs.Option.{option_map}
use Rattle.mo_eval.proofs.+resolving.Goals as goal
use Rattle.mo_names.proofs.Later.{grows_refl, grows_trans}

pub resolve-returns-clause-exact : goal.resolve::resolve-returns-clause-exact
resolve-returns-clause-exact t c =
    rw (c.ascend.ensures, made_expression (table_in c.args.s.now) (ask_of c.args.s.now c.args.site.now) (scope_of c.args.s.now c.args.site.now) c.args.e.now)
    (rw (c.descend.ensures, c.get.ensures) at c.resolve_node-made.ensures.exact)

pub two-returns-in_err-second-clause-exact : goal.resolve::two-returns-in_err-second-clause-exact
two-returns-in_err-second-clause-exact t c =
    let same = same_part c.args.s.now c.operand.new.s c.args.site.now c.operand.ensures.grows c.requires.frame c.args.b.now in
    let p : c.from_residual-in_err-second.result ≡ Err c.in_err-second.field-0.0 = search rules in
    rw p (two_halt _ c.in_err-second.field-0.0 _ c.args.site.now.context (part_in c.args.s.now c.args.site.now c.args.a.now) (part_in c.args.s.now c.args.site.now c.args.b.now) (virtuals_seen (frames_of c.args.s.now) c.args.virtuals.now) (virtuals_seen (frames_of c.operand.new.s) c.operand.new.virtuals) _ c.in_ok-first.ensures.exact.is (same_made _ _ _ c.args.site.now.context _ _ _ same c.in_err-second.ensures.exact))

pub two-returns-clause-exact : goal.resolve::two-returns-clause-exact
two-returns-clause-exact t c =
    let same = same_part c.args.s.now c.operand.new.s c.args.site.now c.operand.ensures.grows c.requires.frame c.args.b.now in
    record { is = two_made c.args.site.now.context (part_in c.args.s.now c.args.site.now c.args.a.now) (part_in c.args.s.now c.args.site.now c.args.b.now) (virtuals_seen (frames_of c.args.s.now) c.args.virtuals.now) (virtuals_seen (frames_of c.operand.new.s) c.operand.new.virtuals) _ _ _ c.in_ok-first.ensures.exact.is (same_made _ _ _ c.args.site.now.context _ _ _ same c.in_ok-second.ensures.exact).is }

pub operands-returns-in_err-one-clause-exact : goal.resolve::operands-returns-in_err-one-clause-exact
operands-returns-in_err-one-clause-exact t c =
    let x = c.part-item.result in
    let i = c.loop-part.part-index in
    let f = part_in c.args.s.now c.args.site.now in
    let before = virtuals_seen (frames_of c.loop-part.s) c.loop-part.virtuals in
    let same = same_part c.args.s.now c.loop-part.s c.args.site.now c.loop-part.invariant.0 c.requires.frame x in
    let p : c.from_residual.result ≡ Err c.in_err-one.field-0.0 = search rules in
    rw p (made_as _ _ _ _ _
    (opened (λ xs. and_then (make_parts c.args.site.now.context (map f xs) before) (behind c.loop-part.made)) c.args.parts.now i x c.loop-part-test.true c.part-item.is ∙ c.loop-part.invariant.2)
    (parts_halt _ c.in_err-one.field-0.0 _ c.args.site.now.context f c.loop-part.made x (drop (i + 1) c.args.parts.now) before (same_made _ _ _ c.args.site.now.context _ _ _ same c.in_err-one.ensures.exact)))

pub operands-loop-part-preserved : goal.resolve::operands-loop-part-preserved
operands-loop-part-preserved t c =
    let x = c.part-item.result in
    let i = c.loop-part.part-index in
    let f = part_in c.args.s.now c.args.site.now in
    let before = virtuals_seen (frames_of c.loop-part.s) c.loop-part.virtuals in
    let same = same_part c.args.s.now c.loop-part.s c.args.site.now c.loop-part.invariant.0 c.requires.frame x in
    let pushed : c.push.new.self ≡ c.loop-part.made ++ c.in_ok-one.one ∷ [] = search rules in (
      grows_on _ _ _ c.loop-part.invariant.0 c.operand.ensures.grows,
      c.operand.ensures.there,
      rw pushed
          (sym (parts_go_on c.args.site.now.context f c.loop-part.made x (drop (i + 1) c.args.parts.now) before c.in_ok-one.one (virtuals_seen (frames_of c.operand.new.s) c.operand.new.virtuals) (same_made _ _ _ c.args.site.now.context _ _ _ same c.in_ok-one.ensures.exact).is)
          ∙ (opened (λ xs. and_then (make_parts c.args.site.now.context (map f xs) before) (behind c.loop-part.made)) c.args.parts.now i x c.loop-part-test.true c.part-item.is ∙ c.loop-part.invariant.2)),
      c.operand.ensures.kept,
    )

pub resolve_node-returns-in-Whole-clause-exact : goal.resolve::resolve_node-returns-in-Whole-clause-exact
resolve_node-returns-in-Whole-clause-exact t c =
    rw (c.in-Whole.is, at_Whole (table_in c.args.s.now) (ask_of c.args.s.now c.args.site.now) (scope_of c.args.s.now c.args.site.now) c.in-Whole.n) (c.at_place.ensures c.args.s.now c.args.virtuals.now (Ok (Whole c.in-Whole.n, (virtuals_seen (frames_of c.args.s.now) c.args.virtuals.now))) (search rules))

pub resolve_node-returns-in-Decimal-clause-exact : goal.resolve::resolve_node-returns-in-Decimal-clause-exact
resolve_node-returns-in-Decimal-clause-exact t c =
    rw (c.in-Decimal.is, at_Decimal (table_in c.args.s.now) (ask_of c.args.s.now c.args.site.now) (scope_of c.args.s.now c.args.site.now) c.in-Decimal.text) (c.at_place-in-Decimal.ensures _ _ _ (given_made _ _ _ _ c.decimal.ensures))

pub resolve_node-returns-in-Str-clause-exact : goal.resolve::resolve_node-returns-in-Str-clause-exact
resolve_node-returns-in-Str-clause-exact t c =
    rw (c.in-Str.is, at_Str (table_in c.args.s.now) (ask_of c.args.s.now c.args.site.now) (scope_of c.args.s.now c.args.site.now) c.in-Str.text) (c.at_place-in-Str.ensures _ _ _ (given_made _ _ _ _ c.string.ensures))

pub resolve_node-returns-in-Truth-clause-exact : goal.resolve::resolve_node-returns-in-Truth-clause-exact
resolve_node-returns-in-Truth-clause-exact t c =
    rw (c.in-Truth.is, at_Truth (table_in c.args.s.now) (ask_of c.args.s.now c.args.site.now) (scope_of c.args.s.now c.args.site.now) c.in-Truth.b) (c.at_place-in-Truth.ensures c.args.s.now c.args.virtuals.now (Ok (Truth c.in-Truth.b, (virtuals_seen (frames_of c.args.s.now) c.args.virtuals.now))) (record { is = refl }))

pub resolve_node-returns-in-Power-clause-exact : goal.resolve::resolve_node-returns-in-Power-clause-exact
resolve_node-returns-in-Power-clause-exact t c =
    rw (c.in-Power.is, at_Power (table_in c.args.s.now) (ask_of c.args.s.now c.args.site.now) (scope_of c.args.s.now c.args.site.now) c.in-Power.base c.in-Power.dotted c.in-Power.exponent) (made_as _ _ _ _ _
    (ap (λ o. and_then o (λ made. Ok (roll-ArrayExpr (record { place = c.args.place; node = made.0 }), made.1)))
    (two_then c.args.site.now.context (part_in c.args.s.now c.args.site.now c.in-Power.base) (part_in c.args.s.now c.args.site.now c.in-Power.exponent) (virtuals_seen (frames_of c.args.s.now) c.args.virtuals.now) (λ x y. make_from (power_of c.args.place x c.in-Power.dotted y))))
    (c.at_place-in-Power.ensures _ _ _ (c.power.ensures _ _ _ c.two-operands.ensures.exact)))

pub resolve_node-returns-in-Relation-clause-exact : goal.resolve::resolve_node-returns-in-Relation-clause-exact
resolve_node-returns-in-Relation-clause-exact t c =
    rw (c.in-Relation.is, at_Relation (table_in c.args.s.now) (ask_of c.args.s.now c.args.site.now) (scope_of c.args.s.now c.args.site.now) c.in-Relation.op c.in-Relation.left c.in-Relation.right) (made_as _ _ _ _ _
    (ap (λ o. and_then o (λ made. Ok (roll-ArrayExpr (record { place = c.args.place; node = made.0 }), made.1)))
    (two_then c.args.site.now.context (part_in c.args.s.now c.args.site.now c.in-Relation.left) (part_in c.args.s.now c.args.site.now c.in-Relation.right) (virtuals_seen (frames_of c.args.s.now) c.args.virtuals.now) (λ x y. make (Relation c.in-Relation.op x y))))
    (c.at_place-in-Relation.ensures _ _ _ (c.relation.ensures _ _ _ c.two-operands-in-Relation.ensures.exact)))

pub resolve_node-returns-in-Not-clause-exact : goal.resolve::resolve_node-returns-in-Not-clause-exact
resolve_node-returns-in-Not-clause-exact t c =
    rw (c.in-Not.is, at_Not (table_in c.args.s.now) (ask_of c.args.s.now c.args.site.now) (scope_of c.args.s.now c.args.site.now) c.in-Not.inner) (c.at_place-in-Not.ensures _ _ _ (c.negation.ensures _ _ _ c.operand-inner.ensures.exact))

pub resolve_node-returns-in-All-clause-exact : goal.resolve::resolve_node-returns-in-All-clause-exact
resolve_node-returns-in-All-clause-exact t c =
    rw (c.in-All.is, at_All (table_in c.args.s.now) (ask_of c.args.s.now c.args.site.now) (scope_of c.args.s.now c.args.site.now) c.in-All.parts) (c.at_place-in-All.ensures _ _ _ (c.all_of.ensures _ _ _ (rw c.as_slice-in-All.ensures at c.operands-parts.ensures.exact)))

pub resolve_node-returns-in-Any-clause-exact : goal.resolve::resolve_node-returns-in-Any-clause-exact
resolve_node-returns-in-Any-clause-exact t c =
    rw (c.in-Any.is, at_Any (table_in c.args.s.now) (ask_of c.args.s.now c.args.site.now) (scope_of c.args.s.now c.args.site.now) c.in-Any.parts) (c.at_place-in-Any.ensures _ _ _ (c.any_of.ensures _ _ _ (rw c.as_slice-in-Any.ensures at c.operands-parts-in-Any.ensures.exact)))

pub resolve_node-returns-in-Array-clause-exact : goal.resolve::resolve_node-returns-in-Array-clause-exact
resolve_node-returns-in-Array-clause-exact t c =
    rw (c.in-Array.is, at_Array (table_in c.args.s.now) (ask_of c.args.s.now c.args.site.now) (scope_of c.args.s.now c.args.site.now) c.in-Array.parts) (c.at_place-in-Array.ensures _ _ _ (c.array_of.ensures _ _ _ (rw c.as_slice-in-Array.ensures at c.operands-parts-in-Array.ensures.exact)))

pub resolve_node-returns-in-EndMark-clause-exact : goal.resolve::resolve_node-returns-in-EndMark-clause-exact
resolve_node-returns-in-EndMark-clause-exact t c =
    rw (c.in-EndMark.is, at_EndMark (table_in c.args.s.now) (ask_of c.args.s.now c.args.site.now) (scope_of c.args.s.now c.args.site.now)) (c.at_place-in-EndMark.ensures _ _ _ (given_made _ _ _ _ (rw c.made_end.ensures at c.answer.ensures)))

pub resolve_node-returns-in-Tuple-clause-exact : goal.resolve::resolve_node-returns-in-Tuple-clause-exact
resolve_node-returns-in-Tuple-clause-exact t c =
    rw (c.in-Tuple.is, at_Tuple (table_in c.args.s.now) (ask_of c.args.s.now c.args.site.now) (scope_of c.args.s.now c.args.site.now) c.in-Tuple.field-0 c.args.place c.args.site.now.context) (rw c.broken.ensures (record { is = refl }))

pub resolve_node-returns-in-ArrayFor-clause-exact : goal.resolve::resolve_node-returns-in-ArrayFor-clause-exact
resolve_node-returns-in-ArrayFor-clause-exact t c =
    rw (c.in-ArrayFor.is, at_ArrayFor (table_in c.args.s.now) (ask_of c.args.s.now c.args.site.now) (scope_of c.args.s.now c.args.site.now) c.in-ArrayFor.field-0 c.in-ArrayFor.field-1 c.args.place c.args.site.now.context) (rw c.broken-in-ArrayFor.ensures (record { is = refl }))

pub resolve_node-returns-in-Matrix-clause-exact : goal.resolve::resolve_node-returns-in-Matrix-clause-exact
resolve_node-returns-in-Matrix-clause-exact t c =
    rw (c.in-Matrix.is, at_Matrix (table_in c.args.s.now) (ask_of c.args.s.now c.args.site.now) (scope_of c.args.s.now c.args.site.now) c.in-Matrix.field-0 c.args.place c.args.site.now.context) (rw c.broken-in-Matrix.ensures (record { is = refl }))

pub terms-returns-in_err-one-clause-exact : goal.resolve::terms-returns-in_err-one-clause-exact
terms-returns-in_err-one-clause-exact t c =
    let x = c.term-item.result in
    let i = c.loop-term.term-index in
    let f = part_in c.args.s.now c.args.site.now in
    let before = virtuals_seen (frames_of c.loop-term.s) c.loop-term.virtuals in
    let same = same_part c.args.s.now c.loop-term.s c.args.site.now c.loop-term.invariant.0 c.requires.frame x.value in
    let p : c.from_residual.result ≡ Err c.in_err-one.field-0.0 = search rules in
    rw p (made_as _ _ _ _ _
    (opened (λ xs. and_then (make_each (made_term c.args.site.now.context) (map (as_term f) xs) before) (behind_made_of_growing c.loop-term.made)) c.args.terms.now i x c.loop-term-test.true c.term-item.is ∙ c.loop-term.invariant.2)
    (each_halt _ c.in_err-one.field-0.0 _ (made_term c.args.site.now.context) c.loop-term.made (as_term f x) (map (as_term f) (drop (i + 1) c.args.terms.now)) before
    (halts_through _ _ _ (make_part c.args.site.now.context (f x.value) before) _ (same_made _ _ _ c.args.site.now.context _ _ _ same c.in_err-one.ensures.exact))))

pub terms-loop-term-preserved : goal.resolve::terms-loop-term-preserved
terms-loop-term-preserved t c =
    let x = c.term-item.result in
    let i = c.loop-term.term-index in
    let f = part_in c.args.s.now c.args.site.now in
    let before = virtuals_seen (frames_of c.loop-term.s) c.loop-term.virtuals in
    let after = virtuals_seen (frames_of c.operand.new.s) c.operand.new.virtuals in
    let same = same_part c.args.s.now c.loop-term.s c.args.site.now c.loop-term.invariant.0 c.requires.frame x.value in
    let one = (same_made _ _ _ c.args.site.now.context _ _ _ same c.in_ok-one.ensures.exact).is in
    let pushed : c.push.new.self ≡ c.loop-term.made ++ (x.minus, x.dotted, c.in_ok-one.one) ∷ [] = search rules in (
      grows_on _ _ _ c.loop-term.invariant.0 c.operand.ensures.grows,
      c.operand.ensures.there,
      rw pushed
          (sym (each_go_on (made_term c.args.site.now.context) c.loop-term.made (as_term f x) (map (as_term f) (drop (i + 1) c.args.terms.now)) before (x.minus, x.dotted, c.in_ok-one.one) after (rw one refl))
          ∙ (opened (λ xs. and_then (make_each (made_term c.args.site.now.context) (map (as_term f) xs) before) (behind_made_of_growing c.loop-term.made)) c.args.terms.now i x c.loop-term-test.true c.term-item.is ∙ c.loop-term.invariant.2)),
      c.operand.ensures.kept,
    )

pub factors-returns-in_err-one-clause-exact : goal.resolve::factors-returns-in_err-one-clause-exact
factors-returns-in_err-one-clause-exact t c =
    let x = c.factor-item.result in
    let i = c.loop-factor.factor-index in
    let f = part_in c.args.s.now c.args.site.now in
    let before = virtuals_seen (frames_of c.loop-factor.s) c.loop-factor.virtuals in
    let same = same_part c.args.s.now c.loop-factor.s c.args.site.now c.loop-factor.invariant.0 c.requires.frame x.value in
    let p : c.from_residual.result ≡ Err c.in_err-one.field-0.0 = search rules in
    rw p (made_as _ _ _ _ _
    (opened (λ xs. and_then (make_each (made_factor c.args.site.now.context) (map (as_factor f) xs) before) (behind_made_of_growing c.loop-factor.made)) c.args.factors.now i x c.loop-factor-test.true c.factor-item.is ∙ c.loop-factor.invariant.2)
    (each_halt _ c.in_err-one.field-0.0 _ (made_factor c.args.site.now.context) c.loop-factor.made (as_factor f x) (map (as_factor f) (drop (i + 1) c.args.factors.now)) before
    (halts_through _ _ _ (make_part c.args.site.now.context (f x.value) before) _ (same_made _ _ _ c.args.site.now.context _ _ _ same c.in_err-one.ensures.exact))))

pub factors-loop-factor-preserved : goal.resolve::factors-loop-factor-preserved
factors-loop-factor-preserved t c =
    let x = c.factor-item.result in
    let i = c.loop-factor.factor-index in
    let f = part_in c.args.s.now c.args.site.now in
    let before = virtuals_seen (frames_of c.loop-factor.s) c.loop-factor.virtuals in
    let after = virtuals_seen (frames_of c.operand.new.s) c.operand.new.virtuals in
    let same = same_part c.args.s.now c.loop-factor.s c.args.site.now c.loop-factor.invariant.0 c.requires.frame x.value in
    let one = (same_made _ _ _ c.args.site.now.context _ _ _ same c.in_ok-one.ensures.exact).is in
    let pushed : c.push.new.self ≡ c.loop-factor.made ++ (x.divide, x.dotted, c.in_ok-one.one) ∷ [] = search rules in (
      grows_on _ _ _ c.loop-factor.invariant.0 c.operand.ensures.grows,
      c.operand.ensures.there,
      rw pushed
          (sym (each_go_on (made_factor c.args.site.now.context) c.loop-factor.made (as_factor f x) (map (as_factor f) (drop (i + 1) c.args.factors.now)) before (x.divide, x.dotted, c.in_ok-one.one) after (rw one refl))
          ∙ (opened (λ xs. and_then (make_each (made_factor c.args.site.now.context) (map (as_factor f) xs) before) (behind_made_of_growing c.loop-factor.made)) c.args.factors.now i x c.loop-factor-test.true c.factor-item.is ∙ c.loop-factor.invariant.2)),
      c.operand.ensures.kept,
    )

pub resolve_node-returns-in-Sum-clause-exact : goal.resolve::resolve_node-returns-in-Sum-clause-exact
resolve_node-returns-in-Sum-clause-exact t c =
    rw (c.in-Sum.is, at_Sum (table_in c.args.s.now) (ask_of c.args.s.now c.args.site.now) (scope_of c.args.s.now c.args.site.now) c.in-Sum.parts) (c.at_place-in-Sum.ensures _ _ _ (c.sum.ensures _ _ _ (rw c.as_slice.ensures at c.terms-parts.ensures.exact)))

pub resolve_node-returns-in-Product-clause-exact : goal.resolve::resolve_node-returns-in-Product-clause-exact
resolve_node-returns-in-Product-clause-exact t c =
    rw (c.in-Product.is, at_Product (table_in c.args.s.now) (ask_of c.args.s.now c.args.site.now) (scope_of c.args.s.now c.args.site.now) c.in-Product.parts) (c.at_place-in-Product.ensures _ _ _ (c.product.ensures _ _ _ (rw c.as_slice-in-Product.ensures at c.factors-parts.ensures.exact)))

pub resolve_node-returns-in-Ref-clause-exact : goal.resolve::resolve_node-returns-in-Ref-clause-exact
resolve_node-returns-in-Ref-clause-exact t c =
    rw (c.in-Ref.is, at_Ref (table_in c.args.s.now) (ask_of c.args.s.now c.args.site.now) (scope_of c.args.s.now c.args.site.now) c.in-Ref.reference) (c.at_place-in-Ref.ensures _ _ _ c.name-made.ensures.exact)

pub resolve_node-returns-in-Range-clause-there : goal.resolve::resolve_node-returns-in-Range-clause-there
resolve_node-returns-in-Range-clause-there t c = there_still _ _ c.range-made.ensures.grows _ c.requires.there

pub resolve_node-returns-in-Range-clause-exact : goal.resolve::resolve_node-returns-in-Range-clause-exact
resolve_node-returns-in-Range-clause-exact t c =
    let same = same_virtuals c.args.s.now c.range-made.new.s c.range-made.ensures.grows c.args.virtuals.now c.requires.there in
    let read = elements_in c.args.s.now c.args.site.now.left in
    let part = part_in c.args.s.now c.args.site.now in
    let told = made_range read c.args.site.now.context c.args.place (part c.in-Range.first) (option_map part c.in-Range.step) (part c.in-Range.last) in
    rw (c.in-Range.is, at_Range (table_in c.args.s.now) (ask_of c.args.s.now c.args.site.now) (scope_of c.args.s.now c.args.site.now) c.in-Range.first c.in-Range.step c.in-Range.last)
    (made_as _ _ _ _ _ (ap (λ (seen : List Virtual). and_then {A = ArrayNode × List Virtual} (and_then told (λ a. Ok (a, seen))) (λ made. Ok (roll-ArrayExpr (record { place = c.args.place; node = made.0 }), made.1))) same)
    (c.at_place-in-Range.ensures _ _ _ (given_made _ _ _ told c.range-made.ensures.exact)))

pub resolve_node-returns-in-If-clause-exact : goal.resolve::resolve_node-returns-in-If-clause-exact
resolve_node-returns-in-If-clause-exact t c =
    rw (c.in-If.is, at_If (table_in c.args.s.now) (ask_of c.args.s.now c.args.site.now) (scope_of c.args.s.now c.args.site.now) c.in-If.branches c.in-If.other) (c.choose.ensures _ _ _ (rw c.as_slice-in-If.ensures at c.choice-made.ensures.exact))

pub resolve_node-returns-in-Call-clause-exact : goal.resolve::resolve_node-returns-in-Call-clause-exact
resolve_node-returns-in-Call-clause-exact t c =
    rw (c.in-Call.is, at_Call (table_in c.args.s.now) (ask_of c.args.s.now c.args.site.now) (scope_of c.args.s.now c.args.site.now) c.in-Call.callee c.in-Call.args) (c.at_place-in-Call.ensures _ _ _ c.call-made.ensures.exact)

-- ---- what grows

pub two-returns-in_err-second-clause-grows : goal.resolve::two-returns-in_err-second-clause-grows
two-returns-in_err-second-clause-grows t c = grows_trans _ _ _ c.operand.ensures.grows c.operand-2.ensures.grows

pub two-returns-clause-grows : goal.resolve::two-returns-clause-grows
two-returns-clause-grows t c = grows_trans _ _ _ c.operand.ensures.grows c.operand-2.ensures.grows

pub operands-returns-in_err-one-clause-grows : goal.resolve::operands-returns-in_err-one-clause-grows
operands-returns-in_err-one-clause-grows t c = grows_trans _ _ _ c.loop-part.invariant.0 c.operand.ensures.grows

pub operands-returns-in_err-push-clause-grows : goal.resolve::operands-returns-in_err-push-clause-grows
operands-returns-in_err-push-clause-grows t c = grows_trans _ _ _ c.loop-part.invariant.0 c.operand.ensures.grows

pub terms-returns-in_err-one-clause-grows : goal.resolve::terms-returns-in_err-one-clause-grows
terms-returns-in_err-one-clause-grows t c = grows_trans _ _ _ c.loop-term.invariant.0 c.operand.ensures.grows

pub terms-returns-in_err-push-clause-grows : goal.resolve::terms-returns-in_err-push-clause-grows
terms-returns-in_err-push-clause-grows t c = grows_trans _ _ _ c.loop-term.invariant.0 c.operand.ensures.grows

pub factors-returns-in_err-one-clause-grows : goal.resolve::factors-returns-in_err-one-clause-grows
factors-returns-in_err-one-clause-grows t c = grows_trans _ _ _ c.loop-factor.invariant.0 c.operand.ensures.grows

pub factors-returns-in_err-push-clause-grows : goal.resolve::factors-returns-in_err-push-clause-grows
factors-returns-in_err-push-clause-grows t c = grows_trans _ _ _ c.loop-factor.invariant.0 c.operand.ensures.grows

pub resolve_node-returns-in-Whole-clause-grows : goal.resolve::resolve_node-returns-in-Whole-clause-grows
resolve_node-returns-in-Whole-clause-grows t c = grows_refl c.args.s.now

pub resolve_node-returns-in-Decimal-clause-grows : goal.resolve::resolve_node-returns-in-Decimal-clause-grows
resolve_node-returns-in-Decimal-clause-grows t c = grows_refl c.args.s.now

pub resolve_node-returns-in-Str-clause-grows : goal.resolve::resolve_node-returns-in-Str-clause-grows
resolve_node-returns-in-Str-clause-grows t c = grows_refl c.args.s.now

pub resolve_node-returns-in-Truth-clause-grows : goal.resolve::resolve_node-returns-in-Truth-clause-grows
resolve_node-returns-in-Truth-clause-grows t c = grows_refl c.args.s.now

pub resolve_node-returns-in-EndMark-clause-grows : goal.resolve::resolve_node-returns-in-EndMark-clause-grows
resolve_node-returns-in-EndMark-clause-grows t c = grows_refl c.args.s.now

pub resolve_node-returns-in-Tuple-clause-grows : goal.resolve::resolve_node-returns-in-Tuple-clause-grows
resolve_node-returns-in-Tuple-clause-grows t c = grows_refl c.args.s.now

pub resolve_node-returns-in-ArrayFor-clause-grows : goal.resolve::resolve_node-returns-in-ArrayFor-clause-grows
resolve_node-returns-in-ArrayFor-clause-grows t c = grows_refl c.args.s.now

pub resolve_node-returns-in-Matrix-clause-grows : goal.resolve::resolve_node-returns-in-Matrix-clause-grows
resolve_node-returns-in-Matrix-clause-grows t c = grows_refl c.args.s.now
