-- What is answered of the calls of calls.rt.
use Rattle.mo_eval.proofs.Arguing.{called_partly, called_plain, derived_partly, derived_plain, plain_parts}
use Rattle.mo_eval.proofs.Calling.{from_halts, none_by, plain_at, plain_length}
use Rattle.mo_eval.proofs.Growing.{behind_made as behind_made_of_growing, each_go_on, each_halt, given_made, halts_through, made_as, same_elements, same_made, same_part}
use Rattle.mo_eval.proofs.Grown.{frame_stays, grows_on, kept_still, same_virtuals, there_still}
use Rattle.mo_eval.proofs.Sizing.{same_plain}
use Rattle.mo_syntax.specs.Outcome.{and_then}
use Rattle.mo_values.specs.Asked.{operand}
use Rattle.mo_values.specs.Made.{derivative_of}
use Rattle.mo_eval.specs.Calls.{function_named, made_function, make_arguments}
use Rattle.mo_eval.specs.Seen.{virtuals_seen}
use Rattle.mo_eval.specs.steps.Sites.{ask_of, elements_in, part_in, scope_of}
use Rattle.mo_eval.specs.steps.Parts.{as_reference, made_arguments}
use Rattle.mo_scope.specs.Worlds.{frames_of, table_in}
use Rattle.mo_syntax.specs.declared.expr.Args.{out-Args}
use Rattle.std.proofs.Common.{Err, Ok, [], add-one, ap, arith, drop, false, rules, suc, sym, true, ◌++◌, ◌∙◌, ◌∷◌, ◌≡◌}
use Rattle.std.proofs.lemmas.List.{append-nil, drop_all}
use Rattle.mo_eval.proofs.+resolving.Goals as goal
use Rattle.mo_names.proofs.Later.{grows_refl, grows_trans}

pub arguments-returns-in_err-one-clause-exact : goal.calls::arguments-returns-in_err-one-clause-exact
arguments-returns-in_err-one-clause-exact t c = λ parts all.
    let e = c.in-Value.e in
    let i = c.loop-arg.arg-index in
    let context = c.args.site.now.context in
    let f = part_in c.args.s.now c.args.site.now in
    let before = virtuals_seen (frames_of c.loop-arg.s) c.loop-arg.virtuals in
    let same = same_part c.args.s.now c.loop-arg.s c.args.site.now c.loop-arg.invariant.0 c.requires.frame e in
    let first = plain_at (table_in c.args.s.now) (ask_of c.args.s.now c.args.site.now) (scope_of c.args.s.now c.args.site.now) c.args.args.now parts i e all c.loop-arg-test.true (rw c.in-Value.is at c.arg-item.is) in
    let p : c.from_residual.result ≡ Err c.in_err-one.field-0.0 = search rules in
    rw p (made_as _ _ _ _ _
    (ap (λ xs. and_then (make_arguments context xs before) (behind_made_of_growing c.loop-arg.made)) (sym first) ∙ c.loop-arg.invariant.2 parts all)
    (each_halt _ c.in_err-one.field-0.0 _ (λ argument. argument.1 (operand context)) c.loop-arg.made (f e) (drop (suc i) parts) before (same_made _ _ _ context _ _ _ same c.in_err-one.ensures.exact)))

pub arguments-loop-arg-preserved : goal.calls::arguments-loop-arg-preserved
arguments-loop-arg-preserved t c =
    let e = c.in-Value.e in
    let i = c.loop-arg.arg-index in
    let context = c.args.site.now.context in
    let f = part_in c.args.s.now c.args.site.now in
    let before = virtuals_seen (frames_of c.loop-arg.s) c.loop-arg.virtuals in
    let after = virtuals_seen (frames_of c.operand.new.s) c.operand.new.virtuals in
    let same = same_part c.args.s.now c.loop-arg.s c.args.site.now c.loop-arg.invariant.0 c.requires.frame e in
    let one = (same_made _ _ _ context _ _ _ same c.in_ok-one.ensures.exact).is in
    let pushed : c.push.new.self ≡ c.loop-arg.made ++ c.in_ok-one.one ∷ [] = search rules in (
      grows_on _ _ _ c.loop-arg.invariant.0 c.operand.ensures.grows,
      c.operand.ensures.there,
      λ parts all.
          let first = plain_at (table_in c.args.s.now) (ask_of c.args.s.now c.args.site.now) (scope_of c.args.s.now c.args.site.now) c.args.args.now parts i e all c.loop-arg-test.true (rw c.in-Value.is at c.arg-item.is) in
          rw (pushed, add-one)
          (sym (each_go_on (λ argument. argument.1 (operand context)) c.loop-arg.made (f e) (drop (suc i) parts) before c.in_ok-one.one after one)
          ∙ (ap (λ xs. and_then (make_arguments context xs before) (behind_made_of_growing c.loop-arg.made)) (sym first) ∙ c.loop-arg.invariant.2 parts all)),
      c.operand.ensures.kept,
    )

pub arguments-returns-clause-exact : goal.calls::arguments-returns-clause-exact
arguments-returns-clause-exact t c = λ parts all.
    let i = c.loop-arg.arg-index in
    let before = virtuals_seen (frames_of c.loop-arg.s) c.loop-arg.virtuals in
    let counted = plain_length (table_in c.args.s.now) (ask_of c.args.s.now c.args.site.now) (scope_of c.args.s.now c.args.site.now) c.args.args.now parts all in
    let none : drop i parts ≡ [] = drop_all i parts (omega arith) in
    let ending = ap (λ xs. and_then (make_arguments c.args.site.now.context xs before) (behind_made_of_growing c.loop-arg.made)) (sym none) ∙ c.loop-arg.invariant.2 parts all in
    record { is = sym ending ∙ ap (λ xs. Ok (xs, before)) (append-nil c.loop-arg.made) }

pub derivative-returns-in_err-operands-clause-exact : goal.calls::derivative-returns-in_err-operands-clause-exact
derivative-returns-in_err-operands-clause-exact t c = λ parts all.
    let p : c.from_residual.result ≡ Err c.in_err-operands.field-0.0 = search rules in
    rw p (halts_through _ c.in_err-operands.field-0.0 _ (make_arguments c.args.site.now.context parts (virtuals_seen (frames_of c.args.s.now) c.args.virtuals.now)) _ (c.in_err-operands.ensures.exact parts all))

pub derivative-returns-clause-exact : goal.calls::derivative-returns-clause-exact
derivative-returns-clause-exact t c = λ parts all.
    rw (c.in_ok-operands.ensures.exact parts all).is
    (given_made _ c.answer.result _ (derivative_of c.args.place c.in_ok-operands.operands) (rw c.derivative_of.ensures at c.answer.ensures))

pub call-returns-in_err-function_code-in-Named-clause-there : goal.calls::call-returns-in_err-function_code-in-Named-clause-there
call-returns-in_err-function_code-in-Named-clause-there t c = there_still _ _ c.function_named.ensures.grows _ c.requires.there

pub call-returns-in_err-function_code-in-Named-clause-exact : goal.calls::call-returns-in_err-function_code-in-Named-clause-exact
call-returns-in_err-function_code-in-Named-clause-exact t c =
    let stop = c.in_err-function_code-in-Named.field-0.0 in
    let reference = as_reference (part_in c.args.s.now c.args.site.now) c.in-Named.reference in
    let p : c.from_residual.result ≡ Err stop = search rules in
    rw (p, c.in-Named.is)
    (from_halts _ stop _ (function_named (table_in c.args.s.now) (scope_of c.args.s.now c.args.site.now) c.args.place reference) (virtuals_seen (frames_of c.args.s.now) c.args.virtuals.now) _ c.in_err-function_code-in-Named.ensures.exact)

pub call-returns-in_err-function_code-in-Named-clause-kept : goal.calls::call-returns-in_err-function_code-in-Named-clause-kept
call-returns-in_err-function_code-in-Named-clause-kept t c = kept_still _ _ c.function_named.ensures.grows _ c.requires.kept

pub call-returns-then-not-are_plain-clause-there : goal.calls::call-returns-then-not-are_plain-clause-there
call-returns-then-not-are_plain-clause-there t c = there_still _ _ c.function_named.ensures.grows _ c.requires.there

pub call-returns-then-not-are_plain-clause-exact : goal.calls::call-returns-then-not-are_plain-clause-exact
call-returns-then-not-are_plain-clause-exact t c =
    let table = table_in c.args.s.now in
    let ask = ask_of c.args.s.now c.args.site.now in
    let scope = scope_of c.args.s.now c.args.site.now in
    let reference = as_reference (part_in c.args.s.now c.args.site.now) c.in-Named.reference in
    let no : c.are_plain.result ≡ false = search rules in
    rw (c.broken.ensures, c.in-Named.is)
    (record {
      is = called_partly table scope (elements_in c.args.s.now c.args.site.now.left) c.args.site.now.context c.args.place reference c.in_ok-function_code-in-Named.function_code (made_arguments table ask scope c.args.args.now) (virtuals_seen (frames_of c.args.s.now) c.args.virtuals.now)
          c.in_ok-function_code-in-Named.ensures.exact (sym (none_by _ (sym (c.are_plain.ensures table ask scope) ∙ no)));
    })

pub call-returns-then-not-are_plain-clause-kept : goal.calls::call-returns-then-not-are_plain-clause-kept
call-returns-then-not-are_plain-clause-kept t c = kept_still _ _ c.function_named.ensures.grows _ c.requires.kept

pub call-function-requires : goal.calls::call-function-requires
call-function-requires t c = (
  search rules,
  (
    frame_stays _ _ _ c.function_named.ensures.grows c.requires.frame,
    (there_still _ _ c.function_named.ensures.grows _ c.requires.there, kept_still _ _ c.function_named.ensures.grows _ c.requires.kept),
  ),
)

pub call-returns-else-not-are_plain-clause-exact : goal.calls::call-returns-else-not-are_plain-clause-exact
call-returns-else-not-are_plain-clause-exact t c =
    let table = table_in c.args.s.now in
    let ask = ask_of c.args.s.now c.args.site.now in
    let scope = scope_of c.args.s.now c.args.site.now in
    let mid = c.function_named.new.s in
    let left = c.args.site.now.left in
    let context = c.args.site.now.context in
    let reference = as_reference (part_in c.args.s.now c.args.site.now) c.in-Named.reference in
    let code = c.in_ok-function_code-in-Named.function_code in
    let yes : c.are_plain.result ≡ true = search rules in
    let plain = plain_parts table ask scope c.args.args.now (sym (c.are_plain.ensures table ask scope) ∙ yes) in
    let rest = same_plain c.args.s.now mid c.args.site.now c.function_named.ensures.grows c.requires.frame (out-Args c.args.args.now).plain ∙ plain.is in
    let before = virtuals_seen (frames_of c.args.s.now) c.args.virtuals.now in
    let read = ap (λ read. made_function read context c.args.place code plain.parts (virtuals_seen (frames_of mid) c.args.virtuals.now)) (same_elements c.args.s.now mid left c.function_named.ensures.grows) in
    let seen = ap (made_function (elements_in c.args.s.now left) context c.args.place code plain.parts) (same_virtuals c.args.s.now mid c.function_named.ensures.grows c.args.virtuals.now c.requires.there) in
    rw c.in-Named.is
    (made_as _ _ _ _ _ (read ∙ (seen ∙ sym (called_plain table scope (elements_in c.args.s.now left) context c.args.place reference code (made_arguments table ask scope c.args.args.now) plain.parts before c.in_ok-function_code-in-Named.ensures.exact plain.made)))
    ((rw c.as_slice.ensures at c.function.ensures.exact) plain.parts rest))

pub call-returns-then-not-are_plain-2-clause-exact : goal.calls::call-returns-then-not-are_plain-2-clause-exact
call-returns-then-not-are_plain-2-clause-exact t c =
    let table = table_in c.args.s.now in
    let ask = ask_of c.args.s.now c.args.site.now in
    let scope = scope_of c.args.s.now c.args.site.now in
    let no : c.are_plain-in-Der.result ≡ false = search rules in
    rw (c.broken-then-not-are_plain-2.ensures, c.in-Der.is)
    (record {
      is = derived_partly table scope (elements_in c.args.s.now c.args.site.now.left) c.args.site.now.context c.args.place (made_arguments table ask scope c.args.args.now) (virtuals_seen (frames_of c.args.s.now) c.args.virtuals.now)
          (sym (none_by _ (sym (c.are_plain-in-Der.ensures table ask scope) ∙ no)));
    })

pub call-returns-else-not-are_plain-2-clause-exact : goal.calls::call-returns-else-not-are_plain-2-clause-exact
call-returns-else-not-are_plain-2-clause-exact t c =
    let table = table_in c.args.s.now in
    let ask = ask_of c.args.s.now c.args.site.now in
    let scope = scope_of c.args.s.now c.args.site.now in
    let yes : c.are_plain-in-Der.result ≡ true = search rules in
    let plain = plain_parts table ask scope c.args.args.now (sym (c.are_plain-in-Der.ensures table ask scope) ∙ yes) in
    rw c.in-Der.is
    (made_as _ _ _ _ _ (sym (derived_plain table scope (elements_in c.args.s.now c.args.site.now.left) c.args.site.now.context c.args.place (made_arguments table ask scope c.args.args.now) plain.parts (virtuals_seen (frames_of c.args.s.now) c.args.virtuals.now) plain.made))
    ((rw c.as_slice-in-Der.ensures at c.derivative.ensures.exact) plain.parts plain.is))

-- ---- what grows

pub arguments-returns-in_err-one-clause-grows : goal.calls::arguments-returns-in_err-one-clause-grows
arguments-returns-in_err-one-clause-grows t c = grows_trans _ _ _ c.loop-arg.invariant.0 c.operand.ensures.grows

pub arguments-returns-in_err-push-clause-grows : goal.calls::arguments-returns-in_err-push-clause-grows
arguments-returns-in_err-push-clause-grows t c = grows_trans _ _ _ c.loop-arg.invariant.0 c.operand.ensures.grows

pub call-returns-else-not-are_plain-clause-grows : goal.calls::call-returns-else-not-are_plain-clause-grows
call-returns-else-not-are_plain-clause-grows t c = grows_trans _ _ _ c.function_named.ensures.grows c.function.ensures.grows

pub call-returns-then-not-are_plain-2-clause-grows : goal.calls::call-returns-then-not-are_plain-2-clause-grows
call-returns-then-not-are_plain-2-clause-grows t c = grows_refl c.args.s.now

pub call-returns-in-Initial-clause-grows : goal.calls::call-returns-in-Initial-clause-grows
call-returns-in-Initial-clause-grows t c = grows_refl c.args.s.now

pub call-returns-in-Pure-clause-grows : goal.calls::call-returns-in-Pure-clause-grows
call-returns-in-Pure-clause-grows t c = grows_refl c.args.s.now
