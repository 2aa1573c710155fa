-- What is answered of the calls of calls.rt that tell sizes or take them: size, ndims, fill and what has sizes.
use Rattle.mo_eval.proofs.Arguing.{fill_by, no_lone, number_alone, number_halts, number_more, number_more_halts, read_halts}
use Rattle.mo_eval.proofs.Calling.{each_more, from_halts, plain_at, plain_length}
use Rattle.mo_eval.proofs.Growing.{given_made, gives_as, gives_halt, halts_through, made_as, same_asked, same_elements}
use Rattle.mo_eval.proofs.Grown.{frame_stays, grows_on, same_virtuals, there_still}
use Rattle.mo_eval.proofs.Sizing.{same_plain, size_by}
use Rattle.mo_syntax.specs.Outcome.{and_then}
use Rattle.mo_values.specs.Asked.{argument_of_size, operand}
use Rattle.mo_values.specs.Made.{takes}
use Rattle.mo_eval.specs.Calls.{make_arguments, read_size, read_sizes}
use Rattle.mo_eval.specs.Seen.{virtuals_seen}
use Rattle.mo_eval.specs.steps.Sites.{ask_of, elements_in, part_in, scope_of}
use Rattle.mo_eval.specs.steps.Calling.{filled_with, number_of_size}
use Rattle.mo_eval.specs.steps.Parts.{as_part}
use Rattle.mo_flat.specs.declared.array.ArrayNode.TheVariants.{Size, Sized}
use Rattle.mo_scope.specs.Worlds.{frames_of, table_in}
use Rattle.std.proofs.Common.{Err, None, Ok, Some, [], add-one, ap, arith, drop, false, length, refl, rules, suc, sym, true, ◌++◌, ◌∙◌, ◌∷◌, ◌≡◌}
use Rattle.std.proofs.lemmas.List.{append-nil, drop_all}
use Rattle.mo_eval.proofs.+resolving.Goals as goal
use Rattle.mo_names.proofs.Later.{grows_refl, grows_trans}

pub sizes-returns-in_err-one-clause-exact : goal.calls::sizes-returns-in_err-one-clause-exact
sizes-returns-in_err-one-clause-exact t c = λ parts all.
    let e = c.in-Value.e in
    let i = c.loop-arg.arg-index in
    let context = c.args.site.now.context in
    let read = elements_in c.args.s.now c.args.site.now.left in
    let f = part_in c.args.s.now c.args.site.now in
    let stop = c.in_err-one.field-0.0 in
    let same = same_asked (λ read part. read_size read context (part e)) c.args.s.now c.loop-arg.s c.args.site.now c.loop-arg.invariant.0 c.requires.frame in
    let first = plain_at (table_in c.args.s.now) (ask_of c.args.s.now c.args.site.now) (scope_of c.args.s.now c.args.site.now) c.args.args.now parts i e all c.loop-arg-test.true (rw c.in-Value.is at c.arg-item.is) in
    let p : c.from_residual.result ≡ Err stop = search rules in
    rw p (gives_as (Err stop) _ _
    (ap (λ xs. and_then (read_sizes read context xs) (λ more. Ok (c.loop-arg.made ++ more))) (sym first) ∙ c.loop-arg.invariant.1 parts all)
    (gives_halt stop (read_sizes read context (f e ∷ drop (suc i) parts)) (λ more. Ok (c.loop-arg.made ++ more))
    (gives_halt stop (read_size read context (f e)) (λ v. and_then (read_sizes read context (drop (suc i) parts)) (λ vs. Ok (v ∷ vs)))
    (gives_as (Err stop) _ _ same c.in_err-one.ensures.exact))))

pub sizes-loop-arg-preserved : goal.calls::sizes-loop-arg-preserved
sizes-loop-arg-preserved t c =
    let e = c.in-Value.e in
    let i = c.loop-arg.arg-index in
    let context = c.args.site.now.context in
    let read = elements_in c.args.s.now c.args.site.now.left in
    let f = part_in c.args.s.now c.args.site.now in
    let same = same_asked (λ read part. read_size read context (part e)) c.args.s.now c.loop-arg.s c.args.site.now c.loop-arg.invariant.0 c.requires.frame in
    let pushed : c.push.new.self ≡ c.loop-arg.made ++ c.in_ok-one.one ∷ [] = search rules in (
      grows_on _ _ _ c.loop-arg.invariant.0 c.read_size.ensures.grows,
      λ parts all.
          let first = plain_at (table_in c.args.s.now) (ask_of c.args.s.now c.args.site.now) (scope_of c.args.s.now c.args.site.now) c.args.args.now parts i e all c.loop-arg-test.true (rw c.in-Value.is at c.arg-item.is) in
          rw (pushed, add-one)
          (sym (each_more (read_size read context) c.loop-arg.made (f e) (drop (suc i) parts) c.in_ok-one.one (sym same ∙ c.in_ok-one.ensures.exact))
          ∙ (ap (λ xs. and_then (read_sizes read context xs) (λ more. Ok (c.loop-arg.made ++ more))) (sym first) ∙ c.loop-arg.invariant.1 parts all)),
      c.read_size.ensures.kept,
    )

pub sizes-returns-clause-exact : goal.calls::sizes-returns-clause-exact
sizes-returns-clause-exact t c = λ parts all.
    let i = c.loop-arg.arg-index in
    let counted = plain_length (table_in c.args.s.now) (ask_of c.args.s.now c.args.site.now) (scope_of c.args.s.now c.args.site.now) c.args.args.now parts all in
    let none : drop i parts ≡ [] = drop_all i parts (omega arith) in
    let read = elements_in c.args.s.now c.args.site.now.left in
    let ending = ap (λ xs. and_then (read_sizes read c.args.site.now.context xs) (λ more. Ok (c.loop-arg.made ++ more))) (sym none) ∙ c.loop-arg.invariant.1 parts all in
    sym ending ∙ ap Ok (append-nil c.loop-arg.made)

pub number-returns-in_default-clause-exact : goal.calls::number-returns-in_default-clause-exact
number-returns-in_default-clause-exact t c = λ parts all.
    let none : parts ≡ [] = c.in_default.ensures (table_in c.args.s.now) (ask_of c.args.s.now c.args.site.now) (scope_of c.args.s.now c.args.site.now) parts all in
    rw none (record { is = refl })

pub number-returns-in_err-n-clause-there : goal.calls::number-returns-in_err-n-clause-there
number-returns-in_err-n-clause-there t c = there_still _ _ c.read_size.ensures.grows _ c.requires.there

pub number-returns-in_err-n-clause-exact : goal.calls::number-returns-in_err-n-clause-exact
number-returns-in_err-n-clause-exact t c = λ parts all.
    let first = c.in-Some.ensures (table_in c.args.s.now) (ask_of c.args.s.now c.args.site.now) (scope_of c.args.s.now c.args.site.now) parts all in
    let p : c.from_residual.result ≡ Err c.in_err-n.field-0.0 = search rules in
    rw (p, first.is) (number_halts _ c.in_err-n.field-0.0 _ (elements_in c.args.s.now c.args.site.now.left) c.args.site.now.context c.args.place (part_in c.args.s.now c.args.site.now c.in-Some.e.now) first.others
    (virtuals_seen (frames_of c.args.s.now) c.args.virtuals.now) c.in_err-n.ensures.exact)

pub number-returns-in-None-clause-there : goal.calls::number-returns-in-None-clause-there
number-returns-in-None-clause-there t c = there_still _ _ c.read_size.ensures.grows _ c.requires.there

pub number-returns-in-None-clause-exact : goal.calls::number-returns-in-None-clause-exact
number-returns-in-None-clause-exact t c = λ parts all.
    let table = table_in c.args.s.now in
    let ask = ask_of c.args.s.now c.args.site.now in
    let scope = scope_of c.args.s.now c.args.site.now in
    let first = c.in-Some.ensures table ask scope parts all in
    let none : first.others ≡ [] = c.in-None.ensures table ask scope first.others first.rest in
    let same = same_virtuals c.args.s.now c.read_size.new.s c.read_size.ensures.grows c.args.virtuals.now c.requires.there in
    let read = elements_in c.args.s.now c.args.site.now.left in
    let part = part_in c.args.s.now c.args.site.now c.in-Some.e.now in
    let before = virtuals_seen (frames_of c.args.s.now) c.args.virtuals.now in
    record {
      is = ap (λ parts. number_of_size read c.args.site.now.context c.args.place parts before) (first.is ∙ ap (λ others. part ∷ others) none)
          ∙ (number_alone read c.args.site.now.context c.args.place part before c.in_ok-n.n c.in_ok-n.ensures.exact
          ∙ ap (λ seen. Ok (Some c.in_ok-n.n, seen)) (sym same));
    }

pub number-arguments-requires : goal.calls::number-arguments-requires
number-arguments-requires t c = (
  search rules,
  (
    frame_stays _ _ _ c.read_size.ensures.grows c.requires.frame,
    (there_still _ _ c.read_size.ensures.grows _ c.requires.there, c.read_size.ensures.kept),
  ),
)

pub number-returns-in_err-arguments-in-Some-split-clause-exact : goal.calls::number-returns-in_err-arguments-in-Some-split-clause-exact
number-returns-in_err-arguments-in-Some-split-clause-exact t c = λ parts all.
    let table = table_in c.args.s.now in
    let ask = ask_of c.args.s.now c.args.site.now in
    let scope = scope_of c.args.s.now c.args.site.now in
    let context = c.args.site.now.context in
    let mid = c.read_size.new.s in
    let first = c.in-Some.ensures table ask scope parts all in
    let second = c.in-Some-split.ensures table ask scope first.others first.rest in
    let read = elements_in c.args.s.now c.args.site.now.left in
    let part = part_in c.args.s.now c.args.site.now c.in-Some.e.now in
    let before = virtuals_seen (frames_of c.args.s.now) c.args.virtuals.now in
    let rest = same_plain c.args.s.now mid c.args.site.now c.read_size.ensures.grows c.requires.frame c.in-Some.others.now ∙ first.rest in
    let stop = c.in_err-arguments-in-Some-split.field-0.0 in
    let p : c.from_residual-in_err-arguments-in-Some-split.result ≡ Err stop = search rules in
    let same = ap (make_arguments context first.others) (same_virtuals c.args.s.now mid c.read_size.ensures.grows c.args.virtuals.now c.requires.there) in
    rw (p, first.is)
    (number_more_halts _ stop _ read context c.args.place part first.others before c.in_ok-n.n second.is c.in_ok-n.ensures.exact
    (made_as _ _ _ _ _ same (c.in_err-arguments-in-Some-split.ensures.exact first.others rest)))

pub number-returns-in_ok-arguments-in-Some-split-clause-exact : goal.calls::number-returns-in_ok-arguments-in-Some-split-clause-exact
number-returns-in_ok-arguments-in-Some-split-clause-exact t c = λ parts all.
    let table = table_in c.args.s.now in
    let ask = ask_of c.args.s.now c.args.site.now in
    let scope = scope_of c.args.s.now c.args.site.now in
    let context = c.args.site.now.context in
    let mid = c.read_size.new.s in
    let first = c.in-Some.ensures table ask scope parts all in
    let second = c.in-Some-split.ensures table ask scope first.others first.rest in
    let read = elements_in c.args.s.now c.args.site.now.left in
    let part = part_in c.args.s.now c.args.site.now c.in-Some.e.now in
    let before = virtuals_seen (frames_of c.args.s.now) c.args.virtuals.now in
    let rest = same_plain c.args.s.now mid c.args.site.now c.read_size.ensures.grows c.requires.frame c.in-Some.others.now ∙ first.rest in
    let same = ap (make_arguments context first.others) (same_virtuals c.args.s.now mid c.read_size.ensures.grows c.args.virtuals.now c.requires.there) in
    let made = sym same ∙ (c.in_ok-arguments-in-Some-split.ensures.exact first.others rest).is in
    rw (c.broken.ensures, first.is)
    (record { is = number_more read context c.args.place part first.others before _ c.in_ok-n.n _ second.is c.in_ok-n.ensures.exact made })

pub size-returns-in_default-clause-exact : goal.calls::size-returns-in_default-clause-exact
size-returns-in_default-clause-exact t c = λ parts all.
    let table = table_in c.args.s.now in
    let ask = ask_of c.args.s.now c.args.site.now in
    let scope = scope_of c.args.s.now c.args.site.now in
    let none : parts ≡ [] = c.in_default.ensures table ask scope parts all in
    rw (none, c.broken.ensures) (record { is = refl })

pub size-returns-in_err-inner-clause-exact : goal.calls::size-returns-in_err-inner-clause-exact
size-returns-in_err-inner-clause-exact t c = λ parts all.
    let table = table_in c.args.s.now in
    let ask = ask_of c.args.s.now c.args.site.now in
    let scope = scope_of c.args.s.now c.args.site.now in
    let first = c.in-Some.ensures table ask scope parts all in
    let read = elements_in c.args.s.now c.args.site.now.left in
    let context = c.args.site.now.context in
    let part = as_part table ask scope c.in-Some.e.now in
    let before = virtuals_seen (frames_of c.args.s.now) c.args.virtuals.now in
    let p : c.from_residual.result ≡ Err c.in_err-inner.field-0.0 = search rules in
    rw (p, first.is) (made_as _ _ _ _ _ (sym (size_by read context c.args.place part first.others before))
    (halts_through _ c.in_err-inner.field-0.0 _ (part.1 (argument_of_size context) before) _ c.in_err-inner.ensures.exact))

pub size-returns-in_err-at-clause-exact : goal.calls::size-returns-in_err-at-clause-exact
size-returns-in_err-at-clause-exact t c = λ parts all.
    let table = table_in c.args.s.now in
    let ask = ask_of c.args.s.now c.args.site.now in
    let scope = scope_of c.args.s.now c.args.site.now in
    let first = c.in-Some.ensures table ask scope parts all in
    let read = elements_in c.args.s.now c.args.site.now.left in
    let context = c.args.site.now.context in
    let part = as_part table ask scope c.in-Some.e.now in
    let before = virtuals_seen (frames_of c.args.s.now) c.args.virtuals.now in
    let mid = c.array.new.s in
    let after = virtuals_seen (frames_of mid) c.array.new.virtuals in
    let rest = same_plain c.args.s.now mid c.args.site.now c.array.ensures.grows c.requires.frame c.in-Some.others.now ∙ first.rest in
    let same = ap (λ read. number_of_size read context c.args.place first.others after) (same_elements c.args.s.now mid c.args.site.now.left c.array.ensures.grows) in
    let p : c.from_residual-in_err-at.result ≡ Err c.in_err-at.field-0.0 = search rules in
    let opening = size_by read context c.args.place part first.others before ∙ ap (λ o. and_then o (λ a. and_then (number_of_size read context c.args.place first.others a.1) (λ n. Ok (Size a.0 n.0, n.1)))) c.in_ok-inner.ensures.exact.is in
    rw (p, first.is) (made_as _ _ _ _ _ (sym opening)
    (halts_through _ c.in_err-at.field-0.0 _ (number_of_size read context c.args.place first.others after) _ (made_as _ _ _ _ _ same (c.in_err-at.ensures.exact first.others rest))))

pub size-returns-clause-exact : goal.calls::size-returns-clause-exact
size-returns-clause-exact t c = λ parts all.
    let table = table_in c.args.s.now in
    let ask = ask_of c.args.s.now c.args.site.now in
    let scope = scope_of c.args.s.now c.args.site.now in
    let first = c.in-Some.ensures table ask scope parts all in
    let read = elements_in c.args.s.now c.args.site.now.left in
    let context = c.args.site.now.context in
    let part = as_part table ask scope c.in-Some.e.now in
    let before = virtuals_seen (frames_of c.args.s.now) c.args.virtuals.now in
    let mid = c.array.new.s in
    let after = virtuals_seen (frames_of mid) c.array.new.virtuals in
    let rest = same_plain c.args.s.now mid c.args.site.now c.array.ensures.grows c.requires.frame c.in-Some.others.now ∙ first.rest in
    let same = ap (λ read. number_of_size read context c.args.place first.others after) (same_elements c.args.s.now mid c.args.site.now.left c.array.ensures.grows) in
    let opening = size_by read context c.args.place part first.others before ∙ ap (λ o. and_then o (λ a. and_then (number_of_size read context c.args.place first.others a.1) (λ n. Ok (Size a.0 n.0, n.1)))) c.in_ok-inner.ensures.exact.is in
    let at = (made_as _ _ _ _ _ same (c.in_ok-at.ensures.exact first.others rest)).is in
    rw first.is (record { is = opening ∙ ap (λ o. and_then o (λ n. Ok (Size c.in_ok-inner.inner n.0, n.1))) at })

pub ndims-returns-clause-exact : goal.calls::ndims-returns-clause-exact
ndims-returns-clause-exact t c = λ parts all.
    let one = c.in-Some.ensures (table_in c.args.s.now) (ask_of c.args.s.now c.args.site.now) (scope_of c.args.s.now c.args.site.now) parts all in
    rw one (c.ndims_of.ensures _ _ _ c.array.ensures.exact)

pub ndims-returns-in_err-arguments-clause-exact : goal.calls::ndims-returns-in_err-arguments-clause-exact
ndims-returns-in_err-arguments-clause-exact t c = λ parts all.
    let none = c.in_default.ensures (table_in c.args.s.now) (ask_of c.args.s.now c.args.site.now) (scope_of c.args.s.now c.args.site.now) parts all in
    let stop = c.in_err-arguments.field-0.0 in
    let p : c.from_residual.result ≡ Err stop = search rules in
    let before = virtuals_seen (frames_of c.args.s.now) c.args.virtuals.now in
    rw (p, no_lone c.args.site.now.context c.args.place parts before none)
    (halts_through _ stop _ (make_arguments c.args.site.now.context parts before) _ (c.in_err-arguments.ensures.exact parts all))

pub ndims-returns-in_default-clause-exact : goal.calls::ndims-returns-in_default-clause-exact
ndims-returns-in_default-clause-exact t c = λ parts all.
    let none = c.in_default.ensures (table_in c.args.s.now) (ask_of c.args.s.now c.args.site.now) (scope_of c.args.s.now c.args.site.now) parts all in
    let before = virtuals_seen (frames_of c.args.s.now) c.args.virtuals.now in
    rw (c.broken.ensures, no_lone c.args.site.now.context c.args.place parts before none, (c.in_ok-arguments.ensures.exact parts all).is) (record { is = refl })

pub fill-returns-in_default-clause-exact : goal.calls::fill-returns-in_default-clause-exact
fill-returns-in_default-clause-exact t c = λ parts all.
    let none : parts ≡ [] = c.in_default.ensures (table_in c.args.s.now) (ask_of c.args.s.now c.args.site.now) (scope_of c.args.s.now c.args.site.now) parts all in
    rw (none, c.broken.ensures) (record { is = refl })

pub fill-returns-in_err-filling-clause-exact : goal.calls::fill-returns-in_err-filling-clause-exact
fill-returns-in_err-filling-clause-exact t c = λ parts all.
    let first = c.in-Some.ensures (table_in c.args.s.now) (ask_of c.args.s.now c.args.site.now) (scope_of c.args.s.now c.args.site.now) parts all in
    let read = elements_in c.args.s.now c.args.site.now.left in
    let context = c.args.site.now.context in
    let part = part_in c.args.s.now c.args.site.now c.in-Some.e.now in
    let before = virtuals_seen (frames_of c.args.s.now) c.args.virtuals.now in
    let p : c.from_residual.result ≡ Err c.in_err-filling.field-0.0 = search rules in
    rw (p, first.is) (made_as _ _ _ _ _ (sym (fill_by read context c.args.place part first.others before))
    (halts_through _ c.in_err-filling.field-0.0 _ (part.1 (operand context) before) _ c.in_err-filling.ensures.exact))

pub fill-returns-in_err-numbers-clause-there : goal.calls::fill-returns-in_err-numbers-clause-there
fill-returns-in_err-numbers-clause-there t c = there_still _ _ c.sizes.ensures.grows _ c.operand.ensures.there

pub fill-returns-in_err-numbers-clause-exact : goal.calls::fill-returns-in_err-numbers-clause-exact
fill-returns-in_err-numbers-clause-exact t c = λ parts all.
    let first = c.in-Some.ensures (table_in c.args.s.now) (ask_of c.args.s.now c.args.site.now) (scope_of c.args.s.now c.args.site.now) parts all in
    let read = elements_in c.args.s.now c.args.site.now.left in
    let context = c.args.site.now.context in
    let part = part_in c.args.s.now c.args.site.now c.in-Some.e.now in
    let before = virtuals_seen (frames_of c.args.s.now) c.args.virtuals.now in
    let mid = c.operand.new.s in
    let stop = c.in_err-numbers.field-0.0 in
    let rest = same_plain c.args.s.now mid c.args.site.now c.operand.ensures.grows c.requires.frame c.in-Some.others.now ∙ first.rest in
    let same = ap (λ read. read_sizes read context first.others) (same_elements c.args.s.now mid c.args.site.now.left c.operand.ensures.grows) in
    let p : c.from_residual-in_err-numbers.result ≡ Err stop = search rules in
    let told = gives_as (Err stop) _ _ same (c.in_err-numbers.ensures.exact first.others rest) in
    let opening = fill_by read context c.args.place part first.others before ∙ ap (λ o. and_then o (λ made. and_then (read_sizes read context first.others) (λ numbers. and_then (filled_with c.args.place made.0 numbers) (λ node. Ok (node, made.1))))) c.in_ok-filling.ensures.exact.is in
    rw (p, first.is) (made_as _ _ _ _ _ (sym opening) (read_halts _ stop _ (read_sizes read context first.others) _ told))

pub fill-returns-clause-there : goal.calls::fill-returns-clause-there
fill-returns-clause-there t c = there_still _ _ c.sizes.ensures.grows _ c.operand.ensures.there

pub fill-returns-clause-exact : goal.calls::fill-returns-clause-exact
fill-returns-clause-exact t c = λ parts all.
    let first = c.in-Some.ensures (table_in c.args.s.now) (ask_of c.args.s.now c.args.site.now) (scope_of c.args.s.now c.args.site.now) parts all in
    let read = elements_in c.args.s.now c.args.site.now.left in
    let context = c.args.site.now.context in
    let part = part_in c.args.s.now c.args.site.now c.in-Some.e.now in
    let before = virtuals_seen (frames_of c.args.s.now) c.args.virtuals.now in
    let mid = c.operand.new.s in
    let rest = same_plain c.args.s.now mid c.args.site.now c.operand.ensures.grows c.requires.frame c.in-Some.others.now ∙ first.rest in
    let same = ap (λ read. read_sizes read context first.others) (same_elements c.args.s.now mid c.args.site.now.left c.operand.ensures.grows) in
    let told = sym same ∙ c.in_ok-numbers.ensures.exact first.others rest in
    let seen = same_virtuals mid c.sizes.new.s c.sizes.ensures.grows c.operand.new.virtuals c.operand.ensures.there in
    let opening = fill_by read context c.args.place part first.others before
    ∙ (ap (λ o. and_then o (λ made. and_then (read_sizes read context first.others) (λ numbers. and_then (filled_with c.args.place made.0 numbers) (λ node. Ok (node, made.1))))) c.in_ok-filling.ensures.exact.is
    ∙ (ap (λ o. and_then o (λ numbers. and_then (filled_with c.args.place c.in_ok-filling.filling numbers) (λ node. Ok (node, virtuals_seen (frames_of mid) c.operand.new.virtuals)))) told
    ∙ ap (λ v. and_then (filled_with c.args.place c.in_ok-filling.filling c.in_ok-numbers.numbers) (λ node. Ok (node, v))) (sym seen))) in
    rw first.is (made_as _ _ _ _ _ (sym opening) (given_made _ c.answer.result _ (filled_with c.args.place c.in_ok-filling.filling c.in_ok-numbers.numbers) (rw c.filled_with.ensures at c.answer.ensures)))

pub sized-returns-in_err-numbers-clause-there : goal.calls::sized-returns-in_err-numbers-clause-there
sized-returns-in_err-numbers-clause-there t c = there_still _ _ c.sizes.ensures.grows _ c.requires.there

pub sized-returns-in_err-numbers-clause-exact : goal.calls::sized-returns-in_err-numbers-clause-exact
sized-returns-in_err-numbers-clause-exact t c = λ parts all.
    let p : c.from_residual.result ≡ Err c.in_err-numbers.field-0.0 = search rules in
    rw p (from_halts _ c.in_err-numbers.field-0.0 _ (read_sizes (elements_in c.args.s.now c.args.site.now.left) c.args.site.now.context parts) (virtuals_seen (frames_of c.args.s.now) c.args.virtuals.now) _ (c.in_err-numbers.ensures.exact parts all))

pub sized-returns-then-not-takes-clause-there : goal.calls::sized-returns-then-not-takes-clause-there
sized-returns-then-not-takes-clause-there t c = there_still _ _ c.sizes.ensures.grows _ c.requires.there

pub sized-returns-then-not-takes-clause-exact : goal.calls::sized-returns-then-not-takes-clause-exact
sized-returns-then-not-takes-clause-exact t c = λ parts all.
    let n = c.in_ok-numbers.ensures.exact parts all in
    let not : c.takes.result ≡ false = search rules in
    let t : takes c.args.called.function (length c.in_ok-numbers.numbers) ≡ false = search rules in
    rw c.broken.ensures (record { is = rw (n, t) refl })

pub sized-returns-clause-there : goal.calls::sized-returns-clause-there
sized-returns-clause-there t c = there_still _ _ c.sizes.ensures.grows _ c.requires.there

pub sized-returns-clause-exact : goal.calls::sized-returns-clause-exact
sized-returns-clause-exact t c = λ parts all.
    let n = c.in_ok-numbers.ensures.exact parts all in
    let same = same_virtuals c.args.s.now c.sizes.new.s c.sizes.ensures.grows c.args.virtuals.now c.requires.there in
    let t : takes c.args.called.function (length c.in_ok-numbers.numbers) ≡ true = search rules in
    record { is = rw (n, t) (ap (λ v. Ok (Sized c.args.called.function None c.in_ok-numbers.numbers, v)) (sym same)) }

-- ---- what grows

pub sizes-returns-in_err-one-clause-grows : goal.calls::sizes-returns-in_err-one-clause-grows
sizes-returns-in_err-one-clause-grows t c = grows_trans _ _ _ c.loop-arg.invariant.0 c.read_size.ensures.grows

pub sizes-returns-in_err-push-clause-grows : goal.calls::sizes-returns-in_err-push-clause-grows
sizes-returns-in_err-push-clause-grows t c = grows_trans _ _ _ c.loop-arg.invariant.0 c.read_size.ensures.grows

pub number-returns-in_default-clause-grows : goal.calls::number-returns-in_default-clause-grows
number-returns-in_default-clause-grows t c = grows_refl c.args.s.now

pub number-returns-in_err-arguments-in-Some-split-clause-grows : goal.calls::number-returns-in_err-arguments-in-Some-split-clause-grows
number-returns-in_err-arguments-in-Some-split-clause-grows t c = grows_trans _ _ _ c.read_size.ensures.grows c.arguments.ensures.grows

pub number-returns-in_ok-arguments-in-Some-split-clause-grows : goal.calls::number-returns-in_ok-arguments-in-Some-split-clause-grows
number-returns-in_ok-arguments-in-Some-split-clause-grows t c = grows_trans _ _ _ c.read_size.ensures.grows c.arguments.ensures.grows

pub size-returns-in_default-clause-grows : goal.calls::size-returns-in_default-clause-grows
size-returns-in_default-clause-grows t c = grows_refl c.args.s.now

pub size-returns-in_err-at-clause-grows : goal.calls::size-returns-in_err-at-clause-grows
size-returns-in_err-at-clause-grows t c = grows_trans _ _ _ c.array.ensures.grows c.number.ensures.grows

pub size-returns-clause-grows : goal.calls::size-returns-clause-grows
size-returns-clause-grows t c = grows_trans _ _ _ c.array.ensures.grows c.number.ensures.grows

pub fill-returns-in_default-clause-grows : goal.calls::fill-returns-in_default-clause-grows
fill-returns-in_default-clause-grows t c = grows_refl c.args.s.now

pub fill-returns-in_err-numbers-clause-grows : goal.calls::fill-returns-in_err-numbers-clause-grows
fill-returns-in_err-numbers-clause-grows t c = grows_trans _ _ _ c.operand.ensures.grows c.sizes.ensures.grows

pub fill-returns-clause-grows : goal.calls::fill-returns-clause-grows
fill-returns-clause-grows t c = grows_trans _ _ _ c.operand.ensures.grows c.sizes.ensures.grows
