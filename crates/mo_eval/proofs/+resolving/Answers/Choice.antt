-- What is answered of the calls of choice.rt.
use Rattle.mo_eval.proofs.Choosing.{behind_made, branch_ok, none_left, none_left_halts, one_halts, one_last, one_more}
use Rattle.mo_eval.proofs.Growing.{gives_as, gives_halt, made_as, same_asked, same_making}
use Rattle.mo_eval.proofs.Grown.{frame_stays, grows_on, same_virtuals, there_still}
use Rattle.mo_syntax.specs.Outcome.{and_then}
use Rattle.mo_values.specs.Made.{range_of}
use Rattle.mo_eval.specs.Resolving.{made_choice, make_part, read_end, read_step}
use Rattle.mo_values.specs.Scalars.{Known}
use Rattle.mo_eval.specs.Seen.{virtuals_seen}
use Rattle.mo_eval.specs.steps.Sites.{elements_in, part_in}
use Rattle.mo_eval.specs.declared.choice.BranchMade.TheVariants.{Dropped}
use Rattle.mo_eval.specs.steps.Choosing.{made_branch, truth_in}
use Rattle.mo_eval.specs.steps.Parts.{as_branch, made_two}
use Rattle.mo_scope.specs.Worlds.{frames_of}
use Rattle.mo_typing.proofs.Gathering.{opened}
use Rattle.std.proofs.Common.{Err, None, Ok, Some, [], ap, drop, false, map, rules, sym, true, ◌+◌, ◌∙◌, ◌≡◌}
use Rattle.std.proofs.lemmas.List.{drop_all}
use Rattle.std.specs.Option.{option_map}
use Rattle.mo_eval.proofs.+resolving.Goals as goal
use Rattle.mo_names.proofs.Later.{grows_refl, grows_trans}

pub range-returns-in_err-b-clause-exact : goal.choice::range-returns-in_err-b-clause-exact
range-returns-in_err-b-clause-exact t c =
    let context = c.args.site.now.context in
    let read = elements_in c.args.s.now c.args.site.now.left in
    let part = part_in c.args.s.now c.args.site.now in
    let stop = c.in_err-b.field-0.0 in
    let p : c.from_residual-in_err-b.result ≡ Err stop = search rules in
    let same = same_asked (λ read part. read_step read context (option_map part c.args.step.now)) c.args.s.now c.read_end.new.s c.args.site.now c.read_end.ensures.grows c.requires.frame in
    rw (p, c.in_ok-a.ensures.exact)
    (gives_halt {A = Known} stop (read_step read context (option_map part c.args.step.now)) (λ step. and_then (read_end read context (part c.args.last.now)) (λ last. range_of c.args.place c.in_ok-a.a step last))
    (gives_as {A = Known} (Err stop) _ _ same c.in_err-b.ensures.exact))

pub range-returns-in_err-c-clause-exact : goal.choice::range-returns-in_err-c-clause-exact
range-returns-in_err-c-clause-exact t c =
    let context = c.args.site.now.context in
    let read = elements_in c.args.s.now c.args.site.now.left in
    let part = part_in c.args.s.now c.args.site.now in
    let stop = c.in_err-c.field-0.0 in
    let p : c.from_residual-in_err-c.result ≡ Err stop = search rules in
    let grown = grows_on _ _ _ c.read_end.ensures.grows c.read_step.ensures.grows in
    let second = same_asked (λ read part. read_step read context (option_map part c.args.step.now)) c.args.s.now c.read_end.new.s c.args.site.now c.read_end.ensures.grows c.requires.frame in
    let third = same_asked (λ read part. read_end read context (part c.args.last.now)) c.args.s.now c.read_step.new.s c.args.site.now grown c.requires.frame in
    rw (p, c.in_ok-a.ensures.exact, sym second ∙ c.in_ok-b.ensures.exact)
    (gives_halt {A = Known} stop (read_end read context (part c.args.last.now)) (λ last. range_of c.args.place c.in_ok-a.a c.in_ok-b.b last)
    (gives_as {A = Known} (Err stop) _ _ third c.in_err-c.ensures.exact))

pub range-returns-clause-exact : goal.choice::range-returns-clause-exact
range-returns-clause-exact t c =
    let context = c.args.site.now.context in
    let grown = grows_on _ _ _ c.read_end.ensures.grows c.read_step.ensures.grows in
    let second = same_asked (λ read part. read_step read context (option_map part c.args.step.now)) c.args.s.now c.read_end.new.s c.args.site.now c.read_end.ensures.grows c.requires.frame in
    let third = same_asked (λ read part. read_end read context (part c.args.last.now)) c.args.s.now c.read_step.new.s c.args.site.now grown c.requires.frame in
    rw (c.in_ok-a.ensures.exact, sym second ∙ c.in_ok-b.ensures.exact, sym third ∙ c.in_ok-c.ensures.exact) (rw c.range_of.ensures at c.answer.ensures)

pub made_branch-returns-in_err-known-clause-there : goal.choice::made_branch-returns-in_err-known-clause-there
made_branch-returns-in_err-known-clause-there t c = there_still _ _ c.read_condition.ensures.grows _ c.requires.there

pub made_branch-operand-requires : goal.choice::made_branch-operand-requires
made_branch-operand-requires t c = (
  search rules,
  (
    frame_stays _ _ _ c.read_condition.ensures.grows c.requires.frame,
    (there_still _ _ c.read_condition.ensures.grows _ c.requires.there, c.read_condition.ensures.kept),
  ),
)

pub made_branch-two-requires : goal.choice::made_branch-two-requires
made_branch-two-requires t c = (
  search rules,
  (
    frame_stays _ _ _ c.read_condition.ensures.grows c.requires.frame,
    (there_still _ _ c.read_condition.ensures.grows _ c.requires.there, c.read_condition.ensures.kept),
  ),
)

pub made_branch-returns-in-Some-true-clause-exact : goal.choice::made_branch-returns-in-Some-true-clause-exact
made_branch-returns-in-Some-true-clause-exact t c =
    let context = c.args.site.now.context in
    let read = elements_in c.args.s.now c.args.site.now.left in
    let part = part_in c.args.s.now c.args.site.now in
    let before = virtuals_seen (frames_of c.args.s.now) c.args.virtuals.now in
    let is : c.truth_in.result ≡ Some true = search rules in
    let decided : truth_in c.in_ok-known.known ≡ Some true = sym c.truth_in.ensures ∙ is in
    let same = same_making (λ read part. make_part context (part c.args.branch.now.value)) c.args.s.now c.read_condition.new.s c.args.site.now c.read_condition.ensures.grows c.requires.frame c.args.virtuals.now c.requires.there in
    made_as _ _ _ _ _ (sym (branch_ok read context (part c.args.branch.now.value) (as_branch part c.args.branch.now) before c.in_ok-known.known (Some true) c.in_ok-known.ensures.exact decided))
    (c.last.ensures _ _ _ (made_as _ _ _ _ _ same c.operand.ensures.exact))

pub made_branch-returns-in-Some-false-clause-there : goal.choice::made_branch-returns-in-Some-false-clause-there
made_branch-returns-in-Some-false-clause-there t c = there_still _ _ c.read_condition.ensures.grows _ c.requires.there

pub made_branch-returns-in-Some-false-clause-exact : goal.choice::made_branch-returns-in-Some-false-clause-exact
made_branch-returns-in-Some-false-clause-exact t c =
    let context = c.args.site.now.context in
    let read = elements_in c.args.s.now c.args.site.now.left in
    let part = part_in c.args.s.now c.args.site.now in
    let before = virtuals_seen (frames_of c.args.s.now) c.args.virtuals.now in
    let is : c.truth_in.result ≡ Some false = search rules in
    let decided : truth_in c.in_ok-known.known ≡ Some false = sym c.truth_in.ensures ∙ is in
    let same = same_virtuals c.args.s.now c.read_condition.new.s c.read_condition.ensures.grows c.args.virtuals.now c.requires.there in
    record {
      is = branch_ok read context (part c.args.branch.now.value) (as_branch part c.args.branch.now) before c.in_ok-known.known (Some false) c.in_ok-known.ensures.exact decided
          ∙ ap (λ v. Ok (Dropped, v)) (sym same);
    }

pub made_branch-returns-in-None-clause-exact : goal.choice::made_branch-returns-in-None-clause-exact
made_branch-returns-in-None-clause-exact t c =
    let context = c.args.site.now.context in
    let read = elements_in c.args.s.now c.args.site.now.left in
    let part = part_in c.args.s.now c.args.site.now in
    let before = virtuals_seen (frames_of c.args.s.now) c.args.virtuals.now in
    let is : c.truth_in.result ≡ None = search rules in
    let decided : truth_in c.in_ok-known.known ≡ None = sym c.truth_in.ensures ∙ is in
    let same = same_making (λ read part. made_two context (part c.args.branch.now.condition) (part c.args.branch.now.value)) c.args.s.now c.read_condition.new.s c.args.site.now c.read_condition.ensures.grows c.requires.frame c.args.virtuals.now c.requires.there in
    made_as _ _ _ _ _ (sym (branch_ok read context (part c.args.branch.now.value) (as_branch part c.args.branch.now) before c.in_ok-known.known None c.in_ok-known.ensures.exact decided))
    (c.kept.ensures _ _ _ (made_as _ _ _ _ _ same c.two.ensures.exact))

pub choice-returns-in_err-step-clause-exact : goal.choice::choice-returns-in_err-step-clause-exact
choice-returns-in_err-step-clause-exact t c =
    let x = c.one-item.result in
    let i = c.loop-one.one-index in
    let context = c.args.site.now.context in
    let read = elements_in c.args.s.now c.args.site.now.left in
    let f = part_in c.args.s.now c.args.site.now in
    let before = virtuals_seen (frames_of c.loop-one.s) c.loop-one.virtuals in
    let same = same_asked (λ read part. made_branch read context (as_branch part x) before) c.args.s.now c.loop-one.s c.args.site.now c.loop-one.invariant.0 c.requires.frame in
    let opening = opened (λ xs. and_then (made_choice read context (map (as_branch f) xs) (f c.args.other.now) before) (behind_made c.loop-one.made)) c.args.branches.now i x c.loop-one-test.true c.one-item.is ∙ c.loop-one.invariant.2 in
    let rest = map (as_branch f) (drop (i + 1) c.args.branches.now) in
    let p : c.from_residual.result ≡ Err c.in_err-step.field-0.0 = search rules in
    rw p (made_as _ _ _ _ _ opening (one_halts read context (f c.args.other.now) _ c.in_err-step.field-0.0 _ c.loop-one.made (as_branch f x) rest before (made_as _ _ _ _ _ same c.in_err-step.ensures.exact)))

pub choice-returns-in-Some-clause-exact : goal.choice::choice-returns-in-Some-clause-exact
choice-returns-in-Some-clause-exact t c =
    let x = c.one-item.result in
    let i = c.loop-one.one-index in
    let context = c.args.site.now.context in
    let read = elements_in c.args.s.now c.args.site.now.left in
    let f = part_in c.args.s.now c.args.site.now in
    let before = virtuals_seen (frames_of c.loop-one.s) c.loop-one.virtuals in
    let same = same_asked (λ read part. made_branch read context (as_branch part x) before) c.args.s.now c.loop-one.s c.args.site.now c.loop-one.invariant.0 c.requires.frame in
    let opening = opened (λ xs. and_then (made_choice read context (map (as_branch f) xs) (f c.args.other.now) before) (behind_made c.loop-one.made)) c.args.branches.now i x c.loop-one-test.true c.one-item.is ∙ c.loop-one.invariant.2 in
    let rest = map (as_branch f) (drop (i + 1) c.args.branches.now) in
    let after = virtuals_seen (frames_of c.made_branch.new.s) c.made_branch.new.virtuals in
    let step = (made_as _ _ _ _ _ same c.in_ok-step.ensures.exact).is in
    record {
      is = sym opening
          ∙ (one_last read context (f c.args.other.now) c.loop-one.made (as_branch f x) rest before after c.in_ok-step.step c.in-Some.value step (sym c.in_ok-value.ensures.last ∙ c.in-Some.is)
          ∙ ap (λ xs. Ok ((xs, c.in-Some.value), after)) (sym c.in_ok-value.ensures.made));
    }

pub choice-loop-one-preserved : goal.choice::choice-loop-one-preserved
choice-loop-one-preserved t c =
    let x = c.one-item.result in
    let i = c.loop-one.one-index in
    let context = c.args.site.now.context in
    let read = elements_in c.args.s.now c.args.site.now.left in
    let f = part_in c.args.s.now c.args.site.now in
    let before = virtuals_seen (frames_of c.loop-one.s) c.loop-one.virtuals in
    let same = same_asked (λ read part. made_branch read context (as_branch part x) before) c.args.s.now c.loop-one.s c.args.site.now c.loop-one.invariant.0 c.requires.frame in
    let opening = opened (λ xs. and_then (made_choice read context (map (as_branch f) xs) (f c.args.other.now) before) (behind_made c.loop-one.made)) c.args.branches.now i x c.loop-one-test.true c.one-item.is ∙ c.loop-one.invariant.2 in
    let rest = map (as_branch f) (drop (i + 1) c.args.branches.now) in
    let after = virtuals_seen (frames_of c.made_branch.new.s) c.made_branch.new.virtuals in
    let step = (made_as _ _ _ _ _ same c.in_ok-step.ensures.exact).is in
    let none : c.in_ok-value.field-0 ≡ None = search rules in (
      grows_on _ _ _ c.loop-one.invariant.0 c.made_branch.ensures.grows,
      c.made_branch.ensures.there,
      rw c.in_ok-value.ensures.made
          (sym (one_more read context (f c.args.other.now) c.loop-one.made (as_branch f x) rest before after c.in_ok-step.step step (sym c.in_ok-value.ensures.last ∙ none)) ∙ opening),
      c.made_branch.ensures.kept,
    )

pub choice-returns-in_err-rest-clause-exact : goal.choice::choice-returns-in_err-rest-clause-exact
choice-returns-in_err-rest-clause-exact t c =
    let context = c.args.site.now.context in
    let read = elements_in c.args.s.now c.args.site.now.left in
    let f = part_in c.args.s.now c.args.site.now in
    let before = virtuals_seen (frames_of c.loop-one.s) c.loop-one.virtuals in
    let same = same_asked (λ read part. make_part context (part c.args.other.now) before) c.args.s.now c.loop-one.s c.args.site.now c.loop-one.invariant.0 c.requires.frame in
    let all : drop c.loop-one.one-index c.args.branches.now ≡ [] = drop_all c.loop-one.one-index c.args.branches.now c.loop-one-test.false in
    let ending = ap (λ xs. and_then (made_choice read context (map (as_branch f) xs) (f c.args.other.now) before) (behind_made c.loop-one.made)) (sym all) ∙ c.loop-one.invariant.2 in
    let p : c.from_residual-in_err-rest.result ≡ Err c.in_err-rest.field-0.0 = search rules in
    rw p (made_as _ _ _ _ _ ending (none_left_halts read context (f c.args.other.now) _ c.in_err-rest.field-0.0 _ c.loop-one.made before (made_as _ _ _ _ _ same c.in_err-rest.ensures.exact)))

pub choice-returns-clause-exact : goal.choice::choice-returns-clause-exact
choice-returns-clause-exact t c =
    let context = c.args.site.now.context in
    let read = elements_in c.args.s.now c.args.site.now.left in
    let f = part_in c.args.s.now c.args.site.now in
    let before = virtuals_seen (frames_of c.loop-one.s) c.loop-one.virtuals in
    let same = same_asked (λ read part. make_part context (part c.args.other.now) before) c.args.s.now c.loop-one.s c.args.site.now c.loop-one.invariant.0 c.requires.frame in
    let all : drop c.loop-one.one-index c.args.branches.now ≡ [] = drop_all c.loop-one.one-index c.args.branches.now c.loop-one-test.false in
    let ending = ap (λ xs. and_then (made_choice read context (map (as_branch f) xs) (f c.args.other.now) before) (behind_made c.loop-one.made)) (sym all) ∙ c.loop-one.invariant.2 in
    let after = virtuals_seen (frames_of c.operand.new.s) c.operand.new.virtuals in
    record { is = sym ending ∙ none_left read context (f c.args.other.now) c.loop-one.made before after c.in_ok-rest.rest (made_as _ _ _ _ _ same c.in_ok-rest.ensures.exact).is }

-- ---- what grows

pub read_step-returns-in-None-clause-grows : goal.choice::read_step-returns-in-None-clause-grows
read_step-returns-in-None-clause-grows t c = grows_refl c.args.s.now

pub range-returns-in_err-b-clause-grows : goal.choice::range-returns-in_err-b-clause-grows
range-returns-in_err-b-clause-grows t c = grows_trans _ _ _ c.read_end.ensures.grows c.read_step.ensures.grows

pub range-returns-in_err-c-clause-grows : goal.choice::range-returns-in_err-c-clause-grows
range-returns-in_err-c-clause-grows t c = grows_trans _ _ _ (grows_trans _ _ _ c.read_end.ensures.grows c.read_step.ensures.grows) c.read_end-2.ensures.grows

pub range-returns-clause-grows : goal.choice::range-returns-clause-grows
range-returns-clause-grows t c = grows_trans _ _ _ (grows_trans _ _ _ c.read_end.ensures.grows c.read_step.ensures.grows) c.read_end-2.ensures.grows

pub made_branch-returns-in-Some-true-clause-grows : goal.choice::made_branch-returns-in-Some-true-clause-grows
made_branch-returns-in-Some-true-clause-grows t c = grows_trans _ _ _ c.read_condition.ensures.grows c.operand.ensures.grows

pub made_branch-returns-in-None-clause-grows : goal.choice::made_branch-returns-in-None-clause-grows
made_branch-returns-in-None-clause-grows t c = grows_trans _ _ _ c.read_condition.ensures.grows c.two.ensures.grows

pub choice-returns-in_err-step-clause-grows : goal.choice::choice-returns-in_err-step-clause-grows
choice-returns-in_err-step-clause-grows t c = grows_trans _ _ _ c.loop-one.invariant.0 c.made_branch.ensures.grows

pub choice-returns-in_err-value-clause-grows : goal.choice::choice-returns-in_err-value-clause-grows
choice-returns-in_err-value-clause-grows t c = grows_trans _ _ _ c.loop-one.invariant.0 c.made_branch.ensures.grows

pub choice-returns-in-Some-clause-grows : goal.choice::choice-returns-in-Some-clause-grows
choice-returns-in-Some-clause-grows t c = grows_trans _ _ _ c.loop-one.invariant.0 c.made_branch.ensures.grows

pub choice-returns-in_err-rest-clause-grows : goal.choice::choice-returns-in_err-rest-clause-grows
choice-returns-in_err-rest-clause-grows t c = grows_trans _ _ _ c.loop-one.invariant.0 c.operand.ensures.grows

pub choice-returns-clause-grows : goal.choice::choice-returns-clause-grows
choice-returns-clause-grows t c = grows_trans _ _ _ c.loop-one.invariant.0 c.operand.ensures.grows
