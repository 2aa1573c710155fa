use Rattle.std.proofs.Common.{◌≡◌, ◌<◌, ◌+◌, length, arith, rules, ap, ◌∙◌, vec_len, slice_index_or}
use Rattle.std.proofs.lemmas.Bool.Decides.{nat_tests}
use Rattle.mo_incidence.specs.Signature.{equations}
use Rattle.mo_incidence.specs.Offsets.{by_place, by_number}
use Rattle.mo_incidence.specs.Dummies.{greatest}
use Rattle.mo_incidence.proofs.Owning.{tight_known}
use Rattle.mo_blocks.proofs.Dummying.{at_diff, tight_low, stage_next, keep_next, stage_low, stage_over, dummies_over, falls_below}
use Rattle.mo_blocks.proofs.derivatives.choose.Goals as goal

pub keep-requires : goal.keep-requires
keep-requires c = λ k l.
    let known = at_diff (by_place c.args.c.now) 0 _ _ (c.deref.ensures.value ∙ c.in_ok-places.ensures (by_place c.args.c.now)) k l in
    omega (arith, known.0, c.equations.ensures.count)

pub loop-alloc-init : goal.loop-alloc-init
loop-alloc-init c = record {
  active = keep_next (by_place c.args.c.now) 0 _ _ _ (c.deref.ensures.value ∙ rw c.equations.ensures.count at (c.in_ok-places.ensures (by_place c.args.c.now))) c.in_ok-active.ensures;
  chosen = c.new-chosen.ensures.items;
}

pub overflow_add-done : goal.overflow_add-done
overflow_add-done c =
    let some : 0 < vec_len c.loop-alloc.active = grind (arith, nat_tests, c.loop-alloc-test.ensures) in
    let known = at_diff (by_place c.args.c.now) _ _ _ c.loop-alloc.invariant.active 0 (omega arith) in
    let fits = c.type_inv.c (slice_index_or c.loop-alloc.active.items 0 0) in
    let high = known.1 in
    search (rules, arith)

pub choose_stage-requires-clause-known : goal.choose_stage-requires-clause-known
choose_stage-requires-clause-known c = λ k l.
    let known = at_diff (by_place c.args.c.now) _ _ _ (c.deref-in-loop-alloc.ensures.value ∙ c.loop-alloc.invariant.active) k l in
    (omega (arith, known.0), omega (arith, known.0, c.equations.ensures.sound.few_equations))

pub choose_stage-requires-clause-pairs : goal.choose_stage-requires-clause-pairs
choose_stage-requires-clause-pairs c = λ i l.
    let inside : i < equations c.args.inc.now = omega arith in
    let known = tight_known _ _ _ _ _ c.equations.ensures.sound inside (c.requires.tight.allowed i inside (c.requires.all i inside)) in
    (known.0, omega (arith, known.1))

pub choose_stage-requires-clause-stage : goal.choose_stage-requires-clause-stage
choose_stage-requires-clause-stage c = λ k l.
    let known = at_diff (by_place c.args.c.now) _ _ _ (c.deref-in-loop-alloc.ensures.value ∙ c.loop-alloc.invariant.active) k l in
    let low = tight_low _ _ _ _ _ (c.requires.tight.allowed _ known.0 (c.requires.all _ known.0)) in
    omega (arith, known.1, low)

pub keep-requires-in-loop-alloc : goal.keep-requires-in-loop-alloc
keep-requires-in-loop-alloc c = λ k l.
    let known = at_diff (by_place c.args.c.now) _ _ _ (c.deref-in-loop-alloc-2.ensures.value ∙ c.loop-alloc.invariant.active) k l in
    omega (arith, known.0)

pub loop-alloc-smaller : goal.loop-alloc-smaller
loop-alloc-smaller c =
    let some : 0 < vec_len c.loop-alloc.active = grind (arith, nat_tests, c.loop-alloc-test.ensures) in
    let low = stage_low (by_place c.args.c.now) (c.loop-alloc.done + 1) (equations c.args.inc.now) (omega (arith, ap length c.loop-alloc.invariant.active)) in
    falls_below (greatest (by_place c.args.c.now) (equations c.args.inc.now)) c.loop-alloc.done low

pub loop-alloc-preserved : goal.loop-alloc-preserved
loop-alloc-preserved c = record {
  active = keep_next (by_place c.args.c.now) (c.loop-alloc.done + 1) _ _ _ (c.deref-in-loop-alloc-2.ensures.value ∙ c.loop-alloc.invariant.active) c.in_ok-active-2.ensures;
  chosen = stage_next (by_place c.args.c.now) (by_number c.args.d.now) _ _ _ _ _ _ c.loop-alloc.invariant.chosen (c.deref-in-loop-alloc.ensures.value ∙ c.loop-alloc.invariant.active) c.in_ok-choose_stage.ensures;
}

pub returns : goal.returns
returns c =
    let none : vec_len c.loop-alloc.active ≡ 0 = grind (arith, nat_tests, c.loop-alloc-test.ensures) in
    let over = stage_over (by_place c.args.c.now) c.loop-alloc.done (equations c.args.inc.now) (omega (arith, ap length c.loop-alloc.invariant.active)) in
    c.loop-alloc.invariant.chosen ∙ dummies_over (by_place c.args.c.now) (by_number c.args.d.now) (by_place c.args.pairs.now) (equations c.args.inc.now) c.loop-alloc.done over
