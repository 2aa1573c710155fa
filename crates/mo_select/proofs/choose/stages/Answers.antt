use Rattle.std.proofs.Common.{◌≡◌, ◌<◌, ◌+◌, length, vec_len, slice_index_or, rules, arith, ap, ◌∙◌}
use Rattle.std.proofs.lemmas.Bool.Decides.{nat_tests}
use Rattle.mo_incidence.specs.Signature.{equations}
use Rattle.mo_incidence.specs.Offsets.{by_place, by_number}
use Rattle.mo_incidence.specs.Dummies.{greatest}
use Rattle.mo_blocks.proofs.Dummying.{at_diff, stage_low, falls_below}
use Rattle.mo_select.proofs.Stages.{diff_few, made_none, made_next, made_whole}
use Rattle.mo_select.proofs.choose.stages.Goals as goal

pub on-init : goal.on-init
on-init c =
    let numbers = rw c.in_ok-candidates.ensures.values.0 at c.numbers.ensures in
    let active = rw c.in_ok-candidates.ensures.values.1 at c.first_active.ensures in
    record {
      made = made_none c.args.inc.now (by_place c.args.c.now) (by_number c.args.d.now) (by_number c.args.level.now) (by_place c.args._pairs.now) _ _ _
          c.equations-equations.ensures.sound c.requires.tight c.requires.all c.new-stages.ensures (rw c.unknowns.ensures at numbers)
          (rw c.equations.ensures.count at active);
      size = c.requires.sizes.2;
      clear = c.requires.clear;
    }

pub next_stage-requires-clause-active : goal.next_stage-requires-clause-active
next_stage-requires-clause-active c = λ k l.
    let known = at_diff (by_place c.args.c.now) _ _ _ (c.deref.ensures.value ∙ c.on.invariant.made.active_is) k l in
    known.0

pub next_stage-requires-clause-few : goal.next_stage-requires-clause-few
next_stage-requires-clause-few c =
    let few = diff_few (by_place c.args.c.now) (c.on.done + 1) (equations c.args.inc.now) in
    omega (arith, ap length (c.deref.ensures.value ∙ c.on.invariant.made.active_is), c.equations-equations.ensures.sound.few_equations)

pub next_stage-requires-clause-unknowns : goal.next_stage-requires-clause-unknowns
next_stage-requires-clause-unknowns c = c.on.invariant.made.known

pub next_stage-requires-clause-can : goal.next_stage-requires-clause-can
next_stage-requires-clause-can c = rw c.deref.ensures.value c.on.invariant.made.can

pub overflow_add-done : goal.overflow_add-done
overflow_add-done c =
    let some : 0 < vec_len c.on.active = grind (arith, nat_tests, c.on-test.ensures) in
    let known = at_diff (by_place c.args.c.now) _ _ _ c.on.invariant.made.active_is 0 (omega arith) in
    let fits = c.type_inv.c (slice_index_or c.on.active.items 0 0) in
    let high = known.1 in
    search (rules, arith)

pub keep-requires : goal.keep-requires
keep-requires c = λ k l.
    let known = at_diff (by_place c.args.c.now) _ _ _ (c.deref-in-on.ensures.value ∙ c.on.invariant.made.active_is) k l in
    omega (arith, known.0)

pub on-preserved : goal.on-preserved
on-preserved c =
    let next = c.in_ok-next_stage.ensures.stage in
    let some : 0 < vec_len c.on.active = grind (arith, nat_tests, c.on-test.ensures) in
    record {
      made = made_next c.args.inc.now (by_place c.args.c.now) (by_number c.args.d.now) (by_number c.args.level.now) c.on.stages c.on.candidates.items c.on.active.items c.on.done
          c.requires.low c.on.invariant.made (omega arith) next.made (rw c.deref.ensures.value at next.is_stage)
          _ _ _ next.stages_are next.candidates_are (rw c.deref-in-on.ensures.value at c.in_ok-active.ensures);
      size = omega (arith, c.on.invariant.size);
      clear = c.in_ok-next_stage.ensures.clear;
    }

pub on-smaller : goal.on-smaller
on-smaller c =
    let some : 0 < vec_len c.on.active = grind (arith, nat_tests, c.on-test.ensures) in
    let low = stage_low (by_place c.args.c.now) (c.on.done + 1) (equations c.args.inc.now) (omega (arith, ap length c.on.invariant.made.active_is)) in
    falls_below (greatest (by_place c.args.c.now) (equations c.args.inc.now)) c.on.done low

pub returns : goal.returns
returns c =
    let none : vec_len c.on.active ≡ 0 = grind (arith, nat_tests, c.on-test.ensures) in
    made_whole _ _ _ _ _ _ _ _ c.on.invariant.made (omega arith)

pub next_stage-requires-clause-sizes : goal.next_stage-requires-clause-sizes
next_stage-requires-clause-sizes c = (c.requires.sizes.0, c.requires.sizes.1, c.on.invariant.size)
