use Rattle.std.proofs.Common.{◌≡◌, ◌≢◌, ◌+◌, ◌-◌, suc, slice_index_or, sym, ◌∙◌, arith}
use Rattle.mo_select.specs.steps.Staging.{taken}
use Rattle.mo_select.proofs.Picking.{taken_low, chosen_skip, chosen_take}
use Rattle.mo_select.proofs.stage.chosen_among.Goals as goal

pub bounds-active-number : goal.bounds-active-number
bounds-active-number c =
    let low = taken_low c.args.rank.now c.args.pairs.now _ (slice_index_or c.args.candidates.now c.loop-candidate.candidate-index 0) c.requires.numbers in
    omega (arith, low, c.number_of-number.ensures, c.if-number-eq0.false)

pub overflow_add-equation : goal.overflow_add-equation
overflow_add-equation c =
    let low = taken_low c.args.rank.now c.args.pairs.now _ (slice_index_or c.args.candidates.now c.loop-candidate.candidate-index 0) c.requires.numbers in
    let small = c.requires.places (c.number_of-number.result - 1) (omega (arith, low, c.number_of-number.ensures, c.if-number-eq0.false)) in
    omega arith

pub loop-candidate-preserved-then-number-eq0 : goal.loop-candidate-preserved-then-number-eq0
loop-candidate-preserved-then-number-eq0 c =
    chosen_skip _ _ _ _ _ c.loop-candidate.candidate-index (omega arith) c.loop-candidate.invariant (sym c.number_of-number.ensures ∙ c.if-number-eq0.true)

pub loop-candidate-preserved : goal.loop-candidate-preserved
loop-candidate-preserved c =
    let is = c.number_of-number.ensures in
    let some : taken c.args.rank.now c.args.pairs.now (slice_index_or c.args.candidates.now c.loop-candidate.candidate-index 0) ≢ 0 = rw (← is) c.if-number-eq0.false in
    let next : slice_index_or c.args.active.now (c.number_of-number.result - 1) 0 + 1 ≡ suc (slice_index_or c.args.active.now (c.number_of-number.result - 1) 0) = omega arith in
    rw (c.in_ok-push.ensures.ok, next, is) (chosen_take _ _ _ _ _ c.loop-candidate.candidate-index (omega arith) c.loop-candidate.invariant some)
