use Rattle.std.proofs.Common.{◌<◌, ◌-◌, ◌+◌, inl, inr, slice_index, length, arith}
use Rattle.mo_certify.proofs.Following.{marked_fewer, following_next, other_settles, other_leads, circle_leads_nowhere}
use Rattle.mo_certify.proofs.least.leads_to_zero.Goals as goal

pub follow-smaller : goal.follow-smaller
follow-smaller c =
    let new = c.is_new.ensures.yes c.follow-test.true in
    let inside : c.follow.place < length c.follow.marks = omega (arith, c.follow.invariant.within, c.follow.invariant.size) in
    marked_fewer _ _ _ inside new.1 (omega arith)

pub follow-preserved : goal.follow-preserved
follow-preserved c =
    let new = c.is_new.ensures.yes c.follow-test.true in
    let known = c.requires.known c.follow.place c.follow.invariant.within new.0 in
    let inside : slice_index c.args.from.now (c.follow.place + 1) - 1 < length c.args.c.now = omega (arith, known.0, known.1) in
    following_next _ _ _ _ _ _ _ c.follow.invariant (omega arith) new.0 new.1 inside

pub returns-clause-yes : goal.returns-clause-yes
returns-clause-yes c = λ _. elim (c.is_new.ensures.no c.follow-test.false) [
  | inl e ↦ absurd (c.if-c-place-eq0.false e)
  | inr e ↦ other_leads _ _ _ _ _ _ _ c.follow.invariant e.1 c.if-marks-place.false
]

pub returns-clause-settled : goal.returns-clause-settled
returns-clause-settled c = λ _. elim (c.is_new.ensures.no c.follow-test.false) [
  | inl e ↦ absurd (c.if-c-place-eq0.false e)
  | inr e ↦ other_settles _ _ _ _ _ _ _ c.follow.invariant e.1 c.if-marks-place.false
]

pub returns-then-marks-place-clause-no : goal.returns-then-marks-place-clause-no
returns-then-marks-place-clause-no c = λ _ ends. circle_leads_nowhere _ _ _ _ _ _ _ c.follow.invariant c.if-marks-place.true ends
