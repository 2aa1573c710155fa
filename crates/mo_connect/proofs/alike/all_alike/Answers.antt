use Rattle.std.proofs.Common.{arith, refl}
use Rattle.mo_connect.proofs.AlikeLemmas.{alike_more, unlike, so, not_so, false_answer}
use Rattle.mo_connect.proofs.alike.all_alike.Goals as goal

pub returns-then-not-is_alike_at : goal.returns-then-not-is_alike_at
returns-then-not-is_alike_at c =
    let tells = rw c.as_slice.ensures at c.is_alike_at.ensures in
    false_answer (λ all. not_so _ tells c.if-not-is_alike_at.true (unlike _ _ _ _ c.index-lefts-k.is c.loop-k-test.true all))

pub loop-k-preserved : goal.loop-k-preserved
loop-k-preserved c =
    let tells = rw c.as_slice.ensures at c.is_alike_at.ensures in
    alike_more _ _ _ _ c.index-lefts-k.is c.loop-k-test.true c.loop-k.invariant (so _ tells c.if-not-is_alike_at.false)

pub returns : goal.returns
returns c = (λ _ k d e within there. c.loop-k.invariant k d e (omega arith) there, λ _. refl)
