use Rattle.std.proofs.Common.{◌≡◌, ℕ, suc, ◌+◌, ◌++◌, ◌∷◌, [], List, ap, arith}
use Rattle.mo_select.proofs.candidates.numbers.Goals as goal

pub loop-before-preserved : goal.loop-before-preserved
loop-before-preserved c =
    let next : c.loop-before.before + 1 ≡ suc c.loop-before.before = omega arith in
    rw (c.in_ok-push.ensures.items, next) (ap (λ (ns : List ℕ). ns ++ suc c.loop-before.before ∷ []) c.loop-before.invariant)
