-- One more wins.
use Rattle.std.proofs.Common.{◌≡◌, ℕ, suc, ◌+◌, Bool, true, List, ap, arith, set, ◌∙◌}
use Rattle.mo_scope.proofs.PathPicking.{fill_next, filled}
use Rattle.mo_scope.proofs.pick_path.win_all.Goals as goal

pub loop-at-preserved : goal.loop-at-preserved
loop-at-preserved c =
    let next : suc c.loop-at.at ≡ c.loop-at.at + 1 = omega arith in
    ap (λ (ws : List Bool). set ws c.loop-at.at true) c.loop-at.invariant
    ∙ fill_next c.args.wins.now c.loop-at.at c.loop-at-test.true
    ∙ ap (λ (n : ℕ). filled n c.args.wins.now) next
