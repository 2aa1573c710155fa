-- One equation more.
use Rattle.std.proofs.Common.{Ok, ap, sym}
use Rattle.mo_equations.proofs.Joined.{next_joined}
use Rattle.mo_equations.proofs.joining.joined_equations.Goals as goal

pub loop-k-init : goal.loop-k-init
loop-k-init c = ap (λ made. Ok made) (sym c.new-made.ensures)

pub loop-k-preserved : goal.loop-k-preserved
loop-k-preserved c =
    rw c.in_ok-push.ensures.ok (next_joined c.args.place c.args.choice.now c.loop-k.k c.loop-k.made _ c.loop-k.invariant c.in_ok-joined_equation.ensures)
