use Rattle.std.proofs.Common.{arith}
use Rattle.mo_front.proofs.Structuring.{orders_at}
use Rattle.mo_front.proofs.degrees.orders.Goals as goal

pub returns : goal.returns
returns c = orders_at _ _ _ c.requires (omega arith) (λ i l. c.loop-i.invariant.1 i (omega arith))
