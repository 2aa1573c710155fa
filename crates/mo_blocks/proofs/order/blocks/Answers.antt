use Rattle.mo_graph.proofs.Arranging.{order_as}
use Rattle.mo_blocks.proofs.order.blocks.Goals as goal

pub in_order-requires : goal.in_order-requires
in_order-requires c = record { graph = rw c.equations.ensures.count c.in_ok-edges.ensures.graph }

pub returns : goal.returns
returns c = order_as _ _ c.in_ok-edges.ensures.only c.in_ok-edges.ensures.all _ _ (rw c.equations.ensures.count at c.in_ok-lists.ensures)
