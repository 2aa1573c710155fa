use Rattle.mo_graph.proofs.Arranging.{found_in_order}
use Rattle.mo_graph.proofs.order.in_order.Goals as goal

pub returns : goal.returns
returns c =
    found_in_order _ _ _ _ _ _ _ c.requires.graph _ _ _ _
    c.deref.ensures.value c.deref-2.ensures.value c.deref-3.ensures.value c.deref-5.ensures.value c.in_ok-class.ensures c.in_ok-leader.ensures c.in_ok-placed.ensures.arranged
    _ _ _ c.deref-6.ensures.value c.deref-7.ensures.value c.in_ok-lists.ensures.count c.in_ok-lists.ensures.members
