use Rattle.mo_graph.proofs.Arranging.{ranks_rise}
use Rattle.mo_graph.proofs.order.arrange.Goals as goal

pub place-requires-clause-ranks : goal.place-requires-clause-ranks
place-requires-clause-ranks c =
    rw (c.deref.ensures.value, c.deref-2.ensures.value) (ranks_rise _ _ _ _ _ _ _ c.requires.graph c.requires.classes c.requires.leaders c.lead_edges.ensures.sources c.lead_edges.ensures.targets)
