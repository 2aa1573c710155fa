use Rattle.mo_eval.proofs.layers.part_of_bound.Goals as goal

pub part_at-requires : goal.part_at-requires
part_at-requires c = (rw c.in-Some.is at c.requires).kind
