use Rattle.mo_symdiff.proofs.Bounding.{carried_names, carried_nodes}
use Rattle.mo_symdiff.proofs.reduce.least_of_carried.Goals as goal

pub returns : goal.returns
returns c = (carried_nodes _ _ _ c.in_ok-nodes.ensures, carried_names _ _ _ c.in_ok-bytes.ensures)
