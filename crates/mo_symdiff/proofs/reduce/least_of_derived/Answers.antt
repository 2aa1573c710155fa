use Rattle.mo_symdiff.proofs.Bounding.{derived_names, derived_nodes}
use Rattle.mo_symdiff.proofs.reduce.least_of_derived.Goals as goal

pub returns-clause-nodes : goal.returns-clause-nodes
returns-clause-nodes c = derived_nodes _ _ _ c.derived_weight.ensures

pub returns-clause-bytes : goal.returns-clause-bytes
returns-clause-bytes c = derived_names _ _ _ c.derived_weight-2.ensures
