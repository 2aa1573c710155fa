-- The tree of the desk is that of the instances.
use Rattle.std.proofs.Common.{subst}
use Rattle.mo_equations.specs.Counted.{GivesExpansion}
use Rattle.mo_equations.proofs.Expanding.{tree_is}
use Rattle.mo_equations.proofs.whole.expanded.Goals as goal

pub returns-clause-exact : goal.returns-clause-exact
returns-clause-exact c =
    subst (GivesExpansion c.expanded_at.result) (tree_is c.args.s.now c.in_ok-desk.desk.leaves c.args.instances.now c.in_ok-desk.ensures.instances) c.expanded_at.ensures.exact
