-- The frames grow by the calls on the way.
use Rattle.mo_names.proofs.Later.{grows_trans}
use Rattle.mo_lookup.proofs.Children.{child_stays}
use Rattle.mo_lookup.proofs.entering.enter_component_anew.Goals as goal

pub enter_own_child-requires-clause-own : goal.enter_own_child-requires-clause-own
enter_own_child-requires-clause-own c = child_stays _ _ c.args.member.now c.args.index.now _ c.in_ok-child.ensures.grows c.requires c.in_ok-child.ensures.value

pub returns-in_err-enter_own_child-clause-grows : goal.returns-in_err-enter_own_child-clause-grows
returns-in_err-enter_own_child-clause-grows c = grows_trans _ _ _ c.in_ok-child.ensures.grows c.in_err-enter_own_child.ensures.grows

pub returns-clause-grows : goal.returns-clause-grows
returns-clause-grows c = grows_trans _ _ _ c.in_ok-child.ensures.grows c.in_ok-enter_own_child.ensures.grows
