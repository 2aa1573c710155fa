-- The asked class, then its parts.
use Rattle.mo_names.proofs.Later.{grows_trans}
use Rattle.mo_instance.proofs.asked_class.instances_from.Goals as goal

pub returns-in_err-walk-clause-grows : goal.returns-in_err-walk-clause-grows
returns-in_err-walk-clause-grows c = c.in_err-walk.ensures.grows

pub returns-in_err-instances-clause-grows : goal.returns-in_err-instances-clause-grows
returns-in_err-instances-clause-grows c = c.in_ok-walk.ensures.grows

pub returns-in_err-members_entered-clause-grows : goal.returns-in_err-members_entered-clause-grows
returns-in_err-members_entered-clause-grows c = grows_trans c.args.s.now c.frame_checked.new.s c.members_entered.new.s c.in_ok-walk.ensures.grows c.in_err-members_entered.ensures.grows

pub returns-clause-grows : goal.returns-clause-grows
returns-clause-grows c = grows_trans c.args.s.now c.frame_checked.new.s c.members_entered.new.s c.in_ok-walk.ensures.grows c.in_ok-members_entered.ensures.grows
