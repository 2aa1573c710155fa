-- Both stand.
use Rattle.mo_redeclare.proofs.Later.{is_child_later}
use Rattle.mo_names.proofs.Later.{grows_trans}
use Rattle.mo_redeclare.proofs.entering.children_of.Goals as goal

pub returns-clause-stand : goal.returns-clause-stand
returns-clause-stand c =
    (is_child_later c.child_of_member.new.s c.child_of_member-2.new.s c.in_ok-child.child c.in_ok-other.ensures.grows c.in_ok-child.ensures.stand, c.in_ok-other.ensures.stand)

pub returns-clause-grows : goal.returns-clause-grows
returns-clause-grows c = grows_trans _ _ _ c.in_ok-child.ensures.grows c.in_ok-other.ensures.grows
