-- Both stand.
use Rattle.mo_names.proofs.Later.{grows_trans, is_walk_later}
use Rattle.mo_redeclare.proofs.comparing.both_walked.Goals as goal

pub returns-clause-stand : goal.returns-clause-stand
returns-clause-stand c =
    (is_walk_later c.walk_of.new.s c.walk_of-2.new.s c.in_ok-walk.walk c.in_ok-other.ensures.grows c.in_ok-walk.ensures.stand, c.in_ok-other.ensures.stand)

pub returns-in_err-other-clause-grows : goal.returns-in_err-other-clause-grows
returns-in_err-other-clause-grows c = grows_trans _ _ _ c.in_ok-walk.ensures.grows c.in_err-other.ensures.grows

pub returns-clause-grows : goal.returns-clause-grows
returns-clause-grows c = grows_trans _ _ _ c.in_ok-walk.ensures.grows c.in_ok-other.ensures.grows
