-- The walk stands in the later world.
use Rattle.mo_names.proofs.Later.{grows_trans, is_walk_later}
use Rattle.mo_lookup.proofs.free.elements_kept_at.Goals as goal

pub returns-clause-stand : goal.returns-clause-stand
returns-clause-stand c = is_walk_later c.elements_at.new.s c.walk_kept.new.s c.in_ok-walk.walk c.in_ok-walk_kept.ensures.grows c.in_ok-walk.ensures.stand

pub returns-in_err-walk_kept-clause-grows : goal.returns-in_err-walk_kept-clause-grows
returns-in_err-walk_kept-clause-grows c = grows_trans _ _ _ c.in_ok-walk.ensures.grows c.in_err-walk_kept.ensures.grows

pub returns-clause-grows : goal.returns-clause-grows
returns-clause-grows c = grows_trans _ _ _ c.in_ok-walk.ensures.grows c.in_ok-walk_kept.ensures.grows
