-- The frames grow by the calls on the way.
use Rattle.mo_names.proofs.Later.{grows_refl, grows_trans}
use Rattle.mo_lookup.proofs.free.keep_for_class.Goals as goal

pub returns-then-is_empty : goal.returns-then-is_empty
returns-then-is_empty c = grows_refl _

pub returns-in-Some : goal.returns-in-Some
returns-in-Some c = grows_trans _ _ _ c.in-Some.ensures.grows c.keep_behind.ensures
