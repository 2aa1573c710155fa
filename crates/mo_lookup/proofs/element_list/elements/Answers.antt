-- The frames grow by the calls on the way.
use Rattle.mo_names.proofs.Later.{grows_refl, grows_trans}
use Rattle.mo_lookup.proofs.element_list.elements.Goals as goal

pub returns-in_err-members-clause-grows : goal.returns-in_err-members-clause-grows
returns-in_err-members-clause-grows c = grows_refl _

pub returns-in-Some-clause-grows : goal.returns-in-Some-clause-grows
returns-in-Some-clause-grows c = grows_refl _

pub returns-in_err-elements_kept-clause-grows : goal.returns-in_err-elements_kept-clause-grows
returns-in_err-elements_kept-clause-grows c = grows_trans _ _ _ c.in_ok-members-2.ensures.grows c.in_err-elements_kept.ensures.grows

pub returns-clause-grows : goal.returns-clause-grows
returns-clause-grows c = grows_trans _ _ _ c.in_ok-members-2.ensures.grows c.in_ok-elements_kept.ensures.grows
