-- Its frame is the one that the component was entered as at its last index.
use Rattle.mo_equations.proofs.arrays.is_element.Goals as goal

pub returns-in-len1-up : goal.returns-in-len1-up
returns-in-len1-up c = λ is. record { member = c.requires; index = _; entered = c.is_entered_as.ensures is }
