-- Side by side.
use Rattle.std.proofs.Common.{refl}
use Rattle.mo_equations.proofs.ends.end_with.Goals as goal

pub returns-in-Neither : goal.returns-in-Neither
returns-in-Neither c = rw (c.in-Neither.is, c.end_of_neither.ensures) refl

pub returns-in-Inside : goal.returns-in-Inside
returns-in-Inside c = rw c.in-Inside.is c.end_beside.ensures

pub returns-in-Outside : goal.returns-in-Outside
returns-in-Outside c = rw c.in-Outside.is c.end_beside-in-Outside.ensures
