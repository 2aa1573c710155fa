-- A class that is no leaf type begins with no elements.
use Rattle.mo_names.proofs.start.started.Goals as goal

pub returns-in_ok-nothing-in-Some-2-clause-stand : goal.returns-in_ok-nothing-in-Some-2-clause-stand
returns-in_ok-nothing-in-Some-2-clause-stand c = c.in_ok-nothing-in-Some-2.ensures.stand c.args.s.now tt
