-- By the layers that are known.
use Rattle.mo_equations.proofs.layers.layered_bound.Goals as goal

pub returns-in-Some : goal.returns-in-Some
returns-in-Some c = rw (c.layered_so.ensures c.args.bound.now.resolved.expression (rw c.in-Some.is at c.requires.layers)) at c.answer.ensures
