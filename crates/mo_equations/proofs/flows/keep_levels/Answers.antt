-- The last level goes, if there is one.
use Rattle.mo_equations.specs.steps.Owners.{IsOwnElements}
use Rattle.mo_equations.proofs.Owners.{every_popped}
use Rattle.mo_equations.proofs.flows.keep_levels.Goals as goal

pub loop-levels-preserved-in-loop-levels : goal.loop-levels-preserved-in-loop-levels
loop-levels-preserved-in-loop-levels c = every_popped (IsOwnElements c.args.s.now) c.loop-levels.levels c.pop.new.self c.pop.result c.loop-levels.invariant c.pop.ensures
