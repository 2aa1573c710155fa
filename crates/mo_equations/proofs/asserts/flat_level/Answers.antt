-- The level, if there is one.
use Rattle.mo_scope.specs.Worlds.{frames_of, scope_in}
use Rattle.mo_equations.specs.steps.Standing.{tree_in}
use Rattle.mo_equations.proofs.Arguments.{level_some}
use Rattle.mo_equations.proofs.Staying.{stays_still}
use Rattle.mo_equations.proofs.asserts.flat_level.Goals as goal

pub returns-in_ok-flat-in-Some-clause-exact : goal.returns-in_ok-flat-in-Some-clause-exact
returns-in_ok-flat-in-Some-clause-exact c =
    rw c.in-Some.is
    (level_some (tree_in c.args.s.now c.args.desk.now.leaves) (scope_in (frames_of c.args.s.now) c.args.at.now.frame.0 c.args.at.now.iters) c.in-Some.e.now c.in_ok-flat-in-Some.flat c.in_ok-flat-in-Some.ensures.exact)

-- ---- what stays

pub returns-in_err-flat-in-Some-clause-stays : goal.returns-in_err-flat-in-Some-clause-stays
returns-in_err-flat-in-Some-clause-stays c = c.in_err-flat-in-Some.ensures.stays

pub returns-in_ok-flat-in-Some-clause-stays : goal.returns-in_ok-flat-in-Some-clause-stays
returns-in_ok-flat-in-Some-clause-stays c = c.in_ok-flat-in-Some.ensures.stays

pub returns-in-None-clause-stays : goal.returns-in-None-clause-stays
returns-in-None-clause-stays c = stays_still c.args.s.now c.args.desk.now c.requires.desk
