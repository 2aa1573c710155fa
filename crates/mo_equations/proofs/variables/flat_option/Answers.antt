-- One expression.
use Rattle.mo_scope.specs.Worlds.{frames_of}
use Rattle.mo_equations.specs.steps.Declaring.{variable_in}
use Rattle.mo_equations.specs.steps.Standing.{tree_in}
use Rattle.mo_equations.proofs.AllDeclared.{binding_flat}
use Rattle.mo_equations.proofs.Staying.{stays_still}
use Rattle.mo_equations.proofs.variables.flat_option.Goals as goal

pub returns-in_ok-flat-in-Some-clause-exact : goal.returns-in_ok-flat-in-Some-clause-exact
returns-in_ok-flat-in-Some-clause-exact c =
    binding_flat (tree_in c.args.s.now c.args.desk.now.leaves) (variable_in (frames_of c.args.s.now) c.args.variable.now) c.args.variable.now.leaf.now.binding (frames_of c.args.s.now) c.in-Some.binding
    c.in_ok-flat-in-Some.flat c.in-Some.is c.in_ok-flat-in-Some.ensures.exact

-- ---- what stays

pub returns-in_err-flat-in-Some-clause-stays : goal.returns-in_err-flat-in-Some-clause-stays
returns-in_err-flat-in-Some-clause-stays c = c.in_err-flat-in-Some.ensures.stays

pub returns-in_ok-flat-in-Some-clause-stays : goal.returns-in_ok-flat-in-Some-clause-stays
returns-in_ok-flat-in-Some-clause-stays c = c.in_ok-flat-in-Some.ensures.stays

pub returns-in-None-clause-stays : goal.returns-in-None-clause-stays
returns-in-None-clause-stays c = stays_still c.args.s.now c.args.desk.now c.requires.desk
