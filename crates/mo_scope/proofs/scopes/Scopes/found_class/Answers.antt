-- What was kept of a name is what it finds.
use Rattle.std.proofs.Common.{subst}
use Rattle.mo_scope.specs.KeptClasses.{AreFound}
use Rattle.mo_scope.proofs.KeptClasses.{found_asked}
use Rattle.mo_scope.proofs.scopes.Scopes.found_class.Goals as goal

pub returns-in-Some-clause-is : goal.returns-in-Some-clause-is
returns-in-Some-clause-is c = found_asked c.args.self.now c.in-Some.found.now c.args.asked.now c.in-Some.ensures.asked
    (subst (λ w. AreFound w c.self.inside.found.classes.items) c.self.view_is c.self.invariant.found c.in-Some.found.now c.in-Some.ensures.held)

pub returns-in-Some-clause-exists : goal.returns-in-Some-clause-exists
returns-in-Some-clause-exists c = (subst (λ w. AreFound w c.self.inside.found.classes.items) c.self.view_is c.self.invariant.found c.in-Some.found.now c.in-Some.ensures.held).class
