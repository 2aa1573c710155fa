-- What was kept of a component is what it is entered as.
use Rattle.std.proofs.Common.{subst}
use Rattle.mo_scope.specs.KeptComponents.{AreEnteredComponents}
use Rattle.mo_scope.proofs.KeptComponents.{entered_so}
use Rattle.mo_scope.proofs.scopes.Scopes.entered_component.Goals as goal

pub returns-in-Some-clause-is : goal.returns-in-Some-clause-is
returns-in-Some-clause-is c = entered_so c.args.self.now c.in-Some.component.now c.args.member.now c.args.index.now c.in-Some.ensures.so
    (subst (λ w. AreEnteredComponents w c.self.inside.components.components.items) c.self.view_is c.self.invariant.components c.in-Some.component.now c.in-Some.ensures.held) c.requires

pub returns-in-Some-clause-exists : goal.returns-in-Some-clause-exists
returns-in-Some-clause-exists c = (subst (λ w. AreEnteredComponents w c.self.inside.components.components.items) c.self.view_is c.self.invariant.components c.in-Some.component.now c.in-Some.ensures.held).frame
