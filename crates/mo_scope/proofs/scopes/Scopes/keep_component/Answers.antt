-- One component more is kept at most, with the frame that it is entered as.
use Rattle.std.proofs.Common.{sym, subst}
use Rattle.mo_scope.specs.KeptComponents.{AreEnteredComponents}
use Rattle.mo_scope.proofs.KeptComponents.{entered_more}
use Rattle.mo_scope.proofs.scopes.Scopes.keep_component.Goals as goal

pub invariant_of-self : goal.invariant_of-self
invariant_of-self c = record {
  world = c.self.invariant.world;
  classes = c.self.invariant.classes;
  entered = c.self.invariant.entered;
  found = c.self.invariant.found;
  components = subst (λ w. AreEnteredComponents w c.put.new.self.components.items) (sym c.self.view_is)
      (entered_more c.args.self.now c.self.inside.components.components.items c.put.new.self.components.items c.args.member.now c.args.index.now c.args.frame
      (subst (λ w. AreEnteredComponents w c.self.inside.components.components.items) c.self.view_is c.self.invariant.components) c.put.ensures c.requires.home c.requires.frame c.requires.own c.requires.enters);
  bases = c.self.invariant.bases;
}
