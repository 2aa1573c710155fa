-- One class more is kept at most, and it is what the name finds.
use Rattle.std.proofs.Common.{sym, subst}
use Rattle.mo_scope.specs.KeptClasses.{AreFound}
use Rattle.mo_scope.proofs.KeptClasses.{found_more}
use Rattle.mo_scope.proofs.scopes.Scopes.keep_class.Goals as goal

pub invariant_of-self : goal.invariant_of-self
invariant_of-self c = record {
  world = c.self.invariant.world;
  classes = c.self.invariant.classes;
  entered = c.self.invariant.entered;
  found = subst (λ w. AreFound w c.put.new.self.classes.items) (sym c.self.view_is)
      (found_more c.args.self.now c.self.inside.found.classes.items c.put.new.self.classes.items c.args.asked.now c.args.class c.args.replaceable
      (subst (λ w. AreFound w c.self.inside.found.classes.items) c.self.view_is c.self.invariant.found) c.put.ensures c.requires.frame c.requires.class c.requires.finds);
  components = c.self.invariant.components;
  bases = c.self.invariant.bases;
}
