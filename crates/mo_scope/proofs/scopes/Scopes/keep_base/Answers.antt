-- One base more is kept at most, with the frame that it is entered as.
use Rattle.std.proofs.Common.{sym, subst}
use Rattle.mo_scope.specs.KeptBases.{AreEnteredBases, base_held}
use Rattle.mo_scope.proofs.KeptBases.{bases_more}
use Rattle.mo_scope.proofs.scopes.Scopes.keep_base.Goals as goal

pub invariant_of-self : goal.invariant_of-self
invariant_of-self c = record {
  world = c.self.invariant.world;
  classes = c.self.invariant.classes;
  entered = c.self.invariant.entered;
  found = c.self.invariant.found;
  components = c.self.invariant.components;
  bases = subst (λ w. AreEnteredBases w (base_held c.put.new.self)) (sym c.self.view_is)
      (bases_more c.args.self.now (base_held c.self.inside.bases) (base_held c.put.new.self) c.args.frame.0 c.args.at c.args.class.0 c.args.base.0
      (subst (λ w. AreEnteredBases w (base_held c.self.inside.bases)) c.self.view_is c.self.invariant.bases) c.put.ensures c.requires.frame c.requires.class c.requires.base c.requires.enters);
}
