-- What was kept of a base is what it is entered as.
use Rattle.mo_scope.specs.Insides.{world_of}
use Rattle.mo_scope.specs.KeptBases.{base_held}
use Rattle.mo_scope.proofs.KeptBases.{base_enters, base_exists}
use Rattle.mo_scope.proofs.scopes.Scopes.entered_base.Goals as goal

pub returns-clause-is : goal.returns-clause-is
returns-clause-is c = base_enters (world_of c.self.inside) c.args.self.now (base_held c.self.inside.bases) c.args.frame.0 c.args.at c.args.class.0 c.base.result c.self.view_is c.self.invariant.bases c.base.ensures

pub returns-clause-exists : goal.returns-clause-exists
returns-clause-exists c = base_exists (world_of c.self.inside) c.args.self.now (base_held c.self.inside.bases) c.args.frame.0 c.args.at c.args.class.0 c.base.result c.self.view_is c.self.invariant.bases c.base.ensures
