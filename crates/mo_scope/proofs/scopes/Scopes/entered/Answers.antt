-- What is held for a class and the frame around it.
use Rattle.std.specs.Prelude.{option_map}
use Rattle.mo_scope.specs.Bare.{entered_held}
use Rattle.mo_scope.specs.Entries.{number_of}
use Rattle.mo_scope.specs.Insides.{world_of}
use Rattle.mo_scope.proofs.Entering.{entered_frame, entered_exists, entered_known}
use Rattle.mo_scope.proofs.scopes.Scopes.entered.Goals as goal

pub returns-clause-is : goal.returns-clause-is
returns-clause-is c = entered_frame number_of (world_of c.self.inside) c.args.self.now (entered_held c.self.inside.entered) c.args.class.0 (option_map number_of c.args.outer) c.frame.result
    c.self.view_is c.self.invariant.world c.self.invariant.entered c.frame.ensures

pub returns-clause-exists : goal.returns-clause-exists
returns-clause-exists c = entered_exists number_of (world_of c.self.inside) c.args.self.now (entered_held c.self.inside.entered) c.args.class.0 (option_map number_of c.args.outer) c.frame.result
    c.self.view_is c.self.invariant.entered c.frame.ensures

pub returns-clause-whole : goal.returns-clause-whole
returns-clause-whole c = entered_known number_of (world_of c.self.inside) c.args.self.now (entered_held c.self.inside.entered) c.args.class.0 (option_map number_of c.args.outer) c.frame.result
    c.self.view_is c.self.invariant.entered c.frame.ensures
