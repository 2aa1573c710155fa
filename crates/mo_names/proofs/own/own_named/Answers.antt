-- What stands beside the row of a class is what it declares itself.
use Rattle.mo_names.proofs.OwnNamed.{own_stands}
use Rattle.mo_names.proofs.own.own_named.Goals as goal

pub returns-clause-exists : goal.returns-clause-exists
returns-clause-exists c = own_stands c.args.s.now c.args.frame.0 c.args.name.now c.own_member.result c.requires c.own_member.ensures.is c.own_member.ensures.home c.own_member.ensures.class
