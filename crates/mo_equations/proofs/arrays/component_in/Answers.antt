-- The first element of that name.
use Rattle.mo_names.proofs.OwnNamed.{own_stands}
use Rattle.mo_equations.proofs.arrays.component_in.Goals as goal

pub returns-in-len1-up : goal.returns-in-len1-up
returns-in-len1-up c = own_stands c.args.s.now c.args.home.0 _ c.own_member.result c.requires c.own_member.ensures.is c.own_member.ensures.home c.own_member.ensures.class
