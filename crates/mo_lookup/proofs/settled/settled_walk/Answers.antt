-- Told of the first world.
use Rattle.std.proofs.Common.{subst, sym}
use Rattle.mo_names.proofs.Later.{is_frame_later}
use Rattle.mo_lookup.proofs.Settling.{class_told_later, some_earlier}
use Rattle.mo_lookup.specs.steps.Settled.{AreSettled}
use Rattle.mo_names.specs.Sights.{walk_at}
use Rattle.mo_lookup.proofs.settled.settled_walk.Goals as goal

pub returns-in-Ok-clause-is : goal.returns-in-Ok-clause-is
returns-in-Ok-clause-is c =
    some_earlier c.args.s.now c.class_settled.new.s c.args.frame.0 (walk_at c.class_settled.new.s) c.walk_if_free.result c.in-Ok.ensures.grows c.requires c.walk_if_free.ensures.is

pub returns-in-Ok-clause-grows : goal.returns-in-Ok-clause-grows
returns-in-Ok-clause-grows c = c.in-Ok.ensures.grows

pub returns-in-Ok-clause-stand : goal.returns-in-Ok-clause-stand
returns-in-Ok-clause-stand c = c.walk_if_free.ensures.stand

pub class_settled-requires-clause-frame : goal.class_settled-requires-clause-frame
class_settled-requires-clause-frame c = c.requires

pub class_settled-requires-clause-known : goal.class_settled-requires-clause-known
class_settled-requires-clause-known c = subst (AreSettled c.args.s.now) (sym c.new-known.ensures) tt

pub walk_if_free-requires-clause-frame : goal.walk_if_free-requires-clause-frame
walk_if_free-requires-clause-frame c = is_frame_later c.args.s.now c.class_settled.new.s c.args.frame.0 c.in-Ok.ensures.grows c.requires

pub walk_if_free-requires-clause-told : goal.walk_if_free-requires-clause-told
walk_if_free-requires-clause-told c =
    class_told_later c.args.s.now c.class_settled.new.s c.args.frame.0 (walk_at c.class_settled.new.s c.in-Ok.made.walk) c.in-Ok.made.classes c.in-Ok.made.deep c.in-Ok.ensures.grows c.requires c.in-Ok.ensures.told

pub walk_if_free-requires-clause-stand : goal.walk_if_free-requires-clause-stand
walk_if_free-requires-clause-stand c = c.in-Ok.ensures.stand
