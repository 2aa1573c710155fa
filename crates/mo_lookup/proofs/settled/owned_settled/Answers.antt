-- By the frame that differs from it in path and owner alone.
use Rattle.std.proofs.Common.{◌≡◌, [], rules, subst, sym}
use Rattle.mo_scope.specs.Frames.{sources_of}
use Rattle.mo_scope.specs.Worlds.{frame_at}
use Rattle.mo_scope.specs.Sights.{frame_at_or_top}
use Rattle.mo_names.proofs.Later.{grows_refl, grows_trans, is_frame_later}
use Rattle.mo_lookup.proofs.Settling.{ok_earlier, twin_told}
use Rattle.mo_names.specs.Sights.{walk_at}
use Rattle.mo_lookup.specs.steps.Settled.{AreSettled}
use Rattle.mo_names.proofs.Outcomes.{at_exit}
use Rattle.mo_lookup.proofs.settled.owned_settled.Goals as goal

pub owned_if_free-requires-clause-told : goal.owned_if_free-requires-clause-told
owned_if_free-requires-clause-told c =
    let u = c.args.s.now in
    let none : sources_of (frame_at u c.args.frame.0) ≡ [] = search rules in
    λ alike. twin_told u c.looked_up_class.new.s c.class_settled.new.s c.args.frame.0 c.in_ok-twin.twin.0 c.class_of-class.result.0 (frame_at_or_top u c.outer-outer.result)
    (walk_at c.class_settled.new.s c.in-Ok.made.walk) c.in-Ok.made.classes c.in-Ok.made.deep c.in_ok-twin.ensures.grows c.in-Ok.ensures.grows c.requires c.in_ok-twin.ensures.exists none
    c.class_of-class.ensures.is c.outer-outer.ensures.is c.in_ok-twin.ensures.is (c.in-Ok.ensures.owned alike)

pub returns-in-Ok-clause-is : goal.returns-in-Ok-clause-is
returns-in-Ok-clause-is c =
    ok_earlier c.args.s.now c.class_settled.new.s c.args.frame.0 (walk_at c.owned_if_free.new.s) c.owned_if_free.result
    (grows_trans c.args.s.now c.looked_up_class.new.s c.class_settled.new.s c.in_ok-twin.ensures.grows c.in-Ok.ensures.grows) c.requires c.owned_if_free.ensures.is

pub returns-then-not-is_empty-clause-grows : goal.returns-then-not-is_empty-clause-grows
returns-then-not-is_empty-clause-grows c = grows_refl c.args.s.now

pub returns-then-not-is_empty-clause-is : goal.returns-then-not-is_empty-clause-is
returns-then-not-is_empty-clause-is c = tt

pub returns-then-not-is_empty-clause-stand : goal.returns-then-not-is_empty-clause-stand
returns-then-not-is_empty-clause-stand c = tt

pub returns-in_err-twin-clause-grows : goal.returns-in_err-twin-clause-grows
returns-in_err-twin-clause-grows c = c.in_err-twin.ensures.grows

pub returns-in_err-twin-clause-is : goal.returns-in_err-twin-clause-is
returns-in_err-twin-clause-is c = at_exit _ _ c.from_residual.result c.from_residual.ensures.1

pub returns-in_err-twin-clause-stand : goal.returns-in_err-twin-clause-stand
returns-in_err-twin-clause-stand c = at_exit _ _ c.from_residual.result c.from_residual.ensures.1

pub class_settled-requires-clause-frame : goal.class_settled-requires-clause-frame
class_settled-requires-clause-frame c = c.in_ok-twin.ensures.exists

pub class_settled-requires-clause-known : goal.class_settled-requires-clause-known
class_settled-requires-clause-known c = subst (AreSettled c.looked_up_class.new.s) (sym c.new-known.ensures) tt

pub owned_if_free-requires-clause-frame : goal.owned_if_free-requires-clause-frame
owned_if_free-requires-clause-frame c = is_frame_later c.args.s.now c.class_settled.new.s c.args.frame.0 (grows_trans c.args.s.now c.looked_up_class.new.s c.class_settled.new.s c.in_ok-twin.ensures.grows c.in-Ok.ensures.grows) c.requires

pub owned_if_free-requires-clause-stand : goal.owned_if_free-requires-clause-stand
owned_if_free-requires-clause-stand c = c.in-Ok.ensures.stand

pub returns-in-Ok-clause-grows : goal.returns-in-Ok-clause-grows
returns-in-Ok-clause-grows c = grows_trans c.args.s.now c.class_settled.new.s c.owned_if_free.new.s (grows_trans c.args.s.now c.looked_up_class.new.s c.class_settled.new.s c.in_ok-twin.ensures.grows c.in-Ok.ensures.grows) c.owned_if_free.ensures.grows

pub returns-in-Ok-clause-stand : goal.returns-in-Ok-clause-stand
returns-in-Ok-clause-stand c = c.owned_if_free.ensures.stand
