-- One more base frame, as that of the one before.
use Rattle.std.proofs.Common.{◌∷◌, [], ap, arith, length, length-append, sym, subst, ◌∙◌}
use Rattle.mo_scope.specs.Worlds.{frames_of}
use Rattle.mo_names.specs.Sights.{AreThrough, frames_through}
use Rattle.mo_names.proofs.Later.{grows_refl, grows_trans}
use Rattle.mo_lookup.proofs.OwnedWalks.{Owning, owning_base, owning_begun, owning_done, owning_home, owning_on, turned_through}
use Rattle.mo_names.proofs.Outcomes.{at_exit}
use Rattle.mo_lookup.proofs.owning.through_owned.Goals as goal

pub returns-in_err-rest-clause-grows : goal.returns-in_err-rest-clause-grows
returns-in_err-rest-clause-grows c = grows_refl c.args.s.now

pub returns-in_err-rest-clause-is : goal.returns-in_err-rest-clause-is
returns-in_err-rest-clause-is c = at_exit _ _ c.from_residual.result c.from_residual.ensures.1

pub returns-in_err-rest-clause-home : goal.returns-in_err-rest-clause-home
returns-in_err-rest-clause-home c = at_exit _ _ c.from_residual.result c.from_residual.ensures.1

pub returns-in_err-rest-clause-exist : goal.returns-in_err-rest-clause-exist
returns-in_err-rest-clause-exist c = at_exit _ _ c.from_residual.result c.from_residual.ensures.1

pub returns-in_err-rest-clause-exists : goal.returns-in_err-rest-clause-exists
returns-in_err-rest-clause-exists c = at_exit _ _ c.from_residual.result c.from_residual.ensures.1

pub returns-in_err-rest-clause-made : goal.returns-in_err-rest-clause-made
returns-in_err-rest-clause-made c = c.requires.made

pub loop-base-init : goal.loop-base-init
loop-base-init c = record {
  so_far = subst (λ out. Owning c.args.s.now c.args.s.now c.args.frame.0 c.args.through.now c.in_ok-rest.rest out c.args.frame.0) (sym c.new-out.ensures)
      (owning_begun c.args.s.now c.args.frame.0 c.args.through.now c.in_ok-rest.rest c.requires.frame c.requires.through c.in_ok-rest.ensures);
  made = c.requires.made;
}

pub base_owned-requires-clause-around : goal.base_owned-requires-clause-around
base_owned-requires-clause-around c = c.loop-base.invariant.so_far.stands

pub base_owned-requires-clause-base : goal.base_owned-requires-clause-base
base_owned-requires-clause-base c =
    owning_base c.args.s.now c.loop-base.s c.args.frame.0 c.args.through.now c.loop-base.rest c.pop.new.self c.loop-base.out c.loop-base.around c.in-Some.base c.loop-base.invariant.so_far c.in-Some.ensures

pub base_owned-requires-clause-made : goal.base_owned-requires-clause-made
base_owned-requires-clause-made c = c.loop-base.invariant.made

pub returns-in_err-around-clause-grows : goal.returns-in_err-around-clause-grows
returns-in_err-around-clause-grows c = grows_trans c.args.s.now c.loop-base.s c.base_owned.new.s c.loop-base.invariant.so_far.grows c.in_err-around.ensures.grows

pub returns-in_err-around-clause-is : goal.returns-in_err-around-clause-is
returns-in_err-around-clause-is c = at_exit _ _ c.from_residual-in_err-around.result c.from_residual-in_err-around.ensures.1

pub returns-in_err-around-clause-home : goal.returns-in_err-around-clause-home
returns-in_err-around-clause-home c = at_exit _ _ c.from_residual-in_err-around.result c.from_residual-in_err-around.ensures.1

pub returns-in_err-around-clause-exist : goal.returns-in_err-around-clause-exist
returns-in_err-around-clause-exist c = at_exit _ _ c.from_residual-in_err-around.result c.from_residual-in_err-around.ensures.1

pub returns-in_err-around-clause-exists : goal.returns-in_err-around-clause-exists
returns-in_err-around-clause-exists c = at_exit _ _ c.from_residual-in_err-around.result c.from_residual-in_err-around.ensures.1

pub returns-in_err-around-clause-made : goal.returns-in_err-around-clause-made
returns-in_err-around-clause-made c = c.in_err-around.ensures.made

pub returns-in_err-push-clause-grows : goal.returns-in_err-push-clause-grows
returns-in_err-push-clause-grows c = grows_trans c.args.s.now c.loop-base.s c.base_owned.new.s c.loop-base.invariant.so_far.grows c.in_ok-around.ensures.grows

pub returns-in_err-push-clause-is : goal.returns-in_err-push-clause-is
returns-in_err-push-clause-is c = at_exit _ _ c.from_residual-in_err-push.result c.from_residual-in_err-push.ensures.1

pub returns-in_err-push-clause-home : goal.returns-in_err-push-clause-home
returns-in_err-push-clause-home c = at_exit _ _ c.from_residual-in_err-push.result c.from_residual-in_err-push.ensures.1

pub returns-in_err-push-clause-exist : goal.returns-in_err-push-clause-exist
returns-in_err-push-clause-exist c = at_exit _ _ c.from_residual-in_err-push.result c.from_residual-in_err-push.ensures.1

pub returns-in_err-push-clause-exists : goal.returns-in_err-push-clause-exists
returns-in_err-push-clause-exists c = at_exit _ _ c.from_residual-in_err-push.result c.from_residual-in_err-push.ensures.1

pub returns-in_err-push-clause-made : goal.returns-in_err-push-clause-made
returns-in_err-push-clause-made c = c.in_ok-around.ensures.made

pub loop-base-smaller : goal.loop-base-smaller
loop-base-smaller c = omega (arith, ap length c.in-Some.ensures, length-append c.pop.new.self (c.in-Some.base ∷ []))

pub loop-base-preserved : goal.loop-base-preserved
loop-base-preserved c = record {
  so_far = subst (λ out. Owning c.args.s.now c.base_owned.new.s c.args.frame.0 c.args.through.now c.pop.new.self out c.in_ok-around.around.0) (sym c.in_ok-push.ensures.ok)
      (owning_on c.args.s.now c.loop-base.s c.base_owned.new.s c.args.frame.0 c.args.through.now c.loop-base.rest c.pop.new.self c.loop-base.out c.loop-base.around c.in_ok-around.around c.in-Some.base
      c.loop-base.invariant.so_far c.in-Some.ensures c.in_ok-around.ensures.grows c.in_ok-around.ensures.exists c.in_ok-around.ensures.is);
  made = c.in_ok-around.ensures.made;
}

pub returns-clause-exist : goal.returns-clause-exist
returns-clause-exist c = subst (AreThrough c.loop-base.s) (sym c.turned.ensures) (turned_through c.loop-base.s c.loop-base.out c.loop-base.invariant.so_far.made)

pub returns-clause-grows : goal.returns-clause-grows
returns-clause-grows c = c.loop-base.invariant.so_far.grows

pub returns-clause-is : goal.returns-clause-is
returns-clause-is c =
    ap (frames_through (frames_of c.loop-base.s)) c.turned.ensures
    ∙ owning_done c.args.s.now c.loop-base.s c.args.frame.0 c.args.through.now c.loop-base.rest c.loop-base.out c.loop-base.around.0 c.loop-base.invariant.so_far c.in_default.ensures.0

pub returns-clause-home : goal.returns-clause-home
returns-clause-home c = owning_home c.args.s.now c.loop-base.s c.args.frame.0 c.args.through.now c.loop-base.rest c.loop-base.out c.loop-base.around.0 c.loop-base.invariant.so_far c.in_default.ensures.0

pub returns-clause-exists : goal.returns-clause-exists
returns-clause-exists c = c.loop-base.invariant.so_far.stands

pub returns-clause-made : goal.returns-clause-made
returns-clause-made c = c.loop-base.invariant.made
