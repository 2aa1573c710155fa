-- What was entered so stands in later worlds.
use Rattle.std.proofs.Common.{sym, subst}
use Rattle.mo_lookup.specs.steps.Settled.{AreOwned}
use Rattle.mo_lookup.proofs.OwnedWalks.{are_owned_later}
use Rattle.mo_lookup.proofs.owning.base_owned.Goals as goal

pub returns-in_err-frame-clause-made : goal.returns-in_err-frame-clause-made
returns-in_err-frame-clause-made c = are_owned_later c.args.s.now c.owned_anew.new.s c.args.made.now c.in_err-frame.ensures.grows c.requires.made

pub returns-in_err-push-clause-made : goal.returns-in_err-push-clause-made
returns-in_err-push-clause-made c =
    subst (AreOwned c.owned_anew.new.s) (sym c.in_err-push.ensures.err) (are_owned_later c.args.s.now c.owned_anew.new.s c.args.made.now c.in_ok-frame.ensures.grows c.requires.made)
