-- The elements of the frame, then the checks of its base.
use Rattle.std.proofs.Common.{subst}
use Rattle.mo_scope.specs.Outcome.{Gives}
use Rattle.mo_names.proofs.Later.{grows_trans}
use Rattle.mo_instance.proofs.Checking.{near_before}
use Rattle.mo_instance.proofs.Later.{elements_stay}
use Rattle.mo_instance.proofs.checks.far_base_passed.Goals as goal

pub base_passed-requires-clause-elements : goal.base_passed-requires-clause-elements
base_passed-requires-clause-elements c = elements_stay c.args.s.now c.walk_of.new.s c.args.frame.0 _ c.in_ok-walk.ensures.grows c.requires.frame c.in_ok-walk.ensures.value

pub returns-clause-value : goal.returns-clause-value
returns-clause-value c =
    subst (Gives {T = Unit {0}} (λ _. tt) c.base_passed.result)
    (near_before c.args.s.now c.walk_of.new.s c.args.frame.0 c.args.base.0 c.in_ok-walk.ensures.grows c.requires.frame c.requires.base) c.base_passed.ensures.value

pub returns-in_err-walk-clause-grows : goal.returns-in_err-walk-clause-grows
returns-in_err-walk-clause-grows c = c.in_err-walk.ensures.grows

pub returns-clause-grows : goal.returns-clause-grows
returns-clause-grows c = grows_trans c.args.s.now c.walk_of.new.s c.base_passed.new.s c.in_ok-walk.ensures.grows c.base_passed.ensures.grows
