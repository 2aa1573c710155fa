-- What is asked of an element behind a base.
use Rattle.std.proofs.Common.{sym, subst}
use Rattle.mo_names.specs.Sights.{AreThrough, IsInherited}
use Rattle.mo_names.proofs.Joining.{every_turned}
use Rattle.mo_names.proofs.Outcomes.{at_exit}
use Rattle.mo_names.proofs.join.members_behind.Goals as goal

pub inherited_through-requires-clause-inherited : goal.inherited_through-requires-clause-inherited
inherited_through-requires-clause-inherited c = (every_turned (IsInherited c.args.s.now) c.loop-next.rest c.pop.new.self c.in-Some.next c.in-Some.ensures c.loop-next.invariant.exist).0

pub inherited_through-requires-clause-base : goal.inherited_through-requires-clause-base
inherited_through-requires-clause-base c = c.requires.base

pub returns-in_err-behind-clause-are : goal.returns-in_err-behind-clause-are
returns-in_err-behind-clause-are c = at_exit _ _ c.from_residual.result c.from_residual.ensures.1

pub returns-in_err-behind-clause-stand : goal.returns-in_err-behind-clause-stand
returns-in_err-behind-clause-stand c = at_exit _ _ c.from_residual.result c.from_residual.ensures.1

pub is_base_counted-requires-clause-bases : goal.is_base_counted-requires-clause-bases
is_base_counted-requires-clause-bases c = c.requires.bases

pub is_base_counted-requires-clause-through : goal.is_base_counted-requires-clause-through
is_base_counted-requires-clause-through c = subst (AreThrough c.args.s.now) (sym c.as_slice.ensures) c.in_ok-behind.ensures.stand.through

pub returns-clause-stand : goal.returns-clause-stand
returns-clause-stand c = c.loop-next.invariant.stand
