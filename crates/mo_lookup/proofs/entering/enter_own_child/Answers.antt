-- The frame is what the component is entered as, in the frames that stand now.
use Rattle.mo_names.proofs.Later.{is_member_later}
use Rattle.mo_lookup.proofs.Children.{entered_stays}
use Rattle.mo_lookup.proofs.entering.enter_own_child.Goals as goal

pub keep_component-requires-clause-own : goal.keep_component-requires-clause-own
keep_component-requires-clause-own c = (is_member_later _ _ c.args.member.now c.in_ok-frame.ensures.grows c.requires.member).own

pub keep_component-requires-clause-enters : goal.keep_component-requires-clause-enters
keep_component-requires-clause-enters c = entered_stays _ _ c.args.member.now c.args.index.now c.args.child c.in_ok-frame.frame c.in_ok-frame.ensures.grows c.requires.member c.requires.own c.in_ok-frame.ensures.is
