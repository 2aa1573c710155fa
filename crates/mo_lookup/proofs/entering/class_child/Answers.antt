-- The world grows with the frame of the class.
use Rattle.mo_names.proofs.Later.{is_frame_later}
use Rattle.mo_names.proofs.Outcomes.{at_exit}
use Rattle.mo_lookup.proofs.entering.class_child.Goals as goal

pub entered_class-requires : goal.entered_class-requires
entered_class-requires c = c.requires

pub returns-in_err-class-clause-grows : goal.returns-in_err-class-clause-grows
returns-in_err-class-clause-grows c = c.in_err-class.ensures.grows

pub returns-in_err-wins-clause-grows : goal.returns-in_err-wins-clause-grows
returns-in_err-wins-clause-grows c = c.in_ok-class.ensures.grows

pub returns-in_err-sources-clause-grows : goal.returns-in_err-sources-clause-grows
returns-in_err-sources-clause-grows c = c.in_ok-class.ensures.grows

pub returns-in_err-class-clause-stand : goal.returns-in_err-class-clause-stand
returns-in_err-class-clause-stand c = at_exit _ _ c.from_residual.result c.from_residual.ensures.1

pub returns-in_err-wins-clause-stand : goal.returns-in_err-wins-clause-stand
returns-in_err-wins-clause-stand c = at_exit _ _ c.from_residual-in_err-wins.result c.from_residual-in_err-wins.ensures.1

pub returns-in_err-sources-clause-stand : goal.returns-in_err-sources-clause-stand
returns-in_err-sources-clause-stand c = at_exit _ _ c.from_residual-in_err-sources.result c.from_residual-in_err-sources.ensures.1

pub redeclared-requires : goal.redeclared-requires
redeclared-requires c = is_frame_later c.args.s.now c.entered_class.new.s c.args.member.now.home.0 c.in_ok-class.ensures.grows c.requires.home

pub class_sources-requires : goal.class_sources-requires
class_sources-requires c = is_frame_later c.args.s.now c.entered_class.new.s c.args.member.now.home.0 c.in_ok-class.ensures.grows c.requires.home

pub returns-clause-grows : goal.returns-clause-grows
returns-clause-grows c = c.in_ok-class.ensures.grows
