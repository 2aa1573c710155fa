-- One after the other.
use Rattle.std.proofs.Common.{[], ap, ◌∙◌}
use Rattle.mo_scope.specs.Frames.{Member}
use Rattle.mo_scope.specs.Names.{component_frame}
use Rattle.mo_scope.specs.Sights.{member_at}
use Rattle.mo_names.proofs.Later.{grows_trans, member_later}
use Rattle.mo_names.specs.Children.{child_at}
use Rattle.mo_redeclare.proofs.Later.{child_later, is_child_later}
use Rattle.mo_redeclare.proofs.entering.enter_both.Goals as goal

pub enter_child-requires-2-clause-child : goal.enter_child-requires-2-clause-child
enter_child-requires-2-clause-child c = is_child_later c.args.s.now c.enter_child.new.s c.args.wanted.1 c.in_ok-frame.ensures.grows c.requires.wanted.1

pub returns-clause-wanted : goal.returns-clause-wanted
returns-clause-wanted c =
    c.in_ok-other_frame.ensures.is
    ∙ ap (λ (m : Member). component_frame m [] (child_at c.enter_child.new.s c.args.wanted.1)) (member_later c.args.s.now c.enter_child.new.s c.args.wanted.0.now c.in_ok-frame.ensures.grows c.requires.wanted.0)
    ∙ ap (component_frame (member_at c.args.s.now c.args.wanted.0.now) []) (child_later c.args.s.now c.enter_child.new.s c.args.wanted.1 c.in_ok-frame.ensures.grows c.requires.wanted.1)

pub returns-in_err-other_frame-clause-grows : goal.returns-in_err-other_frame-clause-grows
returns-in_err-other_frame-clause-grows c = grows_trans _ _ _ c.in_ok-frame.ensures.grows c.in_err-other_frame.ensures.grows

pub returns-clause-grows : goal.returns-clause-grows
returns-clause-grows c = grows_trans _ _ _ c.in_ok-frame.ensures.grows c.in_ok-other_frame.ensures.grows
