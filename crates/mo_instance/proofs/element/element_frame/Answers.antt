-- The type of the element, then its frame.
use Rattle.std.proofs.Common.{ap, ◌∙◌}
use Rattle.mo_scope.specs.Frames.{Member}
use Rattle.mo_scope.specs.Names.{component_frame}
use Rattle.mo_scope.specs.Worlds.{frame_at, frames_of, table_in}
use Rattle.mo_names.specs.Children.{child_seen}
use Rattle.mo_names.specs.Sights.{member_of}
use Rattle.mo_names.proofs.Later.{grows_trans, member_later}
use Rattle.mo_lookup.proofs.Children.{child_stays}
use Rattle.mo_instance.proofs.Framing.{element_framed}
use Rattle.mo_instance.proofs.element.element_frame.Goals as goal

pub enter_own_child-requires-clause-own : goal.enter_own_child-requires-clause-own
enter_own_child-requires-clause-own c = child_stays _ _ c.args.member.now c.args.index.now _ c.in_ok-child.ensures.grows c.requires c.in_ok-child.ensures.value

pub returns-clause-value : goal.returns-clause-value
returns-clause-value c =
    let u = c.args.s.now in
    let v = c.child_of_member.new.s in
    element_framed (table_in u) (member_of (frames_of u) c.args.member.now) c.args.index.now (child_seen (frames_of v) c.in_ok-child.child) c.class_place-place.result
    (frame_at c.enter_own_child.new.s c.in_ok-frame.frame.0) c.in_ok-child.ensures.value (c.class_place-place.ensures (frames_of v))
    (c.in_ok-frame.ensures.is
    ∙ ap (λ (m : Member). component_frame m c.args.index.now (child_seen (frames_of v) c.in_ok-child.child)) (member_later u v c.args.member.now c.in_ok-child.ensures.grows c.requires))

pub returns-in_err-frame-clause-grows : goal.returns-in_err-frame-clause-grows
returns-in_err-frame-clause-grows c = grows_trans _ _ _ c.in_ok-child.ensures.grows c.in_err-frame.ensures.grows

pub returns-clause-grows : goal.returns-clause-grows
returns-clause-grows c = grows_trans _ _ _ c.in_ok-child.ensures.grows c.in_ok-frame.ensures.grows
