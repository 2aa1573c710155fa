-- One element of a component, one step after another.
use Rattle.std.proofs.Common.{◌≡◌, ℕ, Ok, ap, sym, ◌∙◌}
use Rattle.mo_syntax.specs.Outcome.{Outcome, and_then}
use Rattle.mo_syntax.specs.declared.place.Place.{Place}
use Rattle.mo_scope.specs.declared.row.Member.{Member as MemberAt}
use Rattle.mo_scope.specs.Frames.{Frame, Member}
use Rattle.mo_scope.specs.Instances.{Instance}
use Rattle.mo_scope.specs.Lookup.{Walked}
use Rattle.mo_scope.specs.Names.{Child, child_of_member, component_frame}
use Rattle.mo_scope.specs.Redeclarations.{Checked, fine}
use Rattle.mo_scope.specs.Rows.{Table}
use Rattle.mo_scope.specs.Worlds.{World, Grows, IsFrame, frame_at, frames_of, table_in}
use Rattle.mo_names.specs.Sights.{IsMember, member_of}
use Rattle.mo_names.proofs.Later.{frame_later, member_later, table_later}
use Rattle.mo_typing.specs.Dims.{Dims}
use Rattle.mo_typing.specs.Indices.{Index}
use Rattle.mo_instance.specs.Checks.{type_checked}
use Rattle.mo_instance.specs.Elements.{Around, class_place}
use Rattle.mo_instance.specs.steps.Instances.{element_frame, element_in_frame, element_made, instance_at, room_among}

-- ---- the frame

abbrev framed : Member → Index → Child → Outcome (Place × Frame)
framed member index child = Ok (class_place member child.redeclared, component_frame member index child)

abbrev ok_at : Place → Frame → Outcome (Place × Frame)
ok_at place frame = Ok (place, frame)

pub element_framed : (table : Table) (member : Member) (index : Index) (child : Child) (place : Place) (frame : Frame) → child_of_member table member index ≡ Ok child →
    place ≡ class_place member child.redeclared → frame ≡ component_frame member index child → element_frame table member index ≡ Ok (place, frame)
element_framed table member index child place frame found at is =
    ap (λ (o : Outcome Child). and_then o (framed member index)) found
    ∙ ap (λ (p : Place). ok_at p (component_frame member index child)) (sym at)
    ∙ ap (ok_at place) (sym is)

-- ---- the instance

pub instance_before : (u v : World) (around : Around) (m : MemberAt) (dims : Dims) (frame : ℕ) (walked : Walked) → Grows u v → IsMember u m → IsFrame u frame →
    instance_at (table_in v) around (member_of (frames_of v) m) dims (frame_at v frame) walked ≡ instance_at (table_in u) around (member_of (frames_of u) m) dims (frame_at u frame) walked
instance_before u v around m dims frame walked g is there =
    ap (λ (t : Table). instance_at t around (member_of (frames_of v) m) dims (frame_at v frame) walked) (table_later u v g)
    ∙ ap (λ (x : Member). instance_at (table_in u) around x dims (frame_at v frame) walked) (member_later u v m g is)
    ∙ ap (λ (f : Frame). instance_at (table_in u) around (member_of (frames_of u) m) dims f walked) (frame_later u v frame g there)

module _ (table : Table) (around : Around) (member : Member) (dims : Dims) where
  abbrev pub with_walk : Walked → Instance → Outcome (Instance × Walked)
  with_walk walked instance = Ok (instance, walked)

  -- an element whose frame was checked
  pub in_frame : (place : Place) (frame : Frame) (walked : Walked) → type_checked table place frame ≡ Ok walked →
      and_then (instance_at table around member dims frame walked) (with_walk walked) ≡ element_in_frame table around member dims place frame
  in_frame place frame walked found =
      sym (ap (λ (o : Outcome Walked). and_then o (λ walked. and_then (instance_at table around member dims frame walked) (with_walk walked))) found)

  abbrev pub in_its_frame : Place × Frame → Outcome (Instance × Walked)
  in_its_frame at = element_in_frame table around member dims at.0 at.1

  -- an element for which there is room
  pub with_room : (index : Index) (count : ℕ) → room_among around.asked count ≡ fine →
      and_then (element_frame table member index) in_its_frame ≡ element_made table around member dims index count
  with_room index count room = sym (ap (λ (o : Checked). and_then o (λ _. and_then (element_frame table member index) in_its_frame)) room)

pub frame_made : (u v : World) (around : Around) (m : MemberAt) (dims : Dims) (index : Index) (count : ℕ) (place : Place) (frame : ℕ) → Grows u v → IsMember u m →
    room_among around.asked count ≡ fine → element_frame (table_in u) (member_of (frames_of u) m) index ≡ Ok (place, frame_at v frame) →
    element_in_frame (table_in v) around (member_of (frames_of v) m) dims place (frame_at v frame) ≡ element_made (table_in u) around (member_of (frames_of u) m) dims index count
frame_made u v around m dims index count place frame g is room found =
    ap (λ (t : Table). element_in_frame t around (member_of (frames_of v) m) dims place (frame_at v frame)) (table_later u v g)
    ∙ ap (λ (x : Member). element_in_frame (table_in u) around x dims place (frame_at v frame)) (member_later u v m g is)
    ∙ sym (ap (λ (o : Outcome (Place × Frame)). and_then o (in_its_frame (table_in u) around (member_of (frames_of u) m) dims)) found)
    ∙ with_room (table_in u) around (member_of (frames_of u) m) dims index count room
