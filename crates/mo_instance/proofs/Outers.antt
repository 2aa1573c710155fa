-- Outer components and their inner ones, in later worlds.
use Rattle.std.proofs.Common.{◌≡◌, Bool, true, false, List, [], Ok, Err, ap, sym, ◌∙◌}
use Rattle.std.specs.Prelude.{nat_eq, if◌then◌else◌}
use Rattle.mo_syntax.specs.Outcome.{Outcome, and_then, breaks}
use Rattle.mo_syntax.specs.declared.place.Broken.{Broken}
use Rattle.mo_syntax.specs.declared.place.Place.{Place}
use Rattle.mo_scope.specs.declared.row.Member.{Member as MemberAt}
use Rattle.mo_scope.specs.Frames.{Frame, Member}
use Rattle.mo_scope.specs.Names.{Child, child_of_member, component_frame, inner_of}
use Rattle.mo_scope.specs.Redeclarations.{Checked}
use Rattle.mo_scope.specs.Rows.{Table}
use Rattle.mo_scope.specs.Worlds.{World, Grows, frames_of, table_in}
use Rattle.mo_names.specs.Children.{IsChild, child_seen}
use Rattle.mo_names.specs.Sights.{IsMember, member_of}
use Rattle.mo_names.specs.declared.found.Child.{Child as ChildAt}
use Rattle.mo_names.proofs.Later.{grows_trans, member_later, table_later}
use Rattle.mo_instance.specs.Outer.{as_differing, is_alike, is_matched, is_wrongly_outer, outer_checked}
use Rattle.mo_instance.specs.steps.Outer.{compared_frames, inner_asked, matched_children}
use Rattle.mo_instance.proofs.Later.{child_later}
use Rattle.mo_syntax.specs.declared.rules.TheConstants.{INNER_DIFFERS, OUTSIDE_PROFILE, NOT_COMPATIBLE}

-- ---- two components, both entered

abbrev pub frame_seen : List Frame → MemberAt → ChildAt → Frame
frame_seen F member child = component_frame (member_of F member) [] (child_seen F child)

pub frame_before : (u v : World) (m : MemberAt) (child : ChildAt) → Grows u v → IsMember u m → IsChild u child → frame_seen (frames_of v) m child ≡ frame_seen (frames_of u) m child
frame_before u v m child g is known =
    ap (λ (x : Member). component_frame x [] (child_seen (frames_of v) child)) (member_later u v m g is)
    ∙ ap (component_frame (member_of (frames_of u) m) []) (child_later u v child g known)

pub compared_before : (u v : World) (place : Place) (outer inner : MemberAt) (child other : ChildAt) → Grows u v → IsMember u outer → IsMember u inner → IsChild u child → IsChild u other →
    compared_frames (table_in v) place (frame_seen (frames_of v) inner other) (frame_seen (frames_of v) outer child)
    ≡ compared_frames (table_in u) place (frame_seen (frames_of u) inner other) (frame_seen (frames_of u) outer child)
compared_before u v place outer inner child other g is of known there =
    ap (λ (t : Table). compared_frames t place (frame_seen (frames_of v) inner other) (frame_seen (frames_of v) outer child)) (table_later u v g)
    ∙ ap (λ (f : Frame). compared_frames (table_in u) place f (frame_seen (frames_of v) outer child)) (frame_before u v inner other g of there)
    ∙ ap (compared_frames (table_in u) place (frame_seen (frames_of u) inner other)) (frame_before u v outer child g is known)

module _ (table : Table) (outer : Member) (child : Child) (inner : Member) (other : Child) where
  pub alike_is : (b : Bool) → b ≡ is_alike table outer child inner other → b ≡ true →
      compared_frames table outer.declares.place (component_frame inner [] other) (component_frame outer [] child) ≡ matched_children table outer child inner other
  alike_is b is alike =
      ap (λ t. if t then compared_frames table outer.declares.place (component_frame inner [] other) (component_frame outer [] child) else breaks INNER_DIFFERS outer.declares.place) (sym alike ∙ is)

  pub unlike_is : (b : Bool) → b ≡ is_alike table outer child inner other → b ≡ false → matched_children table outer child inner other ≡ breaks INNER_DIFFERS outer.declares.place
  unlike_is b is unlike =
      ap (λ t. if t then compared_frames table outer.declares.place (component_frame inner [] other) (component_frame outer [] child) else breaks INNER_DIFFERS outer.declares.place) (sym is ∙ unlike)

-- ---- the types of both

module _ (u v : World) (outer inner : MemberAt) (g : Grows u v) (is : IsMember u outer) (of : IsMember u inner) where
  inner_before : child_of_member (table_in v) (member_of (frames_of v) inner) [] ≡ child_of_member (table_in u) (member_of (frames_of u) inner) []
  inner_before =
      ap (λ (t : Table). child_of_member t (member_of (frames_of v) inner) []) (table_later u v g) ∙ ap (λ (m : Member). child_of_member (table_in u) m []) (member_later u v inner g of)

  -- the inner one is asked when the outer one has its type
  pub other_is : (child : ChildAt) → child_of_member (table_in u) (member_of (frames_of u) outer) [] ≡ Ok (child_seen (frames_of v) child) →
      and_then (child_of_member (table_in v) (member_of (frames_of v) inner) []) (λ other. matched_children (table_in u) (member_of (frames_of u) outer) (child_seen (frames_of v) child) (member_of (frames_of u) inner) other)
      ≡ is_matched (table_in u) (member_of (frames_of u) outer) (member_of (frames_of u) inner)
  other_is child found =
      ap (λ (o : Outcome Child). and_then o (λ other. matched_children (table_in u) (member_of (frames_of u) outer) (child_seen (frames_of v) child) (member_of (frames_of u) inner) other)) inner_before
      ∙ sym (ap (λ (o : Outcome Child). and_then o (λ child.
      and_then (child_of_member (table_in u) (member_of (frames_of u) inner) []) (λ other. matched_children (table_in u) (member_of (frames_of u) outer) child (member_of (frames_of u) inner) other))) found)

  pub matched_is : (w : World) (child other : ChildAt) → Grows v w → IsChild v child → child_of_member (table_in u) (member_of (frames_of u) outer) [] ≡ Ok (child_seen (frames_of v) child) →
      child_of_member (table_in v) (member_of (frames_of v) inner) [] ≡ Ok (child_seen (frames_of w) other) →
      matched_children (table_in w) (member_of (frames_of w) outer) (child_seen (frames_of w) child) (member_of (frames_of w) inner) (child_seen (frames_of w) other)
      ≡ is_matched (table_in u) (member_of (frames_of u) outer) (member_of (frames_of u) inner)
  matched_is w child other h known found same =
      let uw = grows_trans u v w g h in
      let O = child_seen (frames_of w) other in
      ap (λ (t : Table). matched_children t (member_of (frames_of w) outer) (child_seen (frames_of w) child) (member_of (frames_of w) inner) O) (table_later u w uw)
      ∙ ap (λ (m : Member). matched_children (table_in u) m (child_seen (frames_of w) child) (member_of (frames_of w) inner) O) (member_later u w outer uw is)
      ∙ ap (λ (m : Member). matched_children (table_in u) (member_of (frames_of u) outer) (child_seen (frames_of w) child) m O) (member_later u w inner uw of)
      ∙ ap (λ (c : Child). matched_children (table_in u) (member_of (frames_of u) outer) c (member_of (frames_of u) inner) O) (child_later v w child h known)
      ∙ sym (ap (λ (o : Outcome Child). and_then o (λ other. matched_children (table_in u) (member_of (frames_of u) outer) (child_seen (frames_of v) child) (member_of (frames_of u) inner) other)) same)
      ∙ other_is child found

-- ---- all that is asked of an outer component

module _ (table : Table) (member : Member) where
  pub wrongly_is : (b : Bool) → b ≡ is_wrongly_outer table member → b ≡ true → outer_checked table member ≡ breaks OUTSIDE_PROFILE member.declares.place
  wrongly_is b is wrongly =
      ap (λ t. if t then breaks OUTSIDE_PROFILE member.declares.place else and_then (inner_of table member.declares.place member) (λ inner. inner_asked table member inner.1)) (sym is ∙ wrongly)

  pub rightly_is : (b : Bool) → b ≡ is_wrongly_outer table member → b ≡ false →
      and_then (inner_of table member.declares.place member) (λ inner. inner_asked table member inner.1) ≡ outer_checked table member
  rightly_is b is rightly =
      ap (λ t. if t then breaks OUTSIDE_PROFILE member.declares.place else and_then (inner_of table member.declares.place member) (λ inner. inner_asked table member inner.1)) (sym rightly ∙ is)

pub inner_is : (u v : World) (outer inner : MemberAt) (frame : Frame) (b : Bool) → Grows u v → IsMember u outer →
    b ≡ is_wrongly_outer (table_in u) (member_of (frames_of u) outer) → b ≡ false →
    inner_of (table_in u) (member_of (frames_of u) outer).declares.place (member_of (frames_of u) outer) ≡ Ok (frame, member_of (frames_of v) inner) →
    inner_asked (table_in v) (member_of (frames_of v) outer) (member_of (frames_of v) inner) ≡ outer_checked (table_in u) (member_of (frames_of u) outer)
inner_is u v outer inner frame b g is was rightly found =
    ap (λ (t : Table). inner_asked t (member_of (frames_of v) outer) (member_of (frames_of v) inner)) (table_later u v g)
    ∙ ap (λ (m : Member). inner_asked (table_in u) m (member_of (frames_of v) inner)) (member_later u v outer g is)
    ∙ sym (ap (λ (o : Outcome (Frame × Member)). and_then o (λ inner. inner_asked (table_in u) (member_of (frames_of u) outer) inner.1)) found)
    ∙ rightly_is (table_in u) (member_of (frames_of u) outer) b was rightly

-- ---- rule 46 in place of rule 25

pub differs : (place : Place) (told : Checked) (broken : Broken) → told ≡ Err broken → nat_eq broken.rule NOT_COMPATIBLE ≡ true → as_differing place told ≡ breaks INNER_DIFFERS place
differs place told broken is same = ap (as_differing place) is ∙ ap (λ b. if b then breaks INNER_DIFFERS place else Err broken) same

pub breaks_on : (place : Place) (told : Checked) (broken : Broken) → told ≡ Err broken → nat_eq broken.rule NOT_COMPATIBLE ≡ false → as_differing place told ≡ Err broken
breaks_on place told broken is other = ap (as_differing place) is ∙ ap (λ b. if b then breaks INNER_DIFFERS place else Err broken) other
