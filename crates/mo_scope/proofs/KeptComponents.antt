-- What is kept of components that were entered.
use Rattle.std.proofs.Common.{◌≡◌, ℕ, inl, inr, Bool, List, [], ◌∷◌, ◌++◌, Ok, ap, sym, subst, ◌∙◌}
use Rattle.std.specs.Prelude.{slice_get, unwrap_or}
use Rattle.mo_syntax.specs.declared.meaning.FrameId.{FrameId}
use Rattle.mo_scope.specs.declared.entered_components.EnteredComponent.{EnteredComponent}
use Rattle.mo_scope.specs.declared.row.Member.{Member as MemberAt}
use Rattle.mo_scope.specs.Frames.{Frame, Member}
use Rattle.mo_scope.specs.KeptComponents.{AreEnteredComponents, IsEnteredComponent, IsEnteredSo, IsMadeSo, OldOrEntered}
use Rattle.mo_scope.specs.Names.{component_entered}
use Rattle.mo_scope.specs.Own.{IsOwnElement, own_declared}
use Rattle.mo_scope.specs.Rows.{Declares, Table, table_of}
use Rattle.mo_scope.specs.Sights.{declares_seen, member_at}
use Rattle.mo_scope.specs.Worlds.{World, Grows, IsFrame, frame_at, table_in}
use Rattle.mo_scope.proofs.Kept.{none_held, none_more, one_more}
use Rattle.mo_scope.proofs.Numbered.{frames_stay, is_frame_grown}

-- ---- what is held

pub none_entered : (world : World) (components : List EnteredComponent) → components ≡ [] → AreEnteredComponents world components
none_entered world components none = none_held (IsEnteredComponent world) components none

pub no_component_more : (old new : List EnteredComponent) (member : MemberAt) (index : List ℕ) (frame : FrameId) → new ≡ old → OldOrEntered old new member index frame
no_component_more old new member index frame same = none_more (λ held. IsMadeSo held member index frame) old new same

pub one_component_more : (old new : List EnteredComponent) (made : EnteredComponent) (member : MemberAt) (index : List ℕ) (frame : FrameId) → new ≡ old ++ made ∷ [] → IsMadeSo made member index frame → OldOrEntered old new member index frame
one_component_more old new made member index frame pushed is_made = one_more (λ held. IsMadeSo held member index frame) old new made pushed is_made

-- ---- in later worlds

enters_grown : (old new : World) (component : EnteredComponent) → Grows old new → IsEnteredComponent old component →
    (member : Member) → member.home ≡ frame_at new component.home.0 → member.item ≡ component.item → member.hidden ≡ component.hidden → IsOwnElement (table_in new) member →
    component_entered (table_in new) member component.index ≡ Ok (frame_at new component.frame.0)
enters_grown old new component grows one member home item hidden own =
    ap (λ files. component_entered (table_of files) member component.index) grows.files
    ∙ one.enters member (home ∙ frames_stay old new grows component.home.0 one.home) item hidden (subst (λ files. IsOwnElement (table_of files) member) grows.files own)
    ∙ ap (λ (f : Frame). Ok f) (sym (frames_stay old new grows component.frame.0 one.frame))

pub entered_grown : (old new : World) (components : List EnteredComponent) → Grows old new → AreEnteredComponents old components → AreEnteredComponents new components
entered_grown old new components grows all component held =
    let one : IsEnteredComponent old component = all component held in
    record {
      home = is_frame_grown old new component.home.0 grows one.home;
      frame = is_frame_grown old new component.frame.0 grows one.frame;
      enters = enters_grown old new component grows one;
    }

-- ---- one element

abbrev pub member_with : List ℕ → Frame → ℕ → Bool → Declares → Member
member_with name home item hidden declares = record { name = name; home = home; item = item; hidden = hidden; declares = declares }

pub same_own : (table : Table) (a b : List ℕ) (f g : Frame) (i j : ℕ) (h k : Bool) (d e : Declares) → f ≡ g → i ≡ j → h ≡ k → IsOwnElement table (member_with a f i h d) → IsOwnElement table (member_with b g j k e) →
    member_with a f i h d ≡ member_with b g j k e
same_own table a b f g i j h k d e home item hidden is also =
    let declared : d ≡ e = ap (λ o. unwrap_or o d) (sym is.declares ∙ (ap (λ x. slice_get (own_declared table x) i) home ∙ (ap (slice_get (own_declared table g)) item ∙ also.declares))) in
    let named : a ≡ b = is.name ∙ (ap (λ (x : Declares). x.name) declared ∙ sym also.name) in
    ap (λ x. member_with x f i h d) named
    ∙ (ap (λ x. member_with b x i h d) home ∙ (ap (λ x. member_with b g x h d) item ∙ (ap (λ x. member_with b g j x d) hidden ∙ ap (λ x. member_with b g j k x) declared)))

-- ---- what is asked

-- what a component was entered as is what it is entered as
pub entered_so : (world : World) (component : EnteredComponent) (member : MemberAt) (index : List ℕ) → IsEnteredSo component member index → IsEnteredComponent world component → IsOwnElement (table_in world) (member_at world member) →
    component_entered (table_in world) (member_at world member) index ≡ Ok (frame_at world component.frame.0)
entered_so world component member index so one own =
    subst (λ i. component_entered (table_in world) (member_at world member) i ≡ Ok (frame_at world component.frame.0)) so.index
    (one.enters (member_at world member) (ap (frame_at world) (sym so.home)) (sym so.item) (sym so.hidden) own)

-- what a component is entered as is what it was entered as
made_so : (world : World) (made : EnteredComponent) (member : MemberAt) (index : List ℕ) (frame : FrameId) → IsMadeSo made member index frame → IsFrame world member.home.0 → IsFrame world frame.0 →
    IsOwnElement (table_in world) (member_at world member) → component_entered (table_in world) (member_at world member) index ≡ Ok (frame_at world frame.0) → IsEnteredComponent world made
made_so world made member index frame is home real own enters =
    record {
      home = subst (IsFrame world) (sym is.so.home) home;
      frame = subst (λ (f : FrameId). IsFrame world f.0) (sym is.is) real;
      enters = λ other at item hidden also.
          let same : other ≡ member_at world member =
          same_own (table_in world) other.name member.name.now other.home (frame_at world member.home.0) other.item member.item other.hidden member.hidden other.declares (declares_seen member.declares)
          (at ∙ ap (frame_at world) is.so.home) (item ∙ is.so.item) (hidden ∙ is.so.hidden) also own in
          ap (component_entered (table_in world) other) is.so.index
          ∙ (ap (λ (m : Member). component_entered (table_in world) m index) same ∙ (enters ∙ ap (λ (f : FrameId). Ok (frame_at world f.0)) (sym is.is)));
    }

pub entered_more : (world : World) (old new : List EnteredComponent) (member : MemberAt) (index : List ℕ) (frame : FrameId) → AreEnteredComponents world old → OldOrEntered old new member index frame →
    IsFrame world member.home.0 → IsFrame world frame.0 → IsOwnElement (table_in world) (member_at world member) →
    component_entered (table_in world) (member_at world member) index ≡ Ok (frame_at world frame.0) → AreEnteredComponents world new
entered_more world old new member index frame all change home real own enters component held =
    elim (change component held) [
      | inl before ↦ all component before
      | inr made ↦ made_so world component member index frame made home real own enters
    ]

pub ruleset keeping = (no_component_more, one_component_more)
