-- The frames that components are entered as.
use Rattle.std.specs.Prelude.{◌≡◌, ℕ, List, Ok}
use Rattle.mo_syntax.specs.declared.meaning.FrameId.{FrameId}
use Rattle.mo_scope.specs.declared.entered_components.EnteredComponent.{EnteredComponent}
use Rattle.mo_scope.specs.declared.row.Member.{Member as MemberAt}
use Rattle.mo_scope.specs.Frames.{Member}
use Rattle.mo_scope.specs.Kept.{IsHeld, OldOr}
use Rattle.mo_scope.specs.Names.{component_entered}
use Rattle.mo_scope.specs.Own.{IsOwnElement}
use Rattle.mo_scope.specs.Worlds.{World, IsFrame, frame_at, table_in}

-- it is that element, entered at that index
pub record IsEnteredSo (component : EnteredComponent) (member : MemberAt) (indices : List ℕ) : Type 0 where
  pub home : component.home.0 ≡ member.home.0
  pub item : component.item ≡ member.item
  pub hidden : component.hidden ≡ member.hidden
  pub index : component.index ≡ indices

-- it is that element, entered at that index as that frame
pub record IsMadeSo (made : EnteredComponent) (member : MemberAt) (index : List ℕ) (frame : FrameId) : Type 0 where
  pub so : IsEnteredSo made member index
  pub is : made.frame ≡ frame

-- nothing else is held than before but that element, entered at that index as that frame
abbrev pub OldOrEntered : (old new : List EnteredComponent) → MemberAt → (index : List ℕ) → FrameId → Type 0
OldOrEntered old new member index frame = OldOr old new (λ held. IsMadeSo held member index frame)

-- The element with that number of that frame's class is entered at that index as that frame, and both frames exist.
pub record IsEnteredComponent (world : World) (component : EnteredComponent) : Type 0 where
  pub home : IsFrame world component.home.0
  pub frame : IsFrame world component.frame.0
  pub enters :
      (member : Member) → member.home ≡ frame_at world component.home.0 → member.item ≡ component.item → member.hidden ≡ component.hidden → IsOwnElement (table_in world) member →
      component_entered (table_in world) member component.index ≡ Ok (frame_at world component.frame.0)

abbrev pub AreEnteredComponents : World → List EnteredComponent → Type 0
AreEnteredComponents world components = (component : EnteredComponent) → IsHeld components component → IsEnteredComponent world component
