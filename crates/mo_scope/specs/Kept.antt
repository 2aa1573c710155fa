-- Lists of what is kept.
use Rattle.std.specs.Prelude.{◌≡◌, ◌⊎◌, ℕ, List, Some, slice_get}

pub record IsHeld {A : Type 0} (items : List A) (item : A) : Type 0 where
  pub at : ℕ
  pub is : slice_get items at ≡ Some item

-- all that is held now was held before, or is this
abbrev pub OldOr : {A : Type 0} → (old new : List A) → (A → Type 0) → Type 0
OldOr {A = A} old new is_this = (held : A) → IsHeld new held → IsHeld old held ⊎ is_this held
