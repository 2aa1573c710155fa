-- The parts of classes, one after another.
use Rattle.std.proofs.Common.{◌≡◌, ℕ, ap, subst, ◌∙◌, Some}
use Rattle.std.specs.Prelude.{slice_get}
use Rattle.mo_scope.specs.Rows.{Part, row_at}
use Rattle.mo_scope.specs.Frames.{Frame, class_of}
use Rattle.mo_scope.specs.Lookup.{Walked}
use Rattle.mo_scope.specs.Worlds.{World, Grows, IsFrame, frame_at, table_in}
use Rattle.mo_names.specs.declared.found.Ask.{Ask}
use Rattle.mo_names.specs.steps.Bases.{part_walked}
use Rattle.mo_names.specs.steps.Parts.{parts_of}
use Rattle.mo_names.specs.Sights.{asks}
use Rattle.mo_names.proofs.Later.{frame_later, table_later}

-- a part that was read in a later world
pub part_read : (u v : World) (class : ℕ) (frame : Frame) (at : ℕ) (part : Part) → Grows u v → class ≡ class_of frame → slice_get (parts_of (row_at (table_in v) class)) at ≡ Some part →
    slice_get (parts_of (row_at (table_in u) (class_of frame))) at ≡ Some part
part_read u v class frame at part g is read =
    subst (λ n. slice_get (parts_of (row_at (table_in u) n)) at ≡ Some part) is (subst (λ t. slice_get (parts_of (row_at t class)) at ≡ Some part) (table_later u v g) read)

-- what one part makes, told of a later world
pub part_told : (u v : World) (ask : Ask) (n item : ℕ) (part : Part) (so_far : Walked) → Grows u v → IsFrame u n →
    part_walked (table_in v) (asks (table_in v) ask) (frame_at v n) (row_at (table_in v) (class_of (frame_at v n))) item part so_far
    ≡ part_walked (table_in u) (asks (table_in u) ask) (frame_at u n) (row_at (table_in u) (class_of (frame_at u n))) item part so_far
part_told u v ask n item part so_far g at =
    ap (λ t. part_walked t (asks t ask) (frame_at v n) (row_at t (class_of (frame_at v n))) item part so_far) (table_later u v g)
    ∙ ap (λ f. part_walked (table_in u) (asks (table_in u) ask) f (row_at (table_in u) (class_of f)) item part so_far) (frame_later u v n g at)
