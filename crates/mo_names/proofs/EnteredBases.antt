-- Bases that were entered before.
use Rattle.std.proofs.Common.{◌≡◌, ℕ, [], Option, Some, None, refl, ap, sym, subst, ◌∙◌}
use Rattle.std.specs.Prelude.{slice_get}
use Rattle.mo_scope.specs.Frames.{Frame, class_of}
use Rattle.mo_scope.specs.KeptBases.{EntersBase}
use Rattle.mo_scope.specs.Lookup.{base_frame}
use Rattle.mo_scope.specs.Rows.{Base_of, Clause, Element_of, Part, Row, row_at}
use Rattle.mo_scope.specs.Worlds.{World, Grows, IsFrame, frame_at, row_of_frame, table_in}
use Rattle.mo_scope.proofs.KeptBases.{row_grown}
use Rattle.mo_names.specs.steps.Bases.{StandsAt}
use Rattle.mo_names.specs.steps.Lookup.{entered_base}
use Rattle.mo_names.specs.steps.Parts.{parts_of}
use Rattle.mo_names.proofs.Later.{frame_later}

-- ---- where a part stands

pub stands_later : (u v : World) (frame at : ℕ) (part : Part) → Grows u v → IsFrame u frame → StandsAt (row_of_frame u frame) at part → StandsAt (row_of_frame v frame) at part
stands_later u v frame at part g real stands = subst (λ row. StandsAt row at part) (sym (row_grown u v frame g real)) stands

-- a part that was read in a later world stands there
pub part_stands : (u v : World) (class frame at place : ℕ) (part : Part) → Grows u v → IsFrame u frame → class ≡ class_of (frame_at u frame) → place ≡ at →
    slice_get (parts_of (row_at (table_in v) class)) at ≡ Some part → StandsAt (row_of_frame v frame) place part
part_stands u v class frame at place part g real is same read =
    ap (slice_get (parts_of (row_of_frame v frame))) same
    ∙ ap (λ n. slice_get (parts_of (row_at (table_in v) n)) at) (ap class_of (frame_later u v frame g real) ∙ sym is)
    ∙ read

-- ---- what is kept

-- a base that was entered is what the clause is entered as
pub base_kept : (w : World) (frame at class base : ℕ) (clause : Clause) → StandsAt (row_of_frame w frame) at (Base_of clause) → EntersBase w frame at class base →
    frame_at w base ≡ entered_base (frame_at w frame) (row_of_frame w frame) clause (frame_at w class)
base_kept w frame at class base clause stands enters = by (row_of_frame w frame) refl stands
  where
    by : (row : Option Row) → row_of_frame w frame ≡ row → slice_get (parts_of row) at ≡ Some (Base_of clause) → frame_at w base ≡ entered_base (frame_at w frame) row clause (frame_at w class)
    by None is here = absurd (no_part at here)
      where
        no_part : (n : ℕ) → slice_get [] n ≡ Some (Base_of clause) → ⊥
        no_part n at = cc
    by (Some row) is here = sym (enters row clause is here)

abbrev clause_or : Clause → Option Part → Clause
clause_or other None = other
clause_or other (Some (Element_of declares)) = other
clause_or other (Some (Base_of clause)) = clause

-- what the clause is entered as is a base that may be kept
pub base_made : (u v : World) (frame at class base : ℕ) (clause : Clause) → Grows u v → IsFrame u frame → IsFrame u class → StandsAt (row_of_frame u frame) at (Base_of clause) →
    frame_at v base ≡ entered_base (frame_at u frame) (row_of_frame u frame) clause (frame_at u class) → EntersBase v frame at class base
base_made u v frame at class base clause g real around stands made row other is here =
    let before : row_of_frame u frame ≡ Some row = sym (row_grown u v frame g real) ∙ is in
    let same : clause ≡ other = ap (clause_or clause) (sym (ap (λ r. slice_get (parts_of r) at) (sym before) ∙ stands) ∙ here) in
    ap (λ (f : Frame). base_frame f row other (frame_at v class)) (frame_later u v frame g real)
    ∙ ap (λ (f : Frame). base_frame (frame_at u frame) row other f) (frame_later u v class g around)
    ∙ ap (λ (x : Clause). base_frame (frame_at u frame) row x (frame_at u class)) (sym same)
    ∙ ap (λ r. entered_base (frame_at u frame) r clause (frame_at u class)) (sym before)
    ∙ sym made
