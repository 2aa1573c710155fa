-- Whether a type is declared `input`, class after class.
use Rattle.std.proofs.Common.{◌≡◌, ℕ, zero, suc, ◌-◌, ◌<◌, Bool, true, false, List, Option, Some, None, Ok, Err, refl, ap, sym, ◌∙◌, arith}
use Rattle.std.specs.Prelude.{◌||◌, if◌then◌else◌}
use Rattle.mo_syntax.specs.Outcome.{Outcome}
use Rattle.mo_syntax.specs.declared.expr.Expr.{Expr}
use Rattle.mo_scope.specs.Rows.{Table, Row, row_at, Form, Short_class, Long_class, Enumeration_class, Other_class}
use Rattle.mo_scope.specs.Frames.{Frame, class_of}
use Rattle.mo_scope.specs.Names.{clauses_of, walk_of}
use Rattle.mo_scope.specs.Sizes.{first_base, is_leaf, leaf_base}
use Rattle.mo_lookup.specs.Types.{Step, step_of, step_of_short, step_on, step_to, way_of_form, way_of_row}
use Rattle.mo_instance.specs.Prefixes.{input_by, input_from, input_of_base, input_of_form, input_of_short, is_input}
use Rattle.mo_instance.specs.steps.Ways.{is_input_form, is_input_row}

-- what a step leads to
abbrev pub input_behind : (Frame → Bool) → Step → Bool
input_behind next None = false
input_behind next (Some step) = next step.1

module _ (table : Table) (next : Frame → Bool) (frame : Frame) where
  form_is : (form : Form) → (is_input_form form || input_behind next (step_on table frame (way_of_form form))) ≡ input_of_form table next frame form
  form_is (Short_class causal subs) = by (first_base table frame (clauses_of table frame))
    where
      by : (o : Outcome Frame) → (is_input causal || input_behind next (step_of_short subs o)) ≡ (is_input causal || input_of_short next o)
      by (Ok base) = refl
      by (Err broken) = refl
  form_is Long_class = by (is_leaf (walk_of table frame)) (leaf_base table frame (clauses_of table frame))
    where
      by : (b : Bool) (o : Option Frame) → input_behind next (if b then step_to o else None) ≡ (if b then input_of_base next o else false)
      by true None = refl
      by true (Some base) = refl
      by false o = refl
  form_is (Enumeration_class literals) = refl
  form_is Other_class = refl

  row_is : (row : Option Row) → (is_input_row row || input_behind next (step_on table frame (way_of_row row))) ≡ input_by table next frame row
  row_is None = refl
  row_is (Some row) = form_is row.form

pub input_further : (table : Table) (left : ℕ) (frame : Frame) → 0 < left →
    input_from table left frame ≡ (is_input_row (row_at table (class_of frame)) || input_behind (input_from table (left - 1)) (step_of table frame))
unfolding input_from
input_further table zero frame some = absurd (omega (arith, some))
input_further table (suc left) frame some =
    sym (row_is table (input_from table left) frame (row_at table (class_of frame)))
    ∙ ap (λ n. is_input_row (row_at table (class_of frame)) || input_behind (input_from table n) (step_of table frame)) less
  where
    less : left ≡ suc left - 1
    less = omega arith

pub input_none : (table : Table) (left : ℕ) (frame : Frame) → left ≡ 0 → input_from table left frame ≡ false
unfolding input_from
input_none table zero frame none = refl
input_none table (suc left) frame none = absurd (omega (arith, none))

pub input_is : (table : Table) (left : ℕ) (frame : Frame) → 0 < left → is_input_row (row_at table (class_of frame)) ≡ true → input_from table left frame ≡ true
input_is table left frame some is =
    input_further table left frame some ∙ ap (λ b. b || input_behind (input_from table (left - 1)) (step_of table frame)) is

pub input_ends : (table : Table) (left : ℕ) (frame : Frame) → 0 < left → is_input_row (row_at table (class_of frame)) ≡ false → None ≡ step_of table frame →
    input_from table left frame ≡ false
input_ends table left frame some is none =
    input_further table left frame some
    ∙ (ap (λ b. b || input_behind (input_from table (left - 1)) (step_of table frame)) is ∙ ap (input_behind (input_from table (left - 1))) (sym none))

pub input_on : (table : Table) (left : ℕ) (frame base : Frame) (subs : List (Option Expr)) → 0 < left → is_input_row (row_at table (class_of frame)) ≡ false →
    Some (subs, base) ≡ step_of table frame → input_from table (left - 1) base ≡ input_from table left frame
input_on table left frame base subs some is on =
    sym (input_further table left frame some
    ∙ (ap (λ b. b || input_behind (input_from table (left - 1)) (step_of table frame)) is ∙ ap (input_behind (input_from table (left - 1))) (sym on)))
