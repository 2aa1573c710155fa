-- The bases in which the dimensions of types are found, one after another.
use Rattle.std.proofs.Common.{◌≡◌, ℕ, zero, suc, ◌-◌, ◌<◌, Bool, true, false, List, [], Option, Some, None, Ok, Err, refl, ap, sym, ◌∙◌, arith}
use Rattle.std.specs.Prelude.{if◌then◌else◌}
use Rattle.mo_syntax.specs.Outcome.{Outcome}
use Rattle.mo_syntax.specs.declared.expr.Expr.{Expr}
use Rattle.mo_scope.specs.Frames.{Frame, class_of}
use Rattle.mo_scope.specs.Lookup.{contains, with_busy}
use Rattle.mo_scope.specs.Names.{clauses_of, walk_of}
use Rattle.mo_scope.specs.Rows.{Table, Row, row_at, Form, Short_class, Long_class, Enumeration_class, Other_class}
use Rattle.mo_scope.specs.Sizes.{Sizes, behind_own, first_base, is_leaf, leaf_base, sizes_by, sizes_from, sizes_if, sizes_of_base, sizes_of_form, sizes_of_short}
use Rattle.mo_lookup.specs.Types.{Step, step_of, step_of_short, step_on, step_to, way_of_form, way_of_row}

-- ---- the dimensions of a type

-- the dimensions of a class from a step on
abbrev pub sizes_on : (Frame → Option (List Sizes)) → Frame → Step → Option (List Sizes)
sizes_on next frame None = Some []
sizes_on next frame (Some step) = behind_own (sizes_if step.0 (record { frame = frame; iterations = [] })) (next step.1)

own_none : (sizes : Option (List Sizes)) → sizes ≡ behind_own [] sizes
own_none None = refl
own_none (Some sizes) = refl

short_sizes : (next : Frame → Option (List Sizes)) (frame : Frame) (subs : List (Option Expr)) (base : Outcome Frame) →
    sizes_of_short next (sizes_if subs (record { frame = frame; iterations = [] })) base ≡ sizes_on next frame (step_of_short subs base)
short_sizes next frame subs (Ok base) = refl
short_sizes next frame subs (Err b) = refl

long_sizes : (next : Frame → Option (List Sizes)) (frame : Frame) (leaf : Bool) (base : Option Frame) →
    (if leaf then sizes_of_base next base else Some []) ≡ sizes_on next frame (if leaf then step_to base else None)
long_sizes next frame true None = refl
long_sizes next frame true (Some base) = own_none (next base)
long_sizes next frame false base = refl

form_sizes : (table : Table) (next : Frame → Option (List Sizes)) (frame : Frame) (form : Form) →
    sizes_of_form table next frame form ≡ sizes_on next frame (step_on table frame (way_of_form form))
form_sizes table next frame (Short_class causal subs) = short_sizes next frame subs (first_base table frame (clauses_of table frame))
form_sizes table next frame Long_class = long_sizes next frame (is_leaf (walk_of table frame)) (leaf_base table frame (clauses_of table frame))
form_sizes table next frame (Enumeration_class literals) = refl
form_sizes table next frame Other_class = refl

row_sizes : (table : Table) (next : Frame → Option (List Sizes)) (frame : Frame) (row : Option Row) →
    sizes_by table next frame row ≡ sizes_on next frame (step_on table frame (way_of_row row))
row_sizes table next frame None = refl
row_sizes table next frame (Some row) = form_sizes table next frame row.form

-- the dimensions from a class on, where the way does not come back to it
step_sizes : (table : Table) (left : ℕ) (busy : List ℕ) (frame : Frame) → 0 < left → contains busy (class_of frame) ≡ false →
    sizes_from table left busy frame ≡ sizes_on (sizes_from table (left - 1) (with_busy busy frame)) frame (step_of table frame)
unfolding sizes_from
step_sizes table zero busy frame some new = absurd (omega (arith, some))
step_sizes table (suc left) busy frame some new =
    rw new (row_sizes table (sizes_from table left (with_busy busy frame)) frame (row_at table (class_of frame))
    ∙ ap (λ l. sizes_on (sizes_from table l (with_busy busy frame)) frame (step_of table frame)) less)
  where
    less : left ≡ suc left - 1
    less = omega arith

pub none_sizes : (table : Table) (left : ℕ) (busy : List ℕ) (frame : Frame) → left ≡ 0 → sizes_from table left busy frame ≡ None
unfolding sizes_from
none_sizes table zero busy frame none = refl
none_sizes table (suc left) busy frame none = absurd (omega (arith, none))

pub back_sizes : (table : Table) (left : ℕ) (busy : List ℕ) (frame : Frame) → contains busy (class_of frame) ≡ true → sizes_from table left busy frame ≡ None
unfolding sizes_from
back_sizes table zero busy frame back = refl
back_sizes table (suc left) busy frame back = rw back refl

pub step_more : (table : Table) (left : ℕ) (busy : List ℕ) (own : List (Option Expr)) (frame base : Frame) → 0 < left → contains busy (class_of frame) ≡ false →
    Some (own, base) ≡ step_of table frame →
    behind_own (sizes_if own (record { frame = frame; iterations = [] })) (sizes_from table (left - 1) (with_busy busy frame) base) ≡ sizes_from table left busy frame
step_more table left busy own frame base some new is =
    ap (sizes_on (sizes_from table (left - 1) (with_busy busy frame)) frame) is ∙ sym (step_sizes table left busy frame some new)

pub step_none : (table : Table) (left : ℕ) (busy : List ℕ) (frame : Frame) → 0 < left → contains busy (class_of frame) ≡ false → None ≡ step_of table frame →
    sizes_from table left busy frame ≡ Some []
step_none table left busy frame some new is =
    step_sizes table left busy frame some new ∙ ap (sizes_on (sizes_from table (left - 1) (with_busy busy frame)) frame) (sym is)
