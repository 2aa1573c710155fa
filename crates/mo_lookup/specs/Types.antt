-- The bases in which the dimensions of types are found.
use Rattle.std.specs.Prelude.{List, [], Option, Some, None, Ok, Err, if◌then◌else◌}
use Rattle.mo_syntax.specs.Outcome.{Outcome}
use Rattle.mo_syntax.specs.declared.expr.Expr.{Expr}
use Rattle.mo_scope.specs.Rows.{Table, Row, row_at, Form, Short_class, Long_class}
use Rattle.mo_scope.specs.Frames.{Frame, class_of}
use Rattle.mo_scope.specs.Names.{clauses_of, walk_of}
use Rattle.mo_scope.specs.Sizes.{first_base, is_leaf, leaf_base}
use Rattle.mo_scope.specs.Worlds.{frame_in}
use Rattle.mo_lookup.specs.declared.types.Onward.{Onward}
use Rattle.mo_lookup.specs.declared.types.Way.{Way as WayAt}
use Rattle.mo_lookup.specs.declared.types.Way.TheVariants.{Short, Long, Nowhere}

-- what the dimensions of a type are found in: a short class with dimensions of its own, a long class, nothing
pub data Way : Type 0 where
  In_short : List (Option Expr) → Way
  In_long : Way
  In_nothing : Way

abbrev pub way_seen : WayAt → Way
way_seen (Short subscripts) = In_short subscripts.now
way_seen Long = In_long
way_seen Nowhere = In_nothing

abbrev pub way_of_form : Form → Way
way_of_form (Short_class causal subs) = In_short subs
way_of_form Long_class = In_long
way_of_form other = In_nothing

abbrev pub way_of_row : Option Row → Way
way_of_row None = In_nothing
way_of_row (Some row) = way_of_form row.form

-- the dimensions that a class adds, with the base in which further ones are found
abbrev pub Step : Type 0
Step = Option (List (Option Expr) × Frame)

abbrev pub onward_seen : List Frame → Onward → List (Option Expr) × Frame
onward_seen frames onward = (onward.subscripts.now, frame_in frames onward.base.0)

abbrev pub step_of_short : List (Option Expr) → Outcome Frame → Step
step_of_short own (Ok base) = Some (own, base)
step_of_short own (Err broken) = None

abbrev pub step_to : Option Frame → Step
step_to None = None
step_to (Some base) = Some ([], base)

abbrev pub step_of_long : Table → Frame → Step
step_of_long table frame = if is_leaf (walk_of table frame) then step_to (leaf_base table frame (clauses_of table frame)) else None

abbrev pub step_on : Table → Frame → Way → Step
step_on table frame (In_short own) = step_of_short own (first_base table frame (clauses_of table frame))
step_on table frame In_long = step_of_long table frame
step_on table frame In_nothing = None

abbrev pub step_of : Table → Frame → Step
step_of table frame = step_on table frame (way_of_row (row_at table (class_of frame)))
