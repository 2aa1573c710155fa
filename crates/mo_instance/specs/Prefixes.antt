-- What prefixes make of a component (Modelica Language Specification 3.5, sections 4.4.2 and 4.5): its variability, with that of the
-- components around it, and whether it is given from outside.
use Rattle.std.specs.Prelude.{ℕ, zero, suc, Bool, true, false, ◌||◌, Option, Some, None, Ok, Err, if◌then◌else◌}
use Rattle.mo_syntax.specs.Outcome.{Outcome, breaks}
use Rattle.mo_syntax.specs.declared.class.Causal.{Causal}
use Rattle.mo_syntax.specs.declared.class.Causal.TheVariants.{Input}
use Rattle.mo_syntax.specs.declared.class.Prefix.{Prefix}
use Rattle.mo_syntax.specs.declared.class.Vary.{Vary}
use Rattle.mo_syntax.specs.declared.class.Vary.TheVariants.{Free, Discrete, Parameter, Constant}
use Rattle.mo_syntax.specs.declared.meaning.Role.{Role}
use Rattle.mo_syntax.specs.declared.meaning.Role.TheVariants as role
use Rattle.mo_syntax.specs.declared.place.Place.{Place}
use Rattle.mo_scope.specs.Rows.{Table, Row, row_at, number_of_classes, Form, Short_class, Long_class}
use Rattle.mo_scope.specs.Frames.{Frame, Member, class_of}
use Rattle.mo_scope.specs.Names.{walk_of, clauses_of}
use Rattle.mo_scope.specs.Sizes.{is_leaf, leaf_base, first_base}
use Rattle.mo_scope.specs.Compatible.{prefix_of}
use Rattle.mo_scope.specs.Redeclarations.{Checked, fine}
use Rattle.mo_syntax.specs.declared.rules.TheConstants.{OUTSIDE_PROFILE}

abbrev pub is_input : Causal → Bool
is_input Input = true
is_input causal = false

abbrev pub is_discrete : Vary → Bool
is_discrete Discrete = true
is_discrete vary = false

-- `stream` and `discrete` are left out
abbrev pub prefix_in_profile : Place → Prefix → Checked
prefix_in_profile place prefix = if prefix.stream || is_discrete prefix.vary then breaks OUTSIDE_PROFILE place else fine

-- ---- variability

-- Constant if one of them is declared constant, else parameter if one is declared parameter, else none.
abbrev pub joined_vary : Vary → Vary → Vary
joined_vary Constant vary = Constant
joined_vary around Constant = Constant
joined_vary Parameter vary = Parameter
joined_vary around Parameter = Parameter
joined_vary around vary = Free

-- the role of a leaf of that variability, the last one where it is a Real
abbrev pub role_of : Vary → (given : Bool) → Role
role_of Constant given = role.Constant
role_of Parameter given = role.Parameter
role_of vary given = if given then role.Given else role.Unknown

-- ---- given by a short class

abbrev pub input_of_base : (Frame → Bool) → Option Frame → Bool
input_of_base next None = false
input_of_base next (Some base) = next base

abbrev pub input_of_short : (Frame → Bool) → Outcome Frame → Bool
input_of_short next (Ok base) = next base
input_of_short next (Err broken) = false

abbrev pub input_of_form : Table → (Frame → Bool) → Frame → Form → Bool
input_of_form table next frame (Short_class causal subs) =
    is_input causal || input_of_short next (first_base table frame (clauses_of table frame))
input_of_form table next frame Long_class =
    if is_leaf (walk_of table frame) then input_of_base next (leaf_base table frame (clauses_of table frame)) else false
input_of_form table next frame other = false

abbrev pub input_by : Table → (Frame → Bool) → Frame → Option Row → Bool
input_by table next frame None = false
input_by table next frame (Some row) = input_of_form table next frame row.form

-- The number tells how many classes may still be on the way, which is that to the dimensions of the type.
unfoldable pub input_from : Table → ℕ → Frame → Bool
input_from table zero frame = false
input_from table (suc left) frame = input_by table (input_from table left) frame (row_at table (class_of frame))

-- whether a component is declared `input`, by itself or by a short class on the way of its type
abbrev pub is_declared_input : Table → Member → Frame → Bool
is_declared_input table member type = is_input (prefix_of table member).causal || input_from table (number_of_classes table) type
