-- Which classes on the way of a type declare `input` (Modelica Language Specification 3.5, sections 4.4.2.2 and 4.5.1).
use Rattle.std.specs.Prelude.{Bool, false, Option, Some, None}
use Rattle.mo_scope.specs.Rows.{Row, Form, Short_class}
use Rattle.mo_instance.specs.Prefixes.{is_input}

abbrev pub is_input_form : Form → Bool
is_input_form (Short_class causal subs) = is_input causal
is_input_form other = false

abbrev pub is_input_row : Option Row → Bool
is_input_row None = false
is_input_row (Some row) = is_input_form row.form
