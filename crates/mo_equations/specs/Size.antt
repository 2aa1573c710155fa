-- The size of a flat model: how many unknowns, equations and nodes of expressions it may have, and how many bytes of text.
use Rattle.std.specs.Prelude.{ℕ, ◌+◌, Bool, ◌||◌, length, sum_by, Option, Some, None, nat_lt}
use Rattle.mo_syntax.specs.declared.meaning.Role.{Role}
use Rattle.mo_syntax.specs.declared.meaning.Role.TheVariants.{Unknown}
use Rattle.mo_flat.specs.declared.connect.Expanded.{Expanded}
use Rattle.mo_flat.specs.declared.expr.FlatExpr.{FlatExpr}
use Rattle.mo_flat.specs.declared.model.FlatAssert.{FlatAssert}
use Rattle.mo_flat.specs.declared.model.FlatEquation.{FlatEquation}
use Rattle.mo_flat.specs.declared.model.FlatModel.{FlatModel}
use Rattle.mo_flat.specs.declared.model.FlatVar.{FlatVar}
use Rattle.mo_flat.specs.Nodes.{node_count}
use Rattle.mo_flat.specs.Roles.{unknown_numbers}
use Rattle.mo_flat.specs.Text.{model_text}

-- ---- limits

-- the most unknowns of a flat model, the most equations, the most nodes of its expressions, and the most bytes of its text
abbrev pub most_unknowns : ℕ
most_unknowns = 50000

abbrev pub most_equations : ℕ
most_equations = 50000

abbrev pub most_nodes : ℕ
most_nodes = 2000000

abbrev pub most_bytes : ℕ
most_bytes = 67108864

-- ---- nodes

abbrev pub nodes_of_option : Option FlatExpr → ℕ
nodes_of_option None = 0
nodes_of_option (Some e) = node_count e

-- a binding that is printed
abbrev pub nodes_of_binding : Role → Option FlatExpr → ℕ
nodes_of_binding Unknown binding = 0
nodes_of_binding role binding = nodes_of_option binding

abbrev pub nodes_of_variable : FlatVar → ℕ
nodes_of_variable v = sum_by (λ attribute. node_count attribute.1) v.attributes + nodes_of_binding v.role v.binding

abbrev pub nodes_of_equation : FlatEquation → ℕ
nodes_of_equation q = node_count q.left + node_count q.right

abbrev pub nodes_of_assert : FlatAssert → ℕ
nodes_of_assert a = node_count a.condition + node_count a.message + nodes_of_option a.level

-- the nodes of all expressions that are printed
abbrev pub nodes_of : FlatModel → ℕ
nodes_of m =
    sum_by nodes_of_variable m.vars + sum_by nodes_of_equation m.first + sum_by nodes_of_assert m.first_asserts
    + sum_by nodes_of_equation m.equations + sum_by nodes_of_assert m.asserts

-- ---- too large

-- By what is counted before its text is made. More equations and more nodes leave it so.
abbrev pub has_too_many : FlatModel → Bool
has_too_many m =
    nat_lt most_unknowns (length (unknown_numbers m.vars)) || nat_lt most_equations (length m.equations)
    || nat_lt most_nodes (nodes_of m)

abbrev pub is_too_large : FlatModel → Bool
is_too_large m = has_too_many m || nat_lt most_bytes (length (model_text m))

-- ---- before the connection sets are known

-- the flat model without the equations of connection sets
abbrev pub model_before : Expanded → FlatModel
model_before e = record {
  name = e.name;
  place = e.place;
  vars = e.vars;
  first = e.first;
  first_asserts = e.first_asserts;
  equations = e.equations;
  asserts = e.asserts;
}

-- Whatever its connection sets are, the flat model is too large.
abbrev pub is_past : Expanded → Bool
is_past e = has_too_many (model_before e)
