-- The variables of the flat model (Modelica Language Specification 3.5, sections 4.4, 4.8 and 7.2.5).
--
-- Leaf by leaf the attributes that are given come in their order, then the binding. The binding of an unknown is an equation.
use Rattle.std.specs.Prelude.{ℕ, Bool, true, false, ◌&&◌, List, [], ◌∷◌, drop, flat_map, length, Option, Some, None, Ok, if◌then◌else◌, nat_eq}
use Rattle.mo_syntax.specs.Outcome.{Outcome, and_then, breaks}
use Rattle.mo_syntax.specs.declared.meaning.Kind.{Kind}
use Rattle.mo_syntax.specs.declared.meaning.Kind.TheVariants.{Real, Whole, Truth, Str, Enumeration}
use Rattle.mo_syntax.specs.declared.meaning.Role.{Role}
use Rattle.mo_syntax.specs.declared.meaning.Role.TheVariants.{Unknown, Parameter}
use Rattle.mo_syntax.specs.declared.place.Place.{Place}
use Rattle.mo_flat.specs.declared.expr.FlatExpr.{FlatExpr}
use Rattle.mo_flat.specs.declared.expr.FlatExpr as flat
use Rattle.mo_flat.specs.declared.model.FlatEquation.{FlatEquation}
use Rattle.mo_flat.specs.declared.model.FlatVar.{FlatVar}
use Rattle.mo_scope.specs.Rows.{Table}
use Rattle.mo_scope.specs.Frames.{Indexed, Scope, at_of}
use Rattle.mo_scope.specs.Instances.{Chosen}
use Rattle.mo_syntax.specs.declared.rules.TheConstants.{WRONG_EACH, WRONG_SIZE, WRONG_TYPE}
use Rattle.mo_typing.specs.Outcome.{each}
use Rattle.mo_typing.specs.Dims.{Dims}
use Rattle.mo_typing.specs.Kinds.{accepts, is_among}
use Rattle.mo_typing.specs.Subscripts.{Checked, fine}
use Rattle.mo_values.specs.Scalars.{Known, has_values, if_it_has}
use Rattle.mo_values.specs.Asked.{layered}
use Rattle.mo_eval.specs.Components.{place_of}
use Rattle.mo_eval.specs.Resolving.{dotted, path_of_class}
use Rattle.mo_eval.specs.Values.{most_references, known_of, resolved_for_value}
use Rattle.mo_equations.specs.Leaves.{Tree, Variable, number_of, path_text, sizes_along, variables_of}
use Rattle.mo_equations.specs.Replacing.{Replacing, flat_chosen, flat_variable, value_or}

-- what stands for the elements that an expression of the classes names
abbrev pub replacing : Tree → Replacing
replacing tree = flat_variable tree.classes (number_of tree) most_references

-- ---- kinds

-- the class of a kind, by its number
abbrev pub class_of_kind : Kind → ℕ
class_of_kind Real = 0
class_of_kind Whole = 1
class_of_kind Truth = 2
class_of_kind Str = 3
class_of_kind (Enumeration class) = class.0

abbrev pub kind_text : Table → Kind → List ℕ
kind_text table kind = dotted (path_of_class table (class_of_kind kind))

-- The kind that is wanted of an attribute, by its number, of a leaf of that kind: quantity, unit and displayUnit are Strings, fixed and
-- unbounded Booleans, stateSelect is a StateSelect; min, max, start and nominal are of the leaf's kind.
abbrev pub attribute_kind : Kind → ℕ → Kind
attribute_kind kind number =
    if is_among (0 ∷ 1 ∷ 2 ∷ []) number then Str else
    (if is_among (6 ∷ 8 ∷ []) number then Truth else
    (if nat_eq number 9 then Enumeration (record { 0 = 4 }) else kind))

-- ---- how bindings and attributes fit

-- the indices of a path
abbrev pub indices_of : Indexed → List ℕ
indices_of path = flat_map (λ step. step.1) path

abbrev pub indices_if : Option Indexed → List ℕ
indices_if None = []
indices_if (Some path) = indices_of path

-- What stands behind the indices of the frame that an expression is written in.
abbrev pub behind_frame : Scope → List ℕ → List ℕ
behind_frame scope all = drop (length (indices_if (at_of scope.frame))) all

-- Whether these indices, each with a size, stand in their order among those of a path, each with the size that it ranges over.
abbrev pub are_among : List ℕ → Dims → List ℕ → Dims → Bool
are_among [] dims indices sizes = true
are_among (index ∷ pending) [] indices sizes = false
are_among (index ∷ pending) (n ∷ dims) [] sizes = false
are_among (index ∷ pending) (n ∷ dims) (other ∷ indices) [] = false
are_among (index ∷ pending) (n ∷ dims) (other ∷ indices) (m ∷ sizes) =
    if nat_eq index other && nat_eq n m then are_among pending dims indices sizes else are_among (index ∷ pending) (n ∷ dims) indices sizes

-- An expression has the sizes of the components whose indices are pending. A scalar breaks rule 23 where some are, another number of
-- dimensions rule 33, another size rule 31.
abbrev pub fits_along : Place → List ℕ → List ℕ → Dims → Dims → Checked
fits_along place (index ∷ pending) indices sizes [] = breaks WRONG_EACH place
fits_along place pending indices sizes dims =
    if nat_eq (length pending) (length dims) then (if are_among pending dims indices sizes then fine else breaks WRONG_SIZE place) else breaks WRONG_TYPE place

-- Not all indices of the leaf's path are pending: `each` drops those before it, and what a list says of a class gets no index of the
-- components of that class.
abbrev pub fits_leaf : Tree → Variable → Chosen → Dims → Checked
fits_leaf tree variable chosen dims =
    fits_along (place_of chosen.value) chosen.pending (behind_frame chosen.scope (indices_of variable.instance.path))
    (behind_frame chosen.scope (sizes_along tree variable.instance.path)) dims

-- ---- attributes and bindings

-- what is chosen for a leaf, as an expression of a kind
abbrev pub flat_of_leaf : Tree → Variable → Kind → Chosen → Outcome FlatExpr
flat_of_leaf tree variable kind chosen =
    flat_chosen tree.classes most_references (replacing tree) kind (fits_leaf tree variable chosen) chosen

-- what is known of it
abbrev pub known_of_leaf : Tree → Variable → Kind → Chosen → Outcome Known
known_of_leaf tree variable kind chosen =
    and_then (resolved_for_value tree.classes most_references chosen.scope chosen.value) (λ resolved.
    and_then (layered (λ got. accepts kind got (place_of chosen.value)) (fits_leaf tree variable chosen) resolved.expression) (λ _.
    and_then (known_of tree.classes most_references resolved chosen.pending) (λ known. Ok (if_it_has kind known))))

abbrev pub flat_attribute : Tree → Variable → ℕ × Chosen → Outcome (ℕ × FlatExpr)
flat_attribute tree variable attribute =
    and_then (flat_of_leaf tree variable (attribute_kind variable.leaf.kind attribute.0) attribute.1) (λ e. Ok (attribute.0, e))

abbrev pub is_parameter : Role → Bool
is_parameter Parameter = true
is_parameter role = false

-- A parameter whose kind has values is printed by its value, if one is known.
abbrev pub flat_binding : Tree → Variable → Chosen → Outcome FlatExpr
flat_binding tree variable binding =
    if is_parameter variable.leaf.role && has_values variable.leaf.kind then
    value_or tree.classes (flat_of_leaf tree variable variable.leaf.kind binding) (known_of_leaf tree variable variable.leaf.kind binding)
    else flat_of_leaf tree variable variable.leaf.kind binding

abbrev pub flat_option : Tree → Variable → Option Chosen → Outcome (Option FlatExpr)
flat_option tree variable None = Ok None
flat_option tree variable (Some binding) = and_then (flat_binding tree variable binding) (λ e. Ok (Some e))

-- ---- variables

-- A variable with the equation of its binding, if it is an unknown that has one.
pub record Declared : Type 0 where
  pub variable : FlatVar
  pub equations : List FlatEquation

abbrev pub variable_with : Tree → Variable → List (ℕ × FlatExpr) → Option FlatExpr → FlatVar
variable_with tree variable attributes binding = record {
  name = path_text variable.instance.path;
  kind = variable.leaf.kind;
  kind_text = kind_text tree.classes variable.leaf.kind;
  role = variable.leaf.role;
  attributes = attributes;
  binding = binding;
  place = variable.instance.place;
}

-- the equation of a variable with its binding, which stands where the binding's expression stands
abbrev pub binding_equation : Variable → Option Chosen → Option FlatExpr → List FlatEquation
binding_equation variable (Some binding) (Some e) =
    record { left = flat.Var variable.number 0; right = e; place = place_of binding.value } ∷ []
binding_equation variable binding e = []

abbrev pub declared_with : Tree → Variable → List (ℕ × FlatExpr) → Option FlatExpr → Declared
declared_with tree variable attributes binding = declared_as variable.leaf.role
  where
    declared_as : Role → Declared
    declared_as Unknown = record {
      variable = variable_with tree variable attributes None;
      equations = binding_equation variable variable.leaf.binding binding;
    }
    declared_as role = record { variable = variable_with tree variable attributes binding; equations = [] }

abbrev pub declared : Tree → Variable → Outcome Declared
declared tree variable =
    and_then (each (flat_attribute tree variable) variable.leaf.attributes) (λ attributes.
    and_then (flat_option tree variable variable.leaf.binding) (λ binding. Ok (declared_with tree variable attributes binding)))

-- the variables in their order
abbrev pub all_declared : Tree → Outcome (List Declared)
all_declared tree = each (declared tree) (variables_of tree)
