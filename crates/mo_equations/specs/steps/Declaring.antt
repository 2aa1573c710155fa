-- The variables that are declared, with what is counted of them.
use Rattle.std.specs.Prelude.{◌≡◌, ℕ, ◌+◌, ◌≤◌, List, [], ◌∷◌, ◌++◌, flat_map, length, map, sum_by, Option, Some, None, option_map, slice_get, Ok, ◌&&◌, if◌then◌else◌}
use Rattle.mo_syntax.specs.Outcome.{Outcome}
use Rattle.mo_syntax.specs.declared.meaning.Kind.{Kind}
use Rattle.mo_syntax.specs.declared.meaning.Role.{Role}
use Rattle.mo_syntax.specs.declared.meaning.Role.TheVariants.{Unknown}
use Rattle.mo_syntax.specs.declared.place.Place.{Place}
use Rattle.mo_flat.specs.declared.expr.FlatExpr.{FlatExpr}
use Rattle.mo_flat.specs.declared.expr.FlatExpr as flat
use Rattle.mo_flat.specs.declared.model.FlatEquation.{FlatEquation}
use Rattle.mo_flat.specs.declared.model.FlatVar.{FlatVar}
use Rattle.mo_flat.specs.Nodes.{node_count}
use Rattle.mo_flat.specs.Roles.{unknown_numbers}
use Rattle.mo_scope.specs.declared.instance.Chosen.{Chosen as ChosenAt}
use Rattle.mo_scope.specs.declared.instance.Instance.{Instance as InstanceAt}
use Rattle.mo_scope.specs.Frames.{Frame}
use Rattle.mo_scope.specs.Instances.{Chosen}
use Rattle.mo_scope.specs.Trees.{IsInstance, IsLeaf, attribute_in, chosen_in, instance_in, leaf_in}
use Rattle.mo_scope.specs.Worlds.{World}
use Rattle.mo_values.specs.Scalars.{Known, has_values}
use Rattle.mo_equations.specs.declared.variables.Attributes.{Attributes}
use Rattle.mo_equations.specs.declared.variables.Declared.{Declared as DeclaredAt}
use Rattle.mo_equations.specs.declared.variables.Variable.{Variable as VariableAt}
use Rattle.mo_equations.specs.declared.flat.Flat.{Flat}
use Rattle.mo_flat.specs.declared.connect.Expanded.{Expanded}
use Rattle.mo_equations.specs.Expansion.{Parts, expanded_with}
use Rattle.mo_equations.specs.Gathering.{all_beside, made_equations}
use Rattle.mo_equations.specs.Leaves.{Tree, Variable}
use Rattle.mo_equations.specs.Size.{most_nodes, nodes_of_variable}
use Rattle.mo_equations.specs.declared.layers.Want.TheVariants.{Accepted}
use Rattle.mo_equations.specs.declared.standing.Asked.{Asked}
use Rattle.mo_equations.specs.Variables.{Declared, fits_along, fits_leaf, is_parameter}
use Rattle.mo_equations.specs.steps.Flats.{capped}
use Rattle.mo_equations.specs.steps.Layers.{HasRule, fit_of}
use Rattle.mo_equations.specs.steps.Makings.{IsMade}
use Rattle.mo_equations.specs.steps.Ranges.{known_so}
use Rattle.mo_typing.specs.Dims.{Dims}
use Rattle.mo_typing.specs.Kinds.{accepts}
use Rattle.mo_typing.specs.Subscripts.{Checked}
use Rattle.mo_eval.specs.Components.{place_of}
use Rattle.mo_eval.specs.FrameBindings.{IsBoundAs}
use Rattle.mo_eval.specs.Values.{most_references}

-- ---- leaves

abbrev pub variable_in : List Frame → VariableAt → Variable
variable_in frames variable = record {
  number = variable.number;
  instance = instance_in frames variable.instance.now;
  leaf = leaf_in frames variable.leaf.now;
}

abbrev pub attributes_in : List Frame → VariableAt → List (ℕ × Chosen)
attributes_in frames variable = map (attribute_in frames) variable.leaf.now.attributes

abbrev pub binding_in : List Frame → VariableAt → Option Chosen
binding_in frames variable = option_map (chosen_in frames) variable.leaf.now.binding

pub record IsOneOf (world : World) (variable : VariableAt) : Type 0 where
  pub instance : IsInstance world variable.instance.now
  pub leaf : IsLeaf world variable.leaf.now
  pub bound : IsBoundAs world variable.instance.now.frame.0 variable.leaf.now

-- what is known of the binding of a leaf, whatever its kind
abbrev pub known_of_leaf_at : Tree → Variable → Chosen → Outcome Known
known_of_leaf_at tree variable chosen =
    known_so tree.classes (λ got. accepts variable.leaf.kind got (place_of chosen.value)) (fits_leaf tree variable chosen) chosen.scope chosen.value chosen.pending

abbrev pub fits_these : List ℕ → List ℕ → Dims → Place → Dims → Checked
fits_these pending indices sizes place dims = fits_along place pending indices sizes dims

-- what is known of the binding of a parameter whose kind has values
abbrev pub known_of_binding : Tree → Variable → Chosen → Outcome Known
known_of_binding tree variable chosen =
    if is_parameter variable.leaf.role && has_values variable.leaf.kind then known_of_leaf_at tree variable chosen else Ok None

-- what is asked of what is chosen for a leaf
pub record IsAskedSo (asked : Asked) (chosen : ChosenAt) (kind : Kind) (indices sizes : List ℕ) : Type 0 where
  pub left : asked.left ≡ most_references
  pub at : asked.at.now ≡ chosen.scope
  pub value : asked.value.now ≡ chosen.value.now
  pub index : asked.index.now ≡ chosen.pending
  pub want : asked.layers.want ≡ Accepted kind
  pub fit : fit_of asked.layers.fit ≡ fits_these chosen.pending indices sizes
  pub rule : HasRule asked.layers.fit
  pub place : asked.layers.place ≡ chosen.value.now.place

-- the dimensions of the instance at a place
abbrev pub dims_at : List InstanceAt → ℕ → List ℕ
dims_at instances place = dims_in (slice_get instances place)
  where
    dims_in : Option InstanceAt → List ℕ
    dims_in None = []
    dims_in (Some instance) = instance.dims

-- the dimensions of the instance that is found
abbrev pub dims_found : List InstanceAt → Option ℕ → List ℕ
dims_found instances None = []
dims_found instances (Some place) = dims_at instances place

-- ---- attributes

abbrev pub nodes_of_attributes : List (ℕ × FlatExpr) → ℕ
nodes_of_attributes attributes = sum_by (λ attribute. node_count attribute.1) attributes

pub record AreAttributes (held : Attributes) (attributes : List (ℕ × FlatExpr)) : Type 0 where
  pub nodes : held.nodes ≡ capped (nodes_of_attributes attributes)
  pub built : nodes_of_attributes attributes ≤ most_nodes → held.built ≡ attributes

-- ---- bindings

abbrev pub printed_part : Role → Option Flat → Option Flat
printed_part Unknown binding = None
printed_part role binding = binding

abbrev pub equation_part : Role → Option Flat → Option Flat
equation_part Unknown binding = binding
equation_part role binding = None

abbrev pub nodes_held : Option Flat → ℕ
nodes_held None = 0
nodes_held (Some flat) = flat.nodes

abbrev pub built_held : Option Flat → Option FlatExpr
built_held None = None
built_held (Some flat) = flat.built

-- where the expression of a binding stands
abbrev pub place_of_option : Option ChosenAt → Place
place_of_option None = record { file = 0; byte = 0 }
place_of_option (Some binding) = binding.value.now.place

-- the equation of the variable of that number with its binding
abbrev pub equation_with : ℕ → Place → Option FlatExpr → List FlatEquation
equation_with number place None = []
equation_with number place (Some e) = record { left = flat.Var number 0; right = e; place = place } ∷ []

-- nothing is built of a binding that there is not
abbrev pub IsBound : Option ChosenAt → Option FlatExpr → Type 0
IsBound None (Some e) = ⊥
IsBound binding e = Unit {0}

-- what is built of a binding for an equation
abbrev pub equation_of : Role → Option FlatExpr → Option FlatExpr
equation_of Unknown e = e
equation_of role e = None

-- ---- variables

-- one more unknown, if it is one
abbrev pub unknowns_with : ℕ → Role → ℕ
unknowns_with count Unknown = capped (count + 1)
unknowns_with count role = count

-- One variable more, of so many nodes. It is kept unless there are too many.
pub record HasOneMore (old new : DeclaredAt) (nodes : ℕ) (var : FlatVar) : Type 0 where
  pub count : new.nodes ≡ capped (old.nodes + nodes)
  pub unknowns : new.unknowns ≡ unknowns_with old.unknowns var.role
  pub vars : new.nodes ≤ most_nodes → new.vars ≡ old.vars ++ var ∷ []
  pub made : new.made ≡ old.made

abbrev pub nodes_of_declared : List Declared → ℕ
nodes_of_declared all = sum_by (λ one. nodes_of_variable one.variable) all

-- The counts are those of the variables; these are kept unless there are too many nodes.
pub record AreDeclared (held : DeclaredAt) (all : List Declared) : Type 0 where
  pub nodes : held.nodes ≡ capped (nodes_of_declared all)
  pub unknowns : held.unknowns ≡ capped (length (unknown_numbers (map (λ one. one.variable) all)))
  pub vars : nodes_of_declared all ≤ most_nodes → held.vars ≡ map (λ one. one.variable) all
  pub made : IsMade held.made (made_equations (flat_map (λ one. one.equations) all))

-- the expansion with these variables and these parts of sections
abbrev pub expanded_from : Tree → List Declared → List Parts → Expanded
expanded_from tree all parts = expanded_with tree all (all_beside (map (λ one. one.initial) parts)) (all_beside (map (λ one. one.usual) parts))

abbrev pub IsExpandedWith : Expanded → List Declared → List Parts → Type 0
IsExpandedWith e all parts = (tree : Tree) × (e ≡ expanded_from tree all parts)
