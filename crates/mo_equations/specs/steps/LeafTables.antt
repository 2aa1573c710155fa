-- The tables of the leaves of a tree of instances.
use Rattle.std.specs.Prelude.{◌≡◌, ℕ, ◌+◌, Bool, false, ◌&&◌, List, [], ◌∷◌, ◌++◌, filter, find, map, Option, Some, None, is_some, if◌then◌else◌, nat_eq, slice_get}
use Rattle.std.specs.HashMap.{get_by_text}
use Rattle.std.specs.List.{list_any}
use Rattle.std.specs.Str.{bytes_eq}
use Rattle.mo_syntax.specs.declared.place.Place.{Place}
use Rattle.mo_scope.specs.declared.instance.Instance.{Instance as InstanceAt}
use Rattle.mo_scope.specs.declared.instance.Leaf.{Leaf as LeafAt}
use Rattle.mo_scope.specs.Frames.{Indexed}
use Rattle.mo_scope.specs.Instances.{Instance}
use Rattle.mo_scope.specs.Places.{Every}
use Rattle.mo_scope.specs.Trees.{IsInstance, instances_in}
use Rattle.mo_scope.specs.Worlds.{World, table_in}
use Rattle.mo_eval.specs.FrameBindings.{IsBoundByFrame}
use Rattle.mo_equations.specs.declared.leaves.Leaves.{Leaves}
use Rattle.mo_equations.specs.Counted.{IsTreeOf}
use Rattle.mo_equations.specs.Connectors.{is_connector, is_declared_flow, is_flow, is_joined_role}
use Rattle.mo_equations.specs.Leaves.{Tree, Variable, behind, path_text, variables_of}
use Rattle.mo_flat.specs.declared.connect.EndLeaf.{EndLeaf}
use Rattle.mo_equations.specs.steps.Tables.{IsPathTable, paths_seen, place_among}

-- ---- variables

abbrev pub is_leaf : InstanceAt → Bool
is_leaf instance = is_some instance.leaf

-- the instances of the variables, in their order
abbrev pub leaves_in : List InstanceAt → List InstanceAt
leaves_in instances = filter is_leaf instances

-- the instances at some places
abbrev pub instances_at : List InstanceAt → List ℕ → List (Option InstanceAt)
instances_at instances places = map (slice_get instances) places

abbrev pub is_joined_option : Option LeafAt → Bool
is_joined_option (Some leaf) = is_joined_role leaf.role
is_joined_option None = false

abbrev pub is_flow_by : (connectors flows : List Indexed) → InstanceAt → Bool
is_flow_by connectors flows variable =
    is_joined_option variable.leaf && list_any (λ other. is_some (behind other variable.path.0)) connectors
    && list_any (λ other. is_some (behind other variable.path.0)) flows

-- the paths of the instances that pass a test
abbrev pub paths_that : (Instance → Bool) → List Instance → List Indexed
paths_that is instances = map (λ instance. instance.path) (filter is instances)

-- ---- numbers

abbrev pub number_by : List Indexed → Indexed → ℕ
number_by paths path = number_in (place_among paths path)
  where
    number_in : Option ℕ → ℕ
    number_in None = 0
    number_in (Some place) = place + 1

-- the numbers that are kept under a text
abbrev pub numbers_or_none : Option (List ℕ) → List ℕ
numbers_or_none None = []
numbers_or_none (Some numbers) = numbers

-- the paths that lead to a path, the empty one first, and that path
abbrev pub prefixes : Indexed → List Indexed
prefixes [] = [] ∷ []
prefixes (step ∷ path) = [] ∷ map (λ around. step ∷ around) (prefixes path)

abbrev pub has_text : List ℕ → Indexed → Bool
has_text text around = bytes_eq (path_text around) text

abbrev pub ends_with : List ℕ → ℕ → Bool
ends_with [] number = false
ends_with (n ∷ []) number = nat_eq n number
ends_with (n ∷ next ∷ numbers) number = ends_with (next ∷ numbers) number

-- a number at the end, if it does not stand there
abbrev pub with_number : List ℕ → ℕ → List ℕ
with_number numbers number = if ends_with numbers number then numbers else numbers ++ number ∷ []

-- the numbers under a text with that of a variable, if one of the paths at and around it has the text
abbrev pub with_around : List ℕ → Indexed → ℕ → List ℕ → List ℕ
with_around text path number numbers = if list_any (has_text text) (prefixes path) then with_number numbers number else numbers

abbrev pub with_variable : List ℕ → InstanceAt → ℕ → List ℕ → List ℕ
with_variable text variable number numbers =
    if is_joined_option variable.leaf then with_around text variable.path.0 number numbers else numbers

abbrev pub numbers_from : List ℕ → ℕ → List ℕ → List InstanceAt → List ℕ
numbers_from text number numbers [] = numbers
numbers_from text number numbers (variable ∷ variables) =
    numbers_from text (number + 1) (with_variable text variable number numbers) variables

abbrev pub numbers_at : List InstanceAt → List ℕ → List ℕ
numbers_at variables text = numbers_from text 1 [] variables

-- ---- all tables

-- the places of the variables' instances
abbrev pub PlacesAreThose : Leaves → Type 0
PlacesAreThose leaves = instances_at leaves.instances.now leaves.places ≡ map (λ instance. Some instance) (leaves_in leaves.instances.now)

pub record AreLeaves (world : World) (leaves : Leaves) : Type 0 where
  pub exist : Every (IsInstance world) leaves.instances.now
  pub bound : Every (IsBoundByFrame world) leaves.instances.now
  pub tree : IsTreeOf (table_in world) (instances_in world leaves.instances.now)
  pub places : PlacesAreThose leaves
  pub whole : IsPathTable leaves.all
  pub all : paths_seen leaves.all ≡ map (λ instance. instance.path.0) leaves.instances.now
  pub table : IsPathTable leaves.numbers
  pub numbers : paths_seen leaves.numbers ≡ map (λ instance. instance.path.0) (leaves_in leaves.instances.now)
  pub flows : leaves.flows ≡ map (λ (instance : InstanceAt). is_flow_by (paths_that (is_connector (table_in world)) (instances_in world leaves.instances.now)) (paths_that (is_declared_flow (table_in world)) (instances_in world leaves.instances.now)) instance) (leaves_in leaves.instances.now)
  pub below : (text : List ℕ) → numbers_or_none (get_by_text leaves.below text) ≡ numbers_at (leaves_in leaves.instances.now) text

-- ---- leaves below a path

-- the leaf of the variable with a number, if it lies below a path and is a leaf of a connector
abbrev pub leaf_at_number : Tree → Indexed → ℕ → List EndLeaf
leaf_at_number tree path number = leaf_of (find (λ variable. nat_eq variable.number number) (variables_of tree))
  where
    leaf_at : Variable → Option Indexed → List EndLeaf
    leaf_at variable None = []
    leaf_at variable (Some below) = record {
      below = record { 0 = below };
      flow = is_flow tree variable;
      variable = variable.number;
      place = variable.instance.place;
    } ∷ []

    leaf_of : Option Variable → List EndLeaf
    leaf_of None = []
    leaf_of (Some variable) = if is_joined_role variable.leaf.role then leaf_at variable (behind path variable.instance.path) else []

-- ---- flows

-- a flow leaf of a connector with the place of its declaration
abbrev pub flow_in : Tree → Variable → List (ℕ × Place)
flow_in tree variable = if is_flow tree variable then (variable.number, variable.instance.place) ∷ [] else []

-- that of the variable with so many before it
abbrev pub flow_at : Tree → ℕ → List (ℕ × Place)
flow_at tree k = flow_of (slice_get (variables_of tree) k)
  where
    flow_of : Option Variable → List (ℕ × Place)
    flow_of None = []
    flow_of (Some variable) = flow_in tree variable
