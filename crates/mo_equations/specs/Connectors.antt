-- Connectors and their leaves (Modelica Language Specification 3.5, sections 4.6, 9.1 and 9.3).
use Rattle.std.specs.Prelude.{ℕ, Bool, true, false, ◌&&◌, List, [], ◌∷◌, flat_map, Option, Some, None, if◌then◌else◌}
use Rattle.std.specs.List.{list_any}
use Rattle.mo_syntax.specs.declared.class.ClassKind.{ClassKind}
use Rattle.mo_syntax.specs.declared.class.ClassKind.TheVariants.{Connector}
use Rattle.mo_syntax.specs.declared.meaning.Role.{Role}
use Rattle.mo_syntax.specs.declared.meaning.Role.TheVariants.{Unknown, Given}
use Rattle.mo_syntax.specs.declared.place.Place.{Place}
use Rattle.mo_flat.specs.declared.connect.EndLeaf.{EndLeaf}
use Rattle.mo_scope.specs.Rows.{Table, Row, row_at}
use Rattle.mo_scope.specs.Frames.{Indexed, Member, class_of, owner_of}
use Rattle.mo_scope.specs.Lookup.{named, own_members}
use Rattle.mo_scope.specs.Compatible.{prefix_of}
use Rattle.mo_scope.specs.Instances.{Instance}
use Rattle.mo_equations.specs.Leaves.{Tree, Variable, behind, is_at_or_around, variables_of}

-- ---- connectors

abbrev pub is_connector_kind : ClassKind → Bool
is_connector_kind Connector = true
is_connector_kind kind = false

-- A class is a connector if its own definition begins with that word.
abbrev pub is_connector_class : Table → (class : ℕ) → Bool
is_connector_class table class = is_connector_row (row_at table class)
  where
    is_connector_row : Option Row → Bool
    is_connector_row None = false
    is_connector_row (Some row) = is_connector_kind row.class.kind

abbrev pub is_connector : Table → Instance → Bool
is_connector table instance = is_connector_class table (class_of instance.frame)

-- ---- flow prefixes

abbrev pub last_name : Indexed → List ℕ
last_name [] = []
last_name (step ∷ []) = step.0
last_name (step ∷ next ∷ path) = last_name (next ∷ path)

-- the declaration of the component that an instance is an element of; the asked class has none
abbrev pub declaration_of : Table → Instance → Option Member
declaration_of table instance = named (last_name instance.path) (own_members table (owner_of instance.frame))

abbrev pub is_flow_member : Table → Option Member → Bool
is_flow_member table None = false
is_flow_member table (Some member) = (prefix_of table member).flow

abbrev pub is_declared_flow : Table → Instance → Bool
is_declared_flow table instance = is_flow_member table (declaration_of table instance)

-- ---- leaves of connectors

-- an instance of some kind that is at a path, or around it
abbrev pub is_around : Tree → (Table → Instance → Bool) → Indexed → Bool
is_around tree is path = list_any (λ instance. is tree.classes instance && is_at_or_around path instance) tree.instances

-- A parameter or a constant is no leaf of a connector.
abbrev pub is_joined_role : Role → Bool
is_joined_role Unknown = true
is_joined_role Given = true
is_joined_role role = false

-- A leaf of a connector is a flow if it, or a component around it, is declared flow.
abbrev pub is_flow : Tree → Variable → Bool
is_flow tree variable =
    is_joined_role variable.leaf.role && is_around tree is_connector variable.instance.path
    && is_around tree is_declared_flow variable.instance.path

-- the leaves below a path, by their names below it, in their order
abbrev pub leaves_below : Tree → Indexed → List EndLeaf
leaves_below tree path = flat_map leaf_in (variables_of tree)
  where
    leaf_at : Variable → Option Indexed → List EndLeaf
    leaf_at variable None = []
    leaf_at variable (Some below) = record {
      below = record { 0 = below };
      flow = is_flow tree variable;
      variable = variable.number;
      place = variable.instance.place;
    } ∷ []

    leaf_in : Variable → List EndLeaf
    leaf_in variable =
        if is_joined_role variable.leaf.role then leaf_at variable (behind path variable.instance.path) else []

-- the flow leaves of all connectors in their order, each with the place of its declaration
abbrev pub all_flows : Tree → List (ℕ × Place)
all_flows tree = flat_map flow_in (variables_of tree)
  where
    flow_in : Variable → List (ℕ × Place)
    flow_in variable = if is_flow tree variable then (variable.number, variable.instance.place) ∷ [] else []
