-- The ends of connects (Modelica Language Specification 3.5, sections 4.4.5, 5.4, 9.1 and 9.3).
--
-- An end is judged as it is written, from the class that holds the connect. Its leaves are those of the components that it names: where it
-- names an outer one, those of the inner one.
use Rattle.std.specs.Prelude.{Bool, true, false, ◌&&◌, List, [], ◌∷◌, map, Option, Some, None, Ok, Err, if◌then◌else◌}
use Rattle.mo_syntax.specs.Outcome.{Outcome, and_then, breaks}
use Rattle.mo_syntax.specs.declared.expr.Expr.{Expr}
use Rattle.mo_syntax.specs.declared.expr.PartOf.{PartOf}
use Rattle.mo_syntax.specs.declared.expr.ReferenceOf.{ReferenceOf}
use Rattle.mo_syntax.specs.declared.place.Place.{Place}
use Rattle.mo_flat.specs.declared.connect.Connect.{Connect}
use Rattle.mo_flat.specs.declared.connect.End.{End}
use Rattle.mo_flat.specs.declared.connect.EndLeaf.{EndLeaf}
use Rattle.mo_flat.specs.declared.connect.Side.{Side}
use Rattle.mo_flat.specs.declared.connect.Side.TheVariants.{Inside, Outside, Neither}
use Rattle.mo_scope.specs.Rows.{Table, is_class}
use Rattle.mo_scope.specs.Frames.{Indexed, Scope, Member, at_of, class_of}
use Rattle.mo_scope.specs.Lookup.{Found, Component, Reached, Element, asking_of, found_first, reached}
use Rattle.mo_scope.specs.Names.{child_of_member, component_frame, path_below}
use Rattle.mo_syntax.specs.declared.rules.TheConstants.{NAME_NOT_FOUND}
use Rattle.mo_typing.specs.Outcome.{each}
use Rattle.mo_typing.specs.Indices.{Index}
use Rattle.mo_typing.specs.Subscripts.{subscripts}
use Rattle.mo_eval.specs.References.{Named, Components, named, handed_in, last_of}
use Rattle.mo_eval.specs.Ends.{Selected, first_identifier, selected_from, unless_removed, with_parts}
use Rattle.mo_equations.specs.Leaves.{Tree}
use Rattle.mo_equations.specs.Connectors.{is_connector_class, leaves_below}

-- ---- inside and outside

-- the component of that name in a component, as it is declared
abbrev pub declared_behind : Table → Member → PartOf Expr → Outcome Member
declared_behind table member part =
    and_then (child_of_member table member []) (λ child.
    and_then (reached table (asking_of table) part.place (component_frame member [] child) part.name) component_in)
  where
    component_in : Reached → Outcome Member
    component_in (Element next) = if is_class next.declares then breaks NAME_NOT_FOUND part.place else Ok next
    component_in other = breaks NAME_NOT_FOUND part.place

-- the components that a name finds, one behind the other, as they are declared
abbrev pub declared_from : Table → Member → List (PartOf Expr) → Outcome (List Member)
declared_from table member [] = Ok (member ∷ [])
declared_from table member (part ∷ parts) =
    and_then (declared_behind table member part) (λ next.
    and_then (declared_from table next parts) (λ others. Ok (member ∷ others)))

abbrev pub declared_by_name : Table → Scope → ReferenceOf Expr → Outcome (List Member)
declared_by_name table scope reference = declared_in reference.parts
  where
    behind_first : PartOf Expr → List (PartOf Expr) → Found → Outcome (List Member)
    behind_first part parts (Component frame member) = declared_from table member parts
    behind_first part parts found = breaks NAME_NOT_FOUND part.place

    declared_in : List (PartOf Expr) → Outcome (List Member)
    declared_in [] = Ok []
    declared_in (part ∷ parts) =
        and_then (found_first table (asking_of table) false reference.top scope part) (λ met. behind_first part parts met.found)

abbrev pub is_connector_member : Table → Member → Outcome Bool
is_connector_member table member =
    and_then (child_of_member table member []) (λ child. Ok (is_connector_class table (class_of child.class)))

-- Outside where the first component is a connector and the last one is; inside where the first one is none, and the second one and the
-- last one are.
abbrev pub side_by : List Bool → Side
side_by [] = Neither
side_by (true ∷ others) = if last_of true others then Outside else Neither
side_by (false ∷ []) = Neither
side_by (false ∷ second ∷ others) = if second && last_of second others then Inside else Neither

-- how an end lies to the class that holds the connect
abbrev pub side_of : Table → Scope → ReferenceOf Expr → Side
side_of table scope reference =
    side_in (and_then (declared_by_name table scope reference) (each (is_connector_member table)))
  where
    side_in : Outcome (List Bool) → Side
    side_in (Ok connectors) = side_by connectors
    side_in (Err broken) = Neither

-- ---- ends

-- the leaves of an element; a connector that has no instance has none
abbrev pub leaves_of : Tree → Member × Index → List EndLeaf
leaves_of tree element = leaves_at (path_below (at_of element.0.home) element.0.name element.1)
  where
    leaves_at : Option Indexed → List EndLeaf
    leaves_at None = []
    leaves_at (Some path) = leaves_below tree path

-- Subscripts of an end that is neither inside nor outside may lie outside their dimension.
abbrev pub end_with : Tree → Place → Selected → Side → Outcome End
end_with tree place selected Neither =
    Ok (record { place = place; side = Neither; dims = (handed_in selected.chosen).0; elements = [] })
end_with tree place selected side =
    and_then (subscripts (handed_in selected.chosen).0 (handed_in selected.chosen).1) (λ _.
    Ok (record { place = place; side = side; dims = (handed_in selected.chosen).0; elements = map (leaves_of tree) selected.elements }))

abbrev pub no_connector : Place → End
no_connector place = record { place = place; side = Neither; dims = []; elements = [] }

-- An end: its names are looked up, then its conditions, dimensions and subscripts are asked; none where it is removed.
abbrev pub end_of : Tree → Scope → ReferenceOf Expr → Outcome (Option End)
end_of tree scope reference = and_then (named tree.classes scope (with_parts tree.classes scope reference)) end_named
  where
    place : Place
    place = first_identifier reference.parts

    unless_none : Option Selected → Outcome (Option End)
    unless_none None = Ok None
    unless_none (Some selected) =
        and_then (end_with tree place selected (side_of tree.classes scope reference)) (λ end. Ok (Some end))

    end_named : Named → Outcome (Option End)
    end_named (Components (first ∷ others)) =
        and_then (unless_removed (selected_from tree.classes place first others)) unless_none
    end_named other = Ok (Some (no_connector place))

-- ---- connects

-- A connect that names a removed component is removed, and nothing behind that component is asked.
abbrev pub connect_of : Tree → Scope → Place → ReferenceOf Expr → ReferenceOf Expr → Outcome (List Connect)
connect_of tree scope place left right = and_then (end_of tree scope left) behind_left
  where
    behind_both : End → Option End → Outcome (List Connect)
    behind_both left None = Ok []
    behind_both left (Some right) = Ok (record { place = place; left = left; right = right } ∷ [])

    behind_left : Option End → Outcome (List Connect)
    behind_left None = Ok []
    behind_left (Some left) = and_then (end_of tree scope right) (behind_both left)
