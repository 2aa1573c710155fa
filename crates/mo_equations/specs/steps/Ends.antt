-- The ends of connects, before their leaves are known.
use Rattle.std.specs.Prelude.{Bool, false, List, [], map, Ok, if◌then◌else◌}
use Rattle.mo_syntax.specs.Outcome.{Outcome, and_then, breaks}
use Rattle.mo_syntax.specs.declared.expr.Expr.{Expr}
use Rattle.mo_syntax.specs.declared.expr.PartOf.{PartOf}
use Rattle.mo_syntax.specs.declared.place.Place.{Place}
use Rattle.mo_syntax.specs.declared.place.Stop.{Stop}
use Rattle.mo_syntax.specs.declared.place.Stop.TheVariants.{Broken as broken_by, NoMemory as no_memory}
use Rattle.mo_flat.specs.declared.array.Subscript.{Subscript}
use Rattle.mo_flat.specs.declared.connect.End.{End}
use Rattle.mo_flat.specs.declared.connect.Side.{Side}
use Rattle.mo_flat.specs.declared.connect.Side.TheVariants.{Neither}
use Rattle.mo_scope.specs.declared.row.Member.{Member as MemberAt}
use Rattle.mo_scope.specs.Rows.{Table, is_class}
use Rattle.mo_scope.specs.Frames.{Frame, Member, Scope}
use Rattle.mo_scope.specs.Lookup.{Found, Component, asking_of, found_first}
use Rattle.mo_scope.specs.Sights.{declares_seen}
use Rattle.mo_names.specs.Sights.{member_of}
use Rattle.mo_names.specs.declared.found.Found.{Found as FoundAt}
use Rattle.mo_names.specs.declared.found.Found.TheVariants.{Component as component_at}
use Rattle.mo_syntax.specs.declared.rules.TheConstants.{NAME_NOT_FOUND}
use Rattle.mo_typing.specs.Dims.{Dims}
use Rattle.mo_typing.specs.Indices.{Index}
use Rattle.mo_typing.specs.Subscripts.{subscripts}
use Rattle.mo_equations.specs.Ends.{leaves_of}
use Rattle.mo_equations.specs.Leaves.{Tree}

-- elements as the code holds them
abbrev pub elements_in : List Frame → List (MemberAt × Index) → List (Member × Index)
elements_in frames elements = map (λ element. (member_of frames element.0, element.1)) elements

-- ---- names as they are declared

abbrev pub component_or_broken : Place → MemberAt → Outcome MemberAt
component_or_broken place member = if is_class (declares_seen member.declares) then breaks NAME_NOT_FOUND place else Ok member

abbrev pub component_in_found : Place → FoundAt → Outcome MemberAt
component_in_found place (component_at frame member) = Ok member
component_in_found place found = breaks NAME_NOT_FOUND place

-- the first component of a name
abbrev pub first_component : Table → Bool → Scope → PartOf Expr → Outcome Member
first_component table top scope part = and_then (found_first table (asking_of table) false top scope part) (λ met. component_in met.found)
  where
    component_in : Found → Outcome Member
    component_in (Component frame member) = Ok member
    component_in found = breaks NAME_NOT_FOUND part.place

-- ---- sides

abbrev pub IsBrokenRule : Stop → Type 0
IsBrokenRule (broken_by broken) = Unit {0}
IsBrokenRule no_memory = ⊥

-- ---- ends

-- an end that selects these elements, with their leaves
abbrev pub end_beside : Tree → Place → Dims → List Subscript → List (Member × Index) → Side → Outcome End
end_beside tree place dims subs elements side =
    and_then (subscripts dims subs) (λ _. Ok (record { place = place; side = side; dims = dims; elements = map (leaves_of tree) elements }))

-- an end that selects these elements, on a side
abbrev pub end_selected : Tree → Place → Dims → List Subscript → List (Member × Index) → Side → Outcome End
end_selected tree place dims subs elements Neither = Ok (record { place = place; side = Neither; dims = dims; elements = [] })
end_selected tree place dims subs elements side = end_beside tree place dims subs elements side
