-- What the identifiers of a reference select, one after another: words of the contracts inside this crate alone.
use Rattle.std.specs.Prelude.{ℕ, Bool, List, [], ◌∷◌, ◌++◌, map, Option, Some, None, Ok, is_ok}
use Rattle.mo_syntax.specs.Outcome.{Outcome, and_then, breaks}
use Rattle.mo_syntax.specs.declared.expr.PartOf.{PartOf}
use Rattle.mo_syntax.specs.declared.place.Place.{Place}
use Rattle.mo_scope.specs.declared.row.Member.{Member as MemberAt}
use Rattle.mo_scope.specs.Rows.{Table}
use Rattle.mo_scope.specs.Frames.{Frame, Member}
use Rattle.mo_scope.specs.Lookup.{Found, Component, Reached, Element, asking_of, reached}
use Rattle.mo_scope.specs.Names.{stands_for}
use Rattle.mo_scope.specs.Worlds.{World, table_in}
use Rattle.mo_names.specs.Sights.{member_of}
use Rattle.mo_syntax.specs.declared.rules.TheConstants.{NAME_NOT_FOUND}
use Rattle.mo_typing.specs.Dims.{Dims}
use Rattle.mo_typing.specs.Indices.{Index}
use Rattle.mo_typing.specs.Outcome.{each}
use Rattle.mo_typing.specs.Subscripts.{subscripts}
use Rattle.mo_syntax.specs.declared.meaning.Kind.{Kind}
use Rattle.mo_values.specs.declared.context.Context.{Context}
use Rattle.mo_eval.specs.declared.references.Common.{Common}
use Rattle.mo_eval.specs.declared.selections.Selection.{Selection as SelectionAt}
use Rattle.mo_eval.specs.Virtuals.{Reading, Virtual}
use Rattle.mo_eval.specs.Contexts.{Part}
use Rattle.mo_eval.specs.References.{Selection, component_behind, elements_below, joined, kind_accepted, kind_among, there, virtual_elements}
use Rattle.mo_values.specs.Selected.{selected}
use Rattle.mo_eval.specs.Components.{reading_by}
use Rattle.mo_eval.specs.Values.{reading}
use Rattle.mo_eval.specs.steps.Absence.{Removal, reading_for}

-- what is read one reference deeper
abbrev pub reading_at : World → ℕ → Reading
reading_at world deeper = reading_by (table_in world) (reading (table_in world) deeper)

-- for an expression, and for an end of a connect
abbrev pub reading_in : Removal → World → ℕ → Reading
reading_in asking world deeper = reading_for asking (reading_at world deeper)

abbrev pub selection_seen : SelectionAt → Selection
selection_seen selection = record { name = selection.name.now; place = selection.place; dims = selection.dims; subs = selection.subs }

abbrev pub selections_seen : List SelectionAt → List Selection
selections_seen all = map selection_seen all

abbrev pub dims_there : Reading → Place → Member → Outcome Dims
dims_there reading place member = and_then (there reading place member) (λ _. reading.dims member)

-- ---- the next component

abbrev pub component_found : Place → Found → Outcome Member
component_found place (Component frame part) = Ok part
component_found place found = breaks NAME_NOT_FOUND place

abbrev pub component_standing : Table → Place → Frame → Member → Outcome Member
component_standing table place frame part = and_then (stands_for table place (Component frame part)) (component_found place)

abbrev pub component_reached : Table → Place → Frame → Reached → Outcome Member
component_reached table place frame (Element part) = component_standing table place frame part
component_reached table place frame other = breaks NAME_NOT_FOUND place

abbrev pub component_in : Table → Place → Frame → List ℕ → Outcome Member
component_in table place frame name = and_then (reached table (asking_of table) place frame name) (component_reached table place frame)

abbrev pub next_among : Table → Member → PartOf Part → List Index → Outcome (Option Member)
next_among table member next [] = Ok None
next_among table member next (index ∷ indices) = and_then (component_behind table next.place member index next.name) (λ behind. Ok (Some behind))

abbrev pub next_selected : Table → Member → Selection → PartOf Part → Outcome (Option Member)
next_selected table member selection next = next_among table member next (selected selection.dims selection.subs)

abbrev pub next_if : Table → Option Member → Selection → PartOf Part → Outcome (Option Member)
next_if table None selection next = Ok None
next_if table (Some member) selection next = next_selected table member selection next

abbrev pub next_behind : Table → Option Member → Selection → PartOf Part → Outcome (Option Member)
next_behind table member selection next = and_then (subscripts selection.dims selection.subs) (λ _. next_if table member selection next)

-- the first component behind an identifier, if there is one more
abbrev pub member_behind : Table → Option Member → Selection → List (Member × PartOf Part) → Outcome (Option Member)
member_behind table member selection [] = Ok None
member_behind table member selection (next ∷ names) = next_behind table member selection next.1

-- ---- all elements

abbrev pub elements_seen : List Frame → List (MemberAt × Index) → List (Member × Index)
elements_seen frames elements = map (λ element. (member_of frames element.0, element.1)) elements

-- further elements behind those that are made
abbrev pub elements_more : List (Member × Index) → Outcome (List (Member × Index)) → Outcome (List (Member × Index))
elements_more before told = and_then told (λ more. Ok (before ++ more))

-- the elements that are selected behind these indices of a component
abbrev pub each_below : Table → Reading → Place → Member → List Selection → List Index → Outcome (List (Member × Index))
each_below table reading place member [] indices = Ok (map (λ index. (member, index)) indices)
each_below table reading place member (next ∷ others) indices =
    and_then
    (each (λ index.
    and_then (component_behind table next.place member index next.name) (λ part.
    elements_below table reading place part (next ∷ others)))
    indices)
    (λ elements. Ok (joined elements))

-- whether the last part lies inside, or what is said where there is none
abbrev pub inside_or : Bool → List Selection → Bool
inside_or inside [] = inside
inside_or inside (selection ∷ others) = inside_or (is_ok (subscripts selection.dims selection.subs)) others

-- ---- what is handed in

abbrev pub kind_of_elements : Table → Context → Place → Member → List (Member × Index) → Outcome Kind
kind_of_elements table context place member elements = and_then (kind_among table member elements) (kind_accepted context place)

abbrev pub elements_as : List Frame → Common → List (MemberAt × Index) → List Virtual
elements_as frames common elements = virtual_elements common.place common.kind common.constant (elements_seen frames elements)
