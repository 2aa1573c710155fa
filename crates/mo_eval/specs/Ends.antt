-- What the ends of connects name and select (Modelica Language Specification 3.5, sections 4.4.5, 9.1, 9.3 and 10.5).
--
-- The names of an end are looked up and its subscripts are read as those of a reference in an expression. An end that names a component
-- which its condition removes is removed, and nothing behind that component is asked.
use Rattle.std.specs.Prelude.{Bool, true, false, List, [], ◌∷◌, map, Option, Some, None, Ok, Err, option_map, if◌then◌else◌, nat_eq}
use Rattle.mo_syntax.specs.Outcome.{Outcome, and_then, breach}
use Rattle.mo_syntax.specs.declared.expr.Expr.{Expr}
use Rattle.mo_syntax.specs.declared.expr.PartOf.{PartOf}
use Rattle.mo_syntax.specs.declared.expr.ReferenceOf.{ReferenceOf}
use Rattle.mo_syntax.specs.declared.place.Broken.{Broken}
use Rattle.mo_syntax.specs.declared.place.Place.{Place}
use Rattle.mo_flat.specs.declared.array.Subscript.{Subscript}
use Rattle.mo_scope.specs.Rows.{Table}
use Rattle.mo_scope.specs.Frames.{Frame, Scope, Member}
use Rattle.mo_scope.specs.Places.{Every}
use Rattle.mo_scope.specs.Worlds.{World, frames_of}
use Rattle.mo_names.specs.Sights.{IsMember, member_of}
use Rattle.mo_typing.specs.Dims.{Dims}
use Rattle.mo_typing.specs.Indices.{Index}
use Rattle.mo_eval.specs.declared.ends.Ended.{Ended as EndedAt}
use Rattle.mo_eval.specs.declared.ends.Ended.TheVariants.{Removed, Other, Selected as selected_at}
use Rattle.mo_eval.specs.Virtuals.{Reading}
use Rattle.mo_eval.specs.Contexts.{Part}
use Rattle.mo_eval.specs.References.{Named, Components, Selection, named, selections, elements_selected, handed_in}
use Rattle.mo_eval.specs.Components.{reader}
use Rattle.mo_eval.specs.Resolving.{made}
use Rattle.mo_eval.specs.Values.{most_references, reading}

-- the place of a name is that of its first identifier
abbrev pub first_identifier : {E : Type 0} → List (PartOf E) → Place
first_identifier [] = record { file = 0; byte = 0 }
first_identifier (part ∷ parts) = part.place

-- ---- components that their conditions remove

-- Reading an end stops at a component that is removed. The mark of it is no rule: none has this number.
abbrev pub removed : Broken
removed = breach 0 (record { file = 0; byte = 0 })

abbrev pub or_removed : Bool → Outcome Bool
or_removed true = Ok true
or_removed false = Err removed

abbrev pub reading_of_end : Reading → Reading
reading_of_end reading = record {
  is_there = λ member. and_then (reading.is_there member) or_removed;
  dims = reading.dims;
  value = reading.value;
}

-- None where a component is removed
abbrev pub unless_removed : {A : Type 0} → Outcome A → Outcome (Option A)
unless_removed (Ok a) = Ok (Some a)
unless_removed (Err broken) = if nat_eq broken.rule 0 then Ok None else Err broken

-- ---- what an end selects

-- a name with its subscripts, each with how it is resolved
abbrev pub with_parts : Table → Scope → ReferenceOf Expr → ReferenceOf Part
with_parts table scope reference = record { top = reference.top; parts = map part_of reference.parts }
  where
    resolving : Expr → Part
    resolving e = (e, made table (reading table most_references) scope e)

    part_of : PartOf Expr → PartOf Part
    part_of part = record { name = part.name; place = part.place; subs = map (option_map resolving) part.subs }

-- What the identifiers of an end select, and the elements of its last component.
pub record Selected : Type 0 where
  pub chosen : List Selection
  pub elements : List (Member × Index)

abbrev pub selected_from : Table → Place → Member × PartOf Part → List (Member × PartOf Part) → Outcome Selected
selected_from table place first others =
    and_then (reading table most_references place) (λ read.
    and_then (selections table (reading_of_end read) (reader (reading table most_references)) (Some first.0) (first ∷ others)) (λ chosen.
    and_then (elements_selected table (reading_of_end read) place first.0 chosen) (λ elements.
    Ok (record { chosen = chosen; elements = elements }))))

-- A component that is removed; no component; or the dimensions and subscripts that the end hands in, with the elements that it selects.
pub data Ended : Type 0 where
  Is_removed : Ended
  Is_other : Ended
  Selects : Dims → List Subscript → List (Member × Index) → Ended

abbrev pub ended_by : Option Selected → Ended
ended_by None = Is_removed
ended_by (Some selected) = Selects (handed_in selected.chosen).0 (handed_in selected.chosen).1 selected.elements

abbrev pub ended_in : Table → Place → Named → Outcome Ended
ended_in table place (Components (first ∷ others)) = and_then (unless_removed (selected_from table place first others)) (λ selected. Ok (ended_by selected))
ended_in table place other = Ok Is_other

-- an end: its names are looked up, then its conditions, dimensions and subscripts are asked
abbrev pub ended_of : Table → Scope → ReferenceOf Expr → Outcome Ended
ended_of table scope reference =
    and_then (named table scope (with_parts table scope reference)) (ended_in table (first_identifier reference.parts))

-- ---- as the code holds it

abbrev pub ended_seen : List Frame → EndedAt → Ended
ended_seen frames Removed = Is_removed
ended_seen frames Other = Is_other
ended_seen frames (selected_at selected) = Selects selected.dims selected.subs (map (λ element. (member_of frames element.0, element.1)) selected.elements)

-- in a world, whose frames have the numbers
abbrev pub ended_at : World → EndedAt → Ended
ended_at world = ended_seen (frames_of world)

-- the components of the elements exist
abbrev pub IsEnded : World → EndedAt → Type 0
IsEnded world (selected_at selected) = Every (λ element. IsMember world element.0) selected.elements
IsEnded world ended = Unit {0}
