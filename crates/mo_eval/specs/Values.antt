-- The values and the sizes of expressions (Modelica Language Specification 3.5, sections 3.3 to 3.8, 4.4.4 and chapter 10).
--
-- The number `left` tells how many references may still be read, one within the other: 256 at first. A reference is read while its
-- conditions, its dimensions and its value are.
use Rattle.std.specs.Prelude.{ℕ, zero, suc, Bool, List, [], Ok}
use Rattle.mo_syntax.specs.Outcome.{Outcome, and_then, breaks}
use Rattle.mo_syntax.specs.declared.expr.Expr.{Expr}
use Rattle.mo_syntax.specs.declared.meaning.Kind.{Kind}
use Rattle.mo_flat.specs.declared.array.ArrayExpr.{ArrayExpr}
use Rattle.mo_scope.specs.Rows.{Table}
use Rattle.mo_scope.specs.Frames.{Scope, Member}
use Rattle.mo_syntax.specs.declared.rules.TheConstants.{REFERENCE_CHAIN_TOO_LONG}
use Rattle.mo_typing.specs.Dims.{Dims}
use Rattle.mo_typing.specs.Kinds.{kind_of}
use Rattle.mo_typing.specs.Indices.{Index}
use Rattle.mo_values.specs.declared.value.Value.{Value}
use Rattle.mo_values.specs.Scalars.{Known, if_it_has, value_with}
use Rattle.mo_eval.specs.Virtuals.{Element, Virtual, Ask, Resolved, make, make_then, known_at}
use Rattle.mo_values.specs.Asked.{for_value, for_flat, layered, any_kind, fitted}
use Rattle.mo_eval.specs.Resolving.{made, resolved_in}
use Rattle.mo_eval.specs.Components.{place_of, reader, reading_by, is_there, dims_of_component, element_value}

-- What a reference may ask for: where no more references may be read, rule 29 is broken at it.
unfoldable pub reading : Table → ℕ → Ask
reading table zero place = breaks REFERENCE_CHAIN_TOO_LONG place
reading table (suc left) place = Ok (reading_by table (reading table left))

abbrev pub most_references : ℕ
most_references = 256

-- an expression of the flat model, resolved in a scope
abbrev pub resolved : Table → ℕ → Scope → Expr → Outcome Resolved
resolved table left scope e = resolved_in table (reading table left) scope for_flat e

-- an expression that is read for its value
abbrev pub resolved_for_value : Table → ℕ → Scope → Expr → Outcome Resolved
resolved_for_value table left scope e = resolved_in table (reading table left) scope for_value e

-- two sides of an equation of the flat model, resolved over one list of variables, the left one first
abbrev pub sides_of : Table → Scope → Expr → Expr → Outcome ((ArrayExpr × ArrayExpr) × List Virtual)
sides_of table scope left right =
    make_then (made table (reading table most_references) scope left for_flat) (λ first.
    make_then (made table (reading table most_references) scope right for_flat) (λ second. make (first, second)))
    []

-- what is known of a resolved expression at an index
abbrev pub known_of : Table → ℕ → Resolved → Index → Outcome Known
known_of table left resolved index = known_at (reader (reading table left)) resolved index

-- the value of a resolved expression of that kind at an index
abbrev pub value_at : Table → ℕ → Resolved → Index → Kind → Outcome Value
value_at table left resolved index kind =
    and_then (known_of table left resolved index) (λ known. Ok (value_with kind (if_it_has kind known)))

-- The value of an expression at its pending indices: what is asked to resolve it, its kinds, its dimensions and how they fit, its
-- subscripts, then the value.
abbrev pub value_of : Table → ℕ → Scope → Expr → Index → Outcome Value
value_of table left scope e index =
    and_then (resolved_for_value table left scope e) (λ resolved.
    and_then (layered any_kind (fitted (place_of e) index) resolved.expression) (λ _.
    and_then (kind_of resolved.expression) (value_at table left resolved index)))

-- the dimensions of an expression
abbrev pub sizes_of : Table → ℕ → Scope → Expr → Outcome Dims
sizes_of table left scope e =
    and_then (resolved_for_value table left scope e) (λ resolved. layered any_kind (λ dims. Ok dims) resolved.expression)

-- whether a component is there, its dimensions, and the value of an element, each with so many references left
abbrev pub there_of : Table → ℕ → Member → Outcome Bool
there_of table left member = is_there table (reading table left) member

abbrev pub component_dims : Table → ℕ → Member → Outcome Dims
component_dims table left member = dims_of_component table (reading table left) member

abbrev pub value_of_element : Table → ℕ → Element → Outcome Known
value_of_element table left element = element_value table (reading table left) element
