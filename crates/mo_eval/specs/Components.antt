-- What is read of components: their conditions, their dimensions and the values of their bindings (Modelica Language Specification
-- 3.5, sections 4.4.2, 4.4.4, 4.8, 7.2.5 and 10.1).
--
-- All of it is resolved where its text stands, with what may be read one reference deeper.
use Rattle.std.specs.Prelude.{ℕ, ◌+◌, Bool, true, List, [], ◌∷◌, ◌++◌, map, drop, flat_map, length, take, Option, Some, None, Ok, if◌then◌else◌, nat_eq, slice_get}
use Rattle.mo_syntax.specs.Outcome.{Outcome, and_then, breaks}
use Rattle.mo_syntax.specs.declared.class.ComponentOf.{ComponentOf}
use Rattle.mo_syntax.specs.declared.class.Give.{Give}
use Rattle.mo_syntax.specs.declared.expr.Expr.{Expr, out-Expr}
use Rattle.mo_syntax.specs.declared.meaning.Kind.{Kind}
use Rattle.mo_syntax.specs.declared.place.Place.{Place}
use Rattle.mo_scope.specs.Rows.{Table, component_of}
use Rattle.mo_scope.specs.Frames.{Scope, Member}
use Rattle.mo_scope.specs.Parts.{Picked, picked}
use Rattle.mo_scope.specs.Names.{Child, child_of_member, scope_of_home}
use Rattle.mo_scope.specs.Sizes.{Sizes, declared_sizes, type_sizes}
use Rattle.mo_syntax.specs.declared.rules.TheConstants.{CONDITION_NOT_BOOLEAN, WRONG_TYPE, WRONG_EACH, WRONG_SIZE, NO_VALUE}
use Rattle.mo_typing.specs.Dims.{Dims, size}
use Rattle.mo_typing.specs.Kinds.{accepts}
use Rattle.mo_typing.specs.Indices.{Index, is_index, or_else}
use Rattle.mo_values.specs.Scalars.{Known, if_it_has}
use Rattle.mo_eval.specs.Virtuals.{Element, Ask, Reading, known_at}
use Rattle.mo_values.specs.Asked.{for_value, layered, any_kind, must_be_truth, fitted}
use Rattle.mo_eval.specs.Contexts.{whole_of, truth_of, read_element}
use Rattle.mo_eval.specs.References.{is_replaced}
use Rattle.mo_eval.specs.Resolving.{resolved_in}

abbrev pub place_of : Expr → Place
place_of e = (out-Expr e).place

-- what is read of the elements that an expression names
abbrev pub reader : Ask → Element → Outcome Known
reader ask = read_element ask is_replaced

-- ---- conditions

-- A condition is a scalar Boolean, else rule 40 is broken at it; it has a value, else rule 28.
abbrev pub condition_in : Table → Ask → Scope → Expr → Outcome Bool
condition_in table ask scope e =
    and_then (resolved_in table ask scope for_value e) (λ resolved.
    and_then (truth_of (reader ask) CONDITION_NOT_BOOLEAN (place_of e) resolved) (must_be_truth (place_of e)))

-- The condition of a component is that of its declaration.
abbrev pub is_there : Table → Ask → Member → Outcome Bool
is_there table ask member = there_by (component_of member.declares)
  where
    there_if : Option Expr → Outcome Bool
    there_if None = Ok true
    there_if (Some e) = condition_in table ask (scope_of_home member) e

    there_by : Option (ComponentOf Give) → Outcome Bool
    there_by None = Ok true
    there_by (Some component) = there_if component.condition

-- ---- how a binding fits

-- Of an expression that binds so many dimensions behind the pending indices: those dimensions.
abbrev pub dims_behind : Place → Index → ℕ → Dims → Outcome Dims
dims_behind place [] count [] = if nat_eq count 0 then Ok [] else breaks WRONG_TYPE place
dims_behind place (index ∷ indices) count [] = breaks WRONG_EACH place
dims_behind place indices count dims =
    if nat_eq (length indices + count) (length dims) then
    (if is_index (take (length indices) dims) indices then Ok (drop (length indices) dims) else breaks WRONG_SIZE place)
    else breaks WRONG_TYPE place

-- ---- bindings

-- the binding that is chosen for an element of a component
abbrev pub binding_of : Table → Member → Index → Outcome (Option Picked)
binding_of table member index = and_then (child_of_member table member index) (λ child. Ok (picked table child.sources []))

-- The value of a binding at its pending indices: of the wanted kind, and fitting.
abbrev pub value_in : Table → Ask → Kind → Picked → Outcome Known
value_in table ask kind binding =
    and_then (resolved_in table ask binding.scope for_value binding.value) (λ resolved.
    and_then (layered (λ got. accepts kind got (place_of binding.value)) (fitted (place_of binding.value) binding.pending) resolved.expression) (λ _.
    and_then (known_at (reader ask) resolved binding.pending) (λ known. Ok (if_it_has kind known))))

-- Without a binding an element is undecided; a constant that is replaced breaks rule 28 at the reference.
abbrev pub element_value : Table → Ask → Element → Outcome Known
element_value table ask element = and_then (binding_of table element.member element.index) value_by
  where
    value_by : Option Picked → Outcome Known
    value_by None = if is_replaced element then breaks NO_VALUE element.place else Ok None
    value_by (Some binding) = value_in table ask element.kind binding

-- ---- dimensions

-- a dimension that is written: a scalar Integer with a value from 0 to 4,294,967,295
abbrev pub written_dim : Table → Ask → Scope → Expr → Outcome ℕ
written_dim table ask scope e =
    and_then (resolved_in table ask scope for_value e) (λ resolved.
    and_then (whole_of (reader ask) (place_of e) resolved) (λ n. size (place_of e, n)))

-- the dimensions of the binding, behind the indices that are pending for the whole component; without one rule 28 at its name
abbrev pub binding_dims : Table → Ask → Member → ℕ → Outcome Dims
binding_dims table ask member count = and_then (binding_of table member []) dims_by
  where
    dims_in : Picked → Outcome Dims
    dims_in binding =
        and_then (resolved_in table ask binding.scope for_value binding.value) (λ resolved.
        layered any_kind (dims_behind (place_of binding.value) binding.pending count) resolved.expression)

    dims_by : Option Picked → Outcome Dims
    dims_by None = breaks NO_VALUE member.declares.place
    dims_by (Some binding) = dims_in binding

-- The dimension at a place, counted from 0: as written, or for `:` that of the same place in the binding.
abbrev pub dim_at : Table → Ask → Outcome Dims → Scope → ℕ → Option Expr → Outcome ℕ
dim_at table ask bound scope place (Some e) = written_dim table ask scope e
dim_at table ask bound scope place None = and_then bound (λ dims. Ok (or_else (slice_get dims place) 0))

abbrev pub dims_from : Table → Ask → Outcome Dims → ℕ → List (Scope × Option Expr) → Outcome Dims
dims_from table ask bound place [] = Ok []
dims_from table ask bound place (dim ∷ others) =
    and_then (dim_at table ask bound dim.0 place dim.1) (λ n.
    and_then (dims_from table ask bound (place + 1) others) (λ ns. Ok (n ∷ ns)))

abbrev pub each_dim : List Sizes → List (Scope × Option Expr)
each_dim sizes = flat_map (λ one. map (λ dim. (one.scope, dim)) one.subscripts) sizes

-- the dimensions of a component, then those of its type
abbrev pub dims_of_component : Table → Ask → Member → Outcome Dims
dims_of_component table ask member = and_then (child_of_member table member []) dims_by
  where
    dims_in : List (Scope × Option Expr) → Outcome Dims
    dims_in dims = dims_from table ask (binding_dims table ask member (length dims)) 0 dims

    dims_by : Child → Outcome Dims
    dims_by child = dims_in (each_dim (declared_sizes member child.redeclared ++ type_sizes table child.class))

-- ---- all that is read

abbrev pub reading_by : Table → Ask → Reading
reading_by table ask = record {
  is_there = is_there table ask;
  dims = dims_of_component table ask;
  value = element_value table ask;
}
