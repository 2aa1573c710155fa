-- What stands in the flat model for the names of an expression (Modelica Language Specification 3.5, sections 4.4.4, 5.3 and 10.5).
--
-- An element of an instance is a variable. A constant that is found through a class has no instance: its value stands in its place, or
-- the expression of its binding where no value is known.
use Rattle.std.specs.Prelude.{ℕ, zero, suc, ◌-◌, Bool, List, Option, Some, None, Ok, if◌then◌else◌, slice_get}
use Rattle.mo_syntax.specs.Outcome.{Outcome, and_then, breaks}
use Rattle.mo_syntax.specs.declared.expr.Expr.{Expr}
use Rattle.mo_syntax.specs.declared.meaning.Kind.{Kind}
use Rattle.mo_flat.specs.declared.expr.FlatExpr.{FlatExpr, FlatExpr-F, fold-FlatExpr}
use Rattle.mo_flat.specs.declared.expr.FlatExpr as flat
use Rattle.mo_scope.specs.Rows.{Table}
use Rattle.mo_scope.specs.Frames.{Indexed, Scope, at_of}
use Rattle.mo_scope.specs.Names.{path_below}
use Rattle.mo_scope.specs.Instances.{Chosen}
use Rattle.mo_syntax.specs.declared.rules.TheConstants.{OUTSIDE_PROFILE, NO_VALUE, REFERENCE_CHAIN_TOO_LONG}
use Rattle.mo_typing.specs.Outcome.{each}
use Rattle.mo_typing.specs.Dims.{Dims}
use Rattle.mo_typing.specs.Kinds.{accepts}
use Rattle.mo_typing.specs.Indices.{Index}
use Rattle.mo_typing.specs.Subscripts.{Checked}
use Rattle.mo_arrays.specs.Elements.{element_of}
use Rattle.mo_values.specs.declared.value.Scalar.{Scalar}
use Rattle.mo_values.specs.declared.value.Scalar.TheVariants.{Whole, Truth, Literal}
use Rattle.mo_values.specs.Scalars.{Known, has_values}
use Rattle.mo_eval.specs.Virtuals.{Element, Virtual, Component_element, Division, Resolved}
use Rattle.mo_values.specs.Asked.{layered, fitted}
use Rattle.mo_eval.specs.Components.{place_of, binding_of}
use Rattle.mo_eval.specs.Resolving.{literal_text}
use Rattle.mo_eval.specs.Values.{resolved, value_of_element}

-- What stands for an element of a component.
abbrev pub Replacing : Type 0
Replacing = Element → Outcome FlatExpr

-- ---- values

abbrev pub flat_value : Table → Scalar → FlatExpr
flat_value table (Whole n) = flat.Whole n
flat_value table (Truth b) = flat.Truth b
flat_value table (Literal class n) = flat.Literal (literal_text table class.0 n)

-- the value, or what stands in its place where none is known
abbrev pub value_or : Table → Outcome FlatExpr → Outcome Known → Outcome FlatExpr
value_or table other known = and_then known value_in
  where
    value_in : Known → Outcome FlatExpr
    value_in (Some scalar) = Ok (flat_value table scalar)
    value_in None = other

-- ---- variables

-- a part that is replaced, in a list
abbrev pub marked : Bool × Outcome FlatExpr → Outcome (Bool × FlatExpr)
marked part = and_then part.1 (λ e. Ok (part.0, e))

abbrev pub on_two : (FlatExpr → FlatExpr → FlatExpr) → Outcome FlatExpr → Outcome FlatExpr → Outcome FlatExpr
on_two join a b = and_then a (λ a. and_then b (λ b. Ok (join a b)))

abbrev pub branch_of : Outcome FlatExpr × Outcome FlatExpr → Outcome (FlatExpr × FlatExpr)
branch_of branch = and_then branch.0 (λ condition. and_then branch.1 (λ value. Ok (condition, value)))

abbrev pub in_list : (List FlatExpr → FlatExpr) → List (Outcome FlatExpr) → Outcome FlatExpr
in_list join parts = and_then (each (λ part. part) parts) (λ es. Ok (join es))

-- An expression with its variables replaced, from left to right.
abbrev pub replaced_node : (ℕ → Outcome FlatExpr) → FlatExpr-F (Outcome FlatExpr) → Outcome FlatExpr
replaced_node variable (FlatExpr-F.Whole n) = Ok (flat.Whole n)
replaced_node variable (FlatExpr-F.Decimal text) = Ok (flat.Decimal text)
replaced_node variable (FlatExpr-F.Str text) = Ok (flat.Str text)
replaced_node variable (FlatExpr-F.Truth b) = Ok (flat.Truth b)
replaced_node variable (FlatExpr-F.Literal text) = Ok (flat.Literal text)
replaced_node variable FlatExpr-F.Time = Ok flat.Time
replaced_node variable (FlatExpr-F.Var n order) = variable n
replaced_node variable (FlatExpr-F.Der inner) = and_then inner (λ e. Ok (flat.Der e))
replaced_node variable (FlatExpr-F.Sum terms) = and_then (each marked terms) (λ terms. Ok (flat.Sum terms))
replaced_node variable (FlatExpr-F.Product factors) = and_then (each marked factors) (λ factors. Ok (flat.Product factors))
replaced_node variable (FlatExpr-F.Power base exponent) = on_two flat.Power base exponent
replaced_node variable (FlatExpr-F.Call function args) = in_list (flat.Call function) args
replaced_node variable (FlatExpr-F.Relation op left right) = on_two (flat.Relation op) left right
replaced_node variable (FlatExpr-F.Not inner) = and_then inner (λ e. Ok (flat.Not e))
replaced_node variable (FlatExpr-F.All parts) = in_list flat.All parts
replaced_node variable (FlatExpr-F.Any parts) = in_list flat.Any parts
replaced_node variable (FlatExpr-F.If branches other) =
    and_then (each branch_of branches) (λ branches. and_then other (λ other. Ok (flat.If branches other)))

abbrev pub with_variables : (ℕ → Outcome FlatExpr) → FlatExpr → Outcome FlatExpr
with_variables variable = fold-FlatExpr (Outcome FlatExpr) (replaced_node variable)

-- What a virtual variable becomes. An expression for the flat model has no call of `div`, `mod` or `rem` among them: each was replaced
-- by its value.
abbrev pub of_virtual : Replacing → Virtual → Outcome FlatExpr
of_virtual replace (Component_element element) = replace element
of_virtual replace (Division place function a b) = breaks OUTSIDE_PROFILE place

abbrev pub of_variable : Replacing → List Virtual → ℕ → Outcome FlatExpr
of_variable replace virtuals n = of_option (slice_get virtuals (n - 1))
  where
    of_option : Option Virtual → Outcome FlatExpr
    of_option (Some virtual) = of_virtual replace virtual
    of_option None = Ok (flat.Var 0 0)

-- the element of a resolved expression at an index, in the flat model
abbrev pub flat_element : Replacing → Resolved → Index → Outcome FlatExpr
flat_element replace e index = with_variables (of_variable replace e.virtuals) (element_of e.expression index)

-- ---- expressions

-- An expression with so many references left: all that resolving it asks; its kinds, with the wanted one; its dimensions, and how they
-- fit; its subscripts; then its element at an index.
abbrev pub flat_at : Table → ℕ → Replacing → (Kind → Checked) → (Dims → Checked) → Scope → Expr → Index → Outcome FlatExpr
flat_at table left replace wanted fit scope e index =
    and_then (resolved table left scope e) (λ resolved.
    and_then (layered wanted fit resolved.expression) (λ _. flat_element replace resolved index))

-- what is chosen for a binding or an attribute of a kind, at its pending indices
abbrev pub flat_chosen : Table → ℕ → Replacing → Kind → (Dims → Checked) → Chosen → Outcome FlatExpr
flat_chosen table left replace kind fit chosen =
    flat_at table left replace (λ got. accepts kind got (place_of chosen.value)) fit chosen.scope chosen.value chosen.pending

-- ---- constants without an instance

-- The binding of an element without an instance, with so many references left: its value, where its kind has values and one is known,
-- else its expression. Without a binding rule 28 is broken at the reference.
abbrev pub constant_by : Table → ℕ → Replacing → Replacing
constant_by table left replace element = value_or table expression known
  where
    known : Outcome Known
    known = if has_values element.kind then value_of_element table left element else Ok None

    expression_of : Option Chosen → Outcome FlatExpr
    expression_of None = breaks NO_VALUE element.place
    expression_of (Some binding) =
        flat_chosen table left replace element.kind (fitted (place_of binding.value) binding.pending) binding

    expression : Outcome FlatExpr
    expression = and_then (binding_of table element.member element.index) expression_of

-- the variable at the path of an element; where it has no path, what replaces it
abbrev pub standing : (Indexed → ℕ) → Replacing → Replacing
standing number replace element = standing_at (path_below (at_of element.member.home) element.member.name element.index)
  where
    standing_at : Option Indexed → Outcome FlatExpr
    standing_at (Some path) = Ok (flat.Var (number path) 0)
    standing_at None = replace element

-- A constant is read by a reference: where no more may be read, one within the other, rule 29 is broken there.
unfoldable pub constant : Table → (Indexed → ℕ) → ℕ → Replacing
constant table number zero element = breaks REFERENCE_CHAIN_TOO_LONG element.place
constant table number (suc left) element = constant_by table left (standing number (constant table number left)) element

-- what stands for the elements that are named by an expression with so many references left
abbrev pub flat_variable : Table → (Indexed → ℕ) → ℕ → Replacing
flat_variable table number left = standing number (constant table number left)
