-- Nodes that are made of resolved parts (Modelica Language Specification 3.5, sections 3.4, 3.6, 3.7 and 10.3 to 10.6).
use Rattle.std.specs.Prelude.{ℕ, pos, Bool, true, false, ◌&&◌, ◌||◌, not, List, [], ◌∷◌, Option, Some, None, Ok, if◌then◌else◌, nat_eq, nat_lt}
use Rattle.std.specs.List.{list_all}
use Rattle.mo_syntax.specs.Outcome.{Outcome, breaks}
use Rattle.mo_syntax.specs.declared.meaning.Kind.{Kind}
use Rattle.mo_syntax.specs.declared.meaning.Kind.TheVariants.{Str as string_kind}
use Rattle.mo_syntax.specs.declared.place.Place.{Place}
use Rattle.mo_syntax.specs.declared.rules.TheConstants.{OUTSIDE_PROFILE, WRONG_TYPE, NO_VALUE}
use Rattle.mo_tables.specs.declared.functions.TheConstants.{IDENTITY}
use Rattle.mo_flat.specs.declared.array.ArrayExpr.{ArrayExpr, roll-ArrayExpr}
use Rattle.mo_flat.specs.declared.array.ArrayNode.{ArrayNode}
use Rattle.mo_flat.specs.declared.array.ArrayNode.TheVariants.{Whole, Sum, Power, If, Range, Der}
use Rattle.mo_typing.specs.Dims.{Dims, dims_of}
use Rattle.mo_typing.specs.Kinds.{kind_of}
use Rattle.mo_values.specs.declared.context.Context.{Context}
use Rattle.mo_values.specs.declared.value.Scalar.{Scalar}
use Rattle.mo_values.specs.declared.value.Scalar.TheVariants.{Whole as whole_scalar}
use Rattle.mo_values.specs.Scalars.{Known}

-- `identity` takes one size, `zeros` and `ones` at least one
abbrev pub takes : ℕ → ℕ → Bool
takes function count = if nat_eq function IDENTITY then nat_eq count 1 else nat_lt 0 count

abbrev pub known_number : Place → Known → Outcome ArrayNode
known_number place (Some (whole_scalar n)) = Ok (Whole n)
known_number place known = breaks OUTSIDE_PROFILE place

abbrev pub derivative_of : Place → List ArrayExpr → Outcome ArrayNode
derivative_of place (argument ∷ []) = Ok (Der argument)
derivative_of place arguments = breaks WRONG_TYPE place

abbrev pub is_string : Outcome Kind → Bool
is_string (Ok string_kind) = true
is_string outcome = false

abbrev pub is_joined : Bool × Bool × ArrayExpr → Bool
is_joined term = not (term.0 || term.1) && is_string (kind_of term.2)

-- Two or more Strings that are joined by `+` alone are a form that is left out.
abbrev pub is_string_sum : List (Bool × Bool × ArrayExpr) → Bool
is_string_sum [] = false
is_string_sum (term ∷ []) = false
is_string_sum (term ∷ next ∷ terms) = list_all is_joined (term ∷ next ∷ terms)

abbrev pub sum_of : Place → List (Bool × Bool × ArrayExpr) → Outcome ArrayNode
sum_of place terms = if is_string_sum terms then breaks OUTSIDE_PROFILE place else Ok (Sum terms)

-- A power of a matrix is a form that is left out.
abbrev pub is_matrix : Outcome Dims → Bool
is_matrix (Ok (n ∷ m ∷ [])) = true
is_matrix outcome = false

abbrev pub power_of : Place → ArrayExpr → Bool → ArrayExpr → Outcome ArrayNode
power_of place base dotted exponent = if not dotted && is_matrix (dims_of base) then breaks OUTSIDE_PROFILE place else Ok (Power base dotted exponent)

-- Where one of them is undecided, rule 28 is broken at the range.
abbrev pub range_of : Place → Known → Known → Known → Outcome ArrayNode
range_of place (Some (Scalar.Whole first)) (Some (Scalar.Whole step)) (Some (Scalar.Whole last)) = Ok (Range first step last)
range_of place first step last = breaks NO_VALUE place

-- the branches that are left with the value of the last one
abbrev pub Choice : Type 0
Choice = List (ArrayExpr × ArrayExpr) × ArrayExpr

-- Where no condition is left, the expression is what its last branch is.
abbrev pub chosen : Place → Choice → ArrayExpr
chosen place ([], other) = other
chosen place (branch ∷ branches, other) = roll-ArrayExpr (record { place = place; node = If (branch ∷ branches) other })

-- `end` is the size of the dimension whose subscript it stands in
abbrev pub made_end : Context → Place → Outcome ArrayNode
made_end context place = end_of context.last
  where
    end_of : Option ℕ → Outcome ArrayNode
    end_of None = breaks OUTSIDE_PROFILE place
    end_of (Some size) = Ok (Whole (pos size))
