-- Calls by their arguments: words of the contracts inside this crate alone.
use Rattle.std.specs.Prelude.{◌≡◌, ℤ, Bool, true, false, if◌then◌else◌, Ok, List, [], ◌∷◌, map, Option, Some, None}
use Rattle.mo_syntax.specs.Outcome.{Outcome, breaks}
use Rattle.mo_syntax.specs.declared.expr.Arg.{Arg}
use Rattle.mo_syntax.specs.declared.expr.Expr.{Expr}
use Rattle.mo_syntax.specs.declared.place.Place.{Place}
use Rattle.mo_syntax.specs.declared.rules.TheConstants.{WRONG_TYPE}
use Rattle.mo_tables.specs.declared.functions.TheConstants.{FILL}
use Rattle.mo_flat.specs.declared.array.ArrayExpr.{ArrayExpr}
use Rattle.mo_flat.specs.declared.array.ArrayNode.{ArrayNode}
use Rattle.mo_flat.specs.declared.array.ArrayNode.TheVariants.{Sized}
use Rattle.mo_scope.specs.Rows.{Table}
use Rattle.mo_scope.specs.Frames.{Scope}
use Rattle.mo_scope.specs.Sizes.{is_nothing}
use Rattle.mo_values.specs.declared.context.Context.{Context}
use Rattle.mo_values.specs.Scalars.{Known}
use Rattle.mo_eval.specs.Virtuals.{Ask, Element, Making, make, make_then, make_from}
use Rattle.mo_eval.specs.Contexts.{Part}
use Rattle.mo_eval.specs.Calls.{make_arguments, read_size}
use Rattle.mo_values.specs.Made.{derivative_of}
use Rattle.mo_eval.specs.Resolving.{all_arguments}
use Rattle.mo_eval.specs.steps.Parts.{as_part, made_argument}

-- what stands behind the array that `size` is given
abbrev pub number_of_size : (Element → Outcome Known) → Context → Place → List Part → Making (Option (Place × ℤ))
number_of_size read context place [] = make None
number_of_size read context place (number ∷ []) = make_then (make_from (read_size read context number)) (λ n. make (Some n))
number_of_size read context place (number ∷ other ∷ others) =
    make_then (make_from (read_size read context number)) (λ n.
    make_then (make_arguments context (other ∷ others)) (λ made. make_from (breaks WRONG_TYPE place)))

abbrev pub made_derivative : Context → Place → List Part → Making ArrayNode
made_derivative context place arguments = make_then (make_arguments context arguments) (λ made. make_from (derivative_of place made))

-- arguments, where each is an expression
abbrev pub plain : Table → Ask → Scope → List Arg → Option (List Part)
plain table ask scope args = all_arguments (map (λ a. (a, made_argument table ask scope a)) args)

-- the first argument and those behind it
pub record IsFirst (table : Table) (ask : Ask) (scope : Scope) (e : Expr) (args : List Arg) (parts : List Part) : Type 0 where
  pub others : List Part
  pub is : parts ≡ as_part table ask scope e ∷ others
  pub rest : plain table ask scope args ≡ Some others

-- whether it is one argument
abbrev pub is_lone : List Part → Bool
is_lone (part ∷ []) = true
is_lone parts = false

-- `fill` with its sizes
abbrev pub filled_with : Place → ArrayExpr → List (Place × ℤ) → Outcome ArrayNode
filled_with place filling sizes = if is_nothing sizes then breaks WRONG_TYPE place else Ok (Sized FILL (Some filling) sizes)
