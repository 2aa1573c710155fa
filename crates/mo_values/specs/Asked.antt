-- How the parts of an expression are resolved, and what is asked of a resolved expression (Modelica Language Specification 3.5, sections
-- 3.7, 4.4 and 10.3 to 10.5): its kind, its dimensions and its subscripts, in this order.
use Rattle.std.specs.Prelude.{◌≡◌, ℕ, ℤ, Bool, true, false, ◌&&◌, List, [], ◌∷◌, length, Some, None, Ok, Err, if◌then◌else◌, nat_eq}
use Rattle.std.specs.List.{list_all}
use Rattle.mo_syntax.specs.Outcome.{Outcome, and_then, breaks}
use Rattle.mo_syntax.specs.declared.meaning.Kind.{Kind}
use Rattle.mo_syntax.specs.declared.meaning.Kind.TheVariants.{Whole as whole_kind, Truth as truth_kind}
use Rattle.mo_syntax.specs.declared.place.Broken.{Broken}
use Rattle.mo_syntax.specs.declared.place.Place.{Place}
use Rattle.mo_flat.specs.declared.array.ArrayExpr.{ArrayExpr}
use Rattle.mo_syntax.specs.declared.rules.TheConstants.{WRONG_TYPE, NO_VALUE, WRONG_EACH, WRONG_SIZE}
use Rattle.mo_typing.specs.Outcome.{each}
use Rattle.mo_typing.specs.Dims.{Dims, dims_of, is_scalar, scalars}
use Rattle.mo_typing.specs.Kinds.{kind_of}
use Rattle.mo_typing.specs.Indices.{Index, is_index}
use Rattle.mo_typing.specs.Subscripts.{Checked, every, fine, subscripts_of}
use Rattle.mo_values.specs.declared.context.Context.{Context}
use Rattle.mo_values.specs.declared.layers.Layered.{Layered}
use Rattle.mo_values.specs.declared.value.Scalar.TheVariants.{Whole, Truth}
use Rattle.mo_values.specs.Scalars.{Known}

-- ---- contexts

-- an expression that is read for its value, in no subscript
abbrev pub for_value : Context
for_value = record { flat = false; sized = false; last = None }

abbrev pub for_flat : Context
for_flat = record { flat = true; sized = false; last = None }

-- an operand, the argument of `size`, what is read for its value, and a subscript in a dimension of that size
abbrev pub operand : Context → Context
operand context = record { flat = context.flat; sized = false; last = context.last }

abbrev pub argument_of_size : Context → Context
argument_of_size context = record { flat = context.flat; sized = true; last = context.last }

abbrev pub read_in : Context → Context
read_in context = record { flat = false; sized = false; last = context.last }

abbrev pub subscript_of : ℕ → Context
subscript_of size = record { flat = false; sized = false; last = Some size }

-- ---- layers

-- Kinds, with the one that is wanted; dimensions, with what is made of them; subscripts.
abbrev pub layered : {A : Type 0} → (Kind → Checked) → (Dims → Outcome A) → ArrayExpr → Outcome A
layered wanted fit e =
    and_then (kind_of e) (λ kind.
    and_then (wanted kind) (λ _.
    and_then (dims_of e) (λ dims.
    and_then (fit dims) (λ fitted.
    and_then (subscripts_of e) (λ _. Ok fitted)))))

abbrev pub any_kind : Kind → Checked
any_kind kind = fine

-- what an expression has that breaks no rule of them
pub record IsLayered (e : ArrayExpr) (layers : Layered) : Type 0 where
  pub kind : kind_of e ≡ Ok layers.kind
  pub dims : dims_of e ≡ Ok layers.dims
  pub subscripts : subscripts_of e ≡ fine

-- it breaks one
abbrev pub BreaksLayers : ArrayExpr → Type 0
BreaksLayers e = (broken : Broken) × (layered any_kind (λ dims. Ok dims) e ≡ Err broken)

abbrev pub only_whole : Place → Kind → Checked
only_whole place whole_kind = fine
only_whole place kind = breaks WRONG_TYPE place

-- the rule is 33, or that of a condition
abbrev pub only_truth : ℕ → Place → Kind → Checked
only_truth rule place truth_kind = fine
only_truth rule place kind = breaks rule place

abbrev pub only_scalar : ℕ → Place → Dims → Checked
only_scalar rule place dims = if is_scalar dims then fine else breaks rule place

abbrev pub scalar_or_vector : Place → Dims → Outcome Dims
scalar_or_vector place [] = Ok []
scalar_or_vector place (n ∷ []) = Ok (n ∷ [])
scalar_or_vector place dims = breaks WRONG_TYPE place

-- ---- values

abbrev pub must_be_whole : Place → Known → Outcome ℤ
must_be_whole place (Some (Whole n)) = Ok n
must_be_whole place known = breaks NO_VALUE place

abbrev pub must_be_truth : Place → Known → Outcome Bool
must_be_truth place (Some (Truth b)) = Ok b
must_be_truth place known = breaks NO_VALUE place

-- ---- how a binding fits

-- Indices that are pending for an expression of these dimensions: a scalar breaks rule 23, another number of dimensions rule 33, an
-- index outside rule 31.
abbrev pub fitted : Place → Index → Dims → Checked
fitted place [] [] = fine
fitted place (index ∷ indices) [] = breaks WRONG_EACH place
fitted place indices dims =
    if nat_eq (length indices) (length dims) then (if is_index dims indices then fine else breaks WRONG_SIZE place) else breaks WRONG_TYPE place

-- ---- `div`, `mod` and `rem`

abbrev pub is_whole : Kind → Bool
is_whole whole_kind = true
is_whole kind = false

-- Kinds, dimensions and subscripts of the operands are asked where the call is resolved: two scalar Integers.
abbrev pub checked_operands : Place → List ArrayExpr → Checked
checked_operands place operands =
    and_then (each kind_of operands) (λ kinds.
    and_then (if nat_eq (length kinds) 2 && list_all is_whole kinds then fine else breaks WRONG_TYPE place) (λ _.
    and_then (each dims_of operands) (λ dims.
    and_then (scalars place dims) (λ _. every subscripts_of operands))))
