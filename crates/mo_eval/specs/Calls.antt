-- Calls (Modelica Language Specification 3.5, sections 3.7 and 10.3).
--
-- The function is looked up first, then forms that are left out are refused, then the arguments are resolved.
use Rattle.std.specs.Prelude.{ℕ, ℤ, Bool, not, List, [], ◌∷◌, map, length, Option, Some, None, Ok, if◌then◌else◌, nat_eq}
use Rattle.std.specs.List.{list_all}
use Rattle.mo_syntax.specs.Outcome.{Outcome, and_then, breaks}
use Rattle.mo_syntax.specs.declared.expr.CalleeOf.{CalleeOf}
use Rattle.mo_syntax.specs.declared.expr.CalleeOf.TheVariants.{Named, Der as der, Initial, Pure}
use Rattle.mo_syntax.specs.declared.expr.ReferenceOf.{ReferenceOf}
use Rattle.mo_syntax.specs.declared.expr.PartOf.{PartOf}
use Rattle.mo_syntax.specs.declared.meaning.Kind.TheVariants.{Whole as whole_kind}
use Rattle.mo_syntax.specs.declared.place.Place.{Place}
use Rattle.mo_syntax.specs.declared.rules.TheConstants.{OUTSIDE_PROFILE, WRONG_KIND_OF_NAME, WRONG_TYPE}
use Rattle.mo_tables.specs.declared.functions.TheConstants.{DIV, FILL, IDENTITY, MOD, NDIMS, ONES, REM, SIZE, ZEROS}
use Rattle.mo_flat.specs.declared.array.ArrayExpr.{ArrayExpr}
use Rattle.mo_flat.specs.declared.array.ArrayNode.{ArrayNode}
use Rattle.mo_flat.specs.declared.array.ArrayNode.TheVariants.{Vars, Call, Size, Sized}
use Rattle.mo_scope.specs.Rows.{Table}
use Rattle.mo_scope.specs.Frames.{Scope}
use Rattle.mo_scope.specs.Lookup.{Found, Class, Function}
use Rattle.mo_scope.specs.Names.{found_reference}
use Rattle.mo_scope.specs.Sizes.{is_nothing}
use Rattle.mo_typing.specs.Outcome.{each}
use Rattle.mo_typing.specs.Kinds.{is_among}
use Rattle.mo_values.specs.Scalars.{Known, division}
use Rattle.mo_eval.specs.Virtuals.{Element, Virtual, Division, Making, make, make_then, make_from, make_each, make_variables, known_at}
use Rattle.mo_values.specs.declared.context.Context.{Context}
use Rattle.mo_eval.specs.Contexts.{Part, alone, place_of, whole_of}
use Rattle.mo_values.specs.Asked.{operand, argument_of_size, read_in, checked_operands}
use Rattle.mo_eval.specs.References.{identifier}
use Rattle.mo_values.specs.Made.{takes, derivative_of, known_number}

-- ---- the function

abbrev pub last_identifier : List (PartOf Part) → Place
last_identifier [] = record { file = 0; byte = 0 }
last_identifier (part ∷ []) = part.place
last_identifier (part ∷ next ∷ parts) = last_identifier (next ∷ parts)

abbrev pub has_subscripts : List (PartOf Part) → Bool
has_subscripts parts = not (list_all (λ part. is_nothing part.subs) parts)

-- A class is a form that is left out, and so is a function with subscripts; what is neither breaks rule 13.
abbrev pub function_found : Place → ReferenceOf Part → Found → Outcome ℕ
function_found place reference (Function code) = if has_subscripts reference.parts then breaks OUTSIDE_PROFILE place else Ok code
function_found place reference (Class frame replaceable) = breaks OUTSIDE_PROFILE place
function_found place reference found = breaks WRONG_KIND_OF_NAME (last_identifier reference.parts)

abbrev pub function_named : Table → Scope → Place → ReferenceOf Part → Outcome ℕ
function_named table scope place reference =
    and_then (found_reference table scope (record { top = reference.top; parts = map identifier reference.parts })) (function_found place reference)

-- the arguments, where none has a name, is a function, or is iterated
abbrev pub plain_arguments : Place → Option (List Part) → Outcome (List Part)
plain_arguments place None = breaks OUTSIDE_PROFILE place
plain_arguments place (Some arguments) = Ok arguments

-- ---- arguments

abbrev pub make_arguments : Context → List Part → Making (List ArrayExpr)
make_arguments context arguments = make_each (λ argument. argument.1 (operand context)) arguments

-- the sizes given to `fill`, `zeros`, `ones` and `identity`, and the number of a dimension, each with its place
abbrev pub read_size : (Element → Outcome Known) → Context → Part → Outcome (Place × ℤ)
read_size read context argument =
    and_then (alone argument (read_in context)) (λ resolved.
    and_then (whole_of read (place_of argument) resolved) (λ n. Ok (place_of argument, n)))

abbrev pub read_sizes : (Element → Outcome Known) → Context → List Part → Outcome (List (Place × ℤ))
read_sizes read context arguments = each (read_size read context) arguments

-- ---- functions of arrays

-- `size(A)` and `size(A, i)`
abbrev pub made_size : (Element → Outcome Known) → Context → Place → List Part → Making ArrayNode
made_size read context place [] = make_from (breaks WRONG_TYPE place)
made_size read context place (array ∷ []) =
    make_then (array.1 (argument_of_size context)) (λ array. make (Size array None))
made_size read context place (array ∷ number ∷ []) =
    make_then (array.1 (argument_of_size context)) (λ array.
    make_then (make_from (read_size read context number)) (λ number. make (Size array (Some number))))
made_size read context place (array ∷ number ∷ others) =
    make_then (array.1 (argument_of_size context)) (λ array.
    make_then (make_from (read_size read context number)) (λ number.
    make_then (make_arguments context others) (λ others. make_from (breaks WRONG_TYPE place))))

abbrev pub made_ndims : Context → Place → List Part → Making ArrayNode
made_ndims context place (array ∷ []) =
    make_then (array.1 (argument_of_size context)) (λ array. make (Call NDIMS (array ∷ [])))
made_ndims context place arguments =
    make_then (make_arguments context arguments) (λ arguments. make_from (breaks WRONG_TYPE place))

abbrev pub made_fill : (Element → Outcome Known) → Context → Place → List Part → Making ArrayNode
made_fill read context place [] = make_from (breaks WRONG_TYPE place)
made_fill read context place (filling ∷ sizes) =
    make_then (filling.1 (operand context)) (λ filling.
    make_then (make_from (read_sizes read context sizes)) (λ sizes.
    if is_nothing sizes then make_from (breaks WRONG_TYPE place) else make (Sized FILL (Some filling) sizes)))

abbrev pub made_sized : (Element → Outcome Known) → Context → Place → ℕ → List Part → Making ArrayNode
made_sized read context place function arguments =
    make_then (make_from (read_sizes read context arguments)) (λ sizes.
    if takes function (length sizes) then make (Sized function None sizes) else make_from (breaks WRONG_TYPE place))

-- ---- `div`, `mod` and `rem`

abbrev pub known_of_operands : (Element → Outcome Known) → Place → ℕ → List ArrayExpr → List Virtual → Outcome Known
known_of_operands read place function (a ∷ b ∷ []) virtuals =
    and_then (known_at read (record { expression = a; virtuals = virtuals }) []) (λ a.
    and_then (known_at read (record { expression = b; virtuals = virtuals }) []) (λ b. division place function a b))
known_of_operands read place function operands virtuals = breaks WRONG_TYPE place

-- In an expression for the flat model the value is in place of the call; where it is undecided, rule 34 is broken.
abbrev pub value_of_division : (Element → Outcome Known) → Context → Place → ℕ → List Part → Outcome ArrayNode
value_of_division read context place function arguments =
    and_then (make_arguments (read_in context) arguments []) (λ made.
    and_then (checked_operands place made.0) (λ _.
    and_then (known_of_operands read place function made.0 made.1) (known_number place)))

abbrev pub division_variable : Place → ℕ → List ArrayExpr → Making ArrayNode
division_variable place function (a ∷ b ∷ []) =
    make_then (make_variables (Division place function a b ∷ [])) (λ variables. make (Vars variables whole_kind [] []))
division_variable place function operands = make_from (breaks WRONG_TYPE place)

abbrev pub made_division : (Element → Outcome Known) → Context → Place → ℕ → List Part → Making ArrayNode
made_division read context place function arguments =
    if context.flat then make_from (value_of_division read context place function arguments) else
    make_then (make_arguments (read_in context) arguments) (λ operands.
    make_then (make_from (checked_operands place operands)) (λ _. division_variable place function operands))

-- ---- all functions

abbrev pub made_function : (Element → Outcome Known) → Context → Place → ℕ → List Part → Making ArrayNode
made_function read context place function arguments =
    if nat_eq function SIZE then made_size read context place arguments else
    (if nat_eq function NDIMS then made_ndims context place arguments else
    (if nat_eq function FILL then made_fill read context place arguments else
    (if is_among (IDENTITY ∷ ONES ∷ ZEROS ∷ []) function then made_sized read context place function arguments else
    (if is_among (DIV ∷ MOD ∷ REM ∷ []) function then made_division read context place function arguments else
    make_then (make_arguments context arguments) (λ arguments. make (Call function arguments))))))

-- a call by its function and its arguments, none where they are of a form that is left out
abbrev pub made_call : Table → Scope → (Element → Outcome Known) → Context → Place → CalleeOf Part → Option (List Part) → Making ArrayNode
made_call table scope read context place (Named reference) arguments =
    make_then (make_from (function_named table scope place reference)) (λ function.
    make_then (make_from (plain_arguments place arguments)) (λ arguments.
    made_function read context place function arguments))
made_call table scope read context place der arguments =
    make_then (make_from (plain_arguments place arguments)) (λ arguments.
    make_then (make_arguments context arguments) (λ arguments. make_from (derivative_of place arguments)))
made_call table scope read context place Initial arguments = make_from (breaks OUTSIDE_PROFILE place)
made_call table scope read context place Pure arguments = make_from (breaks OUTSIDE_PROFILE place)
