-- The value of a resolved expression at an index (Modelica Language Specification 3.5, sections 3.3 to 3.8, 10.3, 10.4 and 10.6).
--
-- Operands are read from left to right, before their operation, and only the elements that the index needs. An operation acts on what
-- they give; Integer arithmetic that leaves 64 bits breaks rule 30 at the operation.
use Rattle.std.specs.Prelude.{◌≡◌, ℕ, ◌-◌, ℤ, pos, Bool, true, false, ◌&&◌, ◌||◌, List, [], ◌∷◌, ◌++◌, map, fold, length, take, drop, Option, Some, None, Ok, Err, if◌then◌else◌, nat_eq, slice_get}
use Rattle.mo_syntax.specs.Outcome.{Outcome, and_then}
use Rattle.mo_syntax.specs.declared.meaning.Kind.{Kind}
use Rattle.mo_syntax.specs.declared.meaning.Kind.TheVariants.{Real}
use Rattle.mo_syntax.specs.declared.place.Place.{Place}
use Rattle.mo_tables.specs.declared.functions.TheConstants.{ABS, CROSS, IDENTITY, MAX, MIN, NDIMS, NO_EVENT, ONES, PRODUCT, SUM, TRANSPOSE}
use Rattle.mo_flat.specs.declared.array.ArrayExpr.{ArrayExpr, ArrayExpr-F, para-ArrayExpr}
use Rattle.mo_flat.specs.declared.array.ArrayNode.{ArrayNode, ArrayNode-F, para-ArrayNode}
use Rattle.mo_typing.specs.Dims.{Dims}
use Rattle.mo_typing.specs.Kinds.{kind_of_node}
use Rattle.mo_typing.specs.Shape.{Operand, shape_of, or_scalar, size_of, is_matrix_factor, swapped}
use Rattle.mo_typing.specs.Shape.{multiplied as multiplied_dims}
use Rattle.mo_typing.specs.Indices.{Index, numbers_to, indices, own, or_else, first_number, located, variable_at, range_element, is_diagonal}
use Rattle.mo_values.specs.declared.value.Scalar.TheVariants.{Whole, Truth, Literal}
use Rattle.mo_values.specs.declared.value.Reckoned.{Reckoned}
use Rattle.mo_values.specs.declared.value.Reckoned.TheVariants.{Unknown, Is}
use Rattle.mo_values.specs.Scalars.{Known, of_known, settled, sum_with, product_with, absolute_of, lesser_of, greater_of, related, negated, read_all, chained}

-- an expression with what is known of its elements
abbrev pub Part : Type 0
Part = ArrayExpr × (Index → Outcome Known)

-- a scalar stands beside each element of an array
abbrev pub at : Part → Index → Outcome Known
at part index = part.1 (own (shape_of part.0) index)

abbrev pub number : ℕ → Reckoned
number n = Is (Whole (pos n))

-- both are read, the first one first
abbrev pub both : (Reckoned → Reckoned → Reckoned) → Outcome Reckoned → Outcome Reckoned → Outcome Reckoned
both operation a b = and_then a (λ a. and_then b (λ b. Ok (operation a b)))

abbrev pub result_at : Part → Index → Outcome Reckoned
result_at part index = and_then (at part index) (λ known. Ok (of_known known))

-- ---- sums and products

abbrev pub sum_at : Index → Outcome Reckoned → Bool × Bool × Part → Outcome Reckoned
sum_at index so_far term = both (sum_with term.0) so_far (result_at term.2 index)

abbrev pub sum_of : List (Outcome Reckoned) → Outcome Reckoned
sum_of results = fold (both (sum_with false)) (Ok (number 0)) results

abbrev pub product_of : List (Outcome Reckoned) → Outcome Reckoned
product_of results = fold (both (product_with false)) (Ok (number 1)) results

-- the elements of an array, the last index fastest
abbrev pub all_results : Part → List (Outcome Reckoned)
all_results part = map (λ index. and_then (part.1 index) (λ known. Ok (of_known known))) (indices (shape_of part.0))

-- A chain of factors so far: its dimensions, none before the first factor, and the product for an index.
pub record Chain : Type 0 where
  pub dims : Option Dims
  pub product : Index → Outcome Reckoned

-- whether it divides, whether its operator has a dot, and the expression
abbrev pub Factor : Type 0
Factor = Bool × Bool × Part

abbrev pub unbegun : Chain
unbegun = record { dims = None; product = λ index. Ok (number 1) }

abbrev pub operand_of : Factor → Operand
operand_of factor = (factor.0, factor.1, shape_of factor.2.0)

-- row of the left times column of the right
abbrev pub inner_product : Chain → Part → Index → Outcome Reckoned
inner_product chain part index = inner (length (or_scalar chain.dims) - 1)
  where
    inner : ℕ → Outcome Reckoned
    inner rows = sum_of (map (λ k. both (product_with false) (chain.product (take rows index ++ k ∷ [])) (result_at part (k ∷ drop rows index)))
        (numbers_to (first_number (shape_of part.0))))

-- A matrix factor makes sums of products; any other one acts on each element.
abbrev pub extended_product : Chain → Factor → Index → Outcome Reckoned
extended_product chain factor index =
    if is_matrix_factor chain.dims (operand_of factor) then
    inner_product chain factor.2 (own (or_scalar (multiplied_dims chain.dims (operand_of factor))) index)
    else both (product_with factor.0) (chain.product index) (result_at factor.2 index)

abbrev pub extended : Chain → Factor → Chain
extended chain factor = record { dims = multiplied_dims chain.dims (operand_of factor); product = extended_product chain factor }

abbrev pub chain_of : List Factor → Chain
chain_of factors = fold extended unbegun factors

-- ---- functions

-- a[j]*b[k] - a[k]*b[j]
abbrev pub crossed_at : Part → Part → ℕ → ℕ → Outcome Reckoned
crossed_at a b j k = both (sum_with true) (product j k) (product k j)
  where
    product : ℕ → ℕ → Outcome Reckoned
    product j k = both (product_with false) (result_at a (j ∷ [])) (result_at b (k ∷ []))

abbrev pub crossed : Part → Part → ℕ → Outcome Reckoned
crossed a b n = if nat_eq n 1 then crossed_at a b 2 3 else (if nat_eq n 2 then crossed_at a b 3 1 else crossed_at a b 1 2)

abbrev pub read_as : (Known → Reckoned) → Outcome Known → Outcome Reckoned
read_as f operand = and_then operand (λ known. Ok (f known))

abbrev pub undecided_behind : List (Outcome Known) → Outcome Reckoned
undecided_behind operands = and_then (read_all operands) (λ known. Ok Unknown)

abbrev pub call_of_one : ℕ → Part → Index → Outcome Reckoned
call_of_one function arg index =
    if nat_eq function NDIMS then Ok (number (length (shape_of arg.0))) else
    (if nat_eq function SUM then sum_of (all_results arg) else
    (if nat_eq function PRODUCT then product_of (all_results arg) else
    (if nat_eq function TRANSPOSE then read_as of_known (arg.1 (swapped index)) else
    (if nat_eq function ABS then read_as absolute_of (at arg index) else
    (if nat_eq function NO_EVENT then result_at arg index else undecided_behind (at arg index ∷ []))))))

abbrev pub on_both : (Known → Known → Known) → Outcome Known → Outcome Known → Outcome Reckoned
on_both operation a b = and_then a (λ a. and_then b (λ b. Ok (of_known (operation a b))))

abbrev pub call_of_two : ℕ → Part → Part → Index → Outcome Reckoned
call_of_two function a b index =
    if nat_eq function CROSS then crossed a b (first_number index) else
    (if nat_eq function MIN then on_both lesser_of (at a index) (at b index) else
    (if nat_eq function MAX then on_both greater_of (at a index) (at b index) else undecided_behind (at a index ∷ at b index ∷ [])))

abbrev pub call : ℕ → List Part → Index → Outcome Reckoned
call function (a ∷ []) index = call_of_one function a index
call function (a ∷ b ∷ []) index = call_of_two function a b index
call function args index = undecided_behind (map (λ arg. at arg index) args)

-- ---- arrays

-- element k of `{e1, ..}` is that of ek
abbrev pub element_among : List Part → Index → Outcome Reckoned
element_among parts [] = Ok Unknown
element_among parts (k ∷ index) = element_in (slice_get parts (k - 1))
  where
    element_in : Option Part → Outcome Reckoned
    element_in None = Ok Unknown
    element_in (Some part) = read_as of_known (part.1 index)

abbrev pub size_at : Dims → ℕ → Reckoned
size_at dims k = number (or_else (slice_get dims (k - 1)) 0)

abbrev pub size_element : Dims → Option (Place × ℤ) → Index → Reckoned
size_element dims None index = size_at dims (first_number index)
size_element dims (Some at) index = size_at dims (size_of at.1)

-- what `zeros`, `ones` and `identity` hold
abbrev pub constant : ℕ → Index → Reckoned
constant function index = if nat_eq function ONES || nat_eq function IDENTITY && is_diagonal index then number 1 else number 0

abbrev pub sized_element : ℕ → Option Part → Index → Outcome Reckoned
sized_element function (Some part) index = read_as of_known (part.1 [])
sized_element function None index = Ok (constant function index)

-- ---- the walk

-- Conditions that are left in an if-expression are undecided, and so is it.
abbrev pub branch_reads : Index → List (Part × Part) → List (Outcome Known)
branch_reads index [] = []
branch_reads index (branch ∷ branches) = at branch.0 index ∷ at branch.1 index ∷ branch_reads index branches

-- the element of a node, by its parts; what the variables have is given by their numbers
abbrev pub result_node : (ℕ → Outcome Known) → ArrayNode-F (ArrayNode × (Index → Outcome Reckoned)) Part → Index → Outcome Reckoned
result_node variable (ArrayNode-F.Whole n) index = Ok (Is (Whole n))
result_node variable (ArrayNode-F.Decimal text) index = Ok Unknown
result_node variable (ArrayNode-F.Str text) index = Ok Unknown
result_node variable (ArrayNode-F.Truth b) index = Ok (Is (Truth b))
result_node variable (ArrayNode-F.Literal class n name) index = Ok (Is (Literal class n))
result_node variable ArrayNode-F.Time index = Ok Unknown
result_node variable (ArrayNode-F.Vars vars kind dims subs) index = read_as of_known (variable (variable_at vars dims (located subs index)))
result_node variable (ArrayNode-F.Sum terms) index = fold (sum_at index) (Ok (number 0)) terms
result_node variable (ArrayNode-F.Product factors) index = (chain_of factors).product index
result_node variable (ArrayNode-F.Power base dotted exponent) index = undecided_behind (at base index ∷ at exponent index ∷ [])
result_node variable (ArrayNode-F.Relation op left right) index = on_both (related op) (at left index) (at right index)
result_node variable (ArrayNode-F.Not inner) index = read_as (λ known. of_known (negated known)) (at inner index)
result_node variable (ArrayNode-F.All parts) index = read_as of_known (chained false (map (λ part. at part index) parts))
result_node variable (ArrayNode-F.Any parts) index = read_as of_known (chained true (map (λ part. at part index) parts))
result_node variable (ArrayNode-F.If branches other) index = undecided_behind (branch_reads index branches ++ at other index ∷ [])
result_node variable (ArrayNode-F.Call function args) index = call function args index
result_node variable (ArrayNode-F.Der inner) index = undecided_behind (at inner index ∷ [])
result_node variable (ArrayNode-F.Array parts) index = element_among parts index
result_node variable (ArrayNode-F.Range first step last) index = Ok (Is (Whole (range_element first step index)))
result_node variable (ArrayNode-F.Size part at) index = Ok (size_element (shape_of part.0) at index)
result_node variable (ArrayNode-F.Sized function part sizes) index = sized_element function part index

-- the kind of an expression that breaks no rule of kinds
abbrev pub kind_or_real : Outcome Kind → Kind
kind_or_real (Ok kind) = kind
kind_or_real (Err broken) = Real

abbrev pub known_part : ArrayExpr-F (ArrayNode × (Index → Outcome Reckoned)) Part → Index → Outcome Known
known_part e index = and_then (e.node.1 index) (settled e.place (kind_or_real (kind_of_node e.node.0 e.place)))

-- what is known of the element of an expression at an index
abbrev pub known_by : (ℕ → Outcome Known) → ArrayExpr → Index → Outcome Known
known_by variable = para-ArrayExpr (Index → Outcome Reckoned) (Index → Outcome Known) (result_node variable) known_part

-- the same is known of two elements, whatever is known of variables
abbrev pub AreKnownAlike : ArrayExpr → Index → ArrayExpr → Index → Type 0
AreKnownAlike e index other rest = (variable : ℕ → Outcome Known) → known_by variable e index ≡ known_by variable other rest

-- the element of a node
abbrev pub result_of_node : (ℕ → Outcome Known) → ArrayNode → Index → Outcome Reckoned
result_of_node variable = para-ArrayNode (Index → Outcome Reckoned) (Index → Outcome Known) (result_node variable) known_part

-- an expression, a term or factor, a branch with what is known of their elements
abbrev pub part_of : (ℕ → Outcome Known) → ArrayExpr → Part
part_of variable e = (e, known_by variable e)

abbrev pub signed_of : (ℕ → Outcome Known) → Bool × Bool × ArrayExpr → Factor
signed_of variable term = (term.0, term.1, part_of variable term.2)

abbrev pub branch_of : (ℕ → Outcome Known) → ArrayExpr × ArrayExpr → Part × Part
branch_of variable branch = (part_of variable branch.0, part_of variable branch.1)
