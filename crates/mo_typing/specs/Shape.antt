-- The dimensions of an array expression, read off the operands that decide them: those that `dims_of` gives where they break no
-- rule.
use Rattle.std.specs.Prelude.{ℕ, ◌-◌, ℤ, pos, negsuc, Bool, false, ◌&&◌, ◌||◌, not, List, [], ◌∷◌, ◌++◌, map, fold, length, take, Option, Some, None, if◌then◌else◌, nat_eq}
use Rattle.std.specs.Ordering.{int_eq}
use Rattle.mo_tables.specs.declared.functions.TheConstants.{CROSS, NDIMS, PRODUCT, SUM, TRANSPOSE}
use Rattle.mo_flat.specs.declared.array.ArrayExpr.{ArrayExpr, ArrayExpr-F, fold-ArrayExpr}
use Rattle.mo_flat.specs.declared.array.ArrayNode.{ArrayNode, ArrayNode-F, fold-ArrayNode}
use Rattle.mo_typing.specs.Kinds.{is_among}
use Rattle.mo_typing.specs.Dims.{Dims, is_scalar, behind, subscripted, range_count, shaped, size_dims}

-- an operand of a chain: whether it is subtracted or divided by, whether its operator has a dot, and its dimensions
abbrev pub Operand : Type 0
Operand = Bool × Bool × Dims

abbrev pub or_scalar : Option Dims → Dims
or_scalar None = []
or_scalar (Some dims) = dims

-- a dotted operator takes a scalar beside an array
abbrev pub added : Option Dims → Operand → Option Dims
added None term = Some term.2
added (Some dims) term = Some (if term.1 && is_scalar dims then term.2 else dims)

-- a factor by which the chain so far is multiplied as a matrix or a vector
abbrev pub is_matrix_factor : Option Dims → Operand → Bool
is_matrix_factor None factor = false
is_matrix_factor (Some dims) factor = not (factor.1 || is_scalar dims || is_scalar factor.2)

-- all but the last
abbrev pub front : Dims → Dims
front dims = take (length dims - 1) dims

-- the rows of the left, the columns of the right
abbrev pub product_dims : Dims → Dims → Dims
product_dims a b = front a ++ behind b

abbrev pub joined : Dims → Dims → Dims
joined dims shape = if is_scalar dims then shape else dims

abbrev pub multiplied : Option Dims → Operand → Option Dims
multiplied dims factor =
    Some (if is_matrix_factor dims factor then product_dims (or_scalar dims) factor.2 else joined (or_scalar dims) factor.2)

abbrev pub swapped : {A : Type 0} → List A → List A
swapped [] = []
swapped (n ∷ []) = n ∷ []
swapped (n ∷ m ∷ ns) = m ∷ n ∷ ns

abbrev pub first : List Dims → Dims
first [] = []
first (dims ∷ all) = dims

abbrev pub call_shape : ℕ → List Dims → Dims
call_shape function all =
    if is_among (NDIMS ∷ PRODUCT ∷ SUM ∷ []) function then [] else
    (if nat_eq function TRANSPOSE then swapped (first all) else
    (if nat_eq function CROSS then 3 ∷ [] else first all))

abbrev pub power_shape : Bool → Dims → Dims → Dims
power_shape dotted base exponent = if dotted && is_scalar base then exponent else base

-- a size that breaks no rule
abbrev pub size_of : ℤ → ℕ
size_of (pos n) = n
size_of (negsuc n) = 0

-- a range of another step than 0
abbrev pub range_shape : ℤ → ℤ → ℤ → Dims
range_shape first step last = if int_eq step (pos 0) then [] else range_count first step last ∷ []

abbrev pub shape_node : ArrayNode-F Dims Dims → Dims
shape_node (ArrayNode-F.Vars vars kind dims subs) = subscripted subs dims
shape_node (ArrayNode-F.Sum terms) = or_scalar (fold added None terms)
shape_node (ArrayNode-F.Product factors) = or_scalar (fold multiplied None factors)
shape_node (ArrayNode-F.Power base dotted exponent) = power_shape dotted base exponent
shape_node (ArrayNode-F.If branches other) = other
shape_node (ArrayNode-F.Call function args) = call_shape function args
shape_node (ArrayNode-F.Der inner) = inner
shape_node (ArrayNode-F.Array parts) = length parts ∷ first parts
shape_node (ArrayNode-F.Range first step last) = range_shape first step last
shape_node (ArrayNode-F.Size part at) = size_dims at part
shape_node (ArrayNode-F.Sized function part sizes) = shaped function (map (λ n. size_of n.1) sizes)
shape_node _ = []

abbrev pub shape_part : ArrayExpr-F Dims Dims → Dims
shape_part e = e.node

abbrev pub shape_of : ArrayExpr → Dims
shape_of = fold-ArrayExpr Dims Dims shape_node shape_part

abbrev pub shape_of_node : ArrayNode → Dims
shape_of_node = fold-ArrayNode Dims Dims shape_node shape_part

-- an operand of a chain by its dimensions
abbrev pub operand : Bool × Bool × ArrayExpr → Operand
operand term = (term.0, term.1, shape_of term.2)
