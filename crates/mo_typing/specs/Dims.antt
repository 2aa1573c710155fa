-- The dimensions of an array expression, the first one first; a scalar has none (Modelica Language Specification 3.5, sections 10.4
-- on constructors and ranges, 10.5 on indexing, 10.6 on operators, and 10.3 on functions).
--
-- The dimensions of the operands are asked before those of the operation, from left to right. Another number of dimensions than
-- the one that is wanted breaks rule 33, another size in the same number of dimensions rule 31.
use Rattle.std.specs.Prelude.{ℕ, ◌+◌, ◌/◌, ℤ, pos, negsuc, ◌-ℤ◌, Bool, true, false, ◌&&◌, List, [], ◌∷◌, ◌++◌, map, fold, length, Option, Some, None, Ok, if◌then◌else◌, nat_eq, nat_lt, int_lt, unsigned_abs}
use Rattle.std.specs.Ordering.{int_eq}
use Rattle.mo_syntax.specs.Outcome.{Outcome, and_then, breaks}
use Rattle.mo_syntax.specs.declared.place.Place.{Place}
use Rattle.mo_syntax.specs.declared.rules.TheConstants.{WRONG_SIZE, WRONG_TYPE}
use Rattle.mo_tables.specs.declared.functions.TheConstants.{ATAN2, CROSS, IDENTITY, MAX, MIN, NDIMS, PRODUCT, SUM, TRANSPOSE}
use Rattle.mo_flat.specs.declared.array.ArrayExpr.{ArrayExpr, ArrayExpr-F, fold-ArrayExpr}
use Rattle.mo_flat.specs.declared.array.ArrayNode.{ArrayNode, ArrayNode-F, fold-ArrayNode}
use Rattle.mo_flat.specs.declared.array.Subscript.{Subscript}
use Rattle.mo_flat.specs.declared.array.Subscript.TheVariants.{All, One, Many}
use Rattle.mo_typing.specs.Outcome.{each}
use Rattle.mo_typing.specs.Kinds.{is_among, takes_sizes}

abbrev pub Dims : Type 0
Dims = List ℕ

abbrev pub is_scalar : Dims → Bool
is_scalar [] = true
is_scalar (n ∷ ns) = false

abbrev pub are_equal : Dims → Dims → Bool
are_equal [] [] = true
are_equal (n ∷ ns) (m ∷ ms) = nat_eq n m && are_equal ns ms
are_equal _ _ = false

-- operands of equal dimensions
abbrev pub matched : Place → Dims → Dims → Outcome Dims
matched place a b =
    if nat_eq (length a) (length b) then (if are_equal a b then Ok a else breaks WRONG_SIZE place) else breaks WRONG_TYPE place

-- a dotted operator takes a scalar beside an array too
abbrev pub spread : Place → Bool → Dims → Dims → Outcome Dims
spread place dotted a b =
    if dotted && is_scalar b then Ok a else (if dotted && is_scalar a then Ok b else matched place a b)

abbrev pub inner_matched : Place → ℕ → ℕ → Dims → Outcome Dims
inner_matched place n m dims = if nat_eq n m then Ok dims else breaks WRONG_SIZE place

-- vectors and matrices multiplied
abbrev pub matrix_product : Place → Dims → Dims → Outcome Dims
matrix_product place (n ∷ []) (m ∷ []) = inner_matched place n m []
matrix_product place (n ∷ []) (m ∷ q ∷ []) = inner_matched place n m (q ∷ [])
matrix_product place (p ∷ n ∷ []) (m ∷ []) = inner_matched place n m (p ∷ [])
matrix_product place (p ∷ n ∷ []) (m ∷ q ∷ []) = inner_matched place n m (p ∷ q ∷ [])
matrix_product place _ _ = breaks WRONG_TYPE place

-- `*`, `/`, `.*` and `./`
abbrev pub times : Place → Bool → Bool → Dims → Dims → Outcome Dims
times place divide dotted a b =
    if dotted then spread place dotted a b else
    (if is_scalar b then Ok a else
    (if divide then breaks WRONG_TYPE place else
    (if is_scalar a then Ok b else matrix_product place a b)))

-- An operand of a chain: whether it is subtracted or divided by, whether its operator has a dot, and its dimensions.
abbrev pub Operand : Type 0
Operand = Bool × Bool × Dims

-- the chain so far with one more operand
abbrev pub added : Place → Option Dims → Operand → Outcome Dims
added place None term = Ok term.2
added place (Some dims) term = spread place term.1 dims term.2

abbrev pub multiplied : Place → Option Dims → Operand → Outcome Dims
multiplied place None factor = Ok factor.2
multiplied place (Some dims) factor = times place factor.0 factor.1 dims factor.2

abbrev pub with_operand : (Option Dims → Operand → Outcome Dims) → Outcome (Option Dims) → Operand → Outcome (Option Dims)
with_operand join so_far operand = and_then so_far (λ dims. and_then (join dims operand) (λ dims. Ok (Some dims)))

abbrev pub or_scalar : Option Dims → Dims
or_scalar None = []
or_scalar (Some dims) = dims

abbrev pub settled : Outcome (Option Dims) → Outcome Dims
settled so_far = and_then so_far (λ dims. Ok (or_scalar dims))

abbrev pub chain : (Option Dims → Operand → Outcome Dims) → List Operand → Outcome Dims
chain join operands = settled (fold (with_operand join) (Ok None) operands)

-- the elements of an array, the values of an if-expression have equal dimensions
abbrev pub with_alike : Place → Outcome (Option Dims) → Dims → Outcome (Option Dims)
with_alike place so_far dims = with_operand (added place) so_far (false, false, dims)

abbrev pub alike : Place → List Dims → Outcome Dims
alike place all = settled (fold (with_alike place) (Ok None) all)

abbrev pub scalar : Place → Dims → Outcome Dims
scalar place dims = if is_scalar dims then Ok [] else breaks WRONG_TYPE place

abbrev pub with_scalar : Place → Outcome Dims → Dims → Outcome Dims
with_scalar place so_far dims = and_then so_far (λ _. scalar place dims)

-- relations, `and`, `or`, and functions of two arguments
abbrev pub scalars : Place → List Dims → Outcome Dims
scalars place dims = fold (with_scalar place) (Ok []) dims

abbrev pub transposed : Place → Dims → Outcome Dims
transposed place (n ∷ m ∷ more) = Ok (m ∷ n ∷ more)
transposed place _ = breaks WRONG_TYPE place

abbrev pub crossed : Place → Dims → Dims → Outcome Dims
crossed place (n ∷ []) (m ∷ []) = if nat_eq n 3 && nat_eq m 3 then Ok (3 ∷ []) else breaks WRONG_SIZE place
crossed place _ _ = breaks WRONG_TYPE place

-- A function of one argument acts on each element.
abbrev pub call_of_one : Place → ℕ → Dims → Outcome Dims
call_of_one place function dims =
    if is_among (NDIMS ∷ PRODUCT ∷ SUM ∷ []) function then Ok [] else
    (if nat_eq function TRANSPOSE then transposed place dims else
    (if is_among (ATAN2 ∷ CROSS ∷ MAX ∷ MIN ∷ []) function then breaks WRONG_TYPE place else Ok dims))

abbrev pub call_of_two : Place → ℕ → Dims → Dims → Outcome Dims
call_of_two place function a b =
    if nat_eq function CROSS then crossed place a b else
    (if is_among (ATAN2 ∷ MAX ∷ MIN ∷ []) function then scalars place (a ∷ b ∷ []) else breaks WRONG_TYPE place)

abbrev pub call : Place → ℕ → List Dims → Outcome Dims
call place function (a ∷ []) = call_of_one place function a
call place function (a ∷ b ∷ []) = call_of_two place function a b
call place function _ = breaks WRONG_TYPE place

-- what is left of a dimension by the first subscript: a scalar takes it away, `:` keeps it, a vector gives its own; no subscript
-- keeps it
abbrev pub kept : List Subscript → ℕ → Dims
kept [] n = n ∷ []
kept (All ∷ subs) n = n ∷ []
kept (One place i ∷ subs) n = []
kept (Many place is ∷ subs) n = length is ∷ []

abbrev pub behind : {A : Type 0} → List A → List A
behind [] = []
behind (x ∷ xs) = xs

abbrev pub subscripted : List Subscript → Dims → Dims
subscripted subs [] = []
subscripted subs (n ∷ dims) = kept subs n ++ subscripted (behind subs) dims

-- the first number is already past the last one
abbrev pub is_past : ℤ → ℤ → ℤ → Bool
is_past first step last = if int_lt (pos 0) step then int_lt last first else int_lt first last

-- how many numbers a range has, the step being another number than 0
abbrev pub range_count : ℤ → ℤ → ℤ → ℕ
range_count first step last =
    if is_past first step last then 0 else unsigned_abs (last -ℤ first) / unsigned_abs step + 1

abbrev pub largest : ℕ
largest = 4294967295

abbrev pub range : Place → ℤ → ℤ → ℤ → Outcome Dims
range place first step last =
    if int_eq step (pos 0) then breaks WRONG_SIZE place else
    (if nat_lt largest (range_count first step last) then breaks WRONG_SIZE place else Ok (range_count first step last ∷ []))

-- a size that is given as an argument
abbrev pub size : Place × ℤ → Outcome ℕ
size (place, negsuc n) = breaks WRONG_SIZE place
size (place, pos n) = if nat_lt largest n then breaks WRONG_SIZE place else Ok n

abbrev pub sizes_of : List (Place × ℤ) → Outcome Dims
sizes_of = each size

abbrev pub squared : Dims → Dims
squared (n ∷ []) = n ∷ n ∷ []
squared dims = dims

-- `identity` is square
abbrev pub shaped : ℕ → Dims → Dims
shaped function dims = if nat_eq function IDENTITY then squared dims else dims

-- what fills is a scalar
abbrev pub filled : Place → ℕ → Dims → Dims → Outcome Dims
filled place function filling sizes =
    if takes_sizes function (length sizes) then and_then (scalar place filling) (λ _. Ok (shaped function sizes)) else breaks WRONG_TYPE place

-- A part: its place, and its dimensions or the first rule that it breaks.
pub record Part : Type 0 where
  pub place : Place
  pub dims : Outcome Dims

abbrev pub dims_of_all : List Part → Outcome (List Dims)
dims_of_all = each (λ part. part.dims)

abbrev pub operand : Bool × Bool × Part → Outcome Operand
operand part = and_then part.2.dims (λ dims. Ok (part.0, part.1, dims))

abbrev pub operands_of : List (Bool × Bool × Part) → Outcome (List Operand)
operands_of = each operand

-- a condition is a scalar
abbrev pub condition : Part → Outcome Dims
condition part = and_then part.dims (scalar part.place)

-- the dimensions of a branch's value, the condition being asked first
abbrev pub branch_dims : Part × Part → Outcome Dims
branch_dims branch = and_then (condition branch.0) (λ _. branch.1.dims)

abbrev pub dims_of_branches : List (Part × Part) → Outcome (List Dims)
dims_of_branches = each branch_dims

-- an array of so many elements
abbrev pub array : List Part → Place → Outcome Dims
array parts place = and_then (and_then (dims_of_all parts) (alike place)) (λ dims. Ok (length parts ∷ dims))

abbrev pub choice : List (Part × Part) → Part → Place → Outcome Dims
choice branches other place =
    and_then (dims_of_branches branches) (λ all. and_then other.dims (λ dims. alike place (all ++ dims ∷ [])))

abbrev pub both : Part → Part → (Dims → Dims → Outcome Dims) → Outcome Dims
both left right f = and_then left.dims (λ a. and_then right.dims (f a))

abbrev pub raised : Place → Bool → Dims → Dims → Outcome Dims
raised place dotted a b = if dotted then spread place true a b else scalars place (a ∷ b ∷ [])

abbrev pub related : Place → Dims → Dims → Outcome Dims
related place a b = scalars place (a ∷ b ∷ [])

-- `size(A)` is a vector, `size(A, i)` a scalar
abbrev pub size_dims : {A : Type 0} → Option A → Dims → Dims
size_dims None dims = length dims ∷ []
size_dims (Some at) dims = []

abbrev pub filling : Option Part → Outcome Dims
filling None = Ok []
filling (Some part) = part.dims

abbrev pub sized : ℕ → Option Part → List (Place × ℤ) → Place → Outcome Dims
sized function part sizes place =
    and_then (filling part) (λ dims. and_then (sizes_of sizes) (λ ns. filled place function dims ns))

-- the dimensions of a node at its place, by those of its parts
abbrev pub dims_node : ArrayNode-F (Place → Outcome Dims) Part → Place → Outcome Dims
dims_node (ArrayNode-F.Whole n) place = Ok []
dims_node (ArrayNode-F.Decimal text) place = Ok []
dims_node (ArrayNode-F.Str text) place = Ok []
dims_node (ArrayNode-F.Truth b) place = Ok []
dims_node (ArrayNode-F.Literal class n name) place = Ok []
dims_node ArrayNode-F.Time place = Ok []
dims_node (ArrayNode-F.Vars vars kind dims subs) place = Ok (subscripted subs dims)
dims_node (ArrayNode-F.Sum terms) place = and_then (operands_of terms) (chain (added place))
dims_node (ArrayNode-F.Product factors) place = and_then (operands_of factors) (chain (multiplied place))
dims_node (ArrayNode-F.Power base dotted exponent) place = both base exponent (raised place dotted)
dims_node (ArrayNode-F.Relation op left right) place = both left right (related place)
dims_node (ArrayNode-F.Not inner) place = and_then inner.dims (scalar place)
dims_node (ArrayNode-F.All parts) place = and_then (dims_of_all parts) (scalars place)
dims_node (ArrayNode-F.Any parts) place = and_then (dims_of_all parts) (scalars place)
dims_node (ArrayNode-F.If branches other) place = choice branches other place
dims_node (ArrayNode-F.Call function args) place = and_then (dims_of_all args) (call place function)
dims_node (ArrayNode-F.Der inner) place = inner.dims
dims_node (ArrayNode-F.Array parts) place = array parts place
dims_node (ArrayNode-F.Range first step last) place = range place first step last
dims_node (ArrayNode-F.Size part at) place = and_then part.dims (λ dims. Ok (size_dims at dims))
dims_node (ArrayNode-F.Sized function part sizes) place = sized function part sizes place

abbrev pub dims_part : ArrayExpr-F (Place → Outcome Dims) Part → Part
dims_part e = record { place = e.place; dims = e.node e.place }

-- an expression as a part
abbrev pub part_of : ArrayExpr → Part
part_of = fold-ArrayExpr (Place → Outcome Dims) Part dims_node dims_part

abbrev pub dims_of_node : ArrayNode → Place → Outcome Dims
dims_of_node = fold-ArrayNode (Place → Outcome Dims) Part dims_node dims_part

-- the dimensions of an expression, or the first rule that they break
abbrev pub dims_of : ArrayExpr → Outcome Dims
dims_of e = (part_of e).dims

-- the operands of a chain, the branches of an if-expression as parts
abbrev pub signed_parts : List (Bool × Bool × ArrayExpr) → List (Bool × Bool × Part)
signed_parts terms = map (λ term. (term.0, term.1, part_of term.2)) terms

abbrev pub branch_parts : List (ArrayExpr × ArrayExpr) → List (Part × Part)
branch_parts branches = map (λ branch. (part_of branch.0, part_of branch.1)) branches
