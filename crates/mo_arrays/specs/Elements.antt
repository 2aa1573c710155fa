-- The elements of an array expression, one scalar expression for each index (Modelica Language Specification 3.5, sections 10.3 on
-- functions, 10.4 on constructors and ranges, 10.5 on indexing and 10.6 on operators). Indices count from 1, the first
-- dimension first. An index that lies outside has a literal in place of an element.
use Rattle.std.specs.Prelude.{ℕ, ◌+◌, ◌-◌, ℤ, pos, Bool, true, false, ◌&&◌, List, [], ◌∷◌, ◌++◌, map, fold, length, take, drop, Option, Some, None, if◌then◌else◌, nat_eq, slice_get}
use Rattle.mo_syntax.specs.declared.place.Place.{Place}
use Rattle.mo_tables.specs.declared.functions.TheConstants.{CROSS, IDENTITY, NDIMS, ONES, PRODUCT, SUM, TRANSPOSE}
use Rattle.mo_flat.specs.declared.array.ArrayExpr.{ArrayExpr, ArrayExpr-F, para-ArrayExpr}
use Rattle.mo_flat.specs.declared.array.ArrayNode.{ArrayNode, ArrayNode-F, para-ArrayNode}
use Rattle.mo_flat.specs.declared.expr.FlatExpr.{FlatExpr}
use Rattle.mo_flat.specs.declared.expr.FlatExpr.TheVariants.{Whole, Decimal, Str, Truth, Literal, Time, Var, Der, Sum, Product, Power, Call, Relation, Not, All, Any, If}
use Rattle.mo_typing.specs.Dims.{Dims}
use Rattle.mo_typing.specs.Shape.{Operand, shape_of, or_scalar, size_of, is_matrix_factor, multiplied, swapped}
use Rattle.mo_typing.specs.Indices.{Index, numbers_to, indices, own, or_else, first_number, located, variable_at, range_element, is_diagonal}

-- an expression with its elements
abbrev pub Part : Type 0
Part = ArrayExpr × (Index → FlatExpr)

abbrev pub element_in : Option Part → Index → FlatExpr
element_in None index = Whole (pos 0)
element_in (Some part) index = part.1 index

abbrev pub at : Part → Index → FlatExpr
at part index = part.1 (own (shape_of part.0) index)

-- no terms are 0, one positive term stands alone
abbrev pub sum_of : List (Bool × FlatExpr) → FlatExpr
sum_of [] = Whole (pos 0)
sum_of ((false, u) ∷ []) = u
sum_of terms = Sum terms

-- no factors are 1, one multiplied factor stands alone
abbrev pub product_of : List (Bool × FlatExpr) → FlatExpr
product_of [] = Whole (pos 1)
product_of ((false, u) ∷ []) = u
product_of factors = Product factors

abbrev pub plain : FlatExpr → Bool × FlatExpr
plain u = (false, u)

-- all elements, the last index fastest
abbrev pub all_elements : Part → List (Bool × FlatExpr)
all_elements part = map (λ index. plain (part.1 index)) (indices (shape_of part.0))

abbrev pub variable : List ℕ → Dims → Index → FlatExpr
variable vars dims index = Var (variable_at vars dims index) 0

-- A chain of factors so far: its dimensions, none before the first factor, and for an index its factors, from the left.
pub record Chain : Type 0 where
  pub dims : Option Dims
  pub factors : Index → List (Bool × FlatExpr)

-- A factor: whether it divides, whether its operator has a dot, and the expression.
abbrev pub Factor : Type 0
Factor = Bool × Bool × Part

abbrev pub unbegun : Chain
unbegun = record { dims = None; factors = λ index. [] }

abbrev pub operand_of : Factor → Operand
operand_of factor = (factor.0, factor.1, shape_of factor.2.0)

-- term k: row of the left times column of the right, the chain so far being one factor
abbrev pub inner_term : (Index → List (Bool × FlatExpr)) → Part → Index → Index → ℕ → Bool × FlatExpr
inner_term factors part row column k = plain (Product (plain (product_of (factors (row ++ k ∷ []))) ∷ plain (part.1 (k ∷ column)) ∷ []))

abbrev pub inner_product : Chain → Part → Index → FlatExpr
inner_product chain part index =
    let rows = length (or_scalar chain.dims) - 1 in
    sum_of (map (inner_term chain.factors part (take rows index) (drop rows index)) (numbers_to (first_number (shape_of part.0))))

-- One more factor: a matrix factor makes sums of products, each one factor of what follows; any other one acts on each element.
abbrev pub extended_factors : Chain → Factor → Index → List (Bool × FlatExpr)
extended_factors chain factor index =
    if is_matrix_factor chain.dims (operand_of factor) then
    plain (inner_product chain factor.2 (own (or_scalar (multiplied chain.dims (operand_of factor))) index)) ∷ []
    else chain.factors index ++ (factor.0, at factor.2 index) ∷ []

abbrev pub extended : Chain → Factor → Chain
extended chain factor = record { dims = multiplied chain.dims (operand_of factor); factors = extended_factors chain factor }

abbrev pub chain_of : List Factor → Chain
chain_of factors = fold extended unbegun factors

abbrev pub minus_product : FlatExpr → FlatExpr → FlatExpr → FlatExpr → FlatExpr
minus_product a b c d = Sum ((false, Product (plain a ∷ plain b ∷ [])) ∷ (true, Product (plain c ∷ plain d ∷ [])) ∷ [])

-- a[j]*b[k] - a[k]*b[j]
abbrev pub crossed_at : Part → Part → ℕ → ℕ → FlatExpr
crossed_at a b j k = minus_product (a.1 (j ∷ [])) (b.1 (k ∷ [])) (a.1 (k ∷ [])) (b.1 (j ∷ []))

abbrev pub crossed : Part → Part → ℕ → FlatExpr
crossed a b n = if nat_eq n 1 then crossed_at a b 2 3 else (if nat_eq n 2 then crossed_at a b 3 1 else crossed_at a b 1 2)

abbrev pub call_of_one : ℕ → Part → Index → FlatExpr
call_of_one function arg index =
    if nat_eq function NDIMS then Whole (pos (length (shape_of arg.0))) else
    (if nat_eq function SUM then sum_of (all_elements arg) else
    (if nat_eq function PRODUCT then product_of (all_elements arg) else
    (if nat_eq function TRANSPOSE then arg.1 (swapped index) else Call function (at arg index ∷ []))))

abbrev pub call_of_two : ℕ → Part → Part → Index → FlatExpr
call_of_two function a b index =
    if nat_eq function CROSS then crossed a b (first_number index) else Call function (at a index ∷ at b index ∷ [])

abbrev pub call : ℕ → List Part → Index → FlatExpr
call function (a ∷ []) index = call_of_one function a index
call function (a ∷ b ∷ []) index = call_of_two function a b index
call function args index = Call function (map (λ arg. at arg index) args)

-- element k of `{e1, ..}` is that of ek
abbrev pub element_among : List Part → Index → FlatExpr
element_among parts [] = Whole (pos 0)
element_among parts (k ∷ index) = element_in (slice_get parts (k - 1)) index

abbrev pub size_at : Dims → ℕ → FlatExpr
size_at dims k = Whole (pos (or_else (slice_get dims (k - 1)) 0))

abbrev pub size_element : Dims → Option (Place × ℤ) → Index → FlatExpr
size_element dims None index = size_at dims (first_number index)
size_element dims (Some at) index = size_at dims (size_of at.1)

-- what `zeros`, `ones` and `identity` hold
abbrev pub constant : ℕ → Index → FlatExpr
constant function index =
    if nat_eq function ONES then Whole (pos 1) else
    (if nat_eq function IDENTITY && is_diagonal index then Whole (pos 1) else Whole (pos 0))

abbrev pub sized_element : ℕ → Option Part → Index → FlatExpr
sized_element function (Some part) index = part.1 []
sized_element function None index = constant function index

-- an element of a node, by its parts
abbrev pub element_node : ArrayNode-F (ArrayNode × (Index → FlatExpr)) Part → Index → FlatExpr
element_node (ArrayNode-F.Whole n) index = Whole n
element_node (ArrayNode-F.Decimal text) index = Decimal text
element_node (ArrayNode-F.Str text) index = Str text
element_node (ArrayNode-F.Truth b) index = Truth b
element_node (ArrayNode-F.Literal class n name) index = Literal name
element_node ArrayNode-F.Time index = Time
element_node (ArrayNode-F.Vars vars kind dims subs) index = variable vars dims (located subs index)
element_node (ArrayNode-F.Sum terms) index = sum_of (map (λ term. (term.0, at term.2 index)) terms)
element_node (ArrayNode-F.Product factors) index = product_of ((chain_of factors).factors index)
element_node (ArrayNode-F.Power base dotted exponent) index = Power (at base index) (at exponent index)
element_node (ArrayNode-F.Relation op left right) index = Relation op (at left index) (at right index)
element_node (ArrayNode-F.Not inner) index = Not (at inner index)
element_node (ArrayNode-F.All parts) index = All (map (λ part. at part index) parts)
element_node (ArrayNode-F.Any parts) index = Any (map (λ part. at part index) parts)
element_node (ArrayNode-F.If branches other) index = If (map (λ branch. (at branch.0 index, at branch.1 index)) branches) (at other index)
element_node (ArrayNode-F.Call function args) index = call function args index
element_node (ArrayNode-F.Der inner) index = Der (at inner index)
element_node (ArrayNode-F.Array parts) index = element_among parts index
element_node (ArrayNode-F.Range first step last) index = Whole (range_element first step index)
element_node (ArrayNode-F.Size part at) index = size_element (shape_of part.0) at index
element_node (ArrayNode-F.Sized function part sizes) index = sized_element function part index

abbrev pub element_part : ArrayExpr-F (ArrayNode × (Index → FlatExpr)) Part → Index → FlatExpr
element_part e = e.node.1

-- the element of an expression at an index
abbrev pub element_of : ArrayExpr → Index → FlatExpr
element_of = para-ArrayExpr (Index → FlatExpr) (Index → FlatExpr) element_node element_part

abbrev pub element_of_node : ArrayNode → Index → FlatExpr
element_of_node = para-ArrayNode (Index → FlatExpr) (Index → FlatExpr) element_node element_part
