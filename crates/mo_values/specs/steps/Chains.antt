-- Chains of factors by the place of their last matrix factor, and folds of elements: words of the contracts inside this crate alone.
use Rattle.std.specs.Prelude.{ℕ, ◌+◌, ◌++◌, Bool, true, false, List, [], ◌∷◌, map, fold, take, Option, Some, None, Ok, if◌then◌else◌, not, slice_get}
use Rattle.mo_flat.specs.declared.array.ArrayExpr.{ArrayExpr}
use Rattle.mo_syntax.specs.Outcome.{Outcome}
use Rattle.mo_typing.specs.Shape.{or_scalar, multiplied}
use Rattle.mo_typing.specs.Indices.{Index, numbers_to, own}
use Rattle.mo_values.specs.declared.value.Reckoned.{Reckoned}
use Rattle.mo_values.specs.declared.value.Scalar.TheVariants.{Truth}
use Rattle.mo_values.specs.Scalars.{Known, sum_with, product_with, truth_eq, read_all, chained}
use Rattle.mo_values.specs.Walk.{Part, Factor, Chain, both, number, result_at, chain_of, operand_of, signed_of, sum_of, inner_product}

abbrev pub Signed : Type 0
Signed = Bool × Bool × ArrayExpr

-- the chain of the first n factors
abbrev pub chain_before : (ℕ → Outcome Known) → List Signed → ℕ → Chain
chain_before variable factors n = chain_of (map (signed_of variable) (take n factors))

-- a product so far with one more factor, which acts on each element
abbrev pub product_at : Index → Outcome Reckoned → Factor → Outcome Reckoned
product_at index so_far factor = both (product_with factor.0) so_far (result_at factor.2 index)

abbrev pub acting : (ℕ → Outcome Known) → Index → Outcome Reckoned → List Signed → Outcome Reckoned
acting variable index begun factors = fold (product_at index) begun (map (signed_of variable) factors)

-- what a chain that ends with a matrix factor gives
abbrev pub inner_with : Chain → Factor → Index → Outcome Reckoned
inner_with chain factor index = inner_product chain factor.2 (own (or_scalar (multiplied chain.dims (operand_of factor))) index)

abbrev pub begun_with : (ℕ → Outcome Known) → Chain → Option Signed → Index → Outcome Reckoned
begun_with variable chain None index = Ok (number 1)
begun_with variable chain (Some factor) index = inner_with chain (signed_of variable factor) index

-- what a chain begins with by its last matrix factor, if there is one
abbrev pub begun_by : (ℕ → Outcome Known) → List Signed → Option ℕ → Index → Outcome Reckoned
begun_by variable factors None index = Ok (number 1)
begun_by variable factors (Some m) index = begun_with variable (chain_before variable factors m) (slice_get factors m) index

abbrev pub behind_last : Option ℕ → ℕ
behind_last None = 0
behind_last (Some m) = m + 1

abbrev pub latest : Bool → ℕ → Option ℕ → Option ℕ
latest matrix j last = if matrix then Some j else last

-- a term of an inner product with a factor, and the sum of its first ones
abbrev pub inner_term : (ℕ → Outcome Known) → Chain → Option Signed → Index → Index → ℕ → Outcome Reckoned
inner_term variable chain None row column k = Ok (number 0)
inner_term variable chain (Some factor) row column k = both (product_with false) (chain.product (row ++ k ∷ [])) (result_at (signed_of variable factor).2 (k ∷ column))

abbrev pub inner_sum : (ℕ → Outcome Known) → Chain → Option Signed → Index → Index → ℕ → Outcome Reckoned
inner_sum variable chain factor row column count = sum_of (map (inner_term variable chain factor row column) (numbers_to count))

-- the operation by which elements are gathered
abbrev pub gathering : (product : Bool) → Reckoned → Reckoned → Reckoned
gathering product = if product then product_with false else sum_with false

abbrev pub gathered : (product : Bool) → Outcome Reckoned → List (Outcome Reckoned) → Outcome Reckoned
gathered product begun results = fold (both (gathering product)) begun results

-- what is left of a chain of `and` or `or`, decided so far or not
abbrev pub chain_left : (undecided : Bool) → (deciding : Bool) → List (Outcome Known) → Outcome Known
chain_left undecided deciding operands = if undecided then read_all operands else chained deciding operands

-- whether an operand decides a chain, and whether it has a value
abbrev pub decides : (deciding : Bool) → Known → Bool
decides deciding (Some (Truth b)) = truth_eq b deciding
decides deciding known = false

abbrev pub is_truth : Known → Bool
is_truth (Some (Truth b)) = true
is_truth known = false

-- a[j]*b[k]
abbrev pub product_of_two : Part → Part → ℕ → ℕ → Outcome Reckoned
product_of_two a b j k = both (product_with false) (result_at a (j ∷ [])) (result_at b (k ∷ []))

-- a chain of `and` or `or` whose operands all are read
abbrev pub chain_end : (undecided : Bool) → (deciding : Bool) → Known
chain_end undecided deciding = if undecided then None else Some (Truth (not deciding))
