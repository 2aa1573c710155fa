-- Parts of expressions with their elements, and chains of factors by the place of their last matrix factor: words of the contracts
-- inside this crate alone.
use Rattle.std.specs.Prelude.{ℕ, ◌+◌, Bool, List, [], ◌∷◌, map, take, Option, Some, None, if◌then◌else◌, slice_get}
use Rattle.mo_flat.specs.declared.array.ArrayExpr.{ArrayExpr}
use Rattle.mo_flat.specs.declared.expr.FlatExpr.{FlatExpr}
use Rattle.mo_typing.specs.Shape.{or_scalar, multiplied}
use Rattle.mo_typing.specs.Indices.{Index, numbers_to, own}
use Rattle.mo_arrays.specs.Elements.{Part, Factor, Chain, element_of, at, plain, operand_of, chain_of, inner_product, inner_term}

-- an expression, a term or factor, a branch with their elements
abbrev pub part_of : ArrayExpr → Part
part_of e = (e, element_of e)

abbrev pub factor_of : Bool × Bool × ArrayExpr → Factor
factor_of factor = (factor.0, factor.1, part_of factor.2)

-- the chain of the first n factors
abbrev pub chain_before : List (Bool × Bool × ArrayExpr) → ℕ → Chain
chain_before factors n = chain_of (map factor_of (take n factors))

-- what stands for a chain that ends with a matrix factor
abbrev pub inner_with : Chain → Factor → Index → FlatExpr
inner_with chain factor index = inner_product chain factor.2 (own (or_scalar (multiplied chain.dims (operand_of factor))) index)

abbrev pub begun_with : Chain → Option (Bool × Bool × ArrayExpr) → Index → List (Bool × FlatExpr)
begun_with chain None index = []
begun_with chain (Some factor) index = plain (inner_with chain (factor_of factor) index) ∷ []

-- the first factor of an element by its last matrix factor, if there is one
abbrev pub begun_by : List (Bool × Bool × ArrayExpr) → Option ℕ → Index → List (Bool × FlatExpr)
begun_by factors None index = []
begun_by factors (Some m) index = begun_with (chain_before factors m) (slice_get factors m) index

-- the factors from one place on, before another one, as they act on each element
abbrev pub acting : List (Bool × Bool × ArrayExpr) → Index → List (Bool × FlatExpr)
acting factors index = map (λ factor. (factor.0, at (part_of factor.2) index)) factors

abbrev pub behind_last : Option ℕ → ℕ
behind_last None = 0
behind_last (Some m) = m + 1

-- the terms of an inner product with a factor
abbrev pub inner_terms_with : Chain → Option (Bool × Bool × ArrayExpr) → Index → Index → ℕ → List (Bool × FlatExpr)
inner_terms_with chain None row column count = []
inner_terms_with chain (Some factor) row column count = map (inner_term chain.factors (part_of factor.2) row column) (numbers_to count)

abbrev pub inner_term_with : Chain → Option (Bool × Bool × ArrayExpr) → Index → Index → ℕ → List (Bool × FlatExpr)
inner_term_with chain None row column k = []
inner_term_with chain (Some factor) row column k = inner_term chain.factors (part_of factor.2) row column k ∷ []

abbrev pub latest : Bool → ℕ → Option ℕ → Option ℕ
latest matrix j last = if matrix then Some j else last
