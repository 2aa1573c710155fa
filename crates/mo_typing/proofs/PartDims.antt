-- The dimensions of a node by its parts, where the fold passes through tuples.
use Rattle.std.proofs.Common.{◌≡◌, Bool, List, refl}
use Rattle.mo_syntax.specs.Outcome.{Outcome, and_then}
use Rattle.mo_syntax.specs.declared.place.Place.{Place}
use Rattle.mo_flat.specs.declared.array.ArrayExpr.{ArrayExpr}
use Rattle.mo_flat.specs.declared.array.ArrayNode.{fold_out-ArrayNode}
use Rattle.mo_flat.specs.declared.array.ArrayNode.TheVariants.{Sum, Product, If, outs-Sum, outs-Product, outs-If}
use Rattle.mo_typing.specs.Dims.{Dims, Part, dims_node, dims_part, part_of, dims_of_node, operands_of, chain, added, multiplied, choice, signed_parts, branch_parts}

-- the dimensions of a part
abbrev pub dims_in : Part → Outcome Dims
dims_in part = part.dims

-- an operand of a chain, a branch as parts
abbrev pub signed_part : Bool × Bool × ArrayExpr → Bool × Bool × Part
signed_part term = (term.0, term.1, part_of term.2)

abbrev pub branch_part : ArrayExpr × ArrayExpr → Part × Part
branch_part branch = (part_of branch.0, part_of branch.1)

pub at_Sum : (ts : List (Bool × Bool × ArrayExpr)) (place : Place) → dims_of_node (Sum ts) place ≡ and_then (operands_of (signed_parts ts)) (chain (added place))
at_Sum ts place = rw (fold_out-ArrayNode (Place → Outcome Dims) Part dims_node dims_part (Sum ts), outs-Sum ts) refl

pub at_Product : (ts : List (Bool × Bool × ArrayExpr)) (place : Place) → dims_of_node (Product ts) place ≡ and_then (operands_of (signed_parts ts)) (chain (multiplied place))
at_Product ts place = rw (fold_out-ArrayNode (Place → Outcome Dims) Part dims_node dims_part (Product ts), outs-Product ts) refl

pub at_If : (bs : List (ArrayExpr × ArrayExpr)) (other : ArrayExpr) (place : Place) → dims_of_node (If bs other) place ≡ choice (branch_parts bs) (part_of other) place
at_If bs other place = rw (fold_out-ArrayNode (Place → Outcome Dims) Part dims_node dims_part (If bs other), outs-If bs other) refl
