-- What folds over array expressions give for each form, where they pass through tuples.
use Rattle.std.proofs.Common.{◌≡◌, Bool, List, map, None, refl}
use Rattle.std.specs.Prelude.{fold}
use Rattle.mo_flat.specs.declared.array.ArrayExpr.{ArrayExpr}
use Rattle.mo_flat.specs.declared.array.ArrayNode.{fold_out-ArrayNode}
use Rattle.mo_flat.specs.declared.array.ArrayNode.TheVariants.{Sum, Product, outs-Sum, outs-Product}
use Rattle.mo_typing.specs.Dims.{Dims}
use Rattle.mo_typing.specs.Shape.{shape_of_node, shape_node, shape_part, or_scalar, added, multiplied, operand}

pub shape_Sum : (ts : List (Bool × Bool × ArrayExpr)) → shape_of_node (Sum ts) ≡ or_scalar (fold added None (map operand ts))
shape_Sum ts = rw (fold_out-ArrayNode Dims Dims shape_node shape_part (Sum ts), outs-Sum ts) refl

pub shape_Product : (ts : List (Bool × Bool × ArrayExpr)) → shape_of_node (Product ts) ≡ or_scalar (fold multiplied None (map operand ts))
shape_Product ts = rw (fold_out-ArrayNode Dims Dims shape_node shape_part (Product ts), outs-Product ts) refl
