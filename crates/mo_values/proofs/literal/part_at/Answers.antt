use Rattle.std.proofs.Common.{◌≡◌, IsTrue, rules}
use Rattle.mo_flat.specs.declared.array.ArrayExpr.{out-ArrayExpr}
use Rattle.mo_flat.specs.declared.array.ArrayNode.TheVariants.{Array}
use Rattle.mo_values.specs.Scalars.{has_values}
use Rattle.mo_values.proofs.Parted.{of_literal}
use Rattle.mo_values.proofs.literal.part_at.Goals as goal

pub returns-in-Some : goal.returns-in-Some
returns-in-Some c = λ variable.
    let has : IsTrue (has_values c.args.kind) = search rules in
    let node : (out-ArrayExpr c.args.e.now).node ≡ Array c.in-Array.parts = search rules in
    of_literal variable c.args.e.now c.args.kind c.in-Array.parts c.args.index.now c.in-Some.found.0.now c.in-Some.found.1.now c.requires has node
    (rw c.as_slice.ensures at (c.in-Some.ensures variable))
