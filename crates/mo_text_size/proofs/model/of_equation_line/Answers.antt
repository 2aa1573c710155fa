use Rattle.std.proofs.Common.{◌≡◌, ◌+◌, ◌++◌, length, refl, arith}
use Rattle.std.specs.Prelude.{codes}
use Rattle.std.proofs.lemmas.List.{length-append}
use Rattle.mo_flat.specs.Text.{equation_line, expr_text, operand, printed}
use Rattle.mo_text_size.proofs.Lengths.{counted, grown, of_five}
use Rattle.mo_text_size.proofs.model.of_equation_line.Goals as goal

pub returns : goal.returns
returns c =
    let vars = c.args.vars.now in
    let left = operand 1 (printed vars c.args.q.now.left) in
    let right = expr_text vars c.args.q.now.right in
    let begin : length (codes "  ") ≡ 2 = refl in
    let mark : length (codes " = ") ≡ 3 = refl in
    let close : length (codes ";\n") ≡ 2 = refl in
    let e = of_five (codes "  ") left (codes " = ") right (codes ";\n") in
    let d = length-append left right in
    counted (length (left ++ right) + 7) _ (equation_line vars c.args.q.now) (omega (arith, e, d, begin, mark, close))
    (grown (length (left ++ right)) 7 _ _ (c.add-sides.ensures left right c.of_operand.ensures c.of_expr.ensures) c.saturating_add.ensures)
