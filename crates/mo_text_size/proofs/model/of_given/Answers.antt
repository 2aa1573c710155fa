use Rattle.std.proofs.Common.{◌≡◌, ◌+◌, ◌++◌, length, refl, arith}
use Rattle.std.specs.Prelude.{codes}
use Rattle.std.proofs.lemmas.List.{length-append}
use Rattle.mo_flat.specs.Text.{attribute_mark, attribute_name, expr_text}
use Rattle.mo_text_size.proofs.Lengths.{counted, grown, of_four, plus}
use Rattle.mo_text_size.proofs.model.of_given.Goals as goal

pub returns : goal.returns
returns c =
    let mark = attribute_mark c.args.first in
    let name = attribute_name c.args.attribute in
    let text = expr_text c.args.vars.now c.args.e.now in
    let equal : length (codes " = ") ≡ 3 = refl in
    let e = of_four mark name (codes " = ") text in
    let d = length-append mark name in
    let named = c.add-name.ensures mark name c.of_attribute_mark.ensures c.of_attribute.ensures in
    counted (length (mark ++ name) + 3 + length text) _ (mark ++ name ++ codes " = " ++ text) (omega (arith, e, d, equal))
    (plus _ _ _ _ _ (grown (length (mark ++ name)) 3 _ _ named c.saturating_add.ensures) c.of_expr.ensures c.saturating_add-2.ensures)
