use Rattle.std.proofs.Common.{◌≡◌, ◌+◌, ◌++◌, length, refl, arith}
use Rattle.std.specs.Prelude.{codes}
use Rattle.std.proofs.lemmas.List.{length-append}
use Rattle.mo_flat.specs.Text.{assert_level_text, assert_line, expr_text}
use Rattle.mo_text_size.proofs.Lengths.{counted, grown, of_six, plus}
use Rattle.mo_text_size.proofs.model.of_assert_line.Goals as goal

pub returns : goal.returns
returns c =
    let vars = c.args.vars.now in
    let a = c.args.a.now in
    let condition = expr_text vars a.condition in
    let message = expr_text vars a.message in
    let level = assert_level_text vars a.level in
    let begin : length (codes "  assert(") ≡ 9 = refl in
    let mark : length (codes ", ") ≡ 2 = refl in
    let close : length (codes ");\n") ≡ 3 = refl in
    let e = of_six (codes "  assert(") condition (codes ", ") message level (codes ");\n") in
    let d = length-append condition message in
    counted (length (condition ++ message) + length level + 14) _ (assert_line vars a) (omega (arith, e, d, begin, mark, close))
    (grown _ 14 _ _ (plus _ _ _ _ _ (c.add-parts.ensures condition message c.of_expr.ensures c.of_expr-2.ensures) c.of_level.ensures c.saturating_add.ensures) c.saturating_add-2.ensures)
