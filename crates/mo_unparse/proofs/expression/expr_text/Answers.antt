use Rattle.std.proofs.Common.{ap, ◌∙◌, ◌++◌}
use Rattle.mo_pieces.specs.Gathered.{gathered}
use Rattle.mo_unparse.specs.ReadAgain.{IsReadAgain}
use Rattle.mo_pieces.specs.ShownExpressions.{pieces_of_expr}
use Rattle.mo_unparse.proofs.ReadingAgain.{expression_again, text_answered}
use Rattle.mo_unparse.proofs.expression.expr_text.Goals as goal

pub returns-clause-read : goal.returns-clause-read
returns-clause-read c =
    let e = c.args.e.now in
    text_answered (λ t. IsReadAgain t e) c.text_of.result (gathered c.write_expr.new.out) (pieces_of_expr e)
    (c.in_ok-write_expr.ensures ∙ ap (λ ps. ps ++ pieces_of_expr e) c.new-pieces.ensures) (expression_again e) c.text_of.ensures
