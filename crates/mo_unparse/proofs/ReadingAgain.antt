-- The text of an expression is read again to that expression, places aside.
use Rattle.std.proofs.Common.{◌≡◌, ℕ, List, subst, sym, ap, ◌∙◌}
use Rattle.std.specs.Prelude.{Result, Ok, Err, IfOk}
use Rattle.mo_syntax.specs.declared.expr.Expr.{Expr}
use Rattle.mo_grammar.specs.Language.{limits_inside}
use Rattle.mo_grammar.specs.Symbols.{Expressions}
use Rattle.mo_pieces.specs.Pieces.{Piece}
use Rattle.mo_unparse.specs.Placeless.{placeless_expr}
use Rattle.mo_unparse.specs.ReadAgain.{IsReadAgain}
use Rattle.mo_pieces.specs.ShownExpressions.{pieces_of_expr}
use Rattle.mo_pieces.specs.Text.{text_of}
use Rattle.mo_unparse.proofs.PlacingLaw.{printed_again}
use Rattle.mo_unparse.proofs.PrintingExpressions.{whole_expression}
use Rattle.mo_unparse.proofs.TextRead.{text_is_read}

pub expression_again : (e : Expr) → IsReadAgain (text_of (pieces_of_expr e)) e
expression_again e file left tokens are s =
    let printed = whole_expression (limits_inside left) tokens e s are in
    let read = text_is_read file (pieces_of_expr e) printed.tokens in
    let tree = printed_again Expressions (limits_inside left) (pieces_of_expr e) (placeless_expr e) read.0 printed read.2 in
    record { tokens = read.0; tree = tree.0; lexed = read.1; spelled = tree.1; same = tree.2 }

-- what holds of the text of pieces holds of the answer that is that text
pub text_answered : {E : Type 0} (P : List ℕ → Type 0) (o : Result (List ℕ) E) (ps qs : List Piece) → ps ≡ qs → P (text_of qs) → IfOk o (λ t. t ≡ text_of ps) → IfOk o P
text_answered P (Ok t) ps qs same holds is = subst P (sym (is ∙ ap text_of same)) holds
text_answered P (Err e) ps qs same holds is = tt
