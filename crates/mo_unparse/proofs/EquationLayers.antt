-- Equations and statements in pieces, by the pieces of their own parts.
use Rattle.std.proofs.Common.{◌≡◌, ◌++◌, ℕ, List, ◌∷◌, refl, ap}
use Rattle.std.specs.Prelude.{codes}
use Rattle.mo_syntax.specs.declared.expr.Expr.{Expr}
use Rattle.mo_syntax.specs.declared.expr.IndexOf.{IndexOf}
use Rattle.mo_syntax.specs.declared.equation.EquationOf.{EquationOf}
use Rattle.mo_syntax.specs.declared.equation.EquationKind.{EquationKind, fold_out-EquationKind}
use Rattle.mo_syntax.specs.declared.equation.EquationKind.TheVariants.{If as if_equation, For as for_equation, When as when_equation, outs-If as outs-if_equation, outs-For as outs-for_equation, outs-When as outs-when_equation}
use Rattle.mo_syntax.specs.declared.equation.StatementOf.{StatementOf}
use Rattle.mo_syntax.specs.declared.equation.StatementKind.{StatementKind, fold_out-StatementKind}
use Rattle.mo_syntax.specs.declared.equation.StatementKind.TheVariants.{If as if_statement, For as for_statement, While as while_statement, When as when_statement, outs-If as outs-if_statement, outs-For as outs-for_statement, outs-While as outs-while_statement, outs-When as outs-when_statement}
use Rattle.mo_pieces.specs.Pieces.{Piece, a_word, a_blank}
use Rattle.mo_pieces.specs.Lines.{block_of, end_of}
use Rattle.mo_pieces.specs.ShownExpressions.{pieces_of_indices, pieces_of_expr}
use Rattle.mo_pieces.specs.ShownEquations.{branch_of, branches_of, else_of, loop_of, while_of, in_equation, in_statement, pieces_of_equation, pieces_of_equation_kind, pieces_of_statement, pieces_of_statement_kind}
use Rattle.mo_unparse.proofs.Listed.{block_map, branches_map, else_map}

both : (a b c d e : List Piece) → a ≡ b → c ≡ d → a ++ (c ++ e) ≡ b ++ (d ++ e)
both a b c d e p q = cc

-- what stands under a condition is mapped
under : {A B : Type 0} (w : List ℕ) (condition : Expr) (f : B → List Piece) (g : A → List Piece) (xs : List A) (ys : List B) → block_of f ys ≡ block_of g xs → branch_of w f (condition, ys) ≡ branch_of w g (condition, xs)
under w condition f g xs ys e = ap (λ t. a_word w ∷ a_blank ∷ pieces_of_expr condition ++ (a_blank ∷ a_word (codes "then") ∷ t)) e

-- ---- equations

pub at_if_equation : (branches : List (Expr × List (EquationOf EquationKind))) (others : List (EquationOf EquationKind)) →
    pieces_of_equation_kind (if_equation branches others) ≡ branches_of (codes "if") (codes "elseif") pieces_of_equation branches ++ (else_of pieces_of_equation others ++ end_of (codes "if"))
at_if_equation branches others =
    rw (fold_out-EquationKind (List Piece) in_equation (if_equation branches others), outs-if_equation branches others)
    (both _ _ _ _ (end_of (codes "if")) (branches_map _ _ _ _ _ (λ w b. under w b.0 _ _ b.1 _ (block_map _ _ _ (λ e. refl) b.1)) branches) (else_map _ _ _ (λ e. refl) others))

pub at_for_equation : (indices : List (IndexOf Expr)) (equations : List (EquationOf EquationKind)) →
    pieces_of_equation_kind (for_equation indices equations) ≡ loop_of (pieces_of_indices indices) pieces_of_equation equations
at_for_equation indices equations =
    rw (fold_out-EquationKind (List Piece) in_equation (for_equation indices equations), outs-for_equation indices equations)
    (ap (λ t. a_word (codes "for") ∷ a_blank ∷ pieces_of_indices indices ++ (a_blank ∷ a_word (codes "loop") ∷ t ++ end_of (codes "for"))) (block_map _ _ _ (λ e. refl) equations))

pub at_when_equation : (branches : List (Expr × List (EquationOf EquationKind))) →
    pieces_of_equation_kind (when_equation branches) ≡ branches_of (codes "when") (codes "elsewhen") pieces_of_equation branches ++ end_of (codes "when")
at_when_equation branches =
    rw (fold_out-EquationKind (List Piece) in_equation (when_equation branches), outs-when_equation branches)
    (ap (λ t. t ++ end_of (codes "when")) (branches_map _ _ _ _ _ (λ w b. under w b.0 _ _ b.1 _ (block_map _ _ _ (λ e. refl) b.1)) branches))

-- ---- statements

pub at_if_statement : (branches : List (Expr × List (StatementOf StatementKind))) (others : List (StatementOf StatementKind)) →
    pieces_of_statement_kind (if_statement branches others) ≡ branches_of (codes "if") (codes "elseif") pieces_of_statement branches ++ (else_of pieces_of_statement others ++ end_of (codes "if"))
at_if_statement branches others =
    rw (fold_out-StatementKind (List Piece) in_statement (if_statement branches others), outs-if_statement branches others)
    (both _ _ _ _ (end_of (codes "if")) (branches_map _ _ _ _ _ (λ w b. under w b.0 _ _ b.1 _ (block_map _ _ _ (λ s. refl) b.1)) branches) (else_map _ _ _ (λ s. refl) others))

pub at_for_statement : (indices : List (IndexOf Expr)) (statements : List (StatementOf StatementKind)) →
    pieces_of_statement_kind (for_statement indices statements) ≡ loop_of (pieces_of_indices indices) pieces_of_statement statements
at_for_statement indices statements =
    rw (fold_out-StatementKind (List Piece) in_statement (for_statement indices statements), outs-for_statement indices statements)
    (ap (λ t. a_word (codes "for") ∷ a_blank ∷ pieces_of_indices indices ++ (a_blank ∷ a_word (codes "loop") ∷ t ++ end_of (codes "for"))) (block_map _ _ _ (λ s. refl) statements))

pub at_while_statement : (condition : Expr) (statements : List (StatementOf StatementKind)) → pieces_of_statement_kind (while_statement condition statements) ≡ while_of condition pieces_of_statement statements
at_while_statement condition statements =
    rw (fold_out-StatementKind (List Piece) in_statement (while_statement condition statements), outs-while_statement condition statements)
    (ap (λ t. a_word (codes "while") ∷ a_blank ∷ pieces_of_expr condition ++ (a_blank ∷ a_word (codes "loop") ∷ t ++ end_of (codes "while"))) (block_map _ _ _ (λ s. refl) statements))

pub at_when_statement : (branches : List (Expr × List (StatementOf StatementKind))) →
    pieces_of_statement_kind (when_statement branches) ≡ branches_of (codes "when") (codes "elsewhen") pieces_of_statement branches ++ end_of (codes "when")
at_when_statement branches =
    rw (fold_out-StatementKind (List Piece) in_statement (when_statement branches), outs-when_statement branches)
    (ap (λ t. t ++ end_of (codes "when")) (branches_map _ _ _ _ _ (λ w b. under w b.0 _ _ b.1 _ (block_map _ _ _ (λ s. refl) b.1)) branches))

pub ruleset equation_layers = (at_if_equation, at_for_equation, at_when_equation)

pub ruleset statement_layers = (at_if_statement, at_for_statement, at_while_statement, at_when_statement)
