-- Equations and statements in pieces (Modelica Language Specification 3.5, appendix A.2.6).
use Rattle.std.specs.Prelude.{ℕ, List, [], ◌∷◌, ◌++◌, codes, if◌then◌else◌}
use Rattle.mo_syntax.specs.declared.expr.Expr.{Expr}
use Rattle.mo_syntax.specs.declared.expr.ReferenceOf.{ReferenceOf}
use Rattle.mo_syntax.specs.declared.equation.EquationOf.{EquationOf}
use Rattle.mo_syntax.specs.declared.equation.EquationKind.{EquationKind, EquationKind-F, fold-EquationKind}
use Rattle.mo_syntax.specs.declared.equation.StatementOf.{StatementOf}
use Rattle.mo_syntax.specs.declared.equation.StatementKind.{StatementKind, StatementKind-F, fold-StatementKind}
use Rattle.mo_pieces.specs.Pieces.{Piece, a_word, a_mark, a_blank, a_line}
use Rattle.mo_pieces.specs.Lines.{block_of, end_of}
use Rattle.mo_pieces.specs.ShownExpressions.{in_row, spaced, a_comma, in_parentheses, pieces_of_expr, pieces_of_simple, pieces_of_reference, pieces_of_args, pieces_of_indices, pieces_of_outputs}

-- ---- conditions, and what stands under them

-- word condition then, and each part on a line of its own
abbrev pub branch_of : {A : Type 0} → List ℕ → (A → List Piece) → Expr × List A → List Piece
branch_of word shown branch = a_word word ∷ a_blank ∷ pieces_of_expr branch.0 ++ (a_blank ∷ a_word (codes "then") ∷ block_of shown branch.1)

-- the branches: the first begins with one word, each other on a line of its own with another
abbrev pub branches_of : {A : Type 0} → (word other : List ℕ) → (A → List Piece) → List (Expr × List A) → List Piece
branches_of word other shown branches =
    in_row (λ first branch. (if first then [] else a_line ∷ []) ++ branch_of (if first then word else other) shown branch) branches

-- what stands under `else`: nothing where there is no part
abbrev pub else_of : {A : Type 0} → (A → List Piece) → List A → List Piece
else_of shown [] = []
else_of shown (part ∷ parts) = a_line ∷ a_word (codes "else") ∷ block_of shown (part ∷ parts)

-- for indices loop, the parts, end for
abbrev pub loop_of : {A : Type 0} → List Piece → (A → List Piece) → List A → List Piece
loop_of indices shown parts =
    a_word (codes "for") ∷ a_blank ∷ indices ++ (a_blank ∷ a_word (codes "loop") ∷ block_of shown parts ++ end_of (codes "for"))

-- ---- equations

-- connect(one, other)
abbrev pub connection_of : (one other : ReferenceOf Expr) → List Piece
connection_of one other = a_word (codes "connect") ∷ in_parentheses (pieces_of_reference one ++ (a_comma ++ pieces_of_reference other))

abbrev pub in_equation : EquationKind-F (List Piece) → List Piece
in_equation (EquationKind-F.Equal left right) = pieces_of_simple left ++ (spaced (a_mark (codes "=")) ++ pieces_of_expr right)
in_equation (EquationKind-F.If branches others) =
    branches_of (codes "if") (codes "elseif") (λ e. e.what) branches ++ (else_of (λ e. e.what) others ++ end_of (codes "if"))
in_equation (EquationKind-F.For indices equations) = loop_of (pieces_of_indices indices) (λ e. e.what) equations
in_equation (EquationKind-F.When branches) = branches_of (codes "when") (codes "elsewhen") (λ e. e.what) branches ++ end_of (codes "when")
in_equation (EquationKind-F.Connect one other) = connection_of one other
in_equation (EquationKind-F.Call called args) = pieces_of_reference called ++ pieces_of_args args

abbrev pub pieces_of_equation_kind : EquationKind → List Piece
pieces_of_equation_kind = fold-EquationKind (List Piece) in_equation

abbrev pub pieces_of_equation : EquationOf EquationKind → List Piece
pieces_of_equation equation = pieces_of_equation_kind equation.what

-- ---- statements

-- while condition loop, the statements, end while
abbrev pub while_of : {A : Type 0} → Expr → (A → List Piece) → List A → List Piece
while_of condition shown parts =
    a_word (codes "while") ∷ a_blank ∷ pieces_of_expr condition ++ (a_blank ∷ a_word (codes "loop") ∷ block_of shown parts ++ end_of (codes "while"))

abbrev pub in_statement : StatementKind-F (List Piece) → List Piece
in_statement (StatementKind-F.Assign variable value) = pieces_of_reference variable ++ (spaced (a_mark (codes ":=")) ++ pieces_of_expr value)
in_statement (StatementKind-F.Call called args) = pieces_of_reference called ++ pieces_of_args args
in_statement (StatementKind-F.Outputs outputs called args) =
    in_parentheses (pieces_of_outputs outputs) ++ (spaced (a_mark (codes ":=")) ++ (pieces_of_reference called ++ pieces_of_args args))
in_statement StatementKind-F.Break = a_word (codes "break") ∷ []
in_statement StatementKind-F.Return = a_word (codes "return") ∷ []
in_statement (StatementKind-F.If branches others) =
    branches_of (codes "if") (codes "elseif") (λ s. s.what) branches ++ (else_of (λ s. s.what) others ++ end_of (codes "if"))
in_statement (StatementKind-F.For indices statements) = loop_of (pieces_of_indices indices) (λ s. s.what) statements
in_statement (StatementKind-F.While condition statements) = while_of condition (λ s. s.what) statements
in_statement (StatementKind-F.When branches) = branches_of (codes "when") (codes "elsewhen") (λ s. s.what) branches ++ end_of (codes "when")

abbrev pub pieces_of_statement_kind : StatementKind → List Piece
pieces_of_statement_kind = fold-StatementKind (List Piece) in_statement

abbrev pub pieces_of_statement : StatementOf StatementKind → List Piece
pieces_of_statement statement = pieces_of_statement_kind statement.what
