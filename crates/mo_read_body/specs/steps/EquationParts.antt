-- Parts of equations that have a reader of their own.
use Rattle.std.specs.Prelude.{List, [], ◌∷◌}
use Rattle.mo_syntax.specs.declared.expr.Expr.{Expr}
use Rattle.mo_syntax.specs.declared.expr.ReferenceOf.{ReferenceOf}
use Rattle.mo_syntax.specs.declared.equation.EquationKind.{EquationKind}
use Rattle.mo_grammar.specs.Lexeme.{Lexeme}
use Rattle.mo_grammar.specs.Codes.{open_paren, close_paren, comma, semicolon, then_word, elsewhen_word, elseif_word, else_word, end_word, when_word, if_word}
use Rattle.mo_grammar.specs.Grammar.{Limits, token, seq, either, made, symbol}
use Rattle.mo_grammar.specs.Forms.{behind, before, between}
use Rattle.mo_grammar.specs.ClassTrees.{Equation, Branched, BranchedElse, when_tree, if_equation_tree, no_equations}
use Rattle.mo_grammar.specs.Reading.{Outcome, read, ◌>>=◌}
use Rattle.mo_grammar.specs.Symbols.{Form, Expressions, References, EquationItems, WhenEquations, IfEquations, ElseEquations}
use Rattle.mo_grammar.specs.Classes.{if_eq, for_eq, when_eq, connect_eq, equality_or_call}
use Rattle.mo_grammar.specs.Language.{reads_form}

-- what an equation says
abbrev pub equation_kind : Form EquationKind
equation_kind = either if_eq (either for_eq (either when_eq (either connect_eq equality_or_call)))

-- equation_item ";"
abbrev pub equation_line : Form Equation
equation_line = before (symbol EquationItems) semicolon

-- "(" reference "," reference ")"
abbrev pub connected : Form (ReferenceOf Expr × ReferenceOf Expr)
connected = between open_paren close_paren (seq (symbol References) (behind comma (symbol References)))

-- a condition and its equations
abbrev pub Branch : Type 0
Branch = Expr × List Equation

-- equations that were read, and what follows them
abbrev pub behind_equations : {B : Type 0} → List Equation → Outcome B → Outcome (List Equation × B)
behind_equations front o = o >>= λ y. read (front, y.0) y.1

-- a branch that was read, and what follows it
abbrev pub behind_branch : {B : Type 0} → Branch → Outcome B → Outcome (Expr × (List Equation × B))
behind_branch branch o = o >>= λ y. read (branch.0, (branch.1, y.0)) y.1

-- ---- when-equations

-- expr then {equation_item ";"} {elsewhen expr then {equation_item ";"}} end when
abbrev pub when_branch : Form (Expr × Branched)
when_branch = seq (symbol Expressions) (behind then_word (symbol WhenEquations))

abbrev pub in_when : Form EquationKind
in_when = made when_tree when_branch

abbrev pub first_branch : Expr × Branched → List Branch
first_branch (condition, x) = (condition, x.0) ∷ x.1

abbrev pub no_branch : Lexeme × Lexeme → List Branch
no_branch x = []

-- elsewhen expr then {equation_item ";"}, and what follows
abbrev pub elsewhen_tail : Form (List Branch)
elsewhen_tail = made first_branch (behind elsewhen_word when_branch)

-- end when
abbrev pub when_end : Form (List Branch)
when_end = made no_branch (seq (token (end_word ∷ [])) (token (when_word ∷ [])))

-- what follows the equations of a branch: {elsewhen expr then {equation_item ";"}} end when
abbrev pub when_tail : Form (List Branch)
when_tail = either elsewhen_tail when_end

unfoldable pub reads_when_tail : Limits → List Lexeme → Outcome (List Branch)
reads_when_tail l tokens = reads_form when_tail l tokens

-- a branch that was read, before those that follow
abbrev pub joined_branch : Branch → Outcome (List Branch) → Outcome (List Branch)
joined_branch branch o = o >>= λ y. read (branch ∷ y.0) y.1

-- ---- if-equations

-- the branches behind the first one, and the equations of `else`
abbrev pub Tail : Type 0
Tail = List Branch × List Equation

-- expr then {equation_item ";"} {elseif expr then {equation_item ";"}} [else {equation_item ";"}] end if
abbrev pub if_branch : Form (Expr × BranchedElse)
if_branch = seq (symbol Expressions) (behind then_word (symbol IfEquations))

abbrev pub in_if : Form EquationKind
in_if = made if_equation_tree if_branch

abbrev pub first_branch_else : Expr × BranchedElse → Tail
first_branch_else (condition, x) = ((condition, x.0) ∷ x.1.0, x.1.1)

abbrev pub no_branch_else : List Equation → Tail
no_branch_else equations = ([], equations)

-- elseif expr then {equation_item ";"}, and what follows
abbrev pub elseif_tail : Form Tail
elseif_tail = made first_branch_else (behind elseif_word if_branch)

-- [else {equation_item ";"}] end if
abbrev pub if_end : Form (List Equation)
if_end = either (behind else_word (symbol ElseEquations)) (made no_equations (seq (token (end_word ∷ [])) (token (if_word ∷ []))))

-- what follows the equations of a branch
abbrev pub if_tail : Form Tail
if_tail = either elseif_tail (made no_branch_else if_end)

unfoldable pub reads_if_tail : Limits → List Lexeme → Outcome Tail
reads_if_tail l tokens = reads_form if_tail l tokens

-- a branch that was read, before what follows
abbrev pub joined_branch_else : Branch → Outcome Tail → Outcome Tail
joined_branch_else branch o = o >>= λ y. read (branch ∷ y.0.0, y.0.1) y.1
