-- Parts of statements that have a reader of their own.
use Rattle.std.specs.Prelude.{ℕ, List, Option}
use Rattle.mo_syntax.specs.declared.expr.Expr.{Expr}
use Rattle.mo_syntax.specs.declared.equation.StatementKind.{StatementKind}
use Rattle.mo_grammar.specs.Codes.{open_paren, close_paren, semicolon, assigns, elseif_word, elsewhen_word, else_word, end_word, if_word, loop_word, when_word}
use Rattle.mo_grammar.specs.Grammar.{seq, either, made, many, symbol}
use Rattle.mo_grammar.specs.Forms.{behind, before, between, optional}
use Rattle.mo_grammar.specs.ClassTrees.{Statement, reference_statement, outputs_statement, assigns_value, calls_it}
use Rattle.mo_grammar.specs.Symbols.{Form, Expressions, References, CallArguments, StatementItems}
use Rattle.mo_grammar.specs.Expressions.{outputs}
use Rattle.mo_grammar.specs.Classes.{statements, statement_branch}

-- statement ";"
abbrev pub statement_line : Form Statement
statement_line = before (symbol StatementItems) semicolon

-- elseif expr then {statement ";"}
abbrev pub elseif_branch : Form (Expr × List Statement)
elseif_branch = behind elseif_word statement_branch

-- elsewhen expr then {statement ";"}
abbrev pub elsewhen_branch : Form (Expr × List Statement)
elsewhen_branch = behind elsewhen_word statement_branch

-- [else {statement ";"}]
abbrev pub otherwise : Form (Option (List Statement))
otherwise = optional (behind else_word statements)

-- [else {statement ";"}] end if
abbrev pub if_end : Form (Option (List Statement))
if_end = before (before otherwise end_word) if_word

-- {elseif expr then {statement ";"}} [else {statement ";"}] end if
abbrev pub if_rest : Form (List (Expr × List Statement) × Option (List Statement))
if_rest = seq (many elseif_branch) if_end

-- {elsewhen expr then {statement ";"}} end when
abbrev pub when_rest : Form (List (Expr × List Statement))
when_rest = before (before (many elsewhen_branch) end_word) when_word

-- loop {statement ";"} end, with the word that the loop begins with
abbrev pub looped : ℕ → Form (List Statement)
looped word = behind loop_word (before (before statements end_word) word)

-- "(" outputs ")"
abbrev pub enclosed_outputs : Form (List (Option Expr))
enclosed_outputs = between open_paren close_paren outputs

-- "(" outputs ")" ":=" reference call_args
abbrev pub from_outputs : Form StatementKind
from_outputs = made outputs_statement (seq enclosed_outputs (behind assigns (seq (symbol References) (symbol CallArguments))))

-- reference (":=" expr | call_args)
abbrev pub from_reference : Form StatementKind
from_reference = made reference_statement (seq (symbol References) (either (made assigns_value (behind assigns (symbol Expressions))) (made calls_it (symbol CallArguments))))
