-- That a text is read again to a tree, places aside. Its tokens are those of the lexer, and spell the tree by the grammar.
use Rattle.std.specs.Prelude.{◌≡◌, ◌≤◌, ℕ, List, [], ◌∷◌, ◌++◌, None, codes}
use Rattle.mo_syntax.specs.Lexeme.{Lexeme}
use Rattle.mo_syntax.specs.declared.expr.Expr.{Expr}
use Rattle.mo_syntax.specs.declared.class.Body.{Body}
use Rattle.mo_syntax.specs.declared.class.ClassDefOf.{ClassDefOf}
use Rattle.mo_syntax.specs.declared.class.FileTree.{FileTree}
use Rattle.mo_lexer.specs.Lexing.{Lexes, end_of}
use Rattle.mo_grammar.specs.Grammar.{at_most, this_name}
use Rattle.mo_grammar.specs.Language.{Spells, whole_limits, limits_inside}
use Rattle.mo_grammar.specs.Symbols.{Expressions, ClassDefinitions, Files}
use Rattle.mo_pieces.specs.Pieces.{AreTokens}
use Rattle.mo_unparse.specs.Placeless.{placeless_expr}
use Rattle.mo_unparse.specs.PlacelessClasses.{placeless_file}

-- the text of a file whose tokens before its end spell the expression inside so many constructs
pub record HoldsExpression (text : List ℕ) (file left : ℕ) (e : Expr) : Type 0 where
  pub tokens : List Lexeme
  pub tree : Expr
  pub lexed : Lexes file text (tokens ++ end_of file text ∷ [])
  pub spelled : Spells Expressions (limits_inside left) tokens tree
  pub same : placeless_expr tree ≡ placeless_expr e

-- wherever tokens spell the expression, those of the text do
abbrev pub IsReadAgain : List ℕ → Expr → Type 0
IsReadAgain text e =
    (file left : ℕ) (tokens : List Lexeme) → AreTokens tokens → Spells Expressions (limits_inside left) tokens e → HoldsExpression text file left e

-- the text of a file that holds the class and nothing else
pub record HoldsClass (text : List ℕ) (file : ℕ) (class : ClassDefOf Body) : Type 0 where
  pub tokens : List Lexeme
  pub tree : FileTree
  pub lexed : Lexes file text tokens
  pub spelled : Spells Files whole_limits tokens tree
  pub same : placeless_file tree ≡ placeless_file (record { file = file; within = None; classes = class ∷ [] })

-- wherever tokens spell the class, in a file or in a class of any name, however deep, those of the text with a semicolon behind it
-- spell a file of that class
abbrev pub IsReadAsFile : List ℕ → ClassDefOf Body → Type 0
IsReadAsFile text class =
    (file constructs classes : ℕ) (outer : List ℕ) (tokens : List Lexeme) → constructs ≤ 128 → classes ≤ 32 → AreTokens tokens → Spells ClassDefinitions (at_most constructs classes (this_name outer)) tokens class → HoldsClass (text ++ codes ";") file class
