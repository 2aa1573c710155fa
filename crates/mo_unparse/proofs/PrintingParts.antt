-- What is known of the expressions that equations, statements and classes are made of: what holds of what tokens spell (P)
-- gives that the pieces spell it.
use Rattle.std.proofs.Common.{List, [], ◌∷◌, codes, map}
use Rattle.mo_syntax.specs.declared.expr.Args.{Args}
use Rattle.mo_syntax.specs.declared.expr.Expr.{Expr}
use Rattle.mo_syntax.specs.declared.expr.IndexOf.{IndexOf}
use Rattle.mo_syntax.specs.declared.expr.ReferenceOf.{ReferenceOf}
use Rattle.mo_grammar.specs.Lexeme.{Lexeme}
use Rattle.mo_grammar.specs.Grammar.{Limits, symbol}
use Rattle.mo_grammar.specs.Symbols.{Symbol, ValueOf, Expressions, Simples, CallArguments, Indices, References, Names}
use Rattle.mo_pieces.specs.Pieces.{Piece, a_name, a_mark}
use Rattle.mo_unparse.specs.Placeless.{placeless_expr, placeless_args, placeless_indices, placeless_reference}
use Rattle.mo_pieces.specs.ShownExpressions.{joined_by, pieces_of_args, pieces_of_expr, pieces_of_indices, pieces_of_reference, pieces_of_simple}
use Rattle.mo_pieces.specs.Pieces.{placeless_token}
use Rattle.mo_unparse.proofs.Holding.{Fact}
use Rattle.mo_unparse.proofs.Building.{IsPrinted}

-- a token as a part of a list of identifiers
abbrev pub name_of : Lexeme → List Piece
name_of t = a_name t.text ∷ []

-- identifiers with dots between them
abbrev pub pieces_of_names : List Lexeme → List Piece
pieces_of_names names = joined_by (a_mark (codes ".") ∷ []) name_of names

pub record ExpressionsPrinted (P : Fact Symbol ValueOf) : Type 0 where
  pub expression : (l : Limits) (a : Expr) → P Expressions l a → IsPrinted (symbol Expressions) l (pieces_of_expr a) (placeless_expr a)
  pub simple : (l : Limits) (a : Expr) → P Simples l a → IsPrinted (symbol Simples) l (pieces_of_simple a) (placeless_expr a)
  pub arguments : (l : Limits) (a : Args) → P CallArguments l a → IsPrinted (symbol CallArguments) l (pieces_of_args a) (placeless_args a)
  pub indices : (l : Limits) (a : List (IndexOf Expr)) → P Indices l a → IsPrinted (symbol Indices) l (pieces_of_indices a) (placeless_indices a)
  pub reference : (l : Limits) (a : ReferenceOf Expr) → P References l a → IsPrinted (symbol References) l (pieces_of_reference a) (placeless_reference a)
  pub names : (l : Limits) (a : List Lexeme) → P Names l a → IsPrinted (symbol Names) l (pieces_of_names a) (map placeless_token a)
