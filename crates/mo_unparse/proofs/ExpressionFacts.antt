-- What is known of the values of the productions of expressions: their pieces spell them, places aside.
use Rattle.std.proofs.Common.{ℕ, List, [], ◌∷◌, ◌++◌, map}
use Rattle.std.specs.Prelude.{codes}
use Rattle.mo_syntax.specs.declared.expr.Expr.{Expr}
use Rattle.mo_syntax.specs.declared.expr.Arg.{Arg}
use Rattle.mo_syntax.specs.declared.expr.Args.{out-Args}
use Rattle.mo_syntax.specs.declared.expr.IndexOf.{IndexOf}
use Rattle.mo_grammar.specs.Lexeme.{Lexeme}
use Rattle.mo_grammar.specs.Grammar.{symbol}
use Rattle.mo_grammar.specs.Symbols.{Symbol, ValueOf, Expressions, Simples, Logicals, Conjunctions, Negations, Relations, Sums, Products, Powers, Primaries, CallArguments, Arguments, MoreArguments, OneArgument, Indices, References, Subscripts, TypeSpecs, Names}
use Rattle.mo_pieces.specs.Pieces.{Piece, a_name, a_mark, placeless_token}
use Rattle.mo_unparse.specs.Placeless.{placeless_arg, placeless_args, placeless_named, placeless_indices, placeless_options, placeless_reference}
use Rattle.mo_pieces.specs.ShownExpressions.{shown_expr, pieces_of_arg, pieces_of_args, pieces_of_indices, pieces_of_reference, pieces_of_subscripts, given_pieces, named_pieces, iterators_pieces, joined_by}
use Rattle.mo_unparse.proofs.Holding.{Fact}
use Rattle.mo_unparse.proofs.Building.{IsPrinted}
use Rattle.mo_unparse.proofs.PrintingLevels.{IsGiven}
use Rattle.mo_unparse.proofs.PrintingLists.{IsSome}

-- the arguments of a call without their parentheses
abbrev pub listed_pieces : List Arg → List (List ℕ × Arg) → List (IndexOf Expr) → List Piece
listed_pieces plain named iters = given_pieces pieces_of_arg plain named ++ iterators_pieces shown_expr iters

abbrev pub pieces_of_names : List Lexeme → List Piece
pieces_of_names names = joined_by (a_mark (codes ".") ∷ []) (λ t. a_name t.text ∷ []) names

abbrev pub ExpressionFact : Fact Symbol ValueOf
ExpressionFact Expressions l e = IsGiven 0 l e
ExpressionFact Simples l e = IsGiven 1 l e
ExpressionFact Logicals l e = IsGiven 2 l e
ExpressionFact Conjunctions l e = IsGiven 3 l e
ExpressionFact Negations l e = IsGiven 4 l e
ExpressionFact Relations l e = IsGiven 5 l e
ExpressionFact Sums l e = IsGiven 6 l e
ExpressionFact Products l e = IsGiven 7 l e
ExpressionFact Powers l e = IsGiven 8 l e
ExpressionFact Primaries l e = IsGiven 9 l e
ExpressionFact CallArguments l args = IsPrinted (symbol CallArguments) l (pieces_of_args args) (placeless_args args)
ExpressionFact Arguments l args = IsPrinted (symbol Arguments) l (listed_pieces (out-Args args).plain (out-Args args).named (out-Args args).iters) (placeless_args args)
ExpressionFact MoreArguments l given = IsPrinted (symbol MoreArguments) l (given_pieces pieces_of_arg given.0 given.1) (map placeless_arg given.0, map placeless_named given.1) × IsSome (map pieces_of_arg given.0 ++ map (named_pieces pieces_of_arg) given.1)
ExpressionFact OneArgument l arg = IsPrinted (symbol OneArgument) l (pieces_of_arg arg) (placeless_arg arg)
ExpressionFact Indices l indices = IsPrinted (symbol Indices) l (pieces_of_indices indices) (placeless_indices indices) × IsSome indices
ExpressionFact References l r = IsPrinted (symbol References) l (pieces_of_reference r) (placeless_reference r)
ExpressionFact Subscripts l subs = IsPrinted (symbol Subscripts) l (pieces_of_subscripts subs) (placeless_options subs)
ExpressionFact TypeSpecs l r = IsPrinted (symbol TypeSpecs) l (pieces_of_reference r) (placeless_reference r)
ExpressionFact Names l names = IsPrinted (symbol Names) l (pieces_of_names names) (map placeless_token names)
ExpressionFact _ l a = Unit {0}
