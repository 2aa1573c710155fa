-- What tokens spell by a production of expressions is spelled by its pieces too, places aside.
use Rattle.std.proofs.Common.{List, inl, inr, Option, Some, None, arith}
use Rattle.mo_syntax.specs.declared.expr.Expr.{Expr}
use Rattle.mo_grammar.specs.Lexeme.{Lexeme}
use Rattle.mo_grammar.specs.Grammar.{Limits, renamed, Grammar, empty, token, seq, either, either2, many, made, placed, nested, end_name, under, unless, symbol}
use Rattle.mo_grammar.specs.Symbols.{Symbol, ValueOf, Expressions, Simples, Logicals, Conjunctions, Negations, Relations, Sums, Products, Powers, Primaries, CallArguments, Arguments, MoreArguments, OneArgument, Indices, References, Subscripts, TypeSpecs, Names, ClassMods, ModArguments, EquationItems, ForEquations, WhenEquations, ElseEquations, IfEquations, StatementItems, ImportNames, ElementItems, Compositions, Sections, SectionEquations, ClassDefinitions, Files}
use Rattle.mo_grammar.specs.Productions.{rule}
use Rattle.mo_grammar.specs.Language.{Spells}
use Rattle.mo_pieces.specs.Pieces.{IsToken, AreTokens}
use Rattle.mo_unparse.specs.Placeless.{placeless_expr}
use Rattle.mo_pieces.specs.ShownExpressions.{pieces_of_expr, pieces_of_simple}
use Rattle.mo_unparse.proofs.Holding.{Fact, HoldsBy, HoldsOr, spelled_holds}
use Rattle.mo_unparse.proofs.Building.{IsPrinted}
use Rattle.mo_unparse.proofs.PrintingLevels.{expression_printed, operand_printed}
use Rattle.mo_unparse.proofs.PrintingLists.{each_held}
use Rattle.mo_unparse.proofs.ExpressionFacts.{ExpressionFact}
use Rattle.mo_unparse.proofs.PrintingOperators.{expressions_step, simples_step, logicals_step, conjunctions_step, negations_step, relations_step, sums_step, products_step, powers_step}
use Rattle.mo_unparse.proofs.PrintingPrimaries.{primaries_step}
use Rattle.mo_unparse.proofs.PrintingArguments.{call_arguments_step, arguments_step, more_arguments_step, one_argument_step}
use Rattle.mo_unparse.proofs.PrintingReferences.{indices_step, references_step, subscripts_step, type_specs_step, names_step}

-- what holds of a value from what holds of its parts
pub expression_step : (x : Symbol) (l : Limits) (a : ValueOf x) → HoldsBy ExpressionFact IsToken (rule x) l a → ExpressionFact x l a
unfolding rule
expression_step Expressions l a h = expressions_step l a h
expression_step Simples l a h = simples_step l a h
expression_step Logicals l a h = logicals_step l a h
expression_step Conjunctions l a h = conjunctions_step l a h
expression_step Negations l a h = negations_step l a h
expression_step Relations l a h = relations_step l a h
expression_step Sums l a h = sums_step l a h
expression_step Products l a h = products_step l a h
expression_step Powers l a h = powers_step l a h
expression_step Primaries l a h = primaries_step l a h
expression_step CallArguments l a h = call_arguments_step l a h
expression_step Arguments l a h = arguments_step l a h
expression_step MoreArguments l a h = more_arguments_step l a h
expression_step OneArgument l a h = one_argument_step l a h
expression_step Indices l a h = indices_step l a h
expression_step References l a h = references_step l a h
expression_step Subscripts l a h = subscripts_step l a h
expression_step TypeSpecs l a h = type_specs_step l a h
expression_step Names l a h = names_step l a h
expression_step ClassMods l a h = tt
expression_step ModArguments l a h = tt
expression_step EquationItems l a h = tt
expression_step ForEquations l a h = tt
expression_step WhenEquations l a h = tt
expression_step ElseEquations l a h = tt
expression_step IfEquations l a h = tt
expression_step StatementItems l a h = tt
expression_step ImportNames l a h = tt
expression_step (ElementItems hidden) l a h = tt
expression_step Compositions l a h = tt
expression_step Sections l a h = tt
expression_step SectionEquations l a h = tt
expression_step ClassDefinitions l a h = tt
expression_step Files l a h = tt

-- what tokens spell by a production of expressions is spelled by its pieces
pub expression_spelled : (x : Symbol) (l : Limits) (tokens : List Lexeme) (a : ValueOf x) → Spells x l tokens a → AreTokens tokens → ExpressionFact x l a
expression_spelled x l tokens a s all = spelled_holds rule ExpressionFact IsToken expression_step x l tokens a s all

pub whole_expression : (l : Limits) (tokens : List Lexeme) (e : Expr) → Spells Expressions l tokens e → AreTokens tokens → IsPrinted (symbol Expressions) l (pieces_of_expr e) (placeless_expr e)
whole_expression l tokens e s all = expression_printed l e (expression_spelled Expressions l tokens e s all)

pub simple_expression : (l : Limits) (tokens : List Lexeme) (e : Expr) → Spells Simples l tokens e → AreTokens tokens → IsPrinted (symbol Simples) l (pieces_of_simple e) (placeless_expr e)
simple_expression l tokens e s all = operand_printed 1 l e (omega arith) (expression_spelled Simples l tokens e s all)

-- ---- a fact on all productions that says this of those of expressions

abbrev pub Weaker : Fact Symbol ValueOf → Fact Symbol ValueOf → Type 0
Weaker P Q = (x : Symbol) (l : Limits) (a : ValueOf x) → P x l a → Q x l a

or_weaker : {A : Type 0} {H K : A → Type 0} (T : Lexeme → Type 0) → ((a : A) → H a → K a) → (o : Option A) → HoldsOr H T o → HoldsOr K T o
or_weaker T k None h = h
or_weaker T k (Some a) h = k a h

weaker_holds : {A : Type 0} (P Q : Fact Symbol ValueOf) (T : Lexeme → Type 0) → Weaker P Q → (g : Grammar Symbol ValueOf A) (l : Limits) (a : A) → HoldsBy P T g l a → HoldsBy Q T g l a
weaker_holds P Q T k (empty b) l a h = h
weaker_holds P Q T k (token codes) l a h = h
weaker_holds P Q T k (seq g h) l a (one, two) = (weaker_holds P Q T k g l a.0 one, weaker_holds P Q T k h l a.1 two)
weaker_holds P Q T k (either g h) l a (inl one) = inl (weaker_holds P Q T k g l a one)
weaker_holds P Q T k (either g h) l a (inr two) = inr (weaker_holds P Q T k h l a two)
weaker_holds P Q T k (either2 c ds g h) l a (inl one) = inl (weaker_holds P Q T k g l a one)
weaker_holds P Q T k (either2 c ds g h) l a (inr two) = inr (weaker_holds P Q T k h l a two)
weaker_holds P Q T k (many g) l list h = each_held (λ a held. weaker_holds P Q T k g l a held) list h
weaker_holds P Q T k (made f g) l b (a, held, same) = (a, weaker_holds P Q T k g l a held, same)
weaker_holds P Q T k (placed g) l a h = weaker_holds P Q T k g l a.1 h
weaker_holds P Q T k (nested o g) l a (inner, within, held) = (inner, within, weaker_holds P Q T k g inner a held)
weaker_holds P Q T k end_name l a h = h
weaker_holds P Q T k (under called g h) l a (one, two) = (weaker_holds P Q T k g l a.0 one, weaker_holds P Q T k h (renamed (called a.0) l) a.1 two)
weaker_holds P Q T k (unless test g h) l a (one, two) = (weaker_holds P Q T k g l a.0 one, or_weaker _ (λ b held. weaker_holds P Q T k h l b held) a.1 two)
weaker_holds P Q T k (symbol x) l a h = k x l a h

-- the step for a production of expressions of any fact that says as much of them
pub step_within : (P : Fact Symbol ValueOf) → Weaker P ExpressionFact → (x : Symbol) (l : Limits) (a : ValueOf x) → HoldsBy P IsToken (rule x) l a → ExpressionFact x l a
step_within P k x l a h = expression_step x l a (weaker_holds P ExpressionFact IsToken k (rule x) l a h)
