-- A fact that says of the productions of expressions what `ExpressionFact` says gives what equations, statements and classes
-- use of them.
use Rattle.std.proofs.Common.{arith}
use Rattle.mo_grammar.specs.Grammar.{Limits}
use Rattle.mo_grammar.specs.Symbols.{CallArguments, Expressions, Indices, Names, References, Simples, Symbol, ValueOf}
use Rattle.mo_unparse.proofs.ExpressionFacts.{ExpressionFact}
use Rattle.mo_unparse.proofs.Holding.{Fact}
use Rattle.mo_unparse.proofs.PrintingLevels.{expression_printed, operand_printed}
use Rattle.mo_unparse.proofs.PrintingParts.{ExpressionsPrinted}

pub known_expressions : (P : Fact Symbol ValueOf) → ((x : Symbol) (l : Limits) (a : ValueOf x) → P x l a → ExpressionFact x l a) → ExpressionsPrinted P
known_expressions P weaker = record {
  expression = λ l a h. expression_printed l a (weaker Expressions l a h);
  simple = λ l a h. operand_printed 1 l a (omega arith) (weaker Simples l a h);
  arguments = λ l a h. weaker CallArguments l a h;
  indices = λ l a h. (weaker Indices l a h).0;
  reference = λ l a h. weaker References l a h;
  names = λ l a h. weaker Names l a h;
}
