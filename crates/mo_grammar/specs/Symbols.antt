-- The names of the productions that lead back to one another, and what each of them makes.
use Rattle.std.specs.Prelude.{Bool, List, Option}
use Rattle.mo_syntax.specs.declared.expr.Expr.{Expr}
use Rattle.mo_syntax.specs.declared.expr.Args.{Args}
use Rattle.mo_syntax.specs.declared.expr.Arg.{Arg}
use Rattle.mo_syntax.specs.declared.expr.ReferenceOf.{ReferenceOf}
use Rattle.mo_syntax.specs.declared.expr.IndexOf.{IndexOf}
use Rattle.mo_syntax.specs.declared.class.Body.{Body}
use Rattle.mo_syntax.specs.declared.class.ClassDefOf.{ClassDefOf}
use Rattle.mo_syntax.specs.declared.class.ArgumentOf.{ArgumentOf}
use Rattle.mo_syntax.specs.declared.class.Give.{Give}
use Rattle.mo_syntax.specs.declared.class.Item.{Item}
use Rattle.mo_syntax.specs.declared.class.FileTree.{FileTree}
use Rattle.mo_grammar.specs.Lexeme.{Lexeme}
use Rattle.mo_grammar.specs.Grammar.{Grammar}
use Rattle.mo_grammar.specs.Trees.{Given}
use Rattle.mo_grammar.specs.ClassTrees.{Mods, Equation, Statement, Branched, BranchedElse, Imported, Inside}

-- The productions that lead back to one another.
pub data Symbol : Type 0 where
  Expressions : Symbol
  Simples : Symbol
  Logicals : Symbol
  Conjunctions : Symbol
  Negations : Symbol
  Relations : Symbol
  Sums : Symbol
  Products : Symbol
  Powers : Symbol
  Primaries : Symbol
  CallArguments : Symbol
  Arguments : Symbol
  MoreArguments : Symbol
  OneArgument : Symbol
  Indices : Symbol
  References : Symbol
  Subscripts : Symbol
  TypeSpecs : Symbol
  Names : Symbol
  ClassMods : Symbol
  ModArguments : Symbol
  EquationItems : Symbol
  ForEquations : Symbol
  WhenEquations : Symbol
  ElseEquations : Symbol
  IfEquations : Symbol
  StatementItems : Symbol
  ImportNames : Symbol
  -- by whether they stand under `protected`
  ElementItems : Bool → Symbol
  Compositions : Symbol
  Sections : Symbol
  SectionEquations : Symbol
  ClassDefinitions : Symbol
  Files : Symbol

-- what each of them makes
abbrev pub ValueOf : Symbol → Type 0
ValueOf Expressions = Expr
ValueOf Simples = Expr
ValueOf Logicals = Expr
ValueOf Conjunctions = Expr
ValueOf Negations = Expr
ValueOf Relations = Expr
ValueOf Sums = Expr
ValueOf Products = Expr
ValueOf Powers = Expr
ValueOf Primaries = Expr
ValueOf CallArguments = Args
ValueOf Arguments = Args
ValueOf MoreArguments = Given
ValueOf OneArgument = Arg
ValueOf Indices = List (IndexOf Expr)
ValueOf References = ReferenceOf Expr
ValueOf Subscripts = List (Option Expr)
ValueOf TypeSpecs = ReferenceOf Expr
ValueOf Names = List Lexeme
ValueOf ClassMods = Mods
ValueOf ModArguments = ArgumentOf Give
ValueOf EquationItems = Equation
ValueOf ForEquations = List Equation
ValueOf WhenEquations = Branched
ValueOf ElseEquations = List Equation
ValueOf IfEquations = BranchedElse
ValueOf StatementItems = Statement
ValueOf ImportNames = Imported
ValueOf (ElementItems hidden) = List Item
ValueOf Compositions = Inside
ValueOf Sections = Inside
ValueOf SectionEquations = List Equation × Inside
ValueOf ClassDefinitions = ClassDefOf Body
ValueOf Files = FileTree

abbrev pub Form : Type 0 → Type 1
Form A = Grammar Symbol ValueOf A
