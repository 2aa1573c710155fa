-- What is said of what tokens spell by each production: what it is in pieces spells it, without its places.
use Rattle.mo_grammar.specs.Symbols.{Symbol, ValueOf, ClassMods, ModArguments, EquationItems, ForEquations, WhenEquations, ElseEquations, IfEquations, StatementItems, ImportNames, ElementItems, Compositions, Sections, SectionEquations, ClassDefinitions}
use Rattle.mo_unparse.proofs.ExpressionFacts.{ExpressionFact}
use Rattle.mo_unparse.proofs.Holding.{Fact, HoldsEach}
use Rattle.mo_unparse.proofs.KnownExpressions.{known_expressions}
use Rattle.mo_unparse.proofs.PrintingClassParts.{ArgumentPrinted, ClassPrinted, ModifiersPrinted, ModsPrinted, TypesPrinted}
use Rattle.mo_unparse.proofs.PrintingClasses.{ClassPartsPrinted}
use Rattle.mo_unparse.proofs.PrintingEquations.{ElsePrinted, EquationPrinted, EquationsPrinted, ForPrinted, IfPrinted, WhenPrinted}
use Rattle.mo_unparse.proofs.PrintingExpressions.{Weaker}
use Rattle.mo_unparse.proofs.PrintingImports.{ImportPrinted}
use Rattle.mo_unparse.proofs.PrintingParts.{ExpressionsPrinted}
use Rattle.mo_unparse.proofs.PrintingSections.{InsidePrinted, ItemPrinted, SectionEquationsPrinted, SectionPartsPrinted}
use Rattle.mo_unparse.proofs.PrintingStatements.{StatementPrinted}

-- of an element each item by itself; of a file nothing
abbrev pub ClassFact : Fact Symbol ValueOf
ClassFact ClassMods l mods = ModsPrinted l mods
ClassFact ModArguments l a = ArgumentPrinted l a
ClassFact EquationItems l a = EquationPrinted l a
ClassFact ForEquations l list = ForPrinted l list
ClassFact WhenEquations l x = WhenPrinted l x
ClassFact ElseEquations l list = ElsePrinted l list
ClassFact IfEquations l x = IfPrinted l x
ClassFact StatementItems l a = StatementPrinted l a
ClassFact ImportNames l x = ImportPrinted l x
ClassFact (ElementItems hidden) l items = HoldsEach (ItemPrinted hidden l) items
ClassFact Compositions l x = InsidePrinted l x
ClassFact Sections l x = InsidePrinted l x
ClassFact SectionEquations l x = SectionEquationsPrinted l x
ClassFact ClassDefinitions l class = ClassPrinted l class
ClassFact x l a = ExpressionFact x l a

-- it says of expressions what is said of them alone
pub weaker : Weaker ClassFact ExpressionFact
weaker ClassMods l a h = tt
weaker ModArguments l a h = tt
weaker EquationItems l a h = tt
weaker ForEquations l a h = tt
weaker WhenEquations l a h = tt
weaker ElseEquations l a h = tt
weaker IfEquations l a h = tt
weaker StatementItems l a h = tt
weaker ImportNames l a h = tt
weaker (ElementItems hidden) l a h = tt
weaker Compositions l a h = tt
weaker Sections l a h = tt
weaker SectionEquations l a h = tt
weaker ClassDefinitions l a h = tt
weaker _ l a h = h

-- ---- what each part of the grammar uses of the others

pub expressions : ExpressionsPrinted ClassFact
expressions = known_expressions ClassFact weaker

pub types : TypesPrinted ClassFact
types = record { type_spec = λ l a h. h; subscripts = λ l a h. h }

pub modifiers : ModifiersPrinted ClassFact
modifiers = record { argument = λ l a h. h; mods = λ l a h. h }

pub equations : EquationsPrinted ClassFact
equations = record {
  equation = λ l a h. h;
  for_list = λ l a h. h;
  when_list = λ l x h. h;
  else_list = λ l a h. h;
  if_list = λ l x h. h;
}

pub sections : SectionPartsPrinted ClassFact
sections = record {
  elements = λ hidden l items h. h;
  equation = λ l a h. h;
  statement = λ l a h. h;
  inside = λ l x h. h;
  equations = λ l x h. h;
}

pub classes : ClassPartsPrinted ClassFact
classes = record { types = types; modifiers = modifiers; inside = λ l x h. h }
