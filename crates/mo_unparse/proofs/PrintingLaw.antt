-- What a class that tokens spell is in pieces spells it, without its places: by induction over all productions.
use Rattle.std.proofs.Common.{List}
use Rattle.mo_syntax.specs.declared.class.Body.{Body}
use Rattle.mo_syntax.specs.declared.class.ClassDefOf.{ClassDefOf}
use Rattle.mo_grammar.specs.Lexeme.{Lexeme}
use Rattle.mo_grammar.specs.Grammar.{Limits}
use Rattle.mo_grammar.specs.Language.{Spells, whole_limits}
use Rattle.mo_grammar.specs.Productions.{rule}
use Rattle.mo_grammar.specs.Symbols.{Symbol, ValueOf, ClassMods, ModArguments, EquationItems, ForEquations, WhenEquations, ElseEquations, IfEquations, StatementItems, ImportNames, ElementItems, Compositions, Sections, SectionEquations, ClassDefinitions}
use Rattle.mo_pieces.specs.Pieces.{IsToken, AreTokens}
use Rattle.mo_unparse.proofs.ClassFacts.{ClassFact, classes, equations, expressions, modifiers, sections, types, weaker}
use Rattle.mo_unparse.proofs.Holding.{HoldsBy, spelled_holds}
use Rattle.mo_unparse.proofs.PrintingClassParts.{ClassPrinted}
use Rattle.mo_unparse.proofs.PrintingClasses.{class_step}
use Rattle.mo_unparse.proofs.PrintingElements.{elements_step}
use Rattle.mo_unparse.proofs.PrintingEquations.{else_step, equation_step, for_step, if_step, when_step}
use Rattle.mo_unparse.proofs.PrintingExpressions.{step_within}
use Rattle.mo_unparse.proofs.PrintingImports.{import_names_step}
use Rattle.mo_unparse.proofs.PrintingModifiers.{argument_step, mods_step}
use Rattle.mo_unparse.proofs.PrintingSections.{composition_step, section_equations_step, sections_step}
use Rattle.mo_unparse.proofs.PrintingStatements.{statement_step}
use Rattle.mo_unparse.proofs.ReadingClasses.{PiecesSpell}

step : (x : Symbol) (l : Limits) (a : ValueOf x) → HoldsBy ClassFact IsToken (rule x) l a → ClassFact x l a
step ClassMods l a h = mods_step ClassFact expressions types modifiers l a h
step ModArguments l a h = argument_step ClassFact expressions types modifiers l a h
step EquationItems l a h = equation_step ClassFact expressions equations l a h
step ForEquations l a h = for_step ClassFact expressions equations l a h
step WhenEquations l a h = when_step ClassFact expressions equations l a h
step ElseEquations l a h = else_step ClassFact expressions equations l a h
step IfEquations l a h = if_step ClassFact expressions equations l a h
step StatementItems l a h = statement_step ClassFact expressions (λ l a h. h) l a h
step ImportNames l a h = import_names_step ClassFact expressions (λ l x h. h) l a h
step (ElementItems hidden) l a h = elements_step ClassFact expressions types modifiers (λ l x h. h) hidden l (λ class h. h) a h
step Compositions l a h = composition_step ClassFact sections l a h
step Sections l a h = sections_step ClassFact sections l a h
step SectionEquations l a h = section_equations_step ClassFact sections l a h
step ClassDefinitions l a h = class_step ClassFact classes l a h
step x l a h = step_within ClassFact weaker x l a h

-- what tokens spell is spelled by its pieces, as each production says
pub all_spelled : (x : Symbol) (l : Limits) (tokens : List Lexeme) (a : ValueOf x) → Spells x l tokens a → AreTokens tokens → ClassFact x l a
all_spelled x l tokens a s all = spelled_holds rule ClassFact IsToken step x l tokens a s all

-- a class
pub class_printed : (l : Limits) (tokens : List Lexeme) (class : ClassDefOf Body) → Spells ClassDefinitions l tokens class → AreTokens tokens → ClassPrinted l class
class_printed l tokens class s all = all_spelled ClassDefinitions l tokens class s all

pub pieces_spell : (class : ClassDefOf Body) → PiecesSpell class
pieces_spell class tokens s all = class_printed whole_limits tokens class s all
