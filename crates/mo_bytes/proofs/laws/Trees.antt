-- What tokens spell stands where the places of the tokens do: by induction over all productions.
use Rattle.std.proofs.Common.{List}
use Rattle.mo_syntax.specs.declared.class.FileTree.{FileTree}
use Rattle.mo_syntax.specs.declared.place.Place.{Place}
use Rattle.mo_grammar.specs.Lexeme.{Lexeme}
use Rattle.mo_grammar.specs.Grammar.{Limits}
use Rattle.mo_grammar.specs.Language.{Spells}
use Rattle.mo_grammar.specs.Productions.{rule}
use Rattle.mo_grammar.specs.Symbols.{Symbol, ValueOf, Expressions, Simples, Logicals, Conjunctions, Negations, Relations, Sums, Products, Powers, Primaries, CallArguments, Arguments, MoreArguments, OneArgument, Indices, References, Subscripts, TypeSpecs, Names, ClassMods, ModArguments, EquationItems, ForEquations, WhenEquations, ElseEquations, IfEquations, StatementItems, ImportNames, ElementItems, Compositions, Sections, SectionEquations, ClassDefinitions, Files}
use Rattle.mo_places.specs.Written.{Written, At}
use Rattle.mo_places.specs.InFiles.{Descends}
use Rattle.mo_bytes.specs.steps.Spelled.{Spelled, Ascends}
use Rattle.mo_bytes.proofs.laws.Placing.{StandsBy, TokensStand, spelled_stands}
use Rattle.mo_bytes.proofs.laws.Expressions as of
use Rattle.mo_bytes.proofs.laws.Classes as part
use Rattle.mo_bytes.proofs.laws.Elements as class

module _ (P : Written → Type 0) (ascends : Ascends P) (descends : Descends P) where
  abbrev Q : Place → Type 0
  Q place = P (At place)

  step : (x : Symbol) (a : ValueOf x) → StandsBy (Spelled P) Q (rule x) a → Spelled P x a
  unfolding rule
  step Expressions a h = (of.expressions_spell P ascends).holds a h
  step Simples a h = (of.simples_spell P ascends).holds a h
  step Logicals a h = (of.logicals_spell P ascends).holds a h
  step Conjunctions a h = (of.conjunctions_spell P ascends).holds a h
  step Negations a h = (of.negations_spell P ascends).holds a h
  step Relations a h = (of.relations_spell P ascends).holds a h
  step Sums a h = (of.sums_spell P ascends).holds a h
  step Products a h = (of.products_spell P ascends).holds a h
  step Powers a h = (of.powers_spell P ascends).holds a h
  step Primaries a h = (of.primaries_spell P ascends).holds a h
  step CallArguments a h = (of.call_arguments_spell P ascends).holds a h
  step Arguments a h = (of.arguments_spell P ascends).holds a h
  step MoreArguments a h = (of.more_arguments_spell P ascends).holds a h
  step OneArgument a h = (of.one_argument_spells P ascends).holds a h
  step Indices a h = (of.indices_spell P ascends).holds a h
  step References a h = (of.references_spell P ascends).holds a h
  step Subscripts a h = (of.subscripts_spell P ascends).holds a h
  step TypeSpecs a h = (of.type_specs_spell P ascends).holds a h
  step Names a h = (of.names_spell P ascends).holds a h
  step ClassMods a h = (part.class_mods_spell P ascends descends).holds a h
  step ModArguments a h = (part.arguments_spell P ascends descends).holds a h
  step EquationItems a h = (part.equation_items_spell P ascends descends).holds a h
  step ForEquations a h = (part.for_equations_spell P ascends descends).holds a h
  step WhenEquations a h = (part.when_equations_spell P ascends descends).holds a h
  step ElseEquations a h = (part.else_equations_spell P ascends descends).holds a h
  step IfEquations a h = (part.if_equations_spell P ascends descends).holds a h
  step StatementItems a h = tt
  step ImportNames a h = (class.import_names_spell P ascends descends).holds a h
  step (ElementItems hidden) a h = (class.elements_spell P ascends descends hidden).holds a h
  step Compositions a h = (class.compositions_spell P ascends descends).holds a h
  step Sections a h = (class.sections_spell P ascends descends).holds a h
  step SectionEquations a h = (class.section_equations_spell P ascends descends).holds a h
  step ClassDefinitions a h = (class.classes_spell P ascends descends).holds a h
  step Files a h = (class.files_spell P ascends descends).holds a h

  -- the tree of a file
  pub file_stands : (l : Limits) (tokens : List Lexeme) (file : FileTree) → Spells Files l tokens file → TokensStand Q tokens → Spelled P Files file
  file_stands l tokens file spells h = spelled_stands rule (Spelled P) Q step Files l tokens file spells h
