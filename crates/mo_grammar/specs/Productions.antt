-- The grammar of each production that others lead to.
use Rattle.mo_grammar.specs.Symbols.{Symbol, ValueOf, Form, Expressions, Simples, Logicals, Conjunctions, Negations, Relations, Sums, Products, Powers, Primaries, CallArguments, Arguments, MoreArguments, OneArgument, Indices, References, Subscripts, TypeSpecs, Names, ClassMods, ModArguments, EquationItems, ForEquations, WhenEquations, ElseEquations, IfEquations, StatementItems, ImportNames, ElementItems, Compositions, Sections, SectionEquations, ClassDefinitions, Files}
use Rattle.mo_grammar.specs.Expressions.{expr, simple, logical, conj, neg, relation, arith, term, factor, primary, call_args, args, more_arguments, arg, indices, reference, subscripts, type_spec, name}
use Rattle.mo_grammar.specs.Classes.{class_mod, argument, equation_item, for_equations, when_equations, else_equations, if_equations, statement, import_names, element, composition, sections, section_equations, class_def, file}

unfoldable pub rule : (x : Symbol) → Form (ValueOf x)
rule Expressions = expr
rule Simples = simple
rule Logicals = logical
rule Conjunctions = conj
rule Negations = neg
rule Relations = relation
rule Sums = arith
rule Products = term
rule Powers = factor
rule Primaries = primary
rule CallArguments = call_args
rule Arguments = args
rule MoreArguments = more_arguments
rule OneArgument = arg
rule Indices = indices
rule References = reference
rule Subscripts = subscripts
rule TypeSpecs = type_spec
rule Names = name
rule ClassMods = class_mod
rule ModArguments = argument
rule EquationItems = equation_item
rule ForEquations = for_equations
rule WhenEquations = when_equations
rule ElseEquations = else_equations
rule IfEquations = if_equations
rule StatementItems = statement
rule ImportNames = import_names
rule (ElementItems hidden) = element hidden
rule Compositions = composition
rule Sections = sections
rule SectionEquations = section_equations
rule ClassDefinitions = class_def
rule Files = file
