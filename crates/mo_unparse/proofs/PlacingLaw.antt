-- The law of places: where tokens without their places spell a value, the tokens themselves spell one that is it without its
-- places.
use Rattle.std.proofs.Common.{◌≡◌, ℕ, zero, suc, List, map, sym, subst}
use Rattle.mo_grammar.specs.Lexeme.{Lexeme}
use Rattle.mo_grammar.specs.Grammar.{Limits, Spelling, symbol, SpelledIn}
use Rattle.mo_grammar.specs.Symbols.{Symbol, ValueOf, Expressions, Simples, Logicals, Conjunctions, Negations, Relations, Sums, Products, Powers, Primaries, CallArguments, Arguments, MoreArguments, OneArgument, Indices, References, Subscripts, TypeSpecs, Names, ClassMods, ModArguments, EquationItems, ForEquations, WhenEquations, ElseEquations, IfEquations, StatementItems, ImportNames, ElementItems, Compositions, Sections, SectionEquations, ClassDefinitions, Files}
use Rattle.mo_grammar.specs.Productions.{rule}
use Rattle.mo_grammar.specs.Language.{Spells}
use Rattle.mo_pieces.specs.Pieces.{Piece, placeless_token, tokens_of}
use Rattle.mo_unparse.proofs.Building.{IsPrinted}
use Rattle.mo_unparse.specs.PlacelessClasses.{placeless}
use Rattle.mo_unparse.proofs.Placing.{Places}
use Rattle.mo_unparse.proofs.PlacingExpressions.{Sets, expr_places, simple_places, logical_places, conj_places, neg_places, relation_places, arith_places, term_places, factor_places, primary_places, call_args_places, args_places, more_places, arg_places, indices_places, reference_places, subscripts_places, type_spec_places, name_places}
use Rattle.mo_unparse.proofs.PlacingClasses.{class_mod_places, argument_places, equation_places, for_equations_places, when_equations_places, else_equations_places, if_equations_places, statement_places, import_names_places, element_places, composition_places, sections_places, section_equations_places, class_def_places, file_places}

rule_places : (of : Spelling Symbol ValueOf) → ((x : Symbol) → Places Symbol ValueOf (ValueOf x) of (symbol x) (placeless x)) → (x : Symbol) → Sets of (rule x) (placeless x)
unfolding rule
rule_places of at Expressions = expr_places of at
rule_places of at Simples = simple_places of at
rule_places of at Logicals = logical_places of at
rule_places of at Conjunctions = conj_places of at
rule_places of at Negations = neg_places of at
rule_places of at Relations = relation_places of at
rule_places of at Sums = arith_places of at
rule_places of at Products = term_places of at
rule_places of at Powers = factor_places of at
rule_places of at Primaries = primary_places of at
rule_places of at CallArguments = call_args_places of at
rule_places of at Arguments = args_places of at
rule_places of at MoreArguments = more_places of at
rule_places of at OneArgument = arg_places of at
rule_places of at Indices = indices_places of at
rule_places of at References = reference_places of at
rule_places of at Subscripts = subscripts_places of at
rule_places of at TypeSpecs = type_spec_places of at
rule_places of at Names = name_places of at
rule_places of at ClassMods = class_mod_places of at
rule_places of at ModArguments = argument_places of at
rule_places of at EquationItems = equation_places of at
rule_places of at ForEquations = for_equations_places of at
rule_places of at WhenEquations = when_equations_places of at
rule_places of at ElseEquations = else_equations_places of at
rule_places of at IfEquations = if_equations_places of at
rule_places of at StatementItems = statement_places of at
rule_places of at ImportNames = import_names_places of at
rule_places of at (ElementItems hidden) = element_places of at hidden
rule_places of at Compositions = composition_places of at
rule_places of at Sections = sections_places of at
rule_places of at SectionEquations = section_equations_places of at
rule_places of at ClassDefinitions = class_def_places of at
rule_places of at Files = file_places of at

in_places : (n : ℕ) (x : Symbol) → Places Symbol ValueOf (ValueOf x) (SpelledIn rule n) (symbol x) (placeless x)
in_places zero x = record { at = λ l w b s. absurd s }
in_places (suc n) x = record { at = λ l w b s. (rule_places (SpelledIn rule n) (λ y. in_places n y) x).at l w b s }

pub places_do_not_matter : (x : Symbol) (l : Limits) (again : List Lexeme) (b : ValueOf x) → Spells x l (map placeless_token again) b → (a : ValueOf x) × Spells x l again a × (placeless x a ≡ b)
places_do_not_matter x l again b s = let one = (in_places s.0 x).at l again b s.1 in (one.0, (s.0, one.1), one.2)

-- Tokens that are those of pieces, places aside, spell what the pieces spell, places aside.
pub printed_again : (x : Symbol) (l : Limits) (ps : List Piece) (b : ValueOf x) (again : List Lexeme) → IsPrinted (symbol x) l ps b → map placeless_token again ≡ tokens_of ps → (a : ValueOf x) × Spells x l again a × (placeless x a ≡ b)
printed_again x l ps b again p e = places_do_not_matter x l again b (subst (λ w. Spells x l w b) (sym e) p.spelled)
