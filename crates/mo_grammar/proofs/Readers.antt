-- For each production: reading it is reading its form. A reader of a production cites its own line.
use Rattle.std.proofs.Common.{◌≡◌, ℕ, zero, suc, ◌-◌, ◌<◌, List, Bool, Some, None, refl, ap, arith as linear}
use Rattle.mo_grammar.specs.Lexeme.{Lexeme}
use Rattle.mo_grammar.specs.Grammar.{EndName, Limits, at_most, left_inside, a_construct}
use Rattle.mo_grammar.specs.Symbols.{Symbol, Expressions, Simples, Logicals, Conjunctions, Negations, Relations, Sums, Products, Powers, Primaries, CallArguments, Arguments, MoreArguments, OneArgument, Indices, References, Subscripts, TypeSpecs, Names, ClassMods, ModArguments, EquationItems, ForEquations, WhenEquations, ElseEquations, IfEquations, StatementItems, ImportNames, ElementItems, Compositions, Sections, SectionEquations, ClassDefinitions, Files}
use Rattle.mo_grammar.specs.Expressions.{expr, simple, logical, conj, neg, relation, arith, term, factor, primary, call_args, args, more_arguments, arg, indices, reference, subscripts, type_spec, name}
use Rattle.mo_grammar.specs.Classes.{class_mod, argument, equation_item, for_equations, when_equations, else_equations, if_equations, statement, import_names, element, composition, sections, section_equations, class_def, file}
use Rattle.mo_grammar.specs.Productions.{rule}
use Rattle.mo_grammar.specs.Tables.{tables}
use Rattle.mo_grammar.specs.Language.{reads, reads_form}
use Rattle.mo_grammar.proofs.GrammarLaws.{reads_is}
use Rattle.mo_grammar.proofs.Tested.{passed}

reads_rule : (x : Symbol) (l : Limits) (tokens : List Lexeme) → reads x l tokens ≡ reads_form (rule x) l tokens
unfolding reads
reads_rule x l tokens = reads_is tables rule passed x l tokens

pub expressions_are : (l : Limits) (tokens : List Lexeme) → reads Expressions l tokens ≡ reads_form expr l tokens
unfolding rule
expressions_are l tokens = reads_rule Expressions l tokens

pub simples_are : (l : Limits) (tokens : List Lexeme) → reads Simples l tokens ≡ reads_form simple l tokens
unfolding rule
simples_are l tokens = reads_rule Simples l tokens

pub logicals_are : (l : Limits) (tokens : List Lexeme) → reads Logicals l tokens ≡ reads_form logical l tokens
unfolding rule
logicals_are l tokens = reads_rule Logicals l tokens

pub conjunctions_are : (l : Limits) (tokens : List Lexeme) → reads Conjunctions l tokens ≡ reads_form conj l tokens
unfolding rule
conjunctions_are l tokens = reads_rule Conjunctions l tokens

pub negations_are : (l : Limits) (tokens : List Lexeme) → reads Negations l tokens ≡ reads_form neg l tokens
unfolding rule
negations_are l tokens = reads_rule Negations l tokens

pub relations_are : (l : Limits) (tokens : List Lexeme) → reads Relations l tokens ≡ reads_form relation l tokens
unfolding rule
relations_are l tokens = reads_rule Relations l tokens

pub sums_are : (l : Limits) (tokens : List Lexeme) → reads Sums l tokens ≡ reads_form arith l tokens
unfolding rule
sums_are l tokens = reads_rule Sums l tokens

pub products_are : (l : Limits) (tokens : List Lexeme) → reads Products l tokens ≡ reads_form term l tokens
unfolding rule
products_are l tokens = reads_rule Products l tokens

pub powers_are : (l : Limits) (tokens : List Lexeme) → reads Powers l tokens ≡ reads_form factor l tokens
unfolding rule
powers_are l tokens = reads_rule Powers l tokens

pub primaries_are : (l : Limits) (tokens : List Lexeme) → reads Primaries l tokens ≡ reads_form primary l tokens
unfolding rule
primaries_are l tokens = reads_rule Primaries l tokens

pub call_arguments_are : (l : Limits) (tokens : List Lexeme) → reads CallArguments l tokens ≡ reads_form call_args l tokens
unfolding rule
call_arguments_are l tokens = reads_rule CallArguments l tokens

pub arguments_are : (l : Limits) (tokens : List Lexeme) → reads Arguments l tokens ≡ reads_form args l tokens
unfolding rule
arguments_are l tokens = reads_rule Arguments l tokens

pub more_arguments_are : (l : Limits) (tokens : List Lexeme) → reads MoreArguments l tokens ≡ reads_form more_arguments l tokens
unfolding rule
more_arguments_are l tokens = reads_rule MoreArguments l tokens

pub one_argument_are : (l : Limits) (tokens : List Lexeme) → reads OneArgument l tokens ≡ reads_form arg l tokens
unfolding rule
one_argument_are l tokens = reads_rule OneArgument l tokens

pub indices_are : (l : Limits) (tokens : List Lexeme) → reads Indices l tokens ≡ reads_form indices l tokens
unfolding rule
indices_are l tokens = reads_rule Indices l tokens

pub references_are : (l : Limits) (tokens : List Lexeme) → reads References l tokens ≡ reads_form reference l tokens
unfolding rule
references_are l tokens = reads_rule References l tokens

pub subscripts_are : (l : Limits) (tokens : List Lexeme) → reads Subscripts l tokens ≡ reads_form subscripts l tokens
unfolding rule
subscripts_are l tokens = reads_rule Subscripts l tokens

pub type_specs_are : (l : Limits) (tokens : List Lexeme) → reads TypeSpecs l tokens ≡ reads_form type_spec l tokens
unfolding rule
type_specs_are l tokens = reads_rule TypeSpecs l tokens

pub names_are : (l : Limits) (tokens : List Lexeme) → reads Names l tokens ≡ reads_form name l tokens
unfolding rule
names_are l tokens = reads_rule Names l tokens

pub class_mods_are : (l : Limits) (tokens : List Lexeme) → reads ClassMods l tokens ≡ reads_form class_mod l tokens
unfolding rule
class_mods_are l tokens = reads_rule ClassMods l tokens

pub mod_arguments_are : (l : Limits) (tokens : List Lexeme) → reads ModArguments l tokens ≡ reads_form argument l tokens
unfolding rule
mod_arguments_are l tokens = reads_rule ModArguments l tokens

pub equation_items_are : (l : Limits) (tokens : List Lexeme) → reads EquationItems l tokens ≡ reads_form equation_item l tokens
unfolding rule
equation_items_are l tokens = reads_rule EquationItems l tokens

pub for_equations_are : (l : Limits) (tokens : List Lexeme) → reads ForEquations l tokens ≡ reads_form for_equations l tokens
unfolding rule
for_equations_are l tokens = reads_rule ForEquations l tokens

pub when_equations_are : (l : Limits) (tokens : List Lexeme) → reads WhenEquations l tokens ≡ reads_form when_equations l tokens
unfolding rule
when_equations_are l tokens = reads_rule WhenEquations l tokens

pub else_equations_are : (l : Limits) (tokens : List Lexeme) → reads ElseEquations l tokens ≡ reads_form else_equations l tokens
unfolding rule
else_equations_are l tokens = reads_rule ElseEquations l tokens

pub if_equations_are : (l : Limits) (tokens : List Lexeme) → reads IfEquations l tokens ≡ reads_form if_equations l tokens
unfolding rule
if_equations_are l tokens = reads_rule IfEquations l tokens

pub statement_items_are : (l : Limits) (tokens : List Lexeme) → reads StatementItems l tokens ≡ reads_form statement l tokens
unfolding rule
statement_items_are l tokens = reads_rule StatementItems l tokens

pub import_names_are : (l : Limits) (tokens : List Lexeme) → reads ImportNames l tokens ≡ reads_form import_names l tokens
unfolding rule
import_names_are l tokens = reads_rule ImportNames l tokens

pub element_items_are : (hidden : Bool) (l : Limits) (tokens : List Lexeme) → reads (ElementItems hidden) l tokens ≡ reads_form (element hidden) l tokens
unfolding rule
element_items_are hidden l tokens = reads_rule (ElementItems hidden) l tokens

pub compositions_are : (l : Limits) (tokens : List Lexeme) → reads Compositions l tokens ≡ reads_form composition l tokens
unfolding rule
compositions_are l tokens = reads_rule Compositions l tokens

pub sections_are : (l : Limits) (tokens : List Lexeme) → reads Sections l tokens ≡ reads_form sections l tokens
unfolding rule
sections_are l tokens = reads_rule Sections l tokens

pub section_equations_are : (l : Limits) (tokens : List Lexeme) → reads SectionEquations l tokens ≡ reads_form section_equations l tokens
unfolding rule
section_equations_are l tokens = reads_rule SectionEquations l tokens

pub class_definitions_are : (l : Limits) (tokens : List Lexeme) → reads ClassDefinitions l tokens ≡ reads_form class_def l tokens
unfolding rule
class_definitions_are l tokens = reads_rule ClassDefinitions l tokens

pub files_are : (l : Limits) (tokens : List Lexeme) → reads Files l tokens ≡ reads_form file l tokens
unfolding rule
files_are l tokens = reads_rule Files l tokens

-- what is left of the limits inside a construct
pub none_left : (left classes : ℕ) (name : EndName) → left ≡ 0 → left_inside a_construct (at_most left classes name) ≡ None
none_left zero classes name e = refl
none_left (suc left) classes name e = cc

pub some_left : (left classes : ℕ) (name : EndName) → 0 < left → left_inside a_construct (at_most left classes name) ≡ Some (at_most (left - 1) classes name)
some_left zero classes name e = absurd (omega linear)
some_left (suc left) classes name e = ap (λ n. Some (at_most n classes name)) (let same : left ≡ suc left - 1 = omega linear in same)
