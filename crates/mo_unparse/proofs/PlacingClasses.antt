-- The places of modifications, equations, statements, classes and files do not matter to what tokens spell, as in
-- `PlacingExpressions`.
use Rattle.std.proofs.Common.{◌≡◌, ◌&&◌, ◌||◌, ◌==◌, ℕ, Bool, true, false, List, [], ◌∷◌, ◌++◌, map, Option, Some, None, refl, sym, ap, ◌∙◌}
use Rattle.std.specs.Option.{option_map}
use Rattle.std.proofs.lemmas.List.{map-append}
use Rattle.mo_syntax.specs.declared.place.Place.{Place}
use Rattle.mo_syntax.specs.declared.expr.Expr.{Expr}
use Rattle.mo_syntax.specs.declared.expr.Args.{Args}
use Rattle.mo_syntax.specs.declared.expr.ReferenceOf.{ReferenceOf}
use Rattle.mo_syntax.specs.declared.expr.IndexOf.{IndexOf}
use Rattle.mo_syntax.specs.declared.equation.StatementKind.TheVariants.{Call as call_statement, If as if_statement}
use Rattle.mo_syntax.specs.declared.class.Body.{Body}
use Rattle.mo_syntax.specs.declared.class.Body.TheVariants.{Long, Der}
use Rattle.mo_syntax.specs.declared.class.Give.{Give}
use Rattle.mo_syntax.specs.declared.class.Give.TheVariants.{Redeclare, Replaceable}
use Rattle.mo_syntax.specs.declared.class.Item.{Item}
use Rattle.mo_syntax.specs.declared.class.Item.TheVariants.{Extends as extends_item, Member}
use Rattle.mo_syntax.specs.declared.class.Import.TheVariants.{Renamed, Named, Group, All}
use Rattle.mo_syntax.specs.declared.class.What.{What}
use Rattle.mo_syntax.specs.declared.class.What.TheVariants.{Component}
use Rattle.mo_syntax.specs.declared.class.ArgumentOf.{ArgumentOf}
use Rattle.mo_syntax.specs.declared.class.ElementFlags.{ElementFlags}
use Rattle.mo_syntax.specs.declared.class.Prefix.{Prefix}
use Rattle.mo_syntax.specs.declared.class.Vary.{Vary}
use Rattle.mo_syntax.specs.declared.class.Causal.{Causal}
use Rattle.mo_syntax.specs.declared.class.ClassDefOf.{ClassDefOf}
use Rattle.mo_grammar.specs.Lexeme.{Lexeme, code_of}
use Rattle.mo_grammar.specs.Codes.{ident, string, end_of_file, open_paren, close_paren, open_brace, close_brace, semicolon, comma, dot, dot_times, times, plus, colon, equals, assigns, annotation_word, each_word, final_word, redeclare_word, replaceable_word, constrainedby_word, if_word, then_word, elseif_word, else_word, for_word, loop_word, when_word, elsewhen_word, while_word, end_word, connect_word, break_word, return_word, import_word, extends_word, inner_word, outer_word, flow_word, stream_word, discrete_word, parameter_word, constant_word, input_word, output_word, partial_word, class_word, model_word, operator_word, record_word, block_word, expandable_word, connector_word, type_word, package_word, pure_word, impure_word, function_word, enumeration_word, der_word, encapsulated_word, public_word, protected_word, initial_word, equation_word, algorithm_word, external_word, within_word}
use Rattle.mo_grammar.specs.Grammar.{Spelling, symbol, token, seq, made}
use Rattle.mo_grammar.specs.Forms.{before}
use Rattle.mo_grammar.specs.Trees.{or_nothing}
use Rattle.mo_grammar.specs.ClassTrees.{Mods, mods_or_none, mods_of, text_of, path_of, Binding, Declares, Limit, limit_of, argument_element, Argued, argument_of, modifies, replaces, redeclares, redeclares_replaceable, Equation, name_called, is_call, call_of, equality, connection, equation_loop, Branched, when_tree, BranchedElse, if_equation_tree, Statement, Behind, reference_statement, outputs_statement, if_statement_tree, statement_loop, while_tree, when_statement_tree, prefix_of, Declared, component_of, declares_component, Components, whats_of_components, Placed, elements_of, extends_items, place_of_names, renamed_import, Imported, import_of, imported, Kinded, operator_or, class_named, class_tree, declares_class, Inside, appended_items, items_before, equations_section, algorithm_section, long_body, extending_body, short_body, listed_enumeration, der_body, within_of, file_tree, way_of}
use Rattle.mo_grammar.specs.Symbols.{Symbol, ValueOf, Form, Expressions, Simples, CallArguments, Indices, References, Subscripts, TypeSpecs, Names, ClassMods, ModArguments, EquationItems, ForEquations, WhenEquations, ElseEquations, IfEquations, StatementItems, ImportNames, ElementItems, Compositions, Sections, SectionEquations, ClassDefinitions}
use Rattle.mo_grammar.specs.Classes.{strings, annotation_part, comment, commented, class_mod, modification, declaration, prefix, component1, constraint, class_prefixes, literals, enumeration, short_class, short_spec, argument_declares, replaceable_arg, argument, for_equations, for_eq, when_equations, when_eq, else_equations, if_equations, if_eq, connect_eq, equality_or_call, equation_item, statements, statement_branch, if_st, for_st, while_st, when_st, statement_kind, statement, import_names, import_clause, component, declares, element, elements, class_end, annotated_end, external_arguments, external_call, external_end, section, initial_section, other_section, sections, section_equations, composition, long_spec, extends_spec, der_spec, equals_spec, class_spec, class_def, file}
use Rattle.mo_pieces.specs.Pieces.{nowhere, placeless_token}
use Rattle.mo_unparse.specs.Placeless.{placeless_expr, placeless_args, placeless_option, placeless_options, placeless_reference, placeless_indices, placeless_equation_kind, placeless_equation, placeless_equations, placeless_statement_kind, placeless_statement, placeless_statements, placeless_statement_branch}
use Rattle.mo_unparse.specs.PlacelessClasses.{placeless, placeless_import, placeless_body, placeless_give, placeless_item, placeless_what, placeless_element, placeless_argument, placeless_mods, placeless_limit, placeless_component, placeless_class, placeless_within, placeless_file, placeless_branched, placeless_branched_else, placeless_imported, placeless_inside}
use Rattle.mo_unparse.proofs.PlacelessForms.{map_twice, both_same, at_Equal, at_if_equation, at_for_equation, at_when_equation, at_Connect, at_call_equation, at_Assign, at_call_statement, at_Outputs, at_Break, at_Return, at_if_statement, at_for_statement, at_while_statement, at_when_statement}
use Rattle.mo_unparse.proofs.PlacelessClassForms.{at_Long, at_Short, at_Enumeration, at_Der, at_Modify, at_Redeclare, at_Replaceable, at_import_item, at_extends_item, at_Member, at_Equations, at_Algorithm, at_Class, at_Component, at_element}
use Rattle.mo_unparse.proofs.Placing.{Places, through_empty, through_token, through_seq, through_either, through_either2, through_many, through_made, through_placed, through_nested, through_end_name, through_under, through_unless, through_optional, through_flag, through_behind, through_before, through_between, through_separated}
use Rattle.mo_unparse.proofs.PlacingExpressions.{Sets, nothing_placed, args_or_none_placed, outputs_places}
use Rattle.mo_unparse.proofs.PlacingCalls.{placeless_call, called_placed, is_called_placed}

-- ---- what the functions that make trees make of parts that stand nowhere

mods_placed : (o : Option (List (ArgumentOf Give))) → mods_of (option_map (map placeless_argument) o) ≡ placeless_mods (mods_of o)
mods_placed o = ap (λ list. record { 0 = list }) (nothing_placed placeless_argument o)

some_mods : (o : Option Mods) → mods_or_none (option_map placeless_mods o) ≡ placeless_mods (mods_or_none o)
some_mods None = refl
some_mods (Some mods) = refl

texts_placed : (names : List Lexeme) → map text_of (map placeless_token names) ≡ map text_of names
texts_placed names = map_twice placeless_token text_of text_of (λ t. refl) names

path_placed : (names : List Lexeme) → path_of (map placeless_token names) ≡ path_of names
path_placed names = ap (λ list. record { 0 = list }) (texts_placed names)

abbrev placeless_binding : Binding → Binding
placeless_binding x = (placeless_mods x.0, option_map placeless_expr x.1)

abbrev placeless_declares : Declares → Declares
placeless_declares x = (placeless_token x.0, placeless_what x.1)

abbrev placeless_argued : Argued → Argued
placeless_argued x = ((nowhere, map placeless_token x.0.1), placeless_give x.1)

abbrev placeless_declared : Declared → Declared
placeless_declared x = (placeless_token x.0, (option_map placeless_options x.1.0, option_map placeless_binding x.1.1))

limit_placed : (x : ReferenceOf Expr × Option Mods) → limit_of (placeless_reference x.0, option_map placeless_mods x.1) ≡ placeless_limit (limit_of x)
limit_placed (base, mods) = ap (λ m. (placeless_reference base, m)) (some_mods mods)

element_placed : (replaceable : Bool) (what : What) (limit : Option Limit) → argument_element replaceable (placeless_what what) (option_map placeless_limit limit) ≡ placeless_element (argument_element replaceable what limit)
element_placed replaceable what limit = sym (at_element (record { redeclare = false; last = false; inner = false; outer = false; replaceable = replaceable; hidden = false }) what limit)

argument_placed : (x : Bool × (Bool × Argued)) → argument_of (x.0, (x.1.0, placeless_argued x.1.1)) ≡ placeless_argument (argument_of x)
argument_placed (each, x) = ap (λ name. record { each = each; last = x.0; name = name; place = nowhere; give = placeless_give x.1.1 }) (path_placed x.1.0.1)

modifies_placed : (x : (Place × List Lexeme) × Option Binding) → modifies ((nowhere, map placeless_token x.0.1), option_map placeless_binding x.1) ≡ placeless_argued (modifies x)
modifies_placed (name, None) = ap (λ give. ((nowhere, map placeless_token name.1), give)) (sym (at_Modify (mods_or_none None) None))
modifies_placed (name, Some binding) = ap (λ give. ((nowhere, map placeless_token name.1), give)) (sym (at_Modify binding.0 binding.1))

replaces_placed : (x : Declares × Option Limit) → replaces (placeless_declares x.0, option_map placeless_limit x.1) ≡ placeless_argued (replaces x)
replaces_placed (x, limit) = ap (λ give. ((nowhere, placeless_token x.0 ∷ []), give)) (ap Replaceable (element_placed true x.1 limit) ∙ sym (at_Replaceable (argument_element true x.1 limit)))

redeclares_placed : (x : Declares) → redeclares (placeless_declares x) ≡ placeless_argued (redeclares x)
redeclares_placed x = ap (λ give. ((nowhere, placeless_token x.0 ∷ []), give)) (ap Redeclare (element_placed false x.1 None) ∙ sym (at_Redeclare (argument_element false x.1 None)))

redeclares_replaceable_placed : (x : Declares × Option Limit) → redeclares_replaceable (placeless_declares x.0, option_map placeless_limit x.1) ≡ placeless_argued (redeclares_replaceable x)
redeclares_replaceable_placed (x, limit) = ap (λ give. ((nowhere, placeless_token x.0 ∷ []), give)) (ap Redeclare (element_placed true x.1 limit) ∙ sym (at_Redeclare (argument_element true x.1 limit)))

prefix_placed : (x : Option Lexeme × (Option Vary × Option Causal)) → prefix_of (option_map placeless_token x.0, (option_map (λ v. v) x.1.0, option_map (λ w. w) x.1.1)) ≡ prefix_of x
prefix_placed (None, (None, None)) = refl
prefix_placed (None, (None, Some way)) = refl
prefix_placed (None, (Some vary, None)) = refl
prefix_placed (None, (Some vary, Some way)) = refl
prefix_placed (Some t, (None, None)) = refl
prefix_placed (Some t, (None, Some way)) = refl
prefix_placed (Some t, (Some vary, None)) = refl
prefix_placed (Some t, (Some vary, Some way)) = refl

component_placed : (prefixes : Prefix) (base : ReferenceOf Expr) (base_subs : List (Option Expr)) (t : Lexeme) (subs : Option (List (Option Expr))) (binding : Option Binding) (condition : Option Expr) → component_of prefixes (placeless_reference base) (placeless_options base_subs) (placeless_declared (t, (subs, binding))) (placeless_option condition) ≡ placeless_component (component_of prefixes base base_subs (t, (subs, binding)) condition)
component_placed prefixes base base_subs t None None condition = refl
component_placed prefixes base base_subs t None (Some binding) condition = refl
component_placed prefixes base base_subs t (Some subs) None condition = refl
component_placed prefixes base base_subs t (Some subs) (Some binding) condition = refl

component1_placed : (x : Prefix × (ReferenceOf Expr × Declared)) → declares_component (x.0, (placeless_reference x.1.0, placeless_declared x.1.1)) ≡ placeless_declares (declares_component x)
component1_placed (prefixes, x) = ap (λ what. (placeless_token x.1.0, what)) (ap Component (component_placed prefixes x.0 [] x.1.0 x.1.1.0 x.1.1.1 None) ∙ sym (at_Component (component_of prefixes x.0 [] x.1 None)))

operator_placed : (o : Option Lexeme) → operator_or (option_map placeless_token o) ≡ operator_or o
operator_placed None = refl
operator_placed (Some t) = refl

map_nothing : {A : Type 0} (xs : List A) → map (λ x. x) xs ≡ xs
map_nothing [] = refl
map_nothing (x ∷ xs) = ap (λ v. x ∷ v) (map_nothing xs)

literals_placed : (o : Option (List (List ℕ))) → listed_enumeration (option_map (map (λ x. x)) o) ≡ listed_enumeration o
literals_placed None = refl
literals_placed (Some list) = ap Some (map_nothing list)

short_placed : (x : Option Causal × (ReferenceOf Expr × (Option (List (Option Expr)) × Option Mods))) → short_body (option_map (λ w. w) x.0, (placeless_reference x.1.0, (option_map placeless_options x.1.1.0, option_map placeless_mods x.1.1.1))) ≡ placeless_body (short_body x)
short_placed (None, (base, (None, None))) = sym (at_Short _ base [] (mods_or_none None))
short_placed (None, (base, (None, Some mods))) = sym (at_Short _ base [] mods)
short_placed (None, (base, (Some subs, None))) = sym (at_Short _ base subs (mods_or_none None))
short_placed (None, (base, (Some subs, Some mods))) = sym (at_Short _ base subs mods)
short_placed (Some way, (base, (None, None))) = sym (at_Short way base [] (mods_or_none None))
short_placed (Some way, (base, (None, Some mods))) = sym (at_Short way base [] mods)
short_placed (Some way, (base, (Some subs, None))) = sym (at_Short way base subs (mods_or_none None))
short_placed (Some way, (base, (Some subs, Some mods))) = sym (at_Short way base subs mods)

declares_class_placed : (x : Kinded × (Lexeme × Body)) → declares_class (x.0, (placeless_token x.1.0, placeless_body x.1.1)) ≡ placeless_declares (declares_class x)
declares_class_placed (kind, (t, body)) = ap (λ what. (placeless_token t, what)) (sym (at_Class (class_named kind (t, body))))

-- ---- equations and statements

test_placed : (t : Lexeme) (a : Expr) → is_call (placeless_token t) (placeless_expr a) ≡ is_call t a
test_placed t a = ap (λ b. (code_of t == ident || code_of t == dot) && b) (is_called_placed a)

call_placed : (a : Expr) (o : Option (ReferenceOf Expr × Args)) → call_of (placeless_expr a) (option_map placeless_call o) ≡ placeless_equation_kind (call_of a o)
call_placed a None = sym (at_Equal a a)
call_placed a (Some call) = sym (at_call_equation call.0 call.1)

equality_placed : (x : Expr × Option Expr) → equality (placeless_expr x.0, option_map placeless_expr x.1) ≡ placeless_equation_kind (equality x)
equality_placed (a, None) = ap (call_of (placeless_expr a)) (called_placed a) ∙ call_placed a (name_called a)
equality_placed (a, Some b) = sym (at_Equal a b)

connection_placed : (x : ReferenceOf Expr × ReferenceOf Expr) → connection (placeless_reference x.0, placeless_reference x.1) ≡ placeless_equation_kind (connection x)
connection_placed (a, b) = sym (at_Connect a b)

loop_placed : (x : List (IndexOf Expr) × List Equation) → equation_loop (placeless_indices x.0, placeless_equations x.1) ≡ placeless_equation_kind (equation_loop x)
loop_placed (indices, equations) = sym (at_for_equation indices equations)

when_placed : (x : Expr × Branched) → when_tree (placeless_expr x.0, placeless_branched x.1) ≡ placeless_equation_kind (when_tree x)
when_placed (condition, x) = sym (at_when_equation ((condition, x.0) ∷ x.1))

if_placed : (x : Expr × BranchedElse) → if_equation_tree (placeless_expr x.0, placeless_branched_else x.1) ≡ placeless_equation_kind (if_equation_tree x)
if_placed (condition, x) = sym (at_if_equation ((condition, x.0) ∷ x.1.0) x.1.1)

if_statement_placed : (x : (Expr × List Statement) × (List (Expr × List Statement) × Option (List Statement))) → if_statement_tree (placeless_statement_branch x.0, (map placeless_statement_branch x.1.0, option_map placeless_statements x.1.1)) ≡ placeless_statement_kind (if_statement_tree x)
if_statement_placed (first, x) = ap (if_statement (map placeless_statement_branch (first ∷ x.0))) (nothing_placed placeless_statement x.1) ∙ sym (at_if_statement (first ∷ x.0) (or_nothing x.1))

statement_loop_placed : (x : List (IndexOf Expr) × List Statement) → statement_loop (placeless_indices x.0, placeless_statements x.1) ≡ placeless_statement_kind (statement_loop x)
statement_loop_placed (indices, list) = sym (at_for_statement indices list)

while_placed : (x : Expr × List Statement) → while_tree (placeless_expr x.0, placeless_statements x.1) ≡ placeless_statement_kind (while_tree x)
while_placed (condition, list) = sym (at_while_statement condition list)

when_statement_placed : (x : (Expr × List Statement) × List (Expr × List Statement)) → when_statement_tree (placeless_statement_branch x.0, map placeless_statement_branch x.1) ≡ placeless_statement_kind (when_statement_tree x)
when_statement_placed (first, more) = sym (at_when_statement (first ∷ more))

outputs_statement_placed : (x : List (Option Expr) × (ReferenceOf Expr × Args)) → outputs_statement (placeless_options x.0, (placeless_reference x.1.0, placeless_args x.1.1)) ≡ placeless_statement_kind (outputs_statement x)
outputs_statement_placed (outputs, x) = sym (at_Outputs outputs x.0 x.1)

reference_statement_placed : (x : ReferenceOf Expr × Behind) → reference_statement (placeless_reference x.0, (option_map placeless_expr x.1.0, option_map placeless_args x.1.1)) ≡ placeless_statement_kind (reference_statement x)
reference_statement_placed (r, (Some value, given)) = sym (at_Assign r value)
reference_statement_placed (r, (None, given)) = ap (call_statement (placeless_reference r)) (args_or_none_placed given) ∙ sym (at_call_statement r _)

-- ---- elements

names_nowhere : (names : List Lexeme) → place_of_names (map placeless_token names) ≡ nowhere
names_nowhere [] = refl
names_nowhere (t ∷ names) = refl

renamed_placed : (x : Lexeme × List Lexeme) → renamed_import (placeless_token x.0, map placeless_token x.1) ≡ placeless_import (renamed_import x)
renamed_placed (t, names) = both_same (Renamed t.text) _ _ _ _ (path_placed names) (names_nowhere names)

import_placed : (x : Imported) → import_of (placeless_imported x) ≡ placeless_import (import_of x)
import_placed (names, None) = both_same Named _ _ _ _ (path_placed names) (names_nowhere names)
import_placed (names, Some None) = both_same All _ _ _ _ (path_placed names) (names_nowhere names)
import_placed (names, Some (Some group)) = both_same (λ path place. Group path (map text_of (map placeless_token group)) place) _ _ _ _ (path_placed names) (names_nowhere names) ∙ ap (λ texts. Group (path_of names) texts nowhere) (texts_placed group)

imported_placed : (x : Lexeme × Option Imported) → imported (placeless_token x.0, option_map placeless_imported x.1) ≡ placeless_imported (imported x)
imported_placed (t, None) = refl
imported_placed (t, Some x) = refl

abbrev placeless_conditional : Declared × Option Expr → Declared × Option Expr
placeless_conditional d = (placeless_declared d.0, option_map placeless_expr d.1)

abbrev what_of : Prefix → ReferenceOf Expr → List (Option Expr) → Declared × Option Expr → What
what_of prefixes base subs d = Component (component_of prefixes base subs d.0 d.1)

what_placed : (prefixes : Prefix) (base : ReferenceOf Expr) (subs : List (Option Expr)) (d : Declared × Option Expr) → what_of prefixes (placeless_reference base) (placeless_options subs) (placeless_conditional d) ≡ placeless_what (what_of prefixes base subs d)
what_placed prefixes base subs d = ap Component (component_placed prefixes base subs d.0.0 d.0.1.0 d.0.1.1 d.1) ∙ sym (at_Component (component_of prefixes base subs d.0 d.1))

whats_placed : (x : Components) → whats_of_components ((x.0.0, (placeless_reference x.0.1.0, option_map placeless_options x.0.1.1)), map placeless_conditional x.1) ≡ map placeless_what (whats_of_components x)
whats_placed (x, list) =
    ap (λ subs. map (what_of x.0 (placeless_reference x.1.0) subs) (map placeless_conditional list)) (nothing_placed placeless_option x.1.1)
    ∙ map_twice placeless_conditional _ (λ d. placeless_what (what_of x.0 x.1.0 (or_nothing x.1.1) d)) (what_placed x.0 x.1.0 (or_nothing x.1.1)) list
    ∙ sym (map_twice (what_of x.0 x.1.0 (or_nothing x.1.1)) placeless_what _ (λ d. refl) list)

member_placed : (flags : ElementFlags) (limit : Option Limit) (what : What) → Member (record { flags = flags; what = placeless_what what; limit = option_map placeless_limit limit }) ≡ placeless_item (Member (record { flags = flags; what = what; limit = limit }))
member_placed flags limit what = ap Member (sym (at_element flags what limit)) ∙ sym (at_Member (record { flags = flags; what = what; limit = limit }))

elements_placed : (hidden : Bool) (x : (Bool × (Bool × (Bool × Bool))) × Placed) → elements_of hidden ((x.0.0, (x.0.1.0, (x.0.1.1.0, x.0.1.1.1))), (map placeless_what x.1.0, (x.1.1.0, option_map placeless_limit x.1.1.1))) ≡ map placeless_item (elements_of hidden x)
elements_placed hidden (flags, x) =
    map_twice placeless_what _ _ (member_placed (record { redeclare = flags.0; last = flags.1.0; inner = flags.1.1.0; outer = flags.1.1.1; replaceable = x.1.0; hidden = hidden }) x.1.1) x.0
    ∙ sym (map_twice _ placeless_item _ (λ what. refl) x.0)

extends_placed : (hidden : Bool) (x : ReferenceOf Expr × Option Mods) → extends_items hidden (placeless_reference x.0, option_map placeless_mods x.1) ≡ map placeless_item (extends_items hidden x)
extends_placed hidden (base, mods) = ap (λ item. item ∷ []) (ap (λ m. extends_item (record { base = placeless_reference base; mods = m; hidden = hidden })) (some_mods mods) ∙ sym (at_extends_item (record { base = base; mods = mods_or_none mods; hidden = hidden })))

-- ---- classes and files

appended_placed : (more : List Item) (lists : List (List Item)) → appended_items (map placeless_item more) (map (map placeless_item) lists) ≡ map placeless_item (appended_items more lists)
appended_placed more [] = refl
appended_placed more (items ∷ lists) = ap (λ v. map placeless_item items ++ v) (appended_placed more lists) ∙ sym (map-append placeless_item items (appended_items more lists))

items_placed : (x : List (List Item) × Inside) → items_before (map (map placeless_item) x.0, placeless_inside x.1) ≡ placeless_inside (items_before x)
items_placed (lists, x) = ap (λ items. (items, x.1)) (appended_placed x.0 lists)

equations_placed : (initial : Bool) (x : List Equation × Inside) → equations_section initial (placeless_equations x.0, placeless_inside x.1) ≡ placeless_inside (equations_section initial x)
equations_placed initial (equations, x) = ap (λ item. (item ∷ map placeless_item x.0, x.1)) (sym (at_Equations initial equations))

algorithm_placed : (initial : Bool) (x : List Statement × Inside) → algorithm_section initial (placeless_statements x.0, placeless_inside x.1) ≡ placeless_inside (algorithm_section initial x)
algorithm_placed initial (list, x) = ap (λ item. (item ∷ map placeless_item x.0, x.1)) (sym (at_Algorithm initial list))

long_placed : (x : Lexeme × Inside) → long_body (placeless_token x.0, placeless_inside x.1) ≡ (placeless_token (long_body x).0, placeless_body (long_body x).1)
long_placed (t, x) = ap (λ body. (placeless_token t, body)) (sym (at_Long None x.0 x.1))

extending_placed : (x : Lexeme × (Option Mods × Inside)) → extending_body (placeless_token x.0, (option_map placeless_mods x.1.0, placeless_inside x.1.1)) ≡ (placeless_token (extending_body x).0, placeless_body (extending_body x).1)
extending_placed (t, x) = ap (λ body. (placeless_token t, body)) (ap (λ m. Long (Some m) (map placeless_item x.1.0) x.1.1) (some_mods x.0) ∙ sym (at_Long (Some (mods_or_none x.0)) x.1.0 x.1.1))

der_placed : (x : ReferenceOf Expr × List Lexeme) → der_body (placeless_reference x.0, map placeless_token x.1) ≡ placeless_body (der_body x)
der_placed (base, names) = ap (Der (placeless_reference base)) (texts_placed names) ∙ sym (at_Der base (map text_of names))

class_placed : (x : Bool × (Kinded × (Lexeme × Body))) → class_tree (x.0, (x.1.0, (placeless_token x.1.1.0, placeless_body x.1.1.1))) ≡ placeless_class (class_tree x)
class_placed (encapsulated, x) = refl

within_placed : (o : Option (Option (Place × List Lexeme))) → within_of (option_map (option_map (λ x. (nowhere, map placeless_token x.1))) o) ≡ option_map placeless_within (within_of o)
within_placed None = refl
within_placed (Some None) = refl
within_placed (Some (Some x)) = ap (λ path. Some (path, nowhere)) (path_placed x.1)

file_placed : (x : Option (Option (Place × List Lexeme)) × (List (ClassDefOf Body) × Lexeme)) → file_tree (option_map (option_map (λ y. (nowhere, map placeless_token y.1))) x.0, (map placeless_class x.1.0, placeless_token x.1.1)) ≡ placeless_file (file_tree x)
file_placed (within, x) = ap (λ w. record { file = 0; within = w; classes = map placeless_class x.0 }) (within_placed within)

-- ---- the productions

module _ (of : Spelling Symbol ValueOf) (at : (x : Symbol) → Places Symbol ValueOf (ValueOf x) of (symbol x) (placeless x)) where
  strings_places : Sets of strings (λ x. x)
  strings_places = through_either (through_made (through_separated plus (through_token of (string ∷ []))) (λ a. refl)) (through_empty of refl)

  annotation_places : Sets of annotation_part (λ x. x)
  annotation_places = through_made (through_behind annotation_word (at ClassMods)) (λ a. refl)

  comment_places : Sets of comment (λ x. x)
  comment_places = through_made (through_seq strings_places (through_optional annotation_places)) (λ a. refl)

  commented_places : {A : Type 0} {g : Form A} {u : A → A} → Sets of g u → Sets of (commented g) u
  commented_places p = through_made (through_seq p comment_places) (λ a. refl)

  pub class_mod_places : Sets of class_mod placeless_mods
  class_mod_places = through_made (through_between open_paren close_paren (through_optional (through_separated comma (at ModArguments)))) mods_placed

  modification_places : Sets of modification placeless_binding
  modification_places = through_either (through_seq (at ClassMods) (through_optional (through_behind equals (at Expressions)))) (through_made (through_seq (through_token of (equals ∷ assigns ∷ [])) (at Expressions)) (λ x. refl))

  declaration_places : Sets of declaration placeless_declared
  declaration_places = through_seq (through_token of (ident ∷ [])) (through_seq (through_optional (at Subscripts)) (through_optional modification_places))

  way_places : Sets of (made way_of (token (input_word ∷ output_word ∷ []))) (λ w. w)
  way_places = through_made (through_token of (input_word ∷ output_word ∷ [])) (λ t. refl)

  prefix_places : Sets of prefix (λ x. x)
  prefix_places = through_made (through_seq (through_optional (through_token of (flow_word ∷ stream_word ∷ []))) (through_seq (through_optional (through_made {v = λ v. v} (through_token of (discrete_word ∷ parameter_word ∷ constant_word ∷ [])) (λ t. refl))) (through_optional way_places))) prefix_placed

  component1_places : Sets of component1 placeless_declares
  component1_places = through_made (through_seq prefix_places (through_seq (at TypeSpecs) (commented_places declaration_places))) component1_placed

  constraint_places : Sets of constraint placeless_limit
  constraint_places = through_made (through_behind constrainedby_word (through_seq (at TypeSpecs) (through_optional (at ClassMods)))) limit_placed

  class_prefixes_places : Sets of class_prefixes (λ x. x)
  class_prefixes_places =
      through_made (through_seq (through_flag of partial_word)
      (through_either {u = λ x. x} (through_made (through_token of (class_word ∷ model_word ∷ record_word ∷ block_word ∷ connector_word ∷ type_word ∷ package_word ∷ function_word ∷ [])) (λ t. refl))
      (through_either (through_made (through_behind expandable_word (through_token of (connector_word ∷ []))) (λ t. refl))
      (through_either (through_made (through_seq (through_token of (pure_word ∷ impure_word ∷ [])) (through_seq (through_flag of operator_word) (through_token of (function_word ∷ [])))) (λ x. refl))
      (through_made (through_behind operator_word (through_optional (through_token of (record_word ∷ function_word ∷ [])))) operator_placed))))) (λ x. refl)

  literals_places : Sets of literals (map (λ x. x))
  literals_places = through_separated comma (commented_places (through_made (through_token of (ident ∷ [])) (λ t. refl)))

  enumeration_places : Sets of enumeration placeless_body
  enumeration_places =
      through_made (commented_places (through_behind enumeration_word (through_between open_paren close_paren
      (through_either {u = λ x. x} (through_made (through_token of (colon ∷ [])) (λ t. refl)) (through_made (through_optional literals_places) literals_placed))))) (λ o. sym (at_Enumeration o))

  short_class_places : Sets of short_class placeless_body
  short_class_places = through_made (through_seq (through_optional way_places) (through_seq (at TypeSpecs) (through_seq (through_optional (at Subscripts)) (commented_places (through_optional (at ClassMods)))))) short_placed

  short_spec_places : Sets of short_spec (λ x. (placeless_token x.0, placeless_body x.1))
  short_spec_places = through_seq (through_token of (ident ∷ [])) (through_behind equals (through_either enumeration_places short_class_places))

  argument_declares_places : Sets of argument_declares placeless_declares
  argument_declares_places = through_either (through_made (through_seq class_prefixes_places short_spec_places) declares_class_placed) component1_places

  replaceable_places : Sets of replaceable_arg (λ x. (placeless_declares x.0, option_map placeless_limit x.1))
  replaceable_places = through_behind replaceable_word (through_seq argument_declares_places (through_optional constraint_places))

  pub argument_places : Sets of argument placeless_argument
  argument_places =
      through_either
      (through_behind redeclare_word (through_made (through_seq (through_flag of each_word) (through_seq (through_flag of final_word) (through_either (through_made replaceable_places redeclares_replaceable_placed) (through_made argument_declares_places redeclares_placed)))) argument_placed))
      (through_made (through_seq (through_flag of each_word) (through_seq (through_flag of final_word) (through_either (through_made replaceable_places replaces_placed)
      (through_made (through_made (through_seq (through_seq (through_placed (at Names)) (through_optional modification_places)) strings_places) (λ x. refl)) modifies_placed)))) argument_placed)

  -- ---- equations

  item_behind : Sets of (before (symbol EquationItems) semicolon) placeless_equation
  item_behind = through_before semicolon (at EquationItems)

  end_places : (c : ℕ) → Sets of (seq (token (end_word ∷ [])) (token (c ∷ []))) (λ x. (placeless_token x.0, placeless_token x.1))
  end_places c = through_seq (through_token of (end_word ∷ [])) (through_token of (c ∷ []))

  pub for_equations_places : Sets of for_equations placeless_equations
  for_equations_places = through_either2 (through_made (end_places for_word) (λ x. refl)) (through_made (through_seq item_behind (at ForEquations)) (λ x. refl))

  for_eq_places : Sets of for_eq placeless_equation_kind
  for_eq_places = through_nested (through_made (through_behind for_word (through_seq (at Indices) (through_behind loop_word (at ForEquations)))) loop_placed)

  pub when_equations_places : Sets of when_equations placeless_branched
  when_equations_places =
      through_either2 (through_made (end_places when_word) (λ x. refl))
      (through_either (through_made (through_behind elsewhen_word (through_seq (at Expressions) (through_behind then_word (at WhenEquations)))) (λ x. refl))
      (through_made (through_seq item_behind (at WhenEquations)) (λ x. refl)))

  when_eq_places : Sets of when_eq placeless_equation_kind
  when_eq_places = through_nested (through_made (through_behind when_word (through_seq (at Expressions) (through_behind then_word (at WhenEquations)))) when_placed)

  pub else_equations_places : Sets of else_equations placeless_equations
  else_equations_places = through_either2 (through_made (end_places if_word) (λ x. refl)) (through_made (through_seq item_behind (at ElseEquations)) (λ x. refl))

  pub if_equations_places : Sets of if_equations placeless_branched_else
  if_equations_places =
      through_either2 (through_made (end_places if_word) (λ x. refl))
      (through_either (through_made (through_behind elseif_word (through_seq (at Expressions) (through_behind then_word (at IfEquations)))) (λ x. refl))
      (through_either (through_made (through_behind else_word (at ElseEquations)) (λ x. refl))
      (through_made (through_seq item_behind (at IfEquations)) (λ x. refl))))

  if_eq_places : Sets of if_eq placeless_equation_kind
  if_eq_places = through_nested (through_made (through_behind if_word (through_seq (at Expressions) (through_behind then_word (at IfEquations)))) if_placed)

  connect_places : Sets of connect_eq placeless_equation_kind
  connect_places = through_made (through_behind connect_word (through_between open_paren close_paren (through_seq (at References) (through_behind comma (at References))))) connection_placed

  equality_places : Sets of equality_or_call placeless_equation_kind
  equality_places = through_made (through_unless (at Simples) (through_behind equals (at Expressions)) test_placed) equality_placed

  pub equation_places : Sets of equation_item placeless_equation
  equation_places = through_made (through_placed (commented_places (through_either if_eq_places (through_either for_eq_places (through_either when_eq_places (through_either connect_places equality_places)))))) (λ x. refl)

  -- ---- statements

  statements_places : Sets of statements placeless_statements
  statements_places = through_many (through_before semicolon (at StatementItems))

  statement_branch_places : Sets of statement_branch placeless_statement_branch
  statement_branch_places = through_seq (at Expressions) (through_behind then_word statements_places)

  if_st_places : Sets of if_st placeless_statement_kind
  if_st_places = through_nested (through_made (through_behind if_word (through_seq statement_branch_places (through_seq (through_many (through_behind elseif_word statement_branch_places)) (through_before if_word (through_before end_word (through_optional (through_behind else_word statements_places))))))) if_statement_placed)

  for_st_places : Sets of for_st placeless_statement_kind
  for_st_places = through_nested (through_made (through_behind for_word (through_seq (at Indices) (through_behind loop_word (through_before for_word (through_before end_word statements_places))))) statement_loop_placed)

  while_st_places : Sets of while_st placeless_statement_kind
  while_st_places = through_nested (through_made (through_behind while_word (through_seq (at Expressions) (through_behind loop_word (through_before while_word (through_before end_word statements_places))))) while_placed)

  when_st_places : Sets of when_st placeless_statement_kind
  when_st_places = through_nested (through_made (through_behind when_word (through_seq statement_branch_places (through_before when_word (through_before end_word (through_many (through_behind elsewhen_word statement_branch_places)))))) when_statement_placed)

  statement_kind_places : Sets of statement_kind placeless_statement_kind
  statement_kind_places =
      through_either (through_made (through_token of (break_word ∷ [])) (λ t. sym at_Break))
      (through_either (through_made (through_token of (return_word ∷ [])) (λ t. sym at_Return))
      (through_either if_st_places (through_either for_st_places (through_either while_st_places (through_either when_st_places
      (through_either (through_made (through_seq (through_between open_paren close_paren (outputs_places of at)) (through_behind assigns (through_seq (at References) (at CallArguments)))) outputs_statement_placed)
      (through_made (through_seq (at References) (through_either {u = λ x. (option_map placeless_expr x.0, option_map placeless_args x.1)} (through_made (through_behind assigns (at Expressions)) (λ a. refl)) (through_made (at CallArguments) (λ a. refl)))) reference_statement_placed)))))))

  pub statement_places : Sets of statement placeless_statement
  statement_places = through_made (through_placed (commented_places statement_kind_places)) (λ x. refl)

  -- ---- elements

  pub import_names_places : Sets of import_names placeless_imported
  import_names_places =
      through_made (through_seq (through_token of (ident ∷ [])) (through_optional
      (through_either (through_made (through_token of (dot_times ∷ [])) (λ t. refl))
      (through_behind dot (through_either (through_made (through_token of (times ∷ [])) (λ t. refl)) (through_either (through_made (through_between open_brace close_brace (through_separated comma (through_token of (ident ∷ [])))) (λ list. refl)) (at ImportNames))))))) imported_placed

  import_places : Sets of import_clause placeless_import
  import_places = through_behind import_word (commented_places (through_either2 (through_made (through_seq (through_token of (ident ∷ [])) (through_behind equals (at Names))) renamed_placed) (through_made (at ImportNames) import_placed)))

  component_places : Sets of component placeless_conditional
  component_places = commented_places (through_seq declaration_places (through_optional (through_behind if_word (at Expressions))))

  declares_places : Sets of declares (map placeless_what)
  declares_places = through_either (through_made (at ClassDefinitions) (λ class. ap (λ what. what ∷ []) (sym (at_Class class)))) (through_made (through_seq (through_seq prefix_places (through_seq (at TypeSpecs) (through_optional (at Subscripts)))) (through_separated comma component_places)) whats_placed)

  pub element_places : (hidden : Bool) → Sets of (element hidden) (map placeless_item)
  element_places hidden =
      through_either (through_made import_places (λ clause. ap (λ item. item ∷ []) (sym (at_import_item clause))))
      (through_either (through_made (through_behind extends_word (through_made (through_seq (through_seq (at TypeSpecs) (through_optional (at ClassMods))) (through_optional annotation_places)) (λ x. refl))) (extends_placed hidden))
      (through_made (through_seq (through_seq (through_flag of redeclare_word) (through_seq (through_flag of final_word) (through_seq (through_flag of inner_word) (through_flag of outer_word))))
      (through_either {u = λ x. (map placeless_what x.0, (x.1.0, option_map placeless_limit x.1.1))} (through_made (through_behind replaceable_word (through_seq declares_places (through_optional (commented_places constraint_places)))) (λ x. refl)) (through_made declares_places (λ x. refl)))) (elements_placed hidden)))

  elements_places : (hidden : Bool) → Sets of (elements hidden) (map (map placeless_item))
  elements_places hidden = through_many (through_before semicolon (at (ElementItems hidden)))

  -- ---- classes

  class_end_places : Sets of class_end placeless_inside
  class_end_places = through_made (through_behind end_word (through_end_name of)) (λ t. refl)

  annotated_places : Sets of annotated_end placeless_inside
  annotated_places = through_behind annotation_word (through_made (through_seq (through_before semicolon (at ClassMods)) class_end_places) (λ x. refl))

  external_arguments_places : Sets of external_arguments (λ x. x)
  external_arguments_places = through_made (through_between open_paren close_paren (through_optional (through_separated comma (at Expressions)))) (λ x. refl)

  external_call_places : Sets of external_call (λ x. x)
  external_call_places = through_either2 (through_made (through_seq (through_token of (ident ∷ [])) external_arguments_places) (λ x. refl)) (through_made (through_seq (at References) (through_behind equals (through_seq (through_token of (ident ∷ [])) external_arguments_places))) (λ x. refl))

  external_places : Sets of external_end placeless_inside
  external_places =
      through_made (through_behind external_word (through_made (through_seq (through_seq (through_optional (through_token of (string ∷ []))) (through_seq (through_optional external_call_places) (through_optional annotation_places)))
      (through_behind semicolon (through_either annotated_places class_end_places))) (λ x. refl))) (λ x. refl)

  section_places : (initial : Bool) → Sets of (section initial) placeless_inside
  section_places initial = through_either (through_made (through_behind equation_word (at SectionEquations)) (equations_placed initial)) (through_made (through_behind algorithm_word (through_seq statements_places (at Sections))) (algorithm_placed initial))

  initial_places : Sets of initial_section placeless_inside
  initial_places = through_behind initial_word (section_places true)

  other_places : Sets of other_section placeless_inside
  other_places =
      through_either (through_made (through_behind public_word (through_seq (elements_places false) (at Sections))) items_placed)
      (through_either (through_made (through_behind protected_word (through_seq (elements_places true) (at Sections))) items_placed)
      (through_either (section_places false) (through_either external_places annotated_places)))

  pub sections_places : Sets of sections placeless_inside
  sections_places = through_either other_places (through_either initial_places class_end_places)

  pub section_equations_places : Sets of section_equations (λ x. (placeless_equations x.0, placeless_inside x.1))
  section_equations_places =
      through_either2 (through_made class_end_places (λ x. refl))
      (through_either2 (through_made initial_places (λ x. refl))
      (through_either (through_made (through_seq item_behind (at SectionEquations)) (λ x. refl)) (through_made other_places (λ x. refl))))

  pub composition_places : Sets of composition placeless_inside
  composition_places = through_made (through_seq (elements_places false) (at Sections)) items_placed

  long_places : Sets of long_spec (λ x. (placeless_token x.0, placeless_body x.1))
  long_places = through_made (through_under (through_token of (ident ∷ [])) (through_made (through_seq strings_places (at Compositions)) (λ x. refl)) (λ t. refl)) long_placed

  extending_places : Sets of extends_spec (λ x. (placeless_token x.0, placeless_body x.1))
  extending_places = through_made (through_under (through_behind extends_word (through_token of (ident ∷ []))) (through_seq (through_optional (at ClassMods)) (through_made (through_seq strings_places (at Compositions)) (λ x. refl))) (λ t. refl)) extending_placed

  der_places : Sets of der_spec placeless_body
  der_places = through_made (commented_places (through_behind der_word (through_between open_paren close_paren (through_seq (at TypeSpecs) (through_behind comma (through_separated comma (through_token of (ident ∷ [])))))))) der_placed

  equals_places : Sets of equals_spec (λ x. (placeless_token x.0, placeless_body x.1))
  equals_places = through_seq (through_token of (ident ∷ [])) (through_behind equals (through_either der_places (through_either enumeration_places short_class_places)))

  class_spec_places : Sets of class_spec (λ x. (placeless_token x.0, placeless_body x.1))
  class_spec_places = through_either extending_places (through_either2 equals_places long_places)

  pub class_def_places : Sets of class_def placeless_class
  class_def_places = through_nested (through_made (through_seq (through_flag of encapsulated_word) (through_seq class_prefixes_places class_spec_places)) class_placed)

  pub file_places : Sets of file placeless_file
  file_places =
      through_made (through_seq (through_optional (through_behind within_word (through_before semicolon (through_optional (through_placed (at Names))))))
      (through_seq (through_many (through_made (through_seq (through_flag of final_word) (through_before semicolon (at ClassDefinitions))) (λ x. refl))) (through_token of (end_of_file ∷ [])))) file_placed
