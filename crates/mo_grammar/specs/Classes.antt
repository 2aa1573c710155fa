-- The grammar of modifications, equations, statements, classes and files (Modelica Language Specification 3.5, appendix A.2.1
-- to A.2.6), as in `Expressions`.
use Rattle.std.specs.Prelude.{ℕ, Bool, true, false, List, [], ◌∷◌, Option, Some}
use Rattle.mo_syntax.specs.declared.expr.Expr.{Expr}
use Rattle.mo_syntax.specs.declared.equation.EquationKind.{EquationKind}
use Rattle.mo_syntax.specs.declared.equation.StatementKind.{StatementKind}
use Rattle.mo_syntax.specs.declared.class.Body.{Body}
use Rattle.mo_syntax.specs.declared.class.ClassDefOf.{ClassDefOf}
use Rattle.mo_syntax.specs.declared.class.ArgumentOf.{ArgumentOf}
use Rattle.mo_syntax.specs.declared.class.Give.{Give}
use Rattle.mo_syntax.specs.declared.class.Item.{Item}
use Rattle.mo_syntax.specs.declared.class.Import.{Import}
use Rattle.mo_syntax.specs.declared.class.Prefix.{Prefix}
use Rattle.mo_syntax.specs.declared.class.Vary.{Vary}
use Rattle.mo_syntax.specs.declared.class.Causal.{Causal}
use Rattle.mo_syntax.specs.declared.class.FileTree.{FileTree}
use Rattle.mo_grammar.specs.Lexeme.{Lexeme}
use Rattle.mo_grammar.specs.Codes.{ident, string, end_of_file, open_paren, close_paren, open_brace, close_brace, semicolon, comma, dot, dot_times, times, plus, colon, equals, assigns, annotation_word, each_word, final_word, redeclare_word, replaceable_word, constrainedby_word, if_word, then_word, elseif_word, else_word, for_word, loop_word, when_word, elsewhen_word, while_word, end_word, connect_word, break_word, return_word, import_word, extends_word, inner_word, outer_word, flow_word, stream_word, discrete_word, parameter_word, constant_word, input_word, output_word, partial_word, class_word, model_word, operator_word, record_word, block_word, expandable_word, connector_word, type_word, package_word, pure_word, impure_word, function_word, enumeration_word, der_word, encapsulated_word, public_word, protected_word, initial_word, equation_word, algorithm_word, external_word, within_word}
use Rattle.mo_grammar.specs.Grammar.{a_construct, a_class, empty, token, seq, either, either2, many, made, placed, nested, end_name, under, unless, symbol}
use Rattle.mo_grammar.specs.Forms.{first_of, second_of, joined, dropped, optional, flag, behind, before, between, separated}
use Rattle.mo_grammar.specs.ClassTrees.{Mods, Binding, Declares, Limit, Equation, Statement, Branched, BranchedElse, Declared, Components, Imported, Kinded, Inside, mods_of, text_of, value_only, limit_of, argument_of, modifies, replaces, redeclares, redeclares_replaceable, equation_of, is_call, equality, equal_sides, calls_reference, connection, equation_loop, no_branches, branch_before, branched_more, when_tree, no_branches_else, else_only, branch_before_else, branched_else_more, if_equation_tree, no_equations, statement_of, assigns_value, calls_it, reference_statement, outputs_statement, break_statement, return_statement, if_statement_tree, statement_loop, while_tree, when_statement_tree, way_of, vary_of, prefix_of, declares_component, whats_of_class, whats_of_components, kept_whats, replaceable_whats, elements_of, import_items, extends_items, renamed_import, import_of, from_all, all_names, from_group, imported, one_word_kind, expandable_kind, pure_kind, operator_or, partial_kind, class_tree, declares_class, items_before, nothing_more, external_clause, equations_section, algorithm_section, no_more_equations, one_more_equation, long_body, extending_body, short_body, open_enumeration, listed_enumeration, der_body, file_tree}
use Rattle.mo_grammar.specs.Trees.{or_nothing}
use Rattle.mo_grammar.specs.Symbols.{Form, Expressions, Simples, CallArguments, Indices, References, Subscripts, TypeSpecs, Names, ClassMods, ModArguments, EquationItems, ForEquations, WhenEquations, ElseEquations, IfEquations, StatementItems, ImportNames, ElementItems, Compositions, Sections, SectionEquations, ClassDefinitions}
use Rattle.mo_grammar.specs.Expressions.{outputs, expression_behind}

-- strings: [STRING {"+" STRING}]
abbrev pub strings : Form (Unit {0})
strings = either (made dropped (separated plus (token (string ∷ [])))) (empty tt)

-- annotation_part: annotation class_mod
abbrev pub annotation_part : Form (Unit {0})
annotation_part = made dropped (behind annotation_word (symbol ClassMods))

-- comment: strings [annotation_part]
abbrev pub comment : Form (Unit {0})
comment = made dropped (seq strings (optional annotation_part))

-- g comment
abbrev pub commented : {A : Type 0} → Form A → Form A
commented g = made first_of (seq g comment)

-- ---- modifications

-- class_mod: "(" [argument {"," argument}] ")"
abbrev pub class_mod : Form Mods
class_mod = made mods_of (between open_paren close_paren (optional (separated comma (symbol ModArguments))))

-- modification: class_mod ["=" expr] | "=" expr | ":=" expr
abbrev pub modification : Form Binding
modification = either (seq (symbol ClassMods) (optional (expression_behind equals))) (made value_only (seq (token (equals ∷ assigns ∷ [])) (symbol Expressions)))

-- declaration: IDENT [subscripts] [modification]
abbrev pub declaration : Form Declared
declaration = seq (token (ident ∷ [])) (seq (optional (symbol Subscripts)) (optional modification))

-- [discrete | parameter | constant]
abbrev pub variability : Form (Option Vary)
variability = optional (made vary_of (token (discrete_word ∷ parameter_word ∷ constant_word ∷ [])))

-- [input | output]
abbrev pub causality : Form (Option Causal)
causality = optional (made way_of (token (input_word ∷ output_word ∷ [])))

-- prefix: [flow | stream] [discrete | parameter | constant] [input | output]
abbrev pub prefix : Form Prefix
prefix = made prefix_of (seq (optional (token (flow_word ∷ stream_word ∷ []))) (seq variability causality))

-- component1: prefix type_spec declaration comment
abbrev pub component1 : Form Declares
component1 = made declares_component (seq prefix (seq (symbol TypeSpecs) (commented declaration)))

-- constraint: constrainedby type_spec [class_mod]
abbrev pub constraint : Form Limit
constraint = made limit_of (behind constrainedby_word (seq (symbol TypeSpecs) (optional (symbol ClassMods))))

-- [partial] ( class | model | [operator] record | block | [expandable] connector | type | package
--    | [pure | impure] [operator] function | operator )
abbrev pub class_prefixes : Form Kinded
class_prefixes =
    made partial_kind (seq (flag partial_word)
    (either (made one_word_kind (token (class_word ∷ model_word ∷ record_word ∷ block_word ∷ connector_word ∷ type_word ∷ package_word ∷ function_word ∷ [])))
    (either (made expandable_kind (behind expandable_word (token (connector_word ∷ []))))
    (either (made pure_kind (seq (token (pure_word ∷ impure_word ∷ [])) (seq (flag operator_word) (token (function_word ∷ [])))))
    (made operator_or (behind operator_word (optional (token (record_word ∷ function_word ∷ [])))))))))

-- literal {"," literal}, with literal: IDENT comment
abbrev pub literals : Form (List (List ℕ))
literals = separated comma (commented (made text_of (token (ident ∷ []))))

-- enumeration "(" ( [literal {"," literal}] | ":" ) ")" comment
abbrev pub enumeration : Form Body
enumeration =
    made Rattle.mo_syntax.specs.declared.class.Body.TheVariants.Enumeration (commented (behind enumeration_word (between open_paren close_paren
    (either (made open_enumeration (token (colon ∷ []))) (made listed_enumeration (optional literals))))))

-- [input | output] type_spec [subscripts] [class_mod] comment
abbrev pub short_class : Form Body
short_class = made short_body (seq causality (seq (symbol TypeSpecs) (seq (optional (symbol Subscripts)) (commented (optional (symbol ClassMods))))))

-- short_spec: IDENT "=" [input | output] type_spec [subscripts] [class_mod] comment
--    | IDENT "=" enumeration "(" ( [literal {"," literal}] | ":" ) ")" comment
abbrev pub short_spec : Form (Lexeme × Body)
short_spec = seq (token (ident ∷ [])) (behind equals (either enumeration short_class))

-- class_prefixes short_spec | component1
abbrev pub argument_declares : Form Declares
argument_declares = either (made declares_class (seq class_prefixes short_spec)) component1

-- replaceable_arg: replaceable ( class_prefixes short_spec | component1 ) [constraint]
abbrev pub replaceable_arg : Form (Declares × Option Limit)
replaceable_arg = behind replaceable_word (seq argument_declares (optional constraint))

-- argument: [each] [final] ( name [modification] strings | replaceable_arg )
--    | redeclare [each] [final] ( class_prefixes short_spec | component1 | replaceable_arg )
abbrev pub argument : Form (ArgumentOf Give)
argument =
    either
    (behind redeclare_word (made argument_of (seq (flag each_word) (seq (flag final_word) (either (made redeclares_replaceable replaceable_arg) (made redeclares argument_declares))))))
    (made argument_of (seq (flag each_word) (seq (flag final_word) (either (made replaces replaceable_arg) (made modifies (made first_of (seq (seq (placed (symbol Names)) (optional modification)) strings)))))))

-- ---- equations

-- {equation_item ";"} with what ends it, as it is printed
abbrev pub printed_equations : {A : Type 0} → Form A → Form (List Equation)
printed_equations closing = made first_of (seq (many (before (symbol EquationItems) semicolon)) closing)

-- {equation_item ";"} end for
abbrev pub printed_for_equations : Form (List Equation)
printed_for_equations = printed_equations (seq (token (end_word ∷ [])) (token (for_word ∷ [])))

-- {equation_item ";"} end if, behind `else`
abbrev pub printed_else_equations : Form (List Equation)
printed_else_equations = printed_equations (seq (token (end_word ∷ [])) (token (if_word ∷ [])))

-- Equations up to `end for`: {equation_item ";"} end for. An equation may begin with `end`, so the token behind it tells; this
-- is why the list and its end are one production. `equation_lists` says that it spells what the printed form spells.
abbrev pub for_equations : Form (List Equation)
for_equations = either2 end_word (for_word ∷ []) (made no_equations (seq (token (end_word ∷ [])) (token (for_word ∷ [])))) (made joined (seq (before (symbol EquationItems) semicolon) (symbol ForEquations)))

-- for_eq: for indices loop {equation_item ";"} end for
abbrev pub for_eq : Form EquationKind
for_eq = nested a_construct (made equation_loop (behind for_word (seq (symbol Indices) (behind loop_word (symbol ForEquations)))))

-- c expr then {equation_item ";"}, as it is printed
abbrev pub printed_branch : ℕ → Form (Expr × List Equation)
printed_branch c = behind c (seq (symbol Expressions) (behind then_word (many (before (symbol EquationItems) semicolon))))

-- {equation_item ";"} {c expr then {equation_item ";"}} with what ends it, as it is printed
abbrev pub printed_branched : {A : Type 0} → ℕ → Form A → Form Branched
printed_branched c closing = seq (many (before (symbol EquationItems) semicolon)) (made first_of (seq (many (printed_branch c)) closing))

-- {equation_item ";"} {elsewhen expr then {equation_item ";"}} end when
abbrev pub printed_when_equations : Form Branched
printed_when_equations = printed_branched elsewhen_word (seq (token (end_word ∷ [])) (token (when_word ∷ [])))

-- Equations up to `end when`: {equation_item ";"} {elsewhen expr then {equation_item ";"}} end when
abbrev pub when_equations : Form Branched
when_equations =
    either2 end_word (when_word ∷ []) (made no_branches (seq (token (end_word ∷ [])) (token (when_word ∷ []))))
    (either (made branch_before (behind elsewhen_word (seq (symbol Expressions) (behind then_word (symbol WhenEquations)))))
    (made branched_more (seq (before (symbol EquationItems) semicolon) (symbol WhenEquations))))

-- when_eq: when expr then {equation_item ";"} {elsewhen expr then {equation_item ";"}} end when
abbrev pub when_eq : Form EquationKind
when_eq = nested a_construct (made when_tree (behind when_word (seq (symbol Expressions) (behind then_word (symbol WhenEquations)))))

-- Equations up to `end if`: {equation_item ";"} end if
abbrev pub else_equations : Form (List Equation)
else_equations = either2 end_word (if_word ∷ []) (made no_equations (seq (token (end_word ∷ [])) (token (if_word ∷ [])))) (made joined (seq (before (symbol EquationItems) semicolon) (symbol ElseEquations)))

-- Equations up to `end if`, with branches: {equation_item ";"} {elseif expr then {equation_item ";"}}
--    [else {equation_item ";"}] end if
abbrev pub if_equations : Form BranchedElse
if_equations =
    either2 end_word (if_word ∷ []) (made no_branches_else (seq (token (end_word ∷ [])) (token (if_word ∷ []))))
    (either (made branch_before_else (behind elseif_word (seq (symbol Expressions) (behind then_word (symbol IfEquations)))))
    (either (made else_only (behind else_word (symbol ElseEquations)))
    (made branched_else_more (seq (before (symbol EquationItems) semicolon) (symbol IfEquations)))))

-- {equation_item ";"} {elseif expr then {equation_item ";"}} [else {equation_item ";"}] end if, as it is printed
abbrev pub printed_else : Form (List Equation)
printed_else = made first_of (seq (made or_nothing (optional (behind else_word (many (before (symbol EquationItems) semicolon))))) (seq (token (end_word ∷ [])) (token (if_word ∷ []))))

abbrev pub printed_branched_else : Form BranchedElse
printed_branched_else = seq (many (before (symbol EquationItems) semicolon)) (seq (many (printed_branch elseif_word)) printed_else)

-- if_eq: if expr then {equation_item ";"} {elseif expr then {equation_item ";"}} [else {equation_item ";"}] end if
abbrev pub if_eq : Form EquationKind
if_eq = nested a_construct (made if_equation_tree (behind if_word (seq (symbol Expressions) (behind then_word (symbol IfEquations)))))

-- connect "(" reference "," reference ")"
abbrev pub connect_eq : Form EquationKind
connect_eq = made connection (behind connect_word (between open_paren close_paren (seq (symbol References) (behind comma (symbol References)))))

-- simple "=" expr | reference call_args, as it is printed
abbrev pub printed_equality : Form EquationKind
printed_equality = either (made equal_sides (seq (symbol Simples) (behind equals (symbol Expressions)))) (made calls_reference (seq (symbol References) (symbol CallArguments)))

-- No number of tokens tells the two from one another. So both are a simple expression, behind which `=` may be left out where
-- that expression is the call of a name; `equalities` says that both forms spell the same.
abbrev pub equality_or_call : Form EquationKind
equality_or_call = made equality (unless is_call (symbol Simples) (behind equals (symbol Expressions)))

-- equation_item: ( simple "=" expr | if_eq | for_eq | when_eq
--    | connect "(" reference "," reference ")" | reference call_args ) comment
abbrev pub equation_item : Form Equation
equation_item = made equation_of (placed (commented (either if_eq (either for_eq (either when_eq (either connect_eq equality_or_call))))))

-- ---- statements

-- {statement ";"}
abbrev pub statements : Form (List Statement)
statements = many (before (symbol StatementItems) semicolon)

-- expr then {statement ";"}
abbrev pub statement_branch : Form (Expr × List Statement)
statement_branch = seq (symbol Expressions) (behind then_word statements)

-- if_st: if expr then {statement ";"} {elseif expr then {statement ";"}} [else {statement ";"}] end if
abbrev pub if_st : Form StatementKind
if_st = nested a_construct (made if_statement_tree (behind if_word (seq statement_branch (seq (many (behind elseif_word statement_branch)) (before (before (optional (behind else_word statements)) end_word) if_word)))))

-- for_st: for indices loop {statement ";"} end for
abbrev pub for_st : Form StatementKind
for_st = nested a_construct (made statement_loop (behind for_word (seq (symbol Indices) (behind loop_word (before (before statements end_word) for_word)))))

-- while_st: while expr loop {statement ";"} end while
abbrev pub while_st : Form StatementKind
while_st = nested a_construct (made while_tree (behind while_word (seq (symbol Expressions) (behind loop_word (before (before statements end_word) while_word)))))

-- when_st: when expr then {statement ";"} {elsewhen expr then {statement ";"}} end when
abbrev pub when_st : Form StatementKind
when_st = nested a_construct (made when_statement_tree (behind when_word (seq statement_branch (before (before (many (behind elsewhen_word statement_branch)) end_word) when_word))))

-- statement: ( reference (":=" expr | call_args) | "(" outputs ")" ":=" reference call_args
--    | break | return | if_st | for_st | while_st | when_st ) comment
abbrev pub statement_kind : Form StatementKind
statement_kind =
    either (made break_statement (token (break_word ∷ [])))
    (either (made return_statement (token (return_word ∷ [])))
    (either if_st (either for_st (either while_st (either when_st
    (either (made outputs_statement (seq (between open_paren close_paren outputs) (behind assigns (seq (symbol References) (symbol CallArguments)))))
    (made reference_statement (seq (symbol References) (either (made assigns_value (behind assigns (symbol Expressions))) (made calls_it (symbol CallArguments)))))))))))

abbrev pub statement : Form Statement
statement = made statement_of (placed (commented statement_kind))

-- ---- elements

-- Of `name ["." "*" | ".*" | "." "{" IDENT {"," IDENT} "}"]` what begins with an identifier.
abbrev pub import_names : Form Imported
import_names =
    made imported (seq (token (ident ∷ [])) (optional
    (either (made from_all (token (dot_times ∷ [])))
    (behind dot (either (made from_all (token (times ∷ []))) (either (made from_group (between open_brace close_brace (separated comma (token (ident ∷ []))))) (symbol ImportNames)))))))

-- "." "*" | ".*" | "." "{" IDENT {"," IDENT} "}", as it is printed
abbrev pub printed_taken : Form (Option (List Lexeme))
printed_taken = either (made all_names (token (dot_times ∷ []))) (behind dot (either (made all_names (token (times ∷ []))) (made Some (between open_brace close_brace (separated comma (token (ident ∷ [])))))))

-- name ["." "*" | ".*" | "." "{" IDENT {"," IDENT} "}"], as it is printed
abbrev pub printed_import : Form Imported
printed_import = seq (separated dot (token (ident ∷ []))) (optional printed_taken)

-- import_clause: import ( IDENT "=" name | name ["." "*" | ".*" | "." "{" IDENT {"," IDENT} "}"] ) comment
abbrev pub import_clause : Form Import
import_clause = behind import_word (commented (either2 ident (equals ∷ []) (made renamed_import (seq (token (ident ∷ [])) (behind equals (symbol Names)))) (made import_of (symbol ImportNames))))

-- component: declaration [if expr] comment
abbrev pub component : Form (Declared × Option Expr)
component = commented (seq declaration (optional (behind if_word (symbol Expressions))))

-- components: prefix type_spec [subscripts] component {"," component}
abbrev pub components : Form Components
components = seq (seq prefix (seq (symbol TypeSpecs) (optional (symbol Subscripts)))) (separated comma component)

-- class_def | components
abbrev pub declares : Form (List Rattle.mo_syntax.specs.declared.class.What.What)
declares = either (made whats_of_class (symbol ClassDefinitions)) (made whats_of_components components)

-- element: import_clause | extends type_spec [class_mod] [annotation_part]
--    | [redeclare] [final] [inner] [outer] ( class_def | components | replaceable (class_def | components) [constraint comment] )
abbrev pub element : Bool → Form (List Item)
element hidden =
    either (made import_items import_clause)
    (either (made (extends_items hidden) (behind extends_word (made first_of (seq (seq (symbol TypeSpecs) (optional (symbol ClassMods))) (optional annotation_part)))))
    (made (elements_of hidden) (seq (seq (flag redeclare_word) (seq (flag final_word) (seq (flag inner_word) (flag outer_word))))
    (either (made replaceable_whats (behind replaceable_word (seq declares (optional (commented constraint))))) (made kept_whats declares)))))

-- elements: { element ";" }
abbrev pub elements : Bool → Form (List (List Item))
elements hidden = many (before (symbol (ElementItems hidden)) semicolon)

-- ---- classes

-- end IDENT, with the name of the class
abbrev pub class_end : Form Inside
class_end = made nothing_more (behind end_word end_name)

-- annotation_part ";" end IDENT
abbrev pub annotated_end : Form Inside
annotated_end = behind annotation_word (made second_of (seq (before (symbol ClassMods) semicolon) class_end))

-- IDENT "(" [expr {"," expr}] ")"
abbrev pub external_arguments : Form (Unit {0})
external_arguments = made dropped (between open_paren close_paren (optional (separated comma (symbol Expressions))))

-- [reference "="] IDENT "(" [expr {"," expr}] ")"
abbrev pub external_call : Form (Unit {0})
external_call = either2 ident (open_paren ∷ []) (made dropped (seq (token (ident ∷ [])) external_arguments)) (made dropped (seq (symbol References) (behind equals (seq (token (ident ∷ [])) external_arguments))))

-- external [STRING] [[reference "="] IDENT "(" [expr {"," expr}] ")"] [annotation_part] ";" [annotation_part ";"] end IDENT
abbrev pub external_end : Form Inside
external_end =
    made external_clause (behind external_word (made second_of (seq (seq (optional (token (string ∷ []))) (seq (optional external_call) (optional annotation_part)))
    (behind semicolon (either annotated_end class_end)))))

-- equation {equation_item ";"} or algorithm {statement ";"}, and what follows
abbrev pub section : Bool → Form Inside
section initial = either (made (equations_section initial) (behind equation_word (symbol SectionEquations))) (made (algorithm_section initial) (behind algorithm_word (seq statements (symbol Sections))))

-- an initial section, and what follows
abbrev pub initial_section : Form Inside
initial_section = behind initial_word (section true)

-- what begins neither with `initial` nor with `end`
abbrev pub other_section : Form Inside
other_section =
    either (made items_before (behind public_word (seq (elements false) (symbol Sections))))
    (either (made items_before (behind protected_word (seq (elements true) (symbol Sections))))
    (either (section false) (either external_end annotated_end)))

-- Of composition what follows its first elements, with the end of the class:
--    { public elements | protected elements | [initial] equation {equation_item ";"} | [initial] algorithm {statement ";"} }
--    [external [STRING] [[reference "="] IDENT "(" [expr {"," expr}] ")"] [annotation_part] ";"] [annotation_part ";"] end IDENT
abbrev pub sections : Form Inside
sections = either other_section (either initial_section class_end)

-- The equations of a section up to the next section or the end of the class: an equation may begin with `end` or `initial`, so
-- the token behind it tells.
abbrev pub section_equations : Form (List Equation × Inside)
section_equations =
    either2 end_word (ident ∷ []) (made no_more_equations class_end)
    (either2 initial_word (equation_word ∷ algorithm_word ∷ []) (made no_more_equations initial_section)
    (either (made one_more_equation (seq (before (symbol EquationItems) semicolon) (symbol SectionEquations))) (made no_more_equations other_section)))

-- composition: elements { public elements | protected elements | [initial] equation {equation_item ";"}
--    | [initial] algorithm {statement ";"} } [external ..] [annotation_part ";"], with the `end IDENT` behind it
abbrev pub composition : Form Inside
composition = made items_before (seq (elements false) (symbol Sections))

-- IDENT strings composition end IDENT
abbrev pub long_spec : Form (Lexeme × Body)
long_spec = made long_body (under text_of (token (ident ∷ [])) (made second_of (seq strings (symbol Compositions))))

-- extends IDENT [class_mod] strings composition end IDENT
abbrev pub extends_spec : Form (Lexeme × Body)
extends_spec = made extending_body (under text_of (behind extends_word (token (ident ∷ []))) (seq (optional (symbol ClassMods)) (made second_of (seq strings (symbol Compositions)))))

-- der "(" type_spec "," IDENT {"," IDENT} ")" comment
abbrev pub der_spec : Form Body
der_spec = made der_body (commented (behind der_word (between open_paren close_paren (seq (symbol TypeSpecs) (behind comma (separated comma (token (ident ∷ []))))))))

-- short_spec | IDENT "=" der "(" type_spec "," IDENT {"," IDENT} ")" comment
abbrev pub equals_spec : Form (Lexeme × Body)
equals_spec = seq (token (ident ∷ [])) (behind equals (either der_spec (either enumeration short_class)))

-- class_spec: IDENT strings composition end IDENT | extends IDENT [class_mod] strings composition end IDENT
--    | short_spec | IDENT "=" der "(" type_spec "," IDENT {"," IDENT} ")" comment
abbrev pub class_spec : Form (Lexeme × Body)
class_spec = either extends_spec (either2 ident (equals ∷ []) equals_spec long_spec)

-- class_def: [encapsulated] class_prefixes class_spec
abbrev pub class_def : Form (ClassDefOf Body)
class_def = nested a_class (made class_tree (seq (flag encapsulated_word) (seq class_prefixes class_spec)))

-- file: [within [name] ";"] { [final] class_def ";" }, and the end of the file
abbrev pub file : Form FileTree
file =
    made file_tree (seq (optional (behind within_word (before (optional (placed (symbol Names))) semicolon)))
    (seq (many (made second_of (seq (flag final_word) (before (symbol ClassDefinitions) semicolon)))) (token (end_of_file ∷ []))))
