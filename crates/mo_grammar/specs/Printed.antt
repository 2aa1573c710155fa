-- Productions as they are printed, where the form that is read gives several branches one beginning, which stands once, or leads
-- back to itself. `primaries`, `class_heads`, `external_calls` and `compositions` say that both forms spell the same.
use Rattle.std.specs.Prelude.{◌==◌, Bool, false, List, [], ◌∷◌, Option, Some, None, is_some, true}
use Rattle.mo_syntax.specs.declared.place.Place.{Place}
use Rattle.mo_syntax.specs.declared.expr.Expr.{Expr}
use Rattle.mo_syntax.specs.declared.expr.Node.{Node}
use Rattle.mo_syntax.specs.declared.expr.Node.TheVariants.{Ref, Call, Array, ArrayFor}
use Rattle.mo_syntax.specs.declared.expr.Args.{Args}
use Rattle.mo_syntax.specs.declared.expr.ReferenceOf.{ReferenceOf}
use Rattle.mo_syntax.specs.declared.expr.IndexOf.{IndexOf}
use Rattle.mo_syntax.specs.declared.expr.CalleeOf.TheVariants.{Named}
use Rattle.mo_syntax.specs.declared.class.Body.{Body}
use Rattle.mo_syntax.specs.declared.class.Item.{Item}
use Rattle.mo_syntax.specs.declared.class.Item.TheVariants.{Equations, Algorithm}
use Rattle.mo_syntax.specs.declared.class.ClassKind.TheVariants.{Connector, Function as function_kind, Operator as operator_kind}
use Rattle.mo_grammar.specs.Lexeme.{Lexeme, code_of}
use Rattle.mo_grammar.specs.Codes.{ident, open_brace, close_brace, equals, for_word, partial_word, class_word, model_word, operator_word, record_word, block_word, expandable_word, connector_word, type_word, package_word, pure_word, impure_word, function_word, string, semicolon, end_word, public_word, protected_word, initial_word, equation_word, algorithm_word, external_word}
use Rattle.mo_grammar.specs.Grammar.{token, seq, either, made, placed, symbol, many, end_name}
use Rattle.mo_grammar.specs.Forms.{dropped, optional, flag, behind, before, between}
use Rattle.mo_grammar.specs.Trees.{expr_at}
use Rattle.mo_grammar.specs.ClassTrees.{Kinded, kinded, kind_of, one_word_kind, partial_kind, Equation, Statement, Inside, appended_items, items_before}
use Rattle.mo_grammar.specs.Symbols.{Form, Expressions, CallArguments, Indices, References, EquationItems}
use Rattle.mo_grammar.specs.Expressions.{exprs, literal, word_call, output_list, matrix}
use Rattle.mo_grammar.specs.Classes.{short_class, enumeration, long_spec, extends_spec, der_spec, external_arguments, elements, statements, annotation_part}

-- ---- expressions

abbrev pub array_over : Expr × List (IndexOf Expr) → Node
array_over (value, iters) = ArrayFor value iters

abbrev pub array_at : Place × Node → Expr
array_at (place, node) = expr_at place node

-- expr for indices | exprs
abbrev pub printed_array_args : Form Node
printed_array_args = either (made array_over (seq (symbol Expressions) (behind for_word (symbol Indices)))) (made Array exprs)

-- "{" array_args "}"
abbrev pub printed_array : Form Expr
printed_array = made array_at (placed (between open_brace close_brace printed_array_args))

abbrev pub name_call_tree : Place × (ReferenceOf Expr × Args) → Expr
name_call_tree (place, x) = expr_at place (Call (Named x.0) x.1)

abbrev pub name_tree : Place × ReferenceOf Expr → Expr
name_tree (place, r) = expr_at place (Ref r)

-- number | STRING | false | true | end | (der | initial | pure) call_args | reference call_args | reference
--    | "(" outputs ")" | "[" exprs {";" exprs} "]" | "{" array_args "}"
abbrev pub printed_primary : Form Expr
printed_primary =
    either literal
    (either word_call
    (either (made name_call_tree (placed (seq (symbol References) (symbol CallArguments))))
    (either (made name_tree (placed (symbol References)))
    (either output_list (either matrix printed_array)))))

-- ---- classes

-- a kind that `operator` may stand before
abbrev pub operator_before : Bool × Lexeme → Kinded
operator_before (operator, t) = kinded (kind_of t) operator false None

abbrev pub connector_prefix : Bool × Lexeme → Kinded
connector_prefix (expandable, t) = kinded Connector false expandable None

abbrev pub purity_of : Option Lexeme → Option Bool
purity_of None = None
purity_of (Some t) = Some (code_of t == pure_word)

abbrev pub function_prefix : Option Lexeme × (Bool × Lexeme) → Kinded
function_prefix (purity, x) = kinded function_kind x.0 false (purity_of purity)

abbrev pub operator_alone : Lexeme → Kinded
operator_alone t = kinded operator_kind false false None

-- [partial] ( class | model | block | type | package | [operator] record | [expandable] connector
--    | [pure | impure] [operator] function | operator )
abbrev pub printed_class_prefixes : Form Kinded
printed_class_prefixes =
    made partial_kind (seq (flag partial_word)
    (either (made one_word_kind (token (class_word ∷ model_word ∷ block_word ∷ type_word ∷ package_word ∷ [])))
    (either (made operator_before (seq (flag operator_word) (token (record_word ∷ []))))
    (either (made connector_prefix (seq (flag expandable_word) (token (connector_word ∷ []))))
    (either (made function_prefix (seq (optional (token (pure_word ∷ impure_word ∷ []))) (seq (flag operator_word) (token (function_word ∷ [])))))
    (made operator_alone (token (operator_word ∷ []))))))))

-- IDENT "=" [input | output] type_spec [subscripts] [class_mod] comment
--    | IDENT "=" enumeration "(" ( [literal {"," literal}] | ":" ) ")" comment
abbrev pub printed_short_spec : Form (Lexeme × Body)
printed_short_spec = either (seq (token (ident ∷ [])) (behind equals short_class)) (seq (token (ident ∷ [])) (behind equals enumeration))

-- IDENT strings composition end IDENT | extends IDENT [class_mod] strings composition end IDENT
--    | short_spec | IDENT "=" der "(" type_spec "," IDENT {"," IDENT} ")" comment
abbrev pub printed_class_spec : Form (Lexeme × Body)
printed_class_spec = either long_spec (either extends_spec (either printed_short_spec (seq (token (ident ∷ [])) (behind equals der_spec))))

-- [reference "="] IDENT "(" [expr {"," expr}] ")"
abbrev pub printed_external_call : Form (Unit {0})
printed_external_call = made dropped (seq (optional (before (symbol References) equals)) (seq (token (ident ∷ [])) external_arguments))

-- ---- the sections of a class

-- the items of sections, each of which has lists of them
abbrev pub items_of_sections : List (List (List Item)) → List Item
items_of_sections [] = []
items_of_sections (section ∷ more) = appended_items (items_of_sections more) section

abbrev pub equations_items : Bool × List Equation → List (List Item)
equations_items (initial, equations) = (Equations initial equations ∷ []) ∷ []

abbrev pub algorithm_items : Bool × List Statement → List (List Item)
algorithm_items (initial, statements) = (Algorithm initial statements ∷ []) ∷ []

-- public elements | protected elements | [initial] equation {equation_item ";"} | [initial] algorithm {statement ";"}
abbrev pub printed_section : Form (List (List Item))
printed_section =
    either (behind public_word (elements false))
    (either (behind protected_word (elements true))
    (either (made equations_items (seq (flag initial_word) (behind equation_word (many (before (symbol EquationItems) semicolon)))))
    (made algorithm_items (seq (flag initial_word) (behind algorithm_word statements)))))

-- external [STRING] [[reference "="] IDENT "(" [expr {"," expr}] ")"] [annotation_part] ";"
abbrev pub printed_external : Form (Unit {0})
printed_external = made dropped (behind external_word (before (seq (optional (token (string ∷ []))) (seq (optional printed_external_call) (optional annotation_part))) semicolon))

abbrev pub has_external : Option (Unit {0}) × (Option (Unit {0}) × Lexeme) → Bool
has_external (external, x) = is_some external

-- [external ..] [annotation_part ";"] end IDENT, by whether an external clause stands there
abbrev pub printed_class_end : Form Bool
printed_class_end = made has_external (seq (optional printed_external) (seq (optional (before annotation_part semicolon)) (behind end_word end_name)))

abbrev pub sections_inside : List (List (List Item)) × Bool → Inside
sections_inside (sections, external) = (items_of_sections sections, external)

-- { public elements | protected elements | [initial] equation {equation_item ";"} | [initial] algorithm {statement ";"} }
--    [external ..] [annotation_part ";"] end IDENT
abbrev pub printed_sections : Form Inside
printed_sections = made sections_inside (seq (many printed_section) printed_class_end)

-- {equation_item ";"} and what follows it in a class
abbrev pub printed_section_equations : Form (List Equation × Inside)
printed_section_equations = seq (many (before (symbol EquationItems) semicolon)) printed_sections

-- elements { public elements | protected elements | [initial] equation {equation_item ";"} | [initial] algorithm {statement ";"} }
--    [external ..] [annotation_part ";"] end IDENT
abbrev pub printed_composition : Form Inside
printed_composition = made items_before (seq (elements false) printed_sections)
