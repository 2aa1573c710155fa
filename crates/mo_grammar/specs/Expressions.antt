-- The grammar of expressions (Modelica Language Specification 3.5, appendix A.2.7): one entry for each production, with what
-- it makes of its tokens. Above each entry stands the printed form, with `[x]` for what may be left out and `{x}` for what may
-- be repeated.
use Rattle.std.specs.Prelude.{ℕ, true, false, List, [], ◌∷◌, Option, Some}
use Rattle.mo_syntax.specs.declared.expr.Expr.{Expr}
use Rattle.mo_syntax.specs.declared.expr.Args.{Args}
use Rattle.mo_syntax.specs.declared.expr.Arg.{Arg}
use Rattle.mo_syntax.specs.declared.expr.Arg.TheVariants.{Value}
use Rattle.mo_syntax.specs.declared.expr.ReferenceOf.{ReferenceOf}
use Rattle.mo_syntax.specs.declared.expr.PartOf.{PartOf}
use Rattle.mo_syntax.specs.declared.expr.IndexOf.{IndexOf}
use Rattle.mo_syntax.specs.declared.expr.BranchOf.{BranchOf}
use Rattle.mo_syntax.specs.declared.expr.FactorOf.{FactorOf}
use Rattle.mo_syntax.specs.declared.expr.TermOf.{TermOf}
use Rattle.mo_grammar.specs.Lexeme.{Lexeme}
use Rattle.mo_grammar.specs.Codes.{ident, whole, decimal, string, open_paren, close_paren, open_bracket, close_bracket, open_brace, close_brace, semicolon, comma, dot, colon, equals, less, less_equal, greater, greater_equal, not_equal, equal_equal, plus, minus, times, divides, power, dot_plus, dot_minus, dot_times, dot_divides, dot_power, if_word, then_word, elseif_word, else_word, or_word, and_word, not_word, false_word, true_word, end_word, der_word, initial_word, pure_word, for_word, in_word, function_word}
use Rattle.mo_grammar.specs.Grammar.{a_construct, token, seq, either, either2, many, made, placed, nested, symbol}
use Rattle.mo_grammar.specs.Forms.{optional, flag, behind, between, separated}
use Rattle.mo_grammar.specs.Trees.{Given, InBraces, whole_tree, decimal_tree, string_tree, truth_tree, end_tree, part_of, reference_of, name_reference, reference_tree, call_tree, index_of, args_or_none, named_argument, named_arguments, given_named, given_more, args_given, args_iterated, following_iters, following_more, args_from, partial_argument, branch_of, if_tree, range_tree, any_tree, all_tree, not_tree, relation_tree, term_of, sum_tree, factor_of, product_tree, power_tree, outputs_tree, matrix_tree, braces_iters, braces_more, array_tree, whole_dimension}
use Rattle.mo_grammar.specs.Symbols.{Expressions, Simples, Logicals, Conjunctions, Negations, Relations, Sums, Products, Powers, Primaries, CallArguments, Arguments, MoreArguments, OneArgument, Indices, References, Subscripts, TypeSpecs, Names, Form}

-- name: IDENT {"." IDENT}
abbrev pub name : Form (List Lexeme)
name = separated dot (token (ident ∷ []))

-- type_spec: ["."] name
abbrev pub type_spec : Form (ReferenceOf Expr)
type_spec = made name_reference (seq (flag dot) (symbol Names))

-- IDENT [subscripts]
abbrev pub part : Form (PartOf Expr)
part = made part_of (seq (token (ident ∷ [])) (optional (symbol Subscripts)))

-- reference: ["."] IDENT [subscripts] {"." IDENT [subscripts]}
abbrev pub reference : Form (ReferenceOf Expr)
reference = made reference_of (seq (flag dot) (separated dot part))

-- subscript: ":" | expr
abbrev pub subscript : Form (Option Expr)
subscript = either (made whole_dimension (token (colon ∷ []))) (made Some (symbol Expressions))

-- subscripts: "[" subscript {"," subscript} "]"
abbrev pub subscripts : Form (List (Option Expr))
subscripts = between open_bracket close_bracket (separated comma subscript)

-- index: IDENT [in expr]
abbrev pub index : Form (IndexOf Expr)
index = made index_of (seq (token (ident ∷ [])) (optional (behind in_word (symbol Expressions))))

-- indices: index {"," index}
abbrev pub indices : Form (List (IndexOf Expr))
indices = separated comma index

-- c expr
abbrev pub expression_behind : ℕ → Form Expr
expression_behind c = behind c (symbol Expressions)

-- named: IDENT "=" arg
abbrev pub named : Form (List ℕ × Arg)
named = made named_argument (seq (token (ident ∷ [])) (behind equals (symbol OneArgument)))

-- named {"," named}
abbrev pub named_list : Form (List (List ℕ × Arg))
named_list = made named_arguments (seq (token (ident ∷ [])) (seq (behind equals (symbol OneArgument)) (many (behind comma named))))

-- function type_spec "(" [named {"," named}] ")"
abbrev pub function_argument : Form Arg
function_argument = made partial_argument (behind function_word (seq (symbol TypeSpecs) (between open_paren close_paren (optional named_list))))

-- arg: expr | function type_spec "(" [named {"," named}] ")"
abbrev pub arg : Form Arg
arg = either function_argument (made Value (symbol Expressions))

-- Of `arg {"," arg} {"," named} | named {"," named}` what follows a comma: an identifier and `=` begin the named arguments.
abbrev pub more_arguments : Form Given
more_arguments = either2 ident (equals ∷ []) (made given_named named_list) (made given_more (seq (symbol OneArgument) (optional (behind comma (symbol MoreArguments)))))

-- args: expr for indices | arg {"," arg} {"," named} | named {"," named}
abbrev pub args : Form Args
args =
    either2 ident (equals ∷ []) (made args_given (made given_named named_list))
    (either (made args_given (made given_more (seq function_argument (optional (behind comma (symbol MoreArguments))))))
    (made args_from (seq (symbol Expressions) (either (made following_iters (behind for_word (symbol Indices))) (made following_more (optional (behind comma (symbol MoreArguments))))))))

-- arg {"," arg} {"," named} | named {"," named}, as it is printed
abbrev pub printed_given : Form Given
printed_given = either (made given_named (separated comma named)) (seq (separated comma (symbol OneArgument)) (many (behind comma named)))

-- args, as it is printed; `arguments` says that both forms spell the same
abbrev pub printed_args : Form Args
printed_args = either (made args_iterated (seq (symbol Expressions) (behind for_word (symbol Indices)))) (made args_given printed_given)

-- call_args: "(" [args] ")"
abbrev pub call_args : Form Args
call_args = made args_or_none (between open_paren close_paren (optional (symbol Arguments)))

-- outputs: [expr] {"," [expr]}
abbrev pub outputs : Form (List (Option Expr))
outputs = separated comma (optional (symbol Expressions))

-- exprs: expr {"," expr}
abbrev pub exprs : Form (List Expr)
exprs = separated comma (symbol Expressions)

-- array_args: expr for indices | exprs
abbrev pub array_args : Form (Expr × InBraces)
array_args = seq (symbol Expressions) (either (made braces_iters (behind for_word (symbol Indices))) (made braces_more (many (behind comma (symbol Expressions)))))

-- number | STRING | false | true | end
abbrev pub literal : Form Expr
literal =
    either (made whole_tree (token (whole ∷ [])))
    (either (made decimal_tree (token (decimal ∷ [])))
    (either (made string_tree (token (string ∷ [])))
    (either (made (truth_tree false) (token (false_word ∷ [])))
    (either (made (truth_tree true) (token (true_word ∷ [])))
    (made end_tree (token (end_word ∷ [])))))))

-- (der | initial | pure) call_args
abbrev pub word_call : Form Expr
word_call = made call_tree (seq (token (der_word ∷ initial_word ∷ pure_word ∷ [])) (symbol CallArguments))

-- "(" outputs ")"
abbrev pub output_list : Form Expr
output_list = made outputs_tree (placed (between open_paren close_paren outputs))

-- "[" exprs {";" exprs} "]"
abbrev pub matrix : Form Expr
matrix = made matrix_tree (placed (between open_bracket close_bracket (separated semicolon exprs)))

-- "{" array_args "}"
abbrev pub array : Form Expr
array = made array_tree (placed (between open_brace close_brace array_args))

-- primary: number | STRING | false | true | (reference | der | initial | pure) call_args
--    | reference | "(" outputs ")" | "[" exprs {";" exprs} "]" | "{" array_args "}" | end
abbrev pub primary : Form Expr
primary =
    either literal
    (either word_call
    (either (made reference_tree (placed (seq (symbol References) (optional (symbol CallArguments)))))
    (either output_list (either matrix array))))

-- factor: primary [("^" | ".^") primary]
abbrev pub factor : Form Expr
factor = made power_tree (placed (seq (symbol Primaries) (optional (seq (token (power ∷ dot_power ∷ [])) (symbol Primaries)))))

-- ("*" | "/" | ".*" | "./") factor
abbrev pub further_factor : Form (FactorOf Expr)
further_factor = made factor_of (seq (token (times ∷ divides ∷ dot_times ∷ dot_divides ∷ [])) (symbol Powers))

-- term: factor {("*" | "/" | ".*" | "./") factor}
abbrev pub term : Form Expr
term = made product_tree (placed (seq (symbol Powers) (many further_factor)))

-- add: "+" | "-" | ".+" | ".-"
abbrev pub add : Form Lexeme
add = token (plus ∷ minus ∷ dot_plus ∷ dot_minus ∷ [])

-- add term
abbrev pub further_term : Form (TermOf Expr)
further_term = made term_of (seq add (symbol Products))

-- arith: [add] term {add term}
abbrev pub arith : Form Expr
arith = made sum_tree (seq (optional add) (placed (seq (symbol Products) (many further_term))))

-- relation: arith [("<" | "<=" | ">" | ">=" | "==" | "<>") arith]
abbrev pub relation : Form Expr
relation = made relation_tree (placed (seq (symbol Sums) (optional (seq (token (less ∷ less_equal ∷ greater ∷ greater_equal ∷ equal_equal ∷ not_equal ∷ [])) (symbol Sums)))))

-- neg: [not] relation
abbrev pub neg : Form Expr
neg = made not_tree (placed (seq (flag not_word) (symbol Relations)))

-- conj: neg {and neg}
abbrev pub conj : Form Expr
conj = made all_tree (placed (seq (symbol Negations) (many (behind and_word (symbol Negations)))))

-- logical: conj {or conj}
abbrev pub logical : Form Expr
logical = made any_tree (placed (seq (symbol Conjunctions) (many (behind or_word (symbol Conjunctions)))))

-- simple: logical [":" logical [":" logical]]
abbrev pub simple : Form Expr
simple = made range_tree (placed (seq (symbol Logicals) (optional (behind colon (seq (symbol Logicals) (optional (behind colon (symbol Logicals))))))))

-- elseif expr then expr
abbrev pub further_branch : Form (BranchOf Expr)
further_branch = made branch_of (seq (behind elseif_word (symbol Expressions)) (behind then_word (symbol Expressions)))

-- if expr then expr {elseif expr then expr} else expr
abbrev pub if_expression : Form Expr
if_expression =
    nested a_construct (made if_tree (placed (behind if_word (seq (symbol Expressions) (seq (behind then_word (symbol Expressions))
    (seq (many further_branch) (behind else_word (symbol Expressions))))))))

-- expr: simple | if expr then expr {elseif expr then expr} else expr
abbrev pub expr : Form Expr
expr = either if_expression (symbol Simples)
