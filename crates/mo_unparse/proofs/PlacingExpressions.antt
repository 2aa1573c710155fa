-- The places of expressions do not matter to what tokens spell: one line for each function that makes a tree, and one for each
-- production.
use Rattle.std.proofs.Common.{◌≡◌, ℕ, Bool, true, false, List, [], ◌∷◌, map, Option, Some, None, refl, sym, ap, ◌∙◌}
use Rattle.std.specs.Prelude.{if◌then◌else◌}
use Rattle.std.specs.Option.{option_map}
use Rattle.mo_syntax.specs.declared.place.Place.{Place}
use Rattle.mo_syntax.specs.declared.expr.Expr.{Expr}
use Rattle.mo_syntax.specs.declared.expr.Node.{Node}
use Rattle.mo_syntax.specs.declared.expr.Node.TheVariants.{Whole, Decimal, Str, Truth, Ref, Sum, Product, Power, Relation, Not, All, Any, Range, If, Call, Tuple, Array, ArrayFor, Matrix, EndMark}
use Rattle.mo_syntax.specs.declared.expr.Args.{Args}
use Rattle.mo_syntax.specs.declared.expr.Arg.{Arg}
use Rattle.mo_syntax.specs.declared.expr.Arg.TheVariants.{Value, Partial}
use Rattle.mo_syntax.specs.declared.expr.TermOf.{TermOf}
use Rattle.mo_syntax.specs.declared.expr.FactorOf.{FactorOf}
use Rattle.mo_syntax.specs.declared.expr.BranchOf.{BranchOf}
use Rattle.mo_syntax.specs.declared.expr.ReferenceOf.{ReferenceOf}
use Rattle.mo_syntax.specs.declared.expr.PartOf.{PartOf}
use Rattle.mo_syntax.specs.declared.expr.CalleeOf.TheVariants.{Named, Der, Initial, Pure}
use Rattle.mo_grammar.specs.Lexeme.{Lexeme}
use Rattle.mo_grammar.specs.Codes.{ident, whole, decimal, string, open_paren, close_paren, open_bracket, close_bracket, open_brace, close_brace, semicolon, comma, dot, colon, equals, less, less_equal, greater, greater_equal, not_equal, equal_equal, plus, minus, times, divides, power, dot_plus, dot_minus, dot_times, dot_divides, dot_power, if_word, then_word, elseif_word, else_word, or_word, and_word, not_word, false_word, true_word, end_word, der_word, initial_word, pure_word, for_word, in_word, function_word}
use Rattle.mo_grammar.specs.Grammar.{Spelling, symbol}
use Rattle.mo_grammar.specs.Forms.{optional, behind}
use Rattle.mo_grammar.specs.Trees.{expr_at, Given, Following, InBraces, plain_part, or_nothing, part_of, reference_of, name_reference, reference_tree, callee_of, call_tree, index_of, args_of, args_or_none, named_argument, named_arguments, given_more, args_given, following_more, args_from, partial_argument, branch_of, if_tree, range_tree, any_tree, all_tree, not_tree, relation_of, relation_tree, is_minus, term_of, terms_tree, sum_tree, factor_of, product_tree, power_tree, outputs_tree, matrix_tree, array_tree}
use Rattle.mo_grammar.specs.Symbols.{Symbol, ValueOf, Form, Expressions, Simples, Logicals, Conjunctions, Negations, Relations, Sums, Products, Powers, Primaries, CallArguments, Arguments, MoreArguments, OneArgument, Indices, References, Subscripts, TypeSpecs, Names}
use Rattle.mo_grammar.specs.Expressions.{name, type_spec, part, reference, subscript, subscripts, index, indices, named, named_list, function_argument, arg, more_arguments, args, call_args, outputs, exprs, array_args, literal, word_call, output_list, matrix, array, primary, factor, term, add, arith, relation, neg, conj, logical, simple, further_branch, if_expression, expr}
use Rattle.mo_pieces.specs.Pieces.{nowhere, placeless_token}
use Rattle.mo_unparse.specs.Placeless.{placeless_expr, placeless_node, placeless_arg, placeless_args, placeless_option, placeless_options, placeless_part, placeless_reference, placeless_callee, placeless_term, placeless_factor, placeless_branch, placeless_index, placeless_indices, placeless_named}
use Rattle.mo_unparse.specs.PlacelessClasses.{placeless, placeless_given}
use Rattle.mo_unparse.proofs.PlacelessForms.{map_twice, at_node, at_args_of, at_Whole, at_Decimal, at_Str, at_Truth, at_Ref, at_Sum, at_Product, at_Power, at_Relation, at_Not, at_All, at_Any, at_Range, at_If, at_Call, at_Tuple, at_Array, at_ArrayFor, at_Matrix, at_EndMark, at_Value, at_Partial}
use Rattle.mo_unparse.proofs.Placing.{Places, through_token, through_seq, through_either, through_either2, through_many, through_made, through_placed, through_nested, through_optional, through_flag, through_behind, through_between, through_separated}

-- u sets the places of what the form makes to nowhere
abbrev pub Sets : {A : Type 0} → Spelling Symbol ValueOf → Form A → (A → A) → Type 0
Sets {A = A} of g u = Places Symbol ValueOf A of g u

-- ---- what the functions that make trees make of parts that stand nowhere

made_at : (place : Place) (node : Node) {other : Node} → placeless_node node ≡ other → expr_at nowhere other ≡ placeless_expr (expr_at place node)
made_at place node e = sym (at_node place node e)

pub nothing_placed : {A : Type 0} (f : A → A) (o : Option (List A)) → or_nothing (option_map (map f) o) ≡ map f (or_nothing o)
nothing_placed f None = refl
nothing_placed f (Some list) = refl

part_placed : (x : Lexeme × Option (List (Option Expr))) → part_of (placeless_token x.0, option_map placeless_options x.1) ≡ placeless_part (part_of x)
part_placed (t, subs) = ap (λ s. record { name = t.text; place = nowhere; subs = s }) (nothing_placed placeless_option subs)

reference_placed : (x : Bool × List (PartOf Expr)) → reference_of (x.0, map placeless_part x.1) ≡ placeless_reference (reference_of x)
reference_placed (top, parts) = refl

name_placed : (x : Bool × List Lexeme) → name_reference (x.0, map placeless_token x.1) ≡ placeless_reference (name_reference x)
name_placed (top, names) = ap (λ parts. record { top = top; parts = parts }) (map_twice placeless_token plain_part (λ t. placeless_part (plain_part t)) (λ t. refl) names ∙ sym (map_twice plain_part placeless_part (λ t. placeless_part (plain_part t)) (λ t. refl) names))

index_placed : (x : Lexeme × Option Expr) → index_of (placeless_token x.0, option_map placeless_expr x.1) ≡ placeless_index (index_of x)
index_placed (t, range) = refl

named_placed : (x : Lexeme × Arg) → named_argument (placeless_token x.0, placeless_arg x.1) ≡ placeless_named (named_argument x)
named_placed (t, given) = refl

named_list_placed : (x : Lexeme × (Arg × List (List ℕ × Arg))) → named_arguments (placeless_token x.0, (placeless_arg x.1.0, map placeless_named x.1.1)) ≡ map placeless_named (named_arguments x)
named_list_placed (t, x) = refl

partial_placed : (x : ReferenceOf Expr × Option (List (List ℕ × Arg))) → partial_argument (placeless_reference x.0, option_map (map placeless_named) x.1) ≡ placeless_arg (partial_argument x)
partial_placed (r, named) = ap (Partial (placeless_reference r)) (nothing_placed placeless_named named) ∙ sym (at_Partial r (or_nothing named))

more_placed : (x : Arg × Option Given) → given_more (placeless_arg x.0, option_map placeless_given x.1) ≡ placeless_given (given_more x)
more_placed (first, None) = refl
more_placed (first, Some given) = refl

following_placed : (o : Option Given) → following_more (option_map placeless_given o) ≡ (placeless_indices (following_more o).0, (map placeless_arg (following_more o).1.0, map placeless_named (following_more o).1.1))
following_placed None = refl
following_placed (Some given) = refl

args_given_placed : (given : Given) → args_given (placeless_given given) ≡ placeless_args (args_given given)
args_given_placed given = sym (at_args_of given.0 given.1 [])

args_from_placed : (x : Expr × Following) → args_from (placeless_expr x.0, (placeless_indices x.1.0, (map placeless_arg x.1.1.0, map placeless_named x.1.1.1))) ≡ placeless_args (args_from x)
args_from_placed (e, x) = ap (λ v. args_of (v ∷ map placeless_arg x.1.0) (map placeless_named x.1.1) (placeless_indices x.0)) (sym (at_Value e)) ∙ sym (at_args_of (Value e ∷ x.1.0) x.1.1 x.0)

pub args_or_none_placed : (o : Option Args) → args_or_none (option_map placeless_args o) ≡ placeless_args (args_or_none o)
args_or_none_placed None = sym (at_args_of [] [] [])
args_or_none_placed (Some given) = refl

callee_stays : (one two : Bool) → placeless_callee (if one then Der else (if two then Initial else Pure)) ≡ (if one then Der else (if two then Initial else Pure))
callee_stays true two = refl
callee_stays false true = refl
callee_stays false false = refl

word_call_placed : (x : Lexeme × Args) → call_tree (placeless_token x.0, placeless_args x.1) ≡ placeless_expr (call_tree x)
word_call_placed (t, given) = made_at t.place (Call (callee_of t) given) (at_Call (callee_of t) given ∙ ap (λ callee. Call callee (placeless_args given)) (callee_stays _ _))

reference_tree_placed : (x : Place × (ReferenceOf Expr × Option Args)) → reference_tree (nowhere, (placeless_reference x.1.0, option_map placeless_args x.1.1)) ≡ placeless_expr (reference_tree x)
reference_tree_placed (place, (r, None)) = made_at place (Ref r) (at_Ref r)
reference_tree_placed (place, (r, Some given)) = made_at place (Call (Named r) given) (at_Call (Named r) given)

outputs_placed : (x : Place × List (Option Expr)) → outputs_tree (nowhere, map (option_map placeless_expr) x.1) ≡ placeless_expr (outputs_tree x)
outputs_placed (place, []) = made_at place (Tuple []) (at_Tuple [])
outputs_placed (place, None ∷ more) = made_at place (Tuple (None ∷ more)) (at_Tuple (None ∷ more))
outputs_placed (place, Some a ∷ []) = refl
outputs_placed (place, Some a ∷ b ∷ more) = made_at place (Tuple (Some a ∷ b ∷ more)) (at_Tuple (Some a ∷ b ∷ more))

matrix_placed : (x : Place × List (List Expr)) → matrix_tree (nowhere, map (map placeless_expr) x.1) ≡ placeless_expr (matrix_tree x)
matrix_placed (place, rows) = made_at place (Matrix rows) (at_Matrix rows)

array_placed : (x : Place × (Expr × InBraces)) → array_tree (nowhere, (placeless_expr x.1.0, (option_map placeless_indices x.1.1.0, map placeless_expr x.1.1.1))) ≡ placeless_expr (array_tree x)
array_placed (place, (a, (None, more))) = made_at place (Array (a ∷ more)) (at_Array (a ∷ more))
array_placed (place, (a, (Some iters, more))) = made_at place (ArrayFor a iters) (at_ArrayFor a iters)

power_placed : (x : Place × (Expr × Option (Lexeme × Expr))) → power_tree (nowhere, (placeless_expr x.1.0, option_map (λ y. (placeless_token y.0, placeless_expr y.1)) x.1.1)) ≡ placeless_expr (power_tree x)
power_placed (place, (a, None)) = refl
power_placed (place, (a, Some x)) = made_at place (Power a _ x.1) (at_Power a _ x.1)

factor_placed : (x : Lexeme × Expr) → factor_of (placeless_token x.0, placeless_expr x.1) ≡ placeless_factor (factor_of x)
factor_placed (t, a) = refl

product_placed : (x : Place × (Expr × List (FactorOf Expr))) → product_tree (nowhere, (placeless_expr x.1.0, map placeless_factor x.1.1)) ≡ placeless_expr (product_tree x)
product_placed (place, (a, [])) = refl
product_placed (place, (a, b ∷ more)) = made_at place (Product _) (at_Product _)

term_placed : (x : Lexeme × Expr) → term_of (placeless_token x.0, placeless_expr x.1) ≡ placeless_term (term_of x)
term_placed (t, a) = refl

terms_placed : (place : Place) (a : Expr) (list : List (TermOf Expr)) → terms_tree nowhere (placeless_expr a) (map placeless_term list) ≡ placeless_expr (terms_tree place a list)
terms_placed place a [] = refl
terms_placed place a (b ∷ more) = made_at place (Sum _) (at_Sum _)

signed_placed : (b : Bool) (t : Lexeme) (place : Place) (a : Expr) (list : List (TermOf Expr)) → (if b then expr_at nowhere (Sum (term_of (placeless_token t, placeless_expr a) ∷ map placeless_term list)) else terms_tree nowhere (placeless_expr a) (map placeless_term list)) ≡ placeless_expr (if b then expr_at t.place (Sum (term_of (t, a) ∷ list)) else terms_tree place a list)
signed_placed true t place a list = made_at t.place (Sum _) (at_Sum _)
signed_placed false t place a list = terms_placed place a list

sum_placed : (x : Option Lexeme × (Place × (Expr × List (TermOf Expr)))) → sum_tree (option_map placeless_token x.0, (nowhere, (placeless_expr x.1.1.0, map placeless_term x.1.1.1))) ≡ placeless_expr (sum_tree x)
sum_placed (None, x) = terms_placed x.0 x.1.0 x.1.1
sum_placed (Some t, x) = signed_placed (is_minus t) t x.0 x.1.0 x.1.1

relation_placed : (x : Place × (Expr × Option (Lexeme × Expr))) → relation_tree (nowhere, (placeless_expr x.1.0, option_map (λ y. (placeless_token y.0, placeless_expr y.1)) x.1.1)) ≡ placeless_expr (relation_tree x)
relation_placed (place, (a, None)) = refl
relation_placed (place, (a, Some x)) = made_at place (Relation (relation_of x.0) a x.1) (at_Relation (relation_of x.0) a x.1)

not_placed : (x : Place × (Bool × Expr)) → not_tree (nowhere, (x.1.0, placeless_expr x.1.1)) ≡ placeless_expr (not_tree x)
not_placed (place, (true, a)) = made_at place (Not a) (at_Not a)
not_placed (place, (false, a)) = refl

all_placed : (x : Place × (Expr × List Expr)) → all_tree (nowhere, (placeless_expr x.1.0, map placeless_expr x.1.1)) ≡ placeless_expr (all_tree x)
all_placed (place, (a, [])) = refl
all_placed (place, (a, b ∷ more)) = made_at place (All (a ∷ b ∷ more)) (at_All (a ∷ b ∷ more))

any_placed : (x : Place × (Expr × List Expr)) → any_tree (nowhere, (placeless_expr x.1.0, map placeless_expr x.1.1)) ≡ placeless_expr (any_tree x)
any_placed (place, (a, [])) = refl
any_placed (place, (a, b ∷ more)) = made_at place (Any (a ∷ b ∷ more)) (at_Any (a ∷ b ∷ more))

range_placed : (x : Place × (Expr × Option (Expr × Option Expr))) → range_tree (nowhere, (placeless_expr x.1.0, option_map (λ y. (placeless_expr y.0, option_map placeless_expr y.1)) x.1.1)) ≡ placeless_expr (range_tree x)
range_placed (place, (a, None)) = refl
range_placed (place, (a, Some (b, None))) = made_at place (Range a None b) (at_Range a None b)
range_placed (place, (a, Some (b, Some c))) = made_at place (Range a (Some b) c) (at_Range a (Some b) c)

branch_placed : (x : Expr × Expr) → branch_of (placeless_expr x.0, placeless_expr x.1) ≡ placeless_branch (branch_of x)
branch_placed (condition, value) = refl

if_placed : (x : Place × (Expr × (Expr × (List (BranchOf Expr) × Expr)))) → if_tree (nowhere, (placeless_expr x.1.0, (placeless_expr x.1.1.0, (map placeless_branch x.1.1.1.0, placeless_expr x.1.1.1.1)))) ≡ placeless_expr (if_tree x)
if_placed (place, x) = made_at place (If _ x.1.1.1) (at_If _ x.1.1.1)

-- ---- the productions

module _ (of : Spelling Symbol ValueOf) (at : (x : Symbol) → Places Symbol ValueOf (ValueOf x) of (symbol x) (placeless x)) where
  pub name_places : Sets of name (map placeless_token)
  name_places = through_separated dot (through_token of (ident ∷ []))

  pub type_spec_places : Sets of type_spec placeless_reference
  type_spec_places = through_made (through_seq (through_flag of dot) (at Names)) name_placed

  part_places : Sets of part placeless_part
  part_places = through_made (through_seq (through_token of (ident ∷ [])) (through_optional (at Subscripts))) part_placed

  pub reference_places : Sets of reference placeless_reference
  reference_places = through_made (through_seq (through_flag of dot) (through_separated dot part_places)) reference_placed

  subscript_places : Sets of subscript placeless_option
  subscript_places = through_either (through_made (through_token of (colon ∷ [])) (λ t. refl)) (through_made (at Expressions) (λ a. refl))

  pub subscripts_places : Sets of subscripts placeless_options
  subscripts_places = through_between open_bracket close_bracket (through_separated comma subscript_places)

  pub index_places : Sets of index placeless_index
  index_places = through_made (through_seq (through_token of (ident ∷ [])) (through_optional (through_behind in_word (at Expressions)))) index_placed

  pub indices_places : Sets of indices placeless_indices
  indices_places = through_separated comma index_places

  named_places : Sets of named placeless_named
  named_places = through_made (through_seq (through_token of (ident ∷ [])) (through_behind equals (at OneArgument))) named_placed

  named_list_places : Sets of named_list (map placeless_named)
  named_list_places = through_made (through_seq (through_token of (ident ∷ [])) (through_seq (through_behind equals (at OneArgument)) (through_many (through_behind comma named_places)))) named_list_placed

  function_places : Sets of function_argument placeless_arg
  function_places = through_made (through_behind function_word (through_seq (at TypeSpecs) (through_between open_paren close_paren (through_optional named_list_places)))) partial_placed

  pub arg_places : Sets of arg placeless_arg
  arg_places = through_either function_places (through_made (at Expressions) (λ e. sym (at_Value e)))

  more_behind_comma : Sets of (optional (behind comma (symbol MoreArguments))) (option_map placeless_given)
  more_behind_comma = through_optional (through_behind comma (at MoreArguments))

  pub more_places : Sets of more_arguments placeless_given
  more_places = through_either2 (through_made named_list_places (λ list. refl)) (through_made (through_seq (at OneArgument) more_behind_comma) more_placed)

  pub args_places : Sets of args placeless_args
  args_places =
      through_either2 (through_made (through_made {v = placeless_given} named_list_places (λ list. refl)) args_given_placed)
      (through_either (through_made (through_made (through_seq function_places more_behind_comma) more_placed) args_given_placed)
      (through_made (through_seq (at Expressions) (through_either (through_made {v = λ x. (placeless_indices x.0, (map placeless_arg x.1.0, map placeless_named x.1.1))} (through_behind for_word (at Indices)) (λ list. refl)) (through_made more_behind_comma following_placed))) args_from_placed))

  pub call_args_places : Sets of call_args placeless_args
  call_args_places = through_made (through_between open_paren close_paren (through_optional (at Arguments))) args_or_none_placed

  pub outputs_places : Sets of outputs placeless_options
  outputs_places = through_separated comma (through_optional (at Expressions))

  exprs_places : Sets of exprs (map placeless_expr)
  exprs_places = through_separated comma (at Expressions)

  array_args_places : Sets of array_args (λ x. (placeless_expr x.0, (option_map placeless_indices x.1.0, map placeless_expr x.1.1)))
  array_args_places = through_seq (at Expressions) (through_either (through_made (through_behind for_word (at Indices)) (λ list. refl)) (through_made (through_many (through_behind comma (at Expressions))) (λ list. refl)))

  literal_places : Sets of literal placeless_expr
  literal_places =
      through_either (through_made (through_token of (whole ∷ [])) (λ t. made_at t.place (Whole _) (at_Whole _)))
      (through_either (through_made (through_token of (decimal ∷ [])) (λ t. made_at t.place (Decimal t.text) (at_Decimal t.text)))
      (through_either (through_made (through_token of (string ∷ [])) (λ t. made_at t.place (Str t.text) (at_Str t.text)))
      (through_either (through_made (through_token of (false_word ∷ [])) (λ t. made_at t.place (Truth false) (at_Truth false)))
      (through_either (through_made (through_token of (true_word ∷ [])) (λ t. made_at t.place (Truth true) (at_Truth true)))
      (through_made (through_token of (end_word ∷ [])) (λ t. made_at t.place EndMark at_EndMark))))))

  word_call_places : Sets of word_call placeless_expr
  word_call_places = through_made (through_seq (through_token of (der_word ∷ initial_word ∷ pure_word ∷ [])) (at CallArguments)) word_call_placed

  output_list_places : Sets of output_list placeless_expr
  output_list_places = through_made (through_placed (through_between open_paren close_paren outputs_places)) outputs_placed

  matrix_places : Sets of matrix placeless_expr
  matrix_places = through_made (through_placed (through_between open_bracket close_bracket (through_separated semicolon exprs_places))) matrix_placed

  array_places : Sets of array placeless_expr
  array_places = through_made (through_placed (through_between open_brace close_brace array_args_places)) array_placed

  pub primary_places : Sets of primary placeless_expr
  primary_places =
      through_either literal_places
      (through_either word_call_places
      (through_either (through_made (through_placed (through_seq (at References) (through_optional (at CallArguments)))) reference_tree_placed)
      (through_either output_list_places (through_either matrix_places array_places))))

  pub factor_places : Sets of factor placeless_expr
  factor_places = through_made (through_placed (through_seq (at Primaries) (through_optional (through_seq (through_token of (power ∷ dot_power ∷ [])) (at Primaries))))) power_placed

  pub term_places : Sets of term placeless_expr
  term_places = through_made (through_placed (through_seq (at Powers) (through_many (through_made (through_seq (through_token of (times ∷ divides ∷ dot_times ∷ dot_divides ∷ [])) (at Powers)) factor_placed)))) product_placed

  add_places : Sets of add placeless_token
  add_places = through_token of (plus ∷ minus ∷ dot_plus ∷ dot_minus ∷ [])

  pub arith_places : Sets of arith placeless_expr
  arith_places = through_made (through_seq (through_optional add_places) (through_placed (through_seq (at Products) (through_many (through_made (through_seq add_places (at Products)) term_placed))))) sum_placed

  pub relation_places : Sets of relation placeless_expr
  relation_places = through_made (through_placed (through_seq (at Sums) (through_optional (through_seq (through_token of (less ∷ less_equal ∷ greater ∷ greater_equal ∷ equal_equal ∷ not_equal ∷ [])) (at Sums))))) relation_placed

  pub neg_places : Sets of neg placeless_expr
  neg_places = through_made (through_placed (through_seq (through_flag of not_word) (at Relations))) not_placed

  pub conj_places : Sets of conj placeless_expr
  conj_places = through_made (through_placed (through_seq (at Negations) (through_many (through_behind and_word (at Negations))))) all_placed

  pub logical_places : Sets of logical placeless_expr
  logical_places = through_made (through_placed (through_seq (at Conjunctions) (through_many (through_behind or_word (at Conjunctions))))) any_placed

  pub simple_places : Sets of simple placeless_expr
  simple_places = through_made (through_placed (through_seq (at Logicals) (through_optional (through_behind colon (through_seq (at Logicals) (through_optional (through_behind colon (at Logicals)))))))) range_placed

  branch_places : Sets of further_branch placeless_branch
  branch_places = through_made (through_seq (through_behind elseif_word (at Expressions)) (through_behind then_word (at Expressions))) branch_placed

  if_places : Sets of if_expression placeless_expr
  if_places =
      through_nested (through_made (through_placed (through_behind if_word (through_seq (at Expressions) (through_seq (through_behind then_word (at Expressions))
      (through_seq (through_many branch_places) (through_behind else_word (at Expressions))))))) if_placed)

  pub expr_places : Sets of expr placeless_expr
  expr_places = through_either if_places (at Simples)
