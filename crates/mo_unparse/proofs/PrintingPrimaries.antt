-- Literals, references, calls, outputs, matrices and arrays in pieces.
use Rattle.std.proofs.Common.{◌≡◌, ◌==◌, ℕ, ◌-◌, ◌^◌, ◌≤◌, ◌<◌, pos, min, Bool, true, false, List, [], ◌∷◌, ◌++◌, inl, inr, map, Option, Some, None, refl, sym, ap, subst, ◌∙◌, append-nil, arith}
use Rattle.std.specs.Prelude.{codes, if◌then◌else◌, int_lt}
use Rattle.std.specs.Fmt.{decimal}
use Rattle.std.proofs.lemmas.Bool.Decides.{nat_tests}
use Rattle.mo_syntax.specs.declared.place.Place.{Place}
use Rattle.mo_syntax.specs.declared.token.TokenKind.TheVariants.{Whole as whole_kind}
use Rattle.mo_syntax.specs.declared.expr.ReferenceOf.{ReferenceOf}
use Rattle.mo_syntax.specs.declared.expr.IndexOf.{IndexOf}
use Rattle.mo_syntax.specs.declared.expr.CalleeOf.{CalleeOf}
use Rattle.mo_syntax.specs.declared.expr.CalleeOf.TheVariants.{Named, Der, Initial, Pure}
use Rattle.mo_syntax.specs.declared.expr.Args.{Args}
use Rattle.mo_syntax.specs.declared.expr.Expr.{Expr}
use Rattle.mo_syntax.specs.declared.expr.Node.TheVariants.{Whole, Decimal, Str, Truth, Ref, Call, Tuple, Array, ArrayFor, Matrix, EndMark, outs-Whole, outs-Decimal, outs-Str, outs-Truth, outs-Ref, outs-Call, outs-Tuple, outs-Array, outs-ArrayFor, outs-Matrix, outs-EndMark}
use Rattle.mo_grammar.specs.Lexeme.{Lexeme, code_of}
use Rattle.mo_grammar.specs.Codes.{comma as comma_code, semicolon as semicolon_code, open_paren, close_paren, open_bracket, close_bracket, open_brace, close_brace, der_word, initial_word, pure_word, for_word}
use Rattle.mo_grammar.specs.Grammar.{a_construct, Limits, left_inside, has, either, many, made, symbol}
use Rattle.mo_grammar.specs.Forms.{optional, behind, separated}
use Rattle.mo_grammar.specs.Symbols.{Form, Expressions, Primaries, References, CallArguments, Indices}
use Rattle.mo_grammar.specs.Productions.{rule}
use Rattle.mo_grammar.specs.Expressions.{primary, literal, outputs, exprs, array_args}
use Rattle.mo_grammar.specs.Trees.{InBraces, expr_at, digits_after, callee_of, reference_tree, outputs_tree, matrix_tree, array_tree, braces_iters, braces_more}
use Rattle.mo_pieces.specs.Pieces.{a_word, a_whole, nowhere, IsToken}
use Rattle.mo_unparse.specs.Placeless.{placeless_expr, placeless_args, placeless_option, placeless_options, placeless_reference, placeless_callee, placeless_indices}
use Rattle.mo_pieces.specs.ShownExpressions.{shown_expr, pieces_of_expr, pieces_of_args, pieces_of_reference, pieces_of_outputs, callee_pieces, output_pieces, row_pieces, a_comma, a_semicolon, spaced}
use Rattle.mo_unparse.proofs.PlacelessForms as placeless
use Rattle.mo_unparse.proofs.ExpressionForms as forms
use Rattle.mo_unparse.proofs.Holding.{HoldsBy, HoldsEach}
use Rattle.mo_unparse.proofs.Building.{IsPrinted, IsPieceOf, by_pieces, by_token, by_piece, by_one, by_decimal, by_string, by_made, by_placed, by_seq, by_each, by_rule, by_left, by_right, by_between, by_present, by_absent}
use Rattle.mo_unparse.proofs.WordPieces.{comma_is, semicolon_is, open_paren_is, close_paren_is, open_bracket_is, close_bracket_is, open_brace_is, close_brace_is, true_word_is, false_word_is, end_word_is, der_word_is, initial_word_is, pure_word_is, for_word_is}
use Rattle.mo_unparse.proofs.WholeNumbers.{decimal_whole, decimal_value, decimal_after}
use Rattle.mo_unparse.proofs.PrintingLevels.{IsGiven, given_node, given_wrapped, expression_printed}
use Rattle.mo_unparse.proofs.PrintingLists.{word_place, HoldsOption, optional_held, behind_held, between_held, each_held, by_mark, each_marked, separated_printed}
use Rattle.mo_unparse.proofs.PrintingReferences.{iterators_some}
use Rattle.mo_unparse.proofs.ExpressionFacts.{ExpressionFact}

-- ---- literals

capped : (n : ℕ) → n ≤ 2 ^ 63 - 1 → min (digits_after 0 (decimal n)) (2 ^ 63 - 1) ≡ n
capped n h = let same : digits_after 0 (decimal n) ≡ n = decimal_after n (omega arith) in omega arith

not_negative : (n : ℕ) → int_lt (pos n) (pos 0) ≡ false
not_negative n = grind (arith, nat_tests)

whole_given : (l : Limits) (place : Place) (n : ℕ) → n ≤ 2 ^ 63 - 1 → IsGiven 9 l (expr_at place (Whole (pos n)))
unfolding rule
whole_given l place n h =
    let t : Lexeme = record { kind = whole_kind; text = decimal n; place = nowhere } in
    let small : n < 2 ^ 64 = omega arith in
    let value = decimal_value n small in
    given_node 9 l place (Whole (pos n)) (Whole (pos n)) _ (forms.level_at _ _ (outs-Whole (pos n)) ∙ ap (λ b. if b then 6 else 9) (not_negative n)) (forms.at_Whole (pos n)) (placeless.at_Whole (pos n))
    (by_rule Primaries (by_left (by_left (by_made (ap (λ v. expr_at nowhere (Whole (pos v))) (capped n h)) (by_token (a_whole (decimal n)) t refl (decimal_whole n small, omega arith) refl)))))

min_below : (n m : ℕ) → min n m ≤ m
min_below n m = omega arith

truth_given : (l : Limits) (place : Place) (truth : Bool) → IsGiven 9 l (expr_at place (Truth truth))
unfolding rule
truth_given l place false =
    given_node 9 l place (Truth false) (Truth false) _ (forms.level_at _ _ (outs-Truth false)) (forms.at_Truth false) (placeless.at_Truth false)
    (by_rule Primaries (by_left (by_right (by_right (by_right (by_left (by_made (ap (λ p. expr_at p (Truth false)) (word_place false_word_is)) (by_one false_word_is))))))))
truth_given l place true =
    given_node 9 l place (Truth true) (Truth true) _ (forms.level_at _ _ (outs-Truth true)) (forms.at_Truth true) (placeless.at_Truth true)
    (by_rule Primaries (by_left (by_right (by_right (by_right (by_right (by_left (by_made (ap (λ p. expr_at p (Truth true)) (word_place true_word_is)) (by_one true_word_is)))))))))

end_given : (l : Limits) (place : Place) → IsGiven 9 l (expr_at place EndMark)
unfolding rule
end_given l place =
    given_node 9 l place EndMark EndMark _ (forms.level_at _ _ outs-EndMark) forms.at_EndMark placeless.at_EndMark
    (by_rule Primaries (by_left (by_right (by_right (by_right (by_right (by_right (by_made (ap (λ p. expr_at p EndMark) (word_place end_word_is)) (by_one end_word_is)))))))))

literal_held : (l : Limits) (e : Expr) → HoldsBy ExpressionFact IsToken literal l e → IsGiven 9 l e
unfolding rule
literal_held l e (inl (t, held, same)) = subst (λ v. IsGiven 9 l v) same (whole_given l t.place _ (min_below (digits_after 0 t.text) (2 ^ 63 - 1)))
literal_held l e (inr (inl (t, (is_token, code), same))) =
    subst (λ v. IsGiven 9 l v) same (given_node 9 l t.place (Decimal t.text) (Decimal t.text) _ (forms.level_at _ _ (outs-Decimal t.text)) (forms.at_Decimal t.text) (placeless.at_Decimal t.text)
    (by_rule Primaries (by_left (by_right (by_left (by_made refl (by_decimal t is_token code)))))))
literal_held l e (inr (inr (inl (t, (is_token, code), same)))) =
    subst (λ v. IsGiven 9 l v) same (given_node 9 l t.place (Str t.text) (Str t.text) _ (forms.level_at _ _ (outs-Str t.text)) (forms.at_Str t.text) (placeless.at_Str t.text)
    (by_rule Primaries (by_left (by_right (by_right (by_left (by_made refl (by_string t is_token code))))))))
literal_held l e (inr (inr (inr (inl (t, held, same))))) = subst (λ v. IsGiven 9 l v) same (truth_given l t.place false)
literal_held l e (inr (inr (inr (inr (inl (t, held, same)))))) = subst (λ v. IsGiven 9 l v) same (truth_given l t.place true)
literal_held l e (inr (inr (inr (inr (inr (t, held, same)))))) = subst (λ v. IsGiven 9 l v) same (end_given l t.place)

-- ---- calls and references

word_called : (l : Limits) (place : Place) (callee : CalleeOf Expr) (text : List ℕ) (c : ℕ) (k : IsPieceOf (a_word text) c) (args : Args) → has (der_word ∷ initial_word ∷ pure_word ∷ []) c ≡ true → callee_of k.token ≡ placeless_callee callee → callee_pieces shown_expr callee ≡ a_word text ∷ [] →
    ExpressionFact CallArguments l args → IsGiven 9 l (expr_at place (Call callee args))
unfolding rule
word_called l place callee text c k args among gives shown p =
    given_node 9 l place (Call callee args) (Call (placeless_callee callee) (placeless_args args)) _ (forms.level_at _ _ (outs-Call callee args)) (forms.at_Call callee args) (placeless.at_Call callee args)
    (by_rule Primaries (by_right (by_left (by_made (placeless.both_same (λ p c. expr_at p (Call c (placeless_args args))) _ _ _ _ (word_place k) gives)
    (by_pieces (ap (λ ps. ps ++ pieces_of_args args) (sym shown)) (by_seq (by_piece k among) p))))))

called_by_code : ℕ → CalleeOf Expr
called_by_code c = if c == der_word then Der else (if c == initial_word then Initial else Pure)

called_by_word : (l : Limits) (place : Place) (der initial : Bool) (args : Args) → ExpressionFact CallArguments l args → IsGiven 9 l (expr_at place (Call (if der then Der else (if initial then Initial else Pure)) args))
unfolding called_by_code
called_by_word l place true initial args p = word_called l place Der (codes "der") der_word der_word_is args refl (ap called_by_code der_word_is.is_code) refl p
called_by_word l place false true args p = word_called l place Initial (codes "initial") initial_word initial_word_is args refl (ap called_by_code initial_word_is.is_code) refl p
called_by_word l place false false args p = word_called l place Pure (codes "pure") pure_word pure_word_is args refl (ap called_by_code pure_word_is.is_code) refl p

referred : (l : Limits) (place : Place) (r : ReferenceOf Expr) (o : Option Args) → ExpressionFact References l r → HoldsOption (λ args. ExpressionFact CallArguments l args) o → IsGiven 9 l (reference_tree (place, (r, o)))
unfolding rule
referred l place r None p h =
    given_node 9 l place (Ref r) (Ref (placeless_reference r)) _ (forms.level_at _ _ (outs-Ref r)) (forms.at_Ref r) (placeless.at_Ref r)
    (by_rule Primaries (by_right (by_right (by_left (by_made refl (by_placed refl (by_pieces (append-nil (pieces_of_reference r)) (by_seq p by_absent))))))))
referred l place r (Some args) p h =
    given_node 9 l place (Call (Named r) args) (Call (Named (placeless_reference r)) (placeless_args args)) _ (forms.level_at _ _ (outs-Call (Named r) args)) (forms.at_Call (Named r) args) (placeless.at_Call (Named r) args)
    (by_rule Primaries (by_right (by_right (by_left (by_made refl (by_placed refl (by_seq p (by_present h))))))))

-- ---- outputs

output_held : (l : Limits) (o : Option Expr) → HoldsOption (λ e. IsGiven 0 l e) o → IsPrinted (optional (symbol Expressions)) l (output_pieces shown_expr o) (placeless_option o)
output_held l None h = by_absent
output_held l (Some e) h = by_present (expression_printed l e h)

pub outputs_printed : (l : Limits) (list : List (Option Expr)) → HoldsBy ExpressionFact IsToken outputs l list → IsPrinted outputs l (pieces_of_outputs list) (placeless_options list)
outputs_printed l list h =
    separated_printed ExpressionFact (optional (symbol Expressions)) l a_comma comma_is refl (output_pieces shown_expr) placeless_option (λ o k. output_held l o (optional_held ExpressionFact (symbol Expressions) l o k)) list h

tuple_given : (l inner : Limits) (place : Place) (list : List (Option Expr)) → left_inside a_construct l ≡ Some inner → outputs_tree (nowhere, placeless_options list) ≡ expr_at nowhere (Tuple (placeless_options list)) → HoldsBy ExpressionFact IsToken outputs inner list → IsGiven 9 l (expr_at place (Tuple list))
unfolding rule
tuple_given l inner place list within value h =
    given_node 9 l place (Tuple list) (Tuple (placeless_options list)) _ (forms.level_at _ _ (outs-Tuple list)) (forms.at_Tuple list) (placeless.at_Tuple list)
    (by_rule Primaries (by_right (by_right (by_right (by_left (by_made value (by_placed refl (by_between within open_paren_is close_paren_is (outputs_printed inner list h)))))))))

head_same : {A : Type 0} (x a : A) (xs list : List A) → x ∷ xs ≡ a ∷ list → x ≡ a
head_same x a xs list e = cc

first_given : (l : Limits) (a : Expr) (more : List (Option Expr)) → HoldsBy ExpressionFact IsToken outputs l (Some a ∷ more) → IsGiven 0 l a
first_given l a more ((x, xs), (first, others), same) =
    optional_held ExpressionFact (symbol Expressions) l (Some a) (subst (λ o. HoldsBy ExpressionFact IsToken (optional (symbol Expressions)) l o) (head_same x (Some a) xs more same) first)

outputs_given : (l inner : Limits) (place : Place) (list : List (Option Expr)) → left_inside a_construct l ≡ Some inner → HoldsBy ExpressionFact IsToken outputs inner list → IsGiven 9 l (outputs_tree (place, list))
outputs_given l inner place [] within h = tuple_given l inner place [] within refl h
outputs_given l inner place (None ∷ more) within h = tuple_given l inner place (None ∷ more) within refl h
outputs_given l inner place (Some a ∷ []) within h = given_wrapped 9 l inner a within (first_given inner a [] h)
outputs_given l inner place (Some a ∷ b ∷ more) within h = tuple_given l inner place (Some a ∷ b ∷ more) within refl h

-- ---- matrices and arrays

row_held : (l : Limits) (row : List Expr) → HoldsBy ExpressionFact IsToken exprs l row → IsPrinted exprs l (row_pieces shown_expr row) (map placeless_expr row)
row_held l row h = separated_printed ExpressionFact (symbol Expressions) l a_comma comma_is refl pieces_of_expr placeless_expr (expression_printed l) row h

matrix_given : (l inner : Limits) (place : Place) (rows : List (List Expr)) → left_inside a_construct l ≡ Some inner → HoldsBy ExpressionFact IsToken (separated semicolon_code exprs) inner rows → IsGiven 9 l (matrix_tree (place, rows))
unfolding rule
matrix_given l inner place rows within h =
    given_node 9 l place (Matrix rows) (Matrix (map (map placeless_expr) rows)) _ (forms.level_at _ _ (outs-Matrix rows)) (forms.at_Matrix rows) (placeless.at_Matrix rows)
    (by_rule Primaries (by_right (by_right (by_right (by_right (by_left (by_made refl (by_placed refl (by_between within open_bracket_is close_bracket_is
    (separated_printed ExpressionFact exprs inner a_semicolon semicolon_is refl (row_pieces shown_expr) (map placeless_expr) (row_held inner) rows h))))))))))

array_for_given : (l inner : Limits) (place : Place) (e : Expr) (is : List (IndexOf Expr)) → left_inside a_construct l ≡ Some inner → IsGiven 0 inner e → ExpressionFact Indices inner is → IsGiven 9 l (expr_at place (ArrayFor e is))
unfolding rule
array_for_given l inner place e is within p q =
    given_node 9 l place (ArrayFor e is) (ArrayFor (placeless_expr e) (placeless_indices is)) _ (forms.level_at _ _ (outs-ArrayFor e is)) (forms.at_ArrayFor e is) (placeless.at_ArrayFor e is)
    (by_rule Primaries (by_right (by_right (by_right (by_right (by_right (by_made refl (by_placed refl (by_between within open_brace_is close_brace_is
    (by_pieces (ap (λ t. pieces_of_expr e ++ t) (iterators_some is q.1)) (by_seq (expression_printed inner e p) (by_left (by_made refl (by_mark (spaced (a_word (codes "for"))) for_word_is refl q.0))))))))))))))

array_given : (l inner : Limits) (place : Place) (e : Expr) (more : List Expr) → left_inside a_construct l ≡ Some inner → IsGiven 0 inner e → HoldsEach (λ a. IsGiven 0 inner a) more → IsGiven 9 l (expr_at place (Array (e ∷ more)))
unfolding rule
array_given l inner place e more within p h =
    given_node 9 l place (Array (e ∷ more)) (Array (map placeless_expr (e ∷ more))) _ (forms.level_at _ _ (outs-Array (e ∷ more))) (forms.at_Array (e ∷ more)) (placeless.at_Array (e ∷ more))
    (by_rule Primaries (by_right (by_right (by_right (by_right (by_right (by_made refl (by_placed refl (by_between within open_brace_is close_brace_is
    (by_seq (expression_printed inner e p) (by_right (by_made refl (by_each (λ a. a_comma ++ pieces_of_expr a) placeless_expr more
    (each_marked (symbol Expressions) inner a_comma comma_is refl pieces_of_expr placeless_expr more (each_held (expression_printed inner) more h)))))))))))))))

abbrev BracesRest : Form InBraces
BracesRest = either (made braces_iters (behind for_word (symbol Indices))) (made braces_more (many (behind comma_code (symbol Expressions))))

braced : (l inner : Limits) (place : Place) (e : Expr) (x : InBraces) → left_inside a_construct l ≡ Some inner → IsGiven 0 inner e → HoldsBy ExpressionFact IsToken BracesRest inner x → IsGiven 9 l (array_tree (place, (e, x)))
braced l inner place e x within p (inl (is, h, same)) =
    subst (λ y. IsGiven 9 l (array_tree (place, (e, y)))) same (array_for_given l inner place e is within p (behind_held ExpressionFact for_word (symbol Indices) inner is h))
braced l inner place e x within p (inr (more, h, same)) =
    subst (λ y. IsGiven 9 l (array_tree (place, (e, y)))) same (array_given l inner place e more within p (each_held (λ a k. behind_held ExpressionFact comma_code (symbol Expressions) inner a k) more h))

-- ---- all of them

pub primaries_step : (l : Limits) (e : Expr) → HoldsBy ExpressionFact IsToken primary l e → IsGiven 9 l e
primaries_step l e (inl h) = literal_held l e h
primaries_step l e (inr (inl ((t, args), (held, p), same))) = subst (λ v. IsGiven 9 l v) same (called_by_word l t.place (code_of t == der_word) (code_of t == initial_word) args p)
primaries_step l e (inr (inr (inl ((place, (r, o)), (p, args), same)))) = subst (λ v. IsGiven 9 l v) same (referred l place r o p (optional_held ExpressionFact (symbol CallArguments) l o args))
primaries_step l e (inr (inr (inr (inl ((place, list), held, same))))) =
    let inside = between_held ExpressionFact open_paren close_paren outputs l list held in
    subst (λ v. IsGiven 9 l v) same (outputs_given l inside.0 place list inside.1 inside.2)
primaries_step l e (inr (inr (inr (inr (inl ((place, rows), held, same)))))) =
    let inside = between_held ExpressionFact open_bracket close_bracket (separated semicolon_code exprs) l rows held in
    subst (λ v. IsGiven 9 l v) same (matrix_given l inside.0 place rows inside.1 inside.2)
primaries_step l e (inr (inr (inr (inr (inr ((place, (a, x)), held, same)))))) =
    let inside = between_held ExpressionFact open_brace close_brace array_args l (a, x) held in
    subst (λ v. IsGiven 9 l v) same (braced l inside.0 place a x inside.1 inside.2.0 inside.2.1)
