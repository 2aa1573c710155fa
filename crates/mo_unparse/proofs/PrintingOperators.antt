-- Operators in pieces: what is known of the operands gives what is known of the whole.
use Rattle.std.proofs.Common.{◌≡◌, ◌==◌, ◌||◌, ℕ, Bool, true, false, List, [], ◌∷◌, ◌++◌, inl, inr, map, Option, Some, None, refl, sym, ap, subst, ◌∙◌, append-nil, append_assoc, arith}
use Rattle.std.specs.Prelude.{codes, if◌then◌else◌, flat_map}
use Rattle.mo_syntax.specs.declared.place.Place.{Place}
use Rattle.mo_syntax.specs.declared.expr.TermOf.{TermOf}
use Rattle.mo_syntax.specs.declared.expr.FactorOf.{FactorOf}
use Rattle.mo_syntax.specs.declared.expr.BranchOf.{BranchOf}
use Rattle.mo_syntax.specs.declared.expr.RelOp.{RelOp}
use Rattle.mo_syntax.specs.declared.expr.RelOp.TheVariants.{Less, LessEqual, Greater, GreaterEqual, Equal, NotEqual}
use Rattle.mo_syntax.specs.declared.expr.Expr.{Expr}
use Rattle.mo_syntax.specs.declared.expr.Node.TheVariants.{Sum, Product, Power, Relation, Not, All, Any, Range, If, outs-Sum, outs-Product, outs-Power, outs-Relation, outs-Not, outs-All, outs-Any, outs-Range, outs-If}
use Rattle.mo_grammar.specs.Lexeme.{Lexeme, code_of}
use Rattle.mo_grammar.specs.Codes.{less, less_equal, greater, greater_equal, equal_equal, not_equal, plus as plus_code, minus as minus_code, divides as divides_code, power as power_code, dot_plus, dot_minus, dot_times, dot_divides, dot_power, and_word, or_word, if_word, then_word, elseif_word, else_word, colon as colon_code}
use Rattle.mo_grammar.specs.Grammar.{a_construct, Limits, left_inside, token, seq, many, symbol, has}
use Rattle.mo_grammar.specs.Forms.{optional, behind}
use Rattle.mo_grammar.specs.Symbols.{Form, Expressions, Simples, Logicals, Conjunctions, Negations, Relations, Sums, Products, Powers, Primaries}
use Rattle.mo_grammar.specs.Productions.{rule}
use Rattle.mo_grammar.specs.Expressions.{expr, further_branch, simple, logical, conj, neg, relation, arith as arith_form, further_term, term, further_factor, factor}
use Rattle.mo_grammar.specs.Trees.{expr_at, power_tree, first_factor, product_tree, is_minus, term_of, first_term, terms_tree, sum_tree, relation_of, relation_tree, not_tree, all_tree, any_tree, range_tree, branch_of, if_tree}
use Rattle.mo_pieces.specs.Pieces.{Piece, a_mark, a_word, a_blank, nowhere, IsToken}
use Rattle.mo_unparse.specs.Placeless.{placeless_expr, placeless_term, placeless_factor, placeless_branch}
use Rattle.mo_pieces.specs.ShownExpressions.{shown_expr, pieces_of_expr, operand, spaced, relation_mark, sign_mark, term_pieces, factor_pieces, branch_pieces}
use Rattle.mo_unparse.proofs.PlacelessForms as placeless
use Rattle.mo_unparse.proofs.ExpressionForms as forms
use Rattle.mo_unparse.proofs.Holding.{HoldsBy, HoldsEach}
use Rattle.mo_unparse.proofs.Building.{IsPrinted, IsPieceOf, by_pieces, by_piece, by_made, by_placed, by_seq, by_each, by_rule, by_left, by_nested, by_behind, by_present, by_absent, by_flag, after_blank}
use Rattle.mo_unparse.proofs.WordPieces.{less_is, less_equal_is, greater_is, greater_equal_is, equal_equal_is, not_equal_is, plus_is, minus_is, times_is, divides_is, power_is, dot_plus_is, dot_minus_is, dot_times_is, dot_divides_is, dot_power_is, and_word_is, or_word_is, not_word_is, if_word_is, then_word_is, elseif_word_is, else_word_is, colon_is}
use Rattle.mo_unparse.proofs.PrintingLevels.{IsGiven, given_less, given_node, operand_printed, expression_printed}
use Rattle.mo_unparse.proofs.PrintingLists.{mark_place, HoldsOption, optional_held, behind_held, each_held, by_mark, by_blanks, each_marked, infix_printed}
use Rattle.mo_unparse.proofs.ExpressionFacts.{ExpressionFact}

-- ---- powers

power_given : (l : Limits) (place : Place) (a : Expr) (dotted : Bool) (b : Expr) → IsGiven 9 l a → IsGiven 9 l b → IsGiven 8 l (expr_at place (Power a dotted b))
unfolding rule
power_given l place a true b p q =
    given_node 8 l place (Power a true b) (Power (placeless_expr a) true (placeless_expr b)) _ (forms.level_at _ _ (outs-Power a true b)) (forms.at_Power a true b) (placeless.at_Power a true b)
    (by_rule Powers (by_made (ap (λ c. expr_at nowhere (Power (placeless_expr a) (c == dot_power) (placeless_expr b))) dot_power_is.is_code)
    (by_placed refl (infix_printed (spaced (a_mark (codes ".^"))) dot_power_is refl refl (operand_printed 9 l a (omega arith) p) (operand_printed 9 l b (omega arith) q)))))
power_given l place a false b p q =
    given_node 8 l place (Power a false b) (Power (placeless_expr a) false (placeless_expr b)) _ (forms.level_at _ _ (outs-Power a false b)) (forms.at_Power a false b) (placeless.at_Power a false b)
    (by_rule Powers (by_made (ap (λ c. expr_at nowhere (Power (placeless_expr a) (c == dot_power) (placeless_expr b))) power_is.is_code)
    (by_placed refl (infix_printed (a_mark (codes "^") ∷ []) power_is refl refl (operand_printed 9 l a (omega arith) p) (operand_printed 9 l b (omega arith) q)))))

powered : (l : Limits) (place : Place) (a : Expr) (o : Option (Lexeme × Expr)) → IsGiven 9 l a → HoldsOption (HoldsBy ExpressionFact IsToken (seq (token (power_code ∷ dot_power ∷ [])) (symbol Primaries)) l) o → IsGiven 8 l (power_tree (place, (a, o)))
powered l place a None h k = given_less 9 8 l a (omega arith) h
powered l place a (Some (t, b)) h k = power_given l place a (code_of t == dot_power) b h k.1

pub powers_step : (l : Limits) (e : Expr) → HoldsBy ExpressionFact IsToken factor l e → IsGiven 8 l e
powers_step l e ((place, (a, o)), (first, rest), same) = subst (λ v. IsGiven 8 l v) same (powered l place a o first (optional_held ExpressionFact (seq (token (power_code ∷ dot_power ∷ [])) (symbol Primaries)) l o rest))

-- ---- products

factor_printed : (l : Limits) (divide dotted : Bool) (a : Expr) → IsGiven 8 l a → IsPrinted further_factor l (factor_pieces shown_expr false (record { divide = divide; dotted = dotted; value = a })) (record { divide = divide; dotted = dotted; value = placeless_expr a })
factor_printed l true true a p =
    by_made (ap (λ c. record { divide = c == divides_code || c == dot_divides; dotted = c == dot_times || c == dot_divides; value = placeless_expr a }) dot_divides_is.is_code)
    (by_blanks (spaced (a_mark (codes "./"))) refl (by_seq (by_piece dot_divides_is refl) (operand_printed 8 l a (omega arith) p)))
factor_printed l true false a p =
    by_made (ap (λ c. record { divide = c == divides_code || c == dot_divides; dotted = c == dot_times || c == dot_divides; value = placeless_expr a }) divides_is.is_code)
    (by_seq (by_piece divides_is refl) (operand_printed 8 l a (omega arith) p))
factor_printed l false true a p =
    by_made (ap (λ c. record { divide = c == divides_code || c == dot_divides; dotted = c == dot_times || c == dot_divides; value = placeless_expr a }) dot_times_is.is_code)
    (by_blanks (spaced (a_mark (codes ".*"))) refl (by_seq (by_piece dot_times_is refl) (operand_printed 8 l a (omega arith) p)))
factor_printed l false false a p =
    by_made (ap (λ c. record { divide = c == divides_code || c == dot_divides; dotted = c == dot_times || c == dot_divides; value = placeless_expr a }) times_is.is_code)
    (by_seq (by_piece times_is refl) (operand_printed 8 l a (omega arith) p))

factor_held : (l : Limits) (f : FactorOf Expr) → HoldsBy ExpressionFact IsToken further_factor l f → IsPrinted further_factor l (factor_pieces shown_expr false f) (placeless_factor f)
factor_held l f (x, (t, a), same) = factor_printed l f.divide f.dotted f.value (subst (λ v. IsGiven 8 l v.value) same a)

multiplied : (l : Limits) (place : Place) (a : Expr) (list : List (FactorOf Expr)) → IsGiven 8 l a → HoldsEach (HoldsBy ExpressionFact IsToken further_factor l) list → IsGiven 7 l (product_tree (place, (a, list)))
unfolding rule
multiplied l place a [] p h = given_less 8 7 l a (omega arith) p
multiplied l place a (b ∷ more) p h =
    let all = first_factor a ∷ b ∷ more in
    given_node 7 l place (Product all) (Product (map placeless_factor all)) _ (forms.level_at _ _ (outs-Product all)) (forms.at_Product all) (placeless.at_Product all)
    (by_rule Products (by_made refl (by_placed refl (by_seq (operand_printed 8 l a (omega arith) p)
    (by_each (factor_pieces shown_expr false) placeless_factor (b ∷ more) (each_held (factor_held l) (b ∷ more) h))))))

pub products_step : (l : Limits) (e : Expr) → HoldsBy ExpressionFact IsToken term l e → IsGiven 7 l e
products_step l e ((place, (a, list)), (first, others), same) = subst (λ v. IsGiven 7 l v) same (multiplied l place a list first others)

-- ---- sums

-- the sign of a term is a token that gives that term
record IsSign (minus dotted : Bool) : Type 0 where
  code : ℕ
  piece : IsPieceOf (a_mark (sign_mark minus dotted)) code
  among : has (plus_code ∷ minus_code ∷ dot_plus ∷ dot_minus ∷ []) code ≡ true
  subtracts : is_minus piece.token ≡ minus
  gives : (a : Expr) → term_of (piece.token, a) ≡ record { minus = minus; dotted = dotted; value = a }

sign_of_code : ℕ → Expr → TermOf Expr
sign_of_code c a = record { minus = c == minus_code || c == dot_minus; dotted = c == dot_plus || c == dot_minus; value = a }

sign_is : (minus dotted : Bool) → IsSign minus dotted
unfolding sign_of_code
sign_is true true = record { code = dot_minus; piece = dot_minus_is; among = refl; subtracts = ap (λ c. c == minus_code || c == dot_minus) dot_minus_is.is_code; gives = λ a. ap (λ c. sign_of_code c a) dot_minus_is.is_code }
sign_is true false = record { code = minus_code; piece = minus_is; among = refl; subtracts = ap (λ c. c == minus_code || c == dot_minus) minus_is.is_code; gives = λ a. ap (λ c. sign_of_code c a) minus_is.is_code }
sign_is false true = record { code = dot_plus; piece = dot_plus_is; among = refl; subtracts = ap (λ c. c == minus_code || c == dot_minus) dot_plus_is.is_code; gives = λ a. ap (λ c. sign_of_code c a) dot_plus_is.is_code }
sign_is false false = record { code = plus_code; piece = plus_is; among = refl; subtracts = ap (λ c. c == minus_code || c == dot_minus) plus_is.is_code; gives = λ a. ap (λ c. sign_of_code c a) plus_is.is_code }

term_printed : (l : Limits) (minus dotted : Bool) (a : Expr) → IsGiven 7 l a → IsPrinted further_term l (term_pieces shown_expr false (record { minus = minus; dotted = dotted; value = a })) (record { minus = minus; dotted = dotted; value = placeless_expr a })
term_printed l minus dotted a p =
    let s = sign_is minus dotted in
    by_made (s.gives (placeless_expr a)) (by_blanks (spaced (a_mark (sign_mark minus dotted))) refl (by_seq (by_piece s.piece s.among) (operand_printed 7 l a (omega arith) p)))

term_held : (l : Limits) (t : TermOf Expr) → HoldsBy ExpressionFact IsToken further_term l t → IsPrinted further_term l (term_pieces shown_expr false t) (placeless_term t)
term_held l t (x, (sign, a), same) = term_printed l t.minus t.dotted t.value (subst (λ v. IsGiven 7 l v.value) same a)

terms_held : (l : Limits) (list : List (TermOf Expr)) → HoldsEach (HoldsBy ExpressionFact IsToken further_term l) list → IsPrinted (many further_term) l (flat_map (term_pieces shown_expr false) list) (map placeless_term list)
terms_held l list h = by_each (term_pieces shown_expr false) placeless_term list (each_held (term_held l) list h)

added : (l : Limits) (place : Place) (a : Expr) (list : List (TermOf Expr)) → IsGiven 7 l a → HoldsEach (HoldsBy ExpressionFact IsToken further_term l) list → IsGiven 6 l (terms_tree place a list)
unfolding rule
added l place a [] p h = given_less 7 6 l a (omega arith) p
added l place a (b ∷ more) p h =
    let all = first_term a ∷ b ∷ more in
    given_node 6 l place (Sum all) (Sum (map placeless_term all)) _ (forms.level_at _ _ (outs-Sum all)) (forms.at_Sum all) (placeless.at_Sum all)
    (by_rule Sums (by_made refl (by_seq by_absent (by_placed refl (by_seq (operand_printed 7 l a (omega arith) p) (terms_held l (b ∷ more) h))))))

subtracted_tree : (t : Lexeme) (a : Expr) (x : TermOf Expr) (list : List (TermOf Expr)) → is_minus t ≡ true → t.place ≡ nowhere → term_of (t, a) ≡ x → sum_tree (Some t, (nowhere, (a, list))) ≡ expr_at nowhere (Sum (x ∷ list))
subtracted_tree t a x list minus place gives =
    ap (λ b. if b then expr_at t.place (Sum (term_of (t, a) ∷ list)) else terms_tree nowhere a list) minus
    ∙ placeless.both_same (λ p y. expr_at p (Sum (y ∷ list))) _ _ _ _ place gives

subtracted : (l : Limits) (place : Place) (dotted : Bool) (a : Expr) (list : List (TermOf Expr)) → IsGiven 7 l a → HoldsEach (HoldsBy ExpressionFact IsToken further_term l) list → IsGiven 6 l (expr_at place (Sum (record { minus = true; dotted = dotted; value = a } ∷ list)))
unfolding rule
subtracted l place dotted a list p h =
    let s = sign_is true dotted in
    let all = record { minus = true; dotted = dotted; value = a } ∷ list in
    given_node 6 l place (Sum all) (Sum (map placeless_term all)) _ (forms.level_at _ _ (outs-Sum all)) (forms.at_Sum all) (placeless.at_Sum all)
    (by_rule Sums (by_made (subtracted_tree s.piece.token (placeless_expr a) (record { minus = true; dotted = dotted; value = placeless_expr a }) (map placeless_term list) s.subtracts (mark_place s.piece) (s.gives (placeless_expr a)))
    (by_seq (by_present (by_piece s.piece s.among)) (by_placed refl (by_seq (operand_printed 7 l a (omega arith) p) (terms_held l list h))))))

signed : (l : Limits) (t : Lexeme) (place : Place) (minus dotted : Bool) (a : Expr) (list : List (TermOf Expr)) → IsGiven 7 l a → HoldsEach (HoldsBy ExpressionFact IsToken further_term l) list →
    IsGiven 6 l (if minus then expr_at t.place (Sum (record { minus = minus; dotted = dotted; value = a } ∷ list)) else terms_tree place a list)
signed l t place true dotted a list p h = subtracted l t.place dotted a list p h
signed l t place false dotted a list p h = added l place a list p h

summed : (l : Limits) (o : Option Lexeme) (place : Place) (a : Expr) (list : List (TermOf Expr)) → IsGiven 7 l a → HoldsEach (HoldsBy ExpressionFact IsToken further_term l) list → IsGiven 6 l (sum_tree (o, (place, (a, list))))
summed l None place a list p h = added l place a list p h
summed l (Some t) place a list p h = signed l t place (is_minus t) (code_of t == dot_plus || code_of t == dot_minus) a list p h

pub sums_step : (l : Limits) (e : Expr) → HoldsBy ExpressionFact IsToken arith_form l e → IsGiven 6 l e
sums_step l e ((o, (place, (a, list))), (sign, (first, others)), same) = subst (λ v. IsGiven 6 l v) same (summed l o place a list first others)

-- ---- relations

relation_of_code : ℕ → RelOp
relation_of_code c =
    if c == less then Less else (if c == less_equal then LessEqual else (if c == greater then Greater
    else (if c == greater_equal then GreaterEqual else (if c == equal_equal then Equal else NotEqual))))

record IsRelation (op : RelOp) : Type 0 where
  code : ℕ
  piece : IsPieceOf (a_mark (relation_mark op)) code
  among : has (less ∷ less_equal ∷ greater ∷ greater_equal ∷ equal_equal ∷ not_equal ∷ []) code ≡ true
  gives : relation_of piece.token ≡ op

relation_is : (op : RelOp) → IsRelation op
unfolding relation_of_code
relation_is Less = record { code = less; piece = less_is; among = refl; gives = ap relation_of_code less_is.is_code }
relation_is LessEqual = record { code = less_equal; piece = less_equal_is; among = refl; gives = ap relation_of_code less_equal_is.is_code }
relation_is Greater = record { code = greater; piece = greater_is; among = refl; gives = ap relation_of_code greater_is.is_code }
relation_is GreaterEqual = record { code = greater_equal; piece = greater_equal_is; among = refl; gives = ap relation_of_code greater_equal_is.is_code }
relation_is Equal = record { code = equal_equal; piece = equal_equal_is; among = refl; gives = ap relation_of_code equal_equal_is.is_code }
relation_is NotEqual = record { code = not_equal; piece = not_equal_is; among = refl; gives = ap relation_of_code not_equal_is.is_code }

relation_given : (l : Limits) (place : Place) (op : RelOp) (a b : Expr) → IsGiven 6 l a → IsGiven 6 l b → IsGiven 5 l (expr_at place (Relation op a b))
unfolding rule
relation_given l place op a b p q =
    let s = relation_is op in
    given_node 5 l place (Relation op a b) (Relation op (placeless_expr a) (placeless_expr b)) _ (forms.level_at _ _ (outs-Relation op a b)) (forms.at_Relation op a b) (placeless.at_Relation op a b)
    (by_rule Relations (by_made (ap (λ o. expr_at nowhere (Relation o (placeless_expr a) (placeless_expr b))) s.gives)
    (by_placed refl (infix_printed (spaced (a_mark (relation_mark op))) s.piece s.among refl (operand_printed 6 l a (omega arith) p) (operand_printed 6 l b (omega arith) q)))))

related : (l : Limits) (place : Place) (a : Expr) (o : Option (Lexeme × Expr)) → IsGiven 6 l a → HoldsOption (HoldsBy ExpressionFact IsToken (seq (token (less ∷ less_equal ∷ greater ∷ greater_equal ∷ equal_equal ∷ not_equal ∷ [])) (symbol Sums)) l) o → IsGiven 5 l (relation_tree (place, (a, o)))
related l place a None h k = given_less 6 5 l a (omega arith) h
related l place a (Some (t, b)) h k = relation_given l place (relation_of t) a b h k.1

pub relations_step : (l : Limits) (e : Expr) → HoldsBy ExpressionFact IsToken relation l e → IsGiven 5 l e
relations_step l e ((place, (a, o)), (first, rest), same) =
    subst (λ v. IsGiven 5 l v) same (related l place a o first (optional_held ExpressionFact (seq (token (less ∷ less_equal ∷ greater ∷ greater_equal ∷ equal_equal ∷ not_equal ∷ [])) (symbol Sums)) l o rest))

-- ---- logic

negated : (l : Limits) (place : Place) (truth : Bool) (a : Expr) → IsGiven 5 l a → IsGiven 4 l (not_tree (place, (truth, a)))
unfolding rule
negated l place false a p = given_less 5 4 l a (omega arith) p
negated l place true a p =
    given_node 4 l place (Not a) (Not (placeless_expr a)) _ (forms.level_at _ _ (outs-Not a)) (forms.at_Not a) (placeless.at_Not a)
    (by_rule Negations (by_made refl (by_placed refl (by_seq (by_flag not_word_is) (after_blank (operand_printed 5 l a (omega arith) p))))))

pub negations_step : (l : Limits) (e : Expr) → HoldsBy ExpressionFact IsToken neg l e → IsGiven 4 l e
negations_step l e ((place, (truth, a)), (mark, inner), same) = subst (λ v. IsGiven 4 l v) same (negated l place truth a inner)

all_given : (l : Limits) (place : Place) (a : Expr) (list : List Expr) → IsGiven 4 l a → HoldsEach (λ e. IsGiven 4 l e) list → IsGiven 3 l (all_tree (place, (a, list)))
unfolding rule
all_given l place a [] p h = given_less 4 3 l a (omega arith) p
all_given l place a (b ∷ more) p h =
    let every = a ∷ b ∷ more in
    given_node 3 l place (All every) (All (map placeless_expr every)) _ (forms.level_at _ _ (outs-All every)) (forms.at_All every) (placeless.at_All every)
    (by_rule Conjunctions (by_made refl (by_placed refl (by_seq (operand_printed 4 l a (omega arith) p) (by_each (λ e. spaced (a_word (codes "and")) ++ operand 4 (shown_expr e)) placeless_expr (b ∷ more)
    (each_marked (symbol Negations) l (spaced (a_word (codes "and"))) and_word_is refl (λ e. operand 4 (shown_expr e)) placeless_expr (b ∷ more) (each_held (λ e q. operand_printed 4 l e (omega arith) q) (b ∷ more) h)))))))

pub conjunctions_step : (l : Limits) (e : Expr) → HoldsBy ExpressionFact IsToken conj l e → IsGiven 3 l e
conjunctions_step l e ((place, (a, list)), (first, others), same) =
    subst (λ v. IsGiven 3 l v) same (all_given l place a list first (each_held (λ e h. behind_held ExpressionFact and_word (symbol Negations) l e h) list others))

any_given : (l : Limits) (place : Place) (a : Expr) (list : List Expr) → IsGiven 3 l a → HoldsEach (λ e. IsGiven 3 l e) list → IsGiven 2 l (any_tree (place, (a, list)))
unfolding rule
any_given l place a [] p h = given_less 3 2 l a (omega arith) p
any_given l place a (b ∷ more) p h =
    let every = a ∷ b ∷ more in
    given_node 2 l place (Any every) (Any (map placeless_expr every)) _ (forms.level_at _ _ (outs-Any every)) (forms.at_Any every) (placeless.at_Any every)
    (by_rule Logicals (by_made refl (by_placed refl (by_seq (operand_printed 3 l a (omega arith) p) (by_each (λ e. spaced (a_word (codes "or")) ++ operand 3 (shown_expr e)) placeless_expr (b ∷ more)
    (each_marked (symbol Conjunctions) l (spaced (a_word (codes "or"))) or_word_is refl (λ e. operand 3 (shown_expr e)) placeless_expr (b ∷ more) (each_held (λ e q. operand_printed 3 l e (omega arith) q) (b ∷ more) h)))))))

pub logicals_step : (l : Limits) (e : Expr) → HoldsBy ExpressionFact IsToken logical l e → IsGiven 2 l e
logicals_step l e ((place, (a, list)), (first, others), same) =
    subst (λ v. IsGiven 2 l v) same (any_given l place a list first (each_held (λ e h. behind_held ExpressionFact or_word (symbol Conjunctions) l e h) list others))

-- ---- ranges

two_in_row : (a b : List Piece) (m : Piece) → a ++ (m ∷ (b ++ [])) ≡ (a ++ m ∷ []) ++ b
two_in_row a b m = ap (λ t. a ++ (m ∷ t)) (append-nil b) ∙ sym (append_assoc a (m ∷ []) b)

three_in_row : (a b c : List Piece) (m : Piece) → a ++ (m ∷ (b ++ (m ∷ c))) ≡ (a ++ m ∷ (b ++ m ∷ [])) ++ c
three_in_row a b c m = ap (λ t. a ++ (m ∷ t)) (sym (append_assoc b (m ∷ []) c)) ∙ sym (append_assoc a (m ∷ (b ++ m ∷ [])) c)

short_range : (l : Limits) (place : Place) (a b : Expr) → IsGiven 2 l a → IsGiven 2 l b → IsGiven 1 l (expr_at place (Range a None b))
unfolding rule
short_range l place a b p q =
    given_node 1 l place (Range a None b) (Range (placeless_expr a) None (placeless_expr b)) _ (forms.level_at _ _ (outs-Range a None b)) (forms.at_Range a None b) (placeless.at_Range a None b)
    (by_rule Simples (by_made refl (by_placed refl (by_pieces (two_in_row (operand 2 (shown_expr a)) (operand 2 (shown_expr b)) (a_mark (codes ":")))
    (by_seq (operand_printed 2 l a (omega arith) p) (by_present (by_behind colon_is (by_seq (operand_printed 2 l b (omega arith) q) by_absent))))))))

long_range : (l : Limits) (place : Place) (a b c : Expr) → IsGiven 2 l a → IsGiven 2 l b → IsGiven 2 l c → IsGiven 1 l (expr_at place (Range a (Some b) c))
unfolding rule
long_range l place a b c p q r =
    given_node 1 l place (Range a (Some b) c) (Range (placeless_expr a) (Some (placeless_expr b)) (placeless_expr c)) _ (forms.level_at _ _ (outs-Range a (Some b) c)) (forms.at_Range a (Some b) c) (placeless.at_Range a (Some b) c)
    (by_rule Simples (by_made refl (by_placed refl (by_pieces (three_in_row (operand 2 (shown_expr a)) (operand 2 (shown_expr b)) (operand 2 (shown_expr c)) (a_mark (codes ":")))
    (by_seq (operand_printed 2 l a (omega arith) p) (by_present (by_behind colon_is (by_seq (operand_printed 2 l b (omega arith) q) (by_present (by_behind colon_is (operand_printed 2 l c (omega arith) r)))))))))))

abbrev RangeRest : Form (Expr × Option Expr)
RangeRest = seq (symbol Logicals) (optional (behind colon_code (symbol Logicals)))

ranged_on : (l : Limits) (place : Place) (a b : Expr) (o : Option Expr) → IsGiven 2 l a → IsGiven 2 l b → HoldsOption (HoldsBy ExpressionFact IsToken (behind colon_code (symbol Logicals)) l) o → IsGiven 1 l (range_tree (place, (a, Some (b, o))))
ranged_on l place a b None p q h = short_range l place a b p q
ranged_on l place a b (Some c) p q h = long_range l place a b c p q (behind_held ExpressionFact colon_code (symbol Logicals) l c h)

ranged : (l : Limits) (place : Place) (a : Expr) (o : Option (Expr × Option Expr)) → IsGiven 2 l a → HoldsOption (HoldsBy ExpressionFact IsToken (behind colon_code RangeRest) l) o → IsGiven 1 l (range_tree (place, (a, o)))
ranged l place a None p h = given_less 2 1 l a (omega arith) p
ranged l place a (Some (b, o)) p h =
    let rest = behind_held ExpressionFact colon_code RangeRest l (b, o) h in
    ranged_on l place a b o p rest.0 (optional_held ExpressionFact (behind colon_code (symbol Logicals)) l o rest.1)

pub simples_step : (l : Limits) (e : Expr) → HoldsBy ExpressionFact IsToken simple l e → IsGiven 1 l e
simples_step l e ((place, (a, o)), (first, rest), same) = subst (λ v. IsGiven 1 l v) same (ranged l place a o first (optional_held ExpressionFact (behind colon_code RangeRest) l o rest))

-- ---- if-expressions

branch_printed : (l : Limits) (b : BranchOf Expr) → IsGiven 0 l b.condition → IsGiven 0 l b.value → IsPrinted further_branch l (branch_pieces shown_expr false b) (placeless_branch b)
branch_printed l b p q =
    by_made refl (by_pieces (sym (append_assoc (spaced (a_word (codes "elseif")) ++ pieces_of_expr b.condition) (spaced (a_word (codes "then"))) (pieces_of_expr b.value)))
    (by_seq (by_mark (spaced (a_word (codes "elseif"))) elseif_word_is refl (expression_printed l b.condition p)) (by_mark (spaced (a_word (codes "then"))) then_word_is refl (expression_printed l b.value q))))

branch_held : (l : Limits) (b : BranchOf Expr) → HoldsBy ExpressionFact IsToken further_branch l b → IsPrinted further_branch l (branch_pieces shown_expr false b) (placeless_branch b)
branch_held l b ((condition, value), (p, q), same) =
    subst (λ v. IsPrinted further_branch l (branch_pieces shown_expr false v) (placeless_branch v)) same
    (branch_printed l (branch_of (condition, value)) (behind_held ExpressionFact elseif_word (symbol Expressions) l condition p) (behind_held ExpressionFact then_word (symbol Expressions) l value q))

if_in_row : (w e : Piece) (c t v m o s : List Piece) → w ∷ e ∷ (c ++ ((t ++ v) ++ (m ++ (o ++ s)))) ≡ (((((w ∷ e ∷ []) ++ c) ++ t) ++ v) ++ m) ++ o ++ s
if_in_row w e c t v m o s = simp append_assoc

if_given : (l inner : Limits) (place : Place) (condition value last : Expr) (more : List (BranchOf Expr)) → left_inside a_construct l ≡ Some inner → IsGiven 0 inner condition → IsGiven 0 inner value → HoldsEach (HoldsBy ExpressionFact IsToken further_branch inner) more → IsGiven 0 inner last →
    IsGiven 0 l (if_tree (place, (condition, (value, (more, last)))))
unfolding rule
if_given l inner place condition value last more within p q h r =
    let branches = branch_of (condition, value) ∷ more in
    given_node 0 l place (If branches last) (If (map placeless_branch branches) (placeless_expr last)) _ (forms.level_at _ _ (outs-If branches last)) (forms.at_If branches last) (placeless.at_If branches last)
    (by_rule Expressions (by_left (by_nested within (by_made refl (by_placed refl (by_pieces
    (if_in_row (a_word (codes "if")) a_blank (pieces_of_expr condition) (spaced (a_word (codes "then"))) (pieces_of_expr value) (flat_map (branch_pieces shown_expr false) more) (spaced (a_word (codes "else"))) (pieces_of_expr last))
    (by_behind if_word_is (after_blank (by_seq (expression_printed inner condition p) (by_seq (by_mark (spaced (a_word (codes "then"))) then_word_is refl (expression_printed inner value q))
    (by_seq (by_each (branch_pieces shown_expr false) placeless_branch more (each_held (branch_held inner) more h)) (by_mark (spaced (a_word (codes "else"))) else_word_is refl (expression_printed inner last r)))))))))))))

abbrev IfElse : Form (List (BranchOf Expr) × Expr)
IfElse = seq (many further_branch) (behind else_word (symbol Expressions))

abbrev IfThen : Form (Expr × (List (BranchOf Expr) × Expr))
IfThen = seq (behind then_word (symbol Expressions)) IfElse

if_held : (l inner : Limits) (place : Place) (x : Expr × (Expr × (List (BranchOf Expr) × Expr))) → left_inside a_construct l ≡ Some inner → HoldsBy ExpressionFact IsToken (seq (symbol Expressions) IfThen) inner x → IsGiven 0 l (if_tree (place, x))
if_held l inner place (condition, (value, (more, last))) within (p, (q, (h, r))) =
    if_given l inner place condition value last more within p (behind_held ExpressionFact then_word (symbol Expressions) inner value q) h (behind_held ExpressionFact else_word (symbol Expressions) inner last r)

pub expressions_step : (l : Limits) (e : Expr) → HoldsBy ExpressionFact IsToken expr l e → IsGiven 0 l e
expressions_step l e (inl (inner, within, ((place, x), held, same))) =
    subst (λ v. IsGiven 0 l v) same (if_held l inner place x within (behind_held ExpressionFact if_word (seq (symbol Expressions) IfThen) inner x held))
expressions_step l e (inr p) = given_less 1 0 l e (omega arith) p
