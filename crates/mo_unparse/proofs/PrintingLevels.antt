-- What an expression in pieces spells, by how tightly it binds and how tightly its place wants it to.
use Rattle.std.proofs.Common.{◌≡◌, ℕ, zero, suc, ◌≤◌, ◌<◌, true, false, List, ◌⊎◌, inl, inr, Some, refl, sym, ap, subst, ◌∙◌, append-nil, arith, nat_lt}
use Rattle.std.specs.Prelude.{if◌then◌else◌}
use Rattle.std.proofs.lemmas.Bool.{cases_lt}
use Rattle.std.proofs.lemmas.Bool.Decides.{nat_tests}
use Rattle.mo_syntax.specs.declared.place.Place.{Place}
use Rattle.mo_syntax.specs.declared.expr.Expr.{Expr, fold_out-Expr}
use Rattle.mo_syntax.specs.declared.expr.Node.{Node}
use Rattle.mo_grammar.specs.Grammar.{a_construct, Limits, at_most, left_inside, symbol}
use Rattle.mo_grammar.specs.Symbols.{Form, Expressions, Simples, Logicals, Conjunctions, Negations, Relations, Sums, Products, Powers, Primaries}
use Rattle.mo_grammar.specs.Productions.{rule}
use Rattle.mo_grammar.specs.Trees.{expr_at}
use Rattle.mo_grammar.proofs.Limits.{Below, name_same}
use Rattle.mo_pieces.specs.Pieces.{Piece, nowhere}
use Rattle.mo_unparse.specs.Placeless.{placeless_expr, placeless_node}
use Rattle.mo_pieces.specs.ShownExpressions.{Shown, show_arg, show_node, show_args, show_expr, shown_expr, shown_node, pieces_of_expr, pieces_of_node, operand, in_parentheses}
use Rattle.mo_unparse.proofs.PlacelessForms.{at_place}
use Rattle.mo_unparse.proofs.Building.{IsPrinted, by_pieces, by_value, by_left, by_right, by_made, by_placed, by_seq, by_none, by_between, by_separated, by_rule, by_present, by_absent, by_no_flag, more_limits}
use Rattle.mo_unparse.proofs.WordPieces.{open_paren_is, close_paren_is}

-- the production that spells what has a level
abbrev pub production : ℕ → Form Expr
production zero = symbol Expressions
production (suc zero) = symbol Simples
production (suc (suc zero)) = symbol Logicals
production (suc (suc (suc zero))) = symbol Conjunctions
production (suc (suc (suc (suc zero)))) = symbol Negations
production (suc (suc (suc (suc (suc zero))))) = symbol Relations
production (suc (suc (suc (suc (suc (suc zero)))))) = symbol Sums
production (suc (suc (suc (suc (suc (suc (suc zero))))))) = symbol Products
production (suc (suc (suc (suc (suc (suc (suc (suc zero)))))))) = symbol Powers
production _ = symbol Primaries

-- ---- an operand alone stands for itself

as_expression : {l : Limits} {ps : List Piece} {e : Expr} → IsPrinted (symbol Simples) l ps e → IsPrinted (symbol Expressions) l ps e
unfolding rule
as_expression p = by_rule Expressions (by_right p)

as_simple : {l : Limits} {ps : List Piece} {e : Expr} → IsPrinted (symbol Logicals) l ps e → IsPrinted (symbol Simples) l ps e
unfolding rule
as_simple {ps = ps} p = by_rule Simples (by_pieces (append-nil ps) (by_made refl (by_placed refl (by_seq p by_absent))))

as_logical : {l : Limits} {ps : List Piece} {e : Expr} → IsPrinted (symbol Conjunctions) l ps e → IsPrinted (symbol Logicals) l ps e
unfolding rule
as_logical {ps = ps} p = by_rule Logicals (by_pieces (append-nil ps) (by_made refl (by_placed refl (by_seq p by_none))))

as_conjunction : {l : Limits} {ps : List Piece} {e : Expr} → IsPrinted (symbol Negations) l ps e → IsPrinted (symbol Conjunctions) l ps e
unfolding rule
as_conjunction {ps = ps} p = by_rule Conjunctions (by_pieces (append-nil ps) (by_made refl (by_placed refl (by_seq p by_none))))

as_negation : {l : Limits} {ps : List Piece} {e : Expr} → IsPrinted (symbol Relations) l ps e → IsPrinted (symbol Negations) l ps e
unfolding rule
as_negation p = by_rule Negations (by_made refl (by_placed refl (by_seq by_no_flag p)))

as_relation : {l : Limits} {ps : List Piece} {e : Expr} → IsPrinted (symbol Sums) l ps e → IsPrinted (symbol Relations) l ps e
unfolding rule
as_relation {ps = ps} p = by_rule Relations (by_pieces (append-nil ps) (by_made refl (by_placed refl (by_seq p by_absent))))

as_sum : {l : Limits} {ps : List Piece} {e : Expr} → IsPrinted (symbol Products) l ps e → IsPrinted (symbol Sums) l ps e
unfolding rule
as_sum {ps = ps} p = by_rule Sums (by_pieces (append-nil ps) (by_made refl (by_seq by_absent (by_placed refl (by_seq p by_none)))))

as_product : {l : Limits} {ps : List Piece} {e : Expr} → IsPrinted (symbol Powers) l ps e → IsPrinted (symbol Products) l ps e
unfolding rule
as_product {ps = ps} p = by_rule Products (by_pieces (append-nil ps) (by_made refl (by_placed refl (by_seq p by_none))))

as_power : {l : Limits} {ps : List Piece} {e : Expr} → IsPrinted (symbol Primaries) l ps e → IsPrinted (symbol Powers) l ps e
unfolding rule
as_power {ps = ps} p = by_rule Powers (by_pieces (append-nil ps) (by_made refl (by_placed refl (by_seq p by_absent))))

climb : {l : Limits} {ps : List Piece} {e : Expr} (n : ℕ) → IsPrinted (production (suc n)) l ps e → IsPrinted (production n) l ps e
climb zero p = as_expression p
climb (suc zero) p = as_simple p
climb (suc (suc zero)) p = as_logical p
climb (suc (suc (suc zero))) p = as_conjunction p
climb (suc (suc (suc (suc zero)))) p = as_negation p
climb (suc (suc (suc (suc (suc zero))))) p = as_relation p
climb (suc (suc (suc (suc (suc (suc zero)))))) p = as_sum p
climb (suc (suc (suc (suc (suc (suc (suc zero))))))) p = as_product p
climb (suc (suc (suc (suc (suc (suc (suc (suc zero)))))))) p = as_power p
climb (suc (suc (suc (suc (suc (suc (suc (suc (suc n))))))))) p = p

-- what binds more tightly stands where what binds less tightly may
pub loosened : {l : Limits} {ps : List Piece} {e : Expr} (n m : ℕ) → m ≤ n → IsPrinted (production n) l ps e → IsPrinted (production m) l ps e
loosened {l} {ps} {e} zero m below p = let same : zero ≡ m = omega arith in subst (λ k. IsPrinted (production k) l ps e) same p
loosened {l} {ps} {e} (suc n) m below p = go (cases_lt n m) (λ b. loosened n m b (climb n p))
  where
    go : (n < m) ⊎ (m ≤ n) → (m ≤ n → IsPrinted (production m) l ps e) → IsPrinted (production m) l ps e
    go (inl h) k = let same : suc n ≡ m = omega arith in subst (λ k. IsPrinted (production k) l ps e) same p
    go (inr h) k = k h

-- ---- parentheses

pub below_inside : (l inner : Limits) → left_inside a_construct l ≡ Some inner → Below inner l
below_inside (at_most zero k name) inner e = cc
below_inside (at_most (suc n) k name) inner e =
    let same : at_most n k name ≡ inner = cc in
    subst (λ i. Below i (at_most (suc n) k name)) same (omega arith, omega arith, name_same name)

-- one expression in parentheses
wrapped_printed : {l inner : Limits} {ps : List Piece} {e : Expr} → left_inside a_construct l ≡ Some inner → IsPrinted (symbol Expressions) inner ps e → IsPrinted (symbol Primaries) l (in_parentheses ps) e
unfolding rule
wrapped_printed {ps = ps} h p =
    by_rule Primaries (by_pieces (ap in_parentheses (append-nil ps)) (by_right (by_right (by_right (by_left (by_made refl (by_placed refl (by_between h open_paren_is close_paren_is (by_separated (by_present p) by_none)))))))))

-- ---- what is known of an expression in a place that wants a level

-- It binds tightly enough and stands as it is, or it does not and stands in parentheses, within what they leave of the limits.
pub data IsGiven (wanted : ℕ) (l : Limits) (e : Expr) : Type 0 where
  bare : (n : ℕ) → (shown_expr e).level ≡ n → wanted ≤ n → IsPrinted (production n) l (pieces_of_expr e) (placeless_expr e) → IsGiven wanted l e
  wrapped : (n : ℕ) → (shown_expr e).level ≡ n → n < wanted → (inner : Limits) → left_inside a_construct l ≡ Some inner → IsPrinted (production n) inner (pieces_of_expr e) (placeless_expr e) → IsGiven wanted l e

-- a place that wants less
pub given_less : (w v : ℕ) (l : Limits) (e : Expr) → v ≤ w → IsGiven w l e → IsGiven v l e
given_less w v l e below (bare n level enough p) = bare n level (omega arith) p
given_less w v l e below (wrapped n level few inner h p) = go (cases_lt n v)
  where
    go : (n < v) ⊎ (v ≤ n) → IsGiven v l e
    go (inl less) = wrapped n level less inner h p
    go (inr enough) = bare n level enough (more_limits l (below_inside l inner h) p)

not_wrapped : (wanted n : ℕ) (e : Shown) → e.level ≡ n → wanted ≤ n → operand wanted e ≡ e.pieces
not_wrapped wanted n e same enough =
    let test : nat_lt n wanted ≡ false = grind (arith, nat_tests) in
    ap (λ k. if nat_lt k wanted then in_parentheses e.pieces else e.pieces) same ∙ ap (λ b. if b then in_parentheses e.pieces else e.pieces) test

is_wrapped : (wanted n : ℕ) (e : Shown) → e.level ≡ n → n < wanted → operand wanted e ≡ in_parentheses e.pieces
is_wrapped wanted n e same few =
    let test : nat_lt n wanted ≡ true = grind (arith, nat_tests) in
    ap (λ k. if nat_lt k wanted then in_parentheses e.pieces else e.pieces) same ∙ ap (λ b. if b then in_parentheses e.pieces else e.pieces) test

pub operand_printed : (w : ℕ) (l : Limits) (e : Expr) → w ≤ 9 → IsGiven w l e → IsPrinted (production w) l (operand w (shown_expr e)) (placeless_expr e)
operand_printed w l e few (bare n level enough p) = by_pieces (sym (not_wrapped w n (shown_expr e) level enough)) (loosened n w enough p)
operand_printed w l e few (wrapped n level less inner h p) =
    by_pieces (sym (is_wrapped w n (shown_expr e) level less)) (loosened 9 w few (wrapped_printed h (loosened n 0 (omega arith) p)))

-- nothing binds too loosely for a place that wants any expression
pub expression_printed : (l : Limits) (e : Expr) → IsGiven 0 l e → IsPrinted (symbol Expressions) l (pieces_of_expr e) (placeless_expr e)
expression_printed l e (bare n level enough p) = loosened n 0 (omega arith) p
expression_printed l e (wrapped n level less inner h p) = absurd (omega arith)

-- in parentheses any expression stands anywhere
pub given_wrapped : (w : ℕ) (l inner : Limits) (e : Expr) → left_inside a_construct l ≡ Some inner → IsGiven 0 inner e → IsGiven w l e
given_wrapped w l inner e h (bare n level enough p) = go (cases_lt n w)
  where
    go : (n < w) ⊎ (w ≤ n) → IsGiven w l e
    go (inl less) = wrapped n level less inner h p
    go (inr more) = bare n level more (more_limits l (below_inside l inner h) p)
given_wrapped w l inner e h (wrapped n level less inner2 h2 p) = absurd (omega arith)

-- ---- what a node gives

shown_in_place : (place : Place) (node : Node) → shown_expr (expr_at place node) ≡ shown_node node
shown_in_place place node = fold_out-Expr (List Piece) Shown (List Piece) Shown show_arg show_node show_args show_expr (expr_at place node)

-- a node of a level, by its pieces, stands where that level is wanted
pub given_node : (n : ℕ) (l : Limits) (place : Place) (node other : Node) (ps : List Piece) → (shown_node node).level ≡ n → pieces_of_node node ≡ ps → placeless_node node ≡ other → IsPrinted (production n) l ps (expr_at nowhere other) → IsGiven n l (expr_at place node)
given_node n l place node other ps level pieces less p =
    bare n (ap (λ e. e.level) (shown_in_place place node) ∙ level) (omega arith)
    (by_value (sym (at_place place node ∙ ap (expr_at nowhere) less)) (by_pieces (sym (ap (λ e. e.pieces) (shown_in_place place node) ∙ pieces)) p))
