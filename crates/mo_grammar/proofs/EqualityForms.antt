-- An equality or a call, as it is printed and as it is read.
use Rattle.std.proofs.Common.{◌≡◌, ◌==◌, ◌||◌, ℕ, zero, suc, true, false, List, [], ◌∷◌, ◌++◌, inl, inr, Option, Some, None, refl, sym, ap, subst, ◌∙◌, append-nil, is_some, eqb-true, eq-eqb}
use Rattle.mo_syntax.specs.declared.place.Place.{Place}
use Rattle.mo_syntax.specs.declared.expr.Expr.{Expr}
use Rattle.mo_syntax.specs.declared.expr.Args.{Args}
use Rattle.mo_syntax.specs.declared.expr.ReferenceOf.{ReferenceOf}
use Rattle.mo_syntax.specs.declared.expr.TermOf.{TermOf}
use Rattle.mo_syntax.specs.declared.expr.CalleeOf.TheVariants.{Named}
use Rattle.mo_syntax.specs.declared.expr.Node.TheVariants.{Call, outs-Ref, outs-Sum, outs-Product, outs-Power, outs-Relation, outs-Not, outs-All, outs-Any, outs-Range, outs-Call}
use Rattle.mo_syntax.specs.declared.equation.EquationKind.{EquationKind}
use Rattle.mo_grammar.specs.Codes.{ident, dot, plus, minus, dot_plus, dot_minus, or_word, and_word, colon, power, dot_power, less, less_equal, greater, greater_equal, equal_equal, not_equal}
use Rattle.mo_grammar.specs.Lexeme.{Lexeme, code_of}
use Rattle.mo_grammar.specs.Grammar.{Limits, token, seq, made, placed, many, symbol, has, first_passes, SpelledBy, SpelledIn}
use Rattle.mo_grammar.specs.Reading.{first_codes, apart}
use Rattle.mo_grammar.specs.Forms.{optional, behind}
use Rattle.mo_grammar.specs.Trees.{expr_at, reference_tree, power_tree, product_tree, sum_tree, relation_tree, all_tree, any_tree, range_tree}
use Rattle.mo_grammar.specs.ClassTrees.{name_called, name_called_by, is_call, call_of}
use Rattle.mo_grammar.specs.Symbols.{Form, Simples, Logicals, Conjunctions, Negations, Relations, Sums, Products, Powers, Primaries, CallArguments, References}
use Rattle.mo_grammar.specs.Expressions.{further_factor, further_term, add, literal, word_call, output_list, matrix, array}
use Rattle.mo_grammar.specs.Classes.{printed_equality, equality_or_call}
use Rattle.mo_grammar.specs.Productions.{rule}
use Rattle.mo_grammar.specs.Tables.{tables}
use Rattle.mo_grammar.specs.Language.{SpelledByForm}
use Rattle.mo_grammar.proofs.Codes.{both, and_true, or_left, or_right, one_of, apart_lem}
use Rattle.mo_grammar.proofs.Begun.{first_sound, spelled_begun}
use Rattle.mo_grammar.proofs.Complete.{some_first}
use Rattle.mo_grammar.proofs.Checked.{known}
use Rattle.mo_grammar.proofs.Tested.{passed}

-- a token that a reference begins with
abbrev Leads : Lexeme → Type 0
Leads t = has (ident ∷ dot ∷ []) (code_of t) ≡ true

named_call : (place : Place) (r : ReferenceOf Expr) (args : Args) → name_called (expr_at place (Call (Named r) args)) ≡ Some (r, args)
unfolding name_called
named_call place r args = ap name_called_by (outs-Call (Named r) args)

not_called : (a : Expr) (call : ReferenceOf Expr × Args) → name_called a ≡ Some call → name_called a ≡ None → ⊥
not_called a call e d = let clash : Some call ≡ None = sym e ∙ d in cc

-- a form whose first token leads no reference
not_first : {A : Type 0} (n : ℕ) (g : Form A) → apart (first_codes tables.starts g) (ident ∷ dot ∷ []) ≡ true → (l : Limits) (w : List Lexeme) (a : A) → SpelledBy (SpelledIn rule n) g l w a → (t : Lexeme) (more : List Lexeme) → w ≡ t ∷ more → Leads t → ⊥
not_first n g sep l w a s t more e lead =
    apart_lem (first_codes tables.starts g) (ident ∷ dot ∷ []) (code_of t) sep
    (first_sound tables.starts (SpelledIn rule n) (Rattle.mo_grammar.specs.Grammar.BegunIn rule n) (known tables rule passed n) g l w (spelled_begun tables.starts (SpelledIn rule n) (Rattle.mo_grammar.specs.Grammar.BegunIn rule n) (known tables rule passed n) g l w a s) t more e) lead

-- ---- an operand alone

alone_optional : {B : Type 0} (T : Place × (Expr × Option B) → Expr) → ((p : Place) (a : Expr) → T (p, (a, None)) ≡ a) → ((p : Place) (a : Expr) (b : B) → name_called (T (p, (a, Some b))) ≡ None) → (g : Form Expr) (h : Form B) (n : ℕ) (l : Limits) (w : List Lexeme) (a : Expr) (call : ReferenceOf Expr × Args) → name_called a ≡ Some call → SpelledBy (SpelledIn rule n) (made T (placed (seq g (optional h)))) l w a → SpelledBy (SpelledIn rule n) g l w a
alone_optional {B = B} T one two g h n l w a call e ((p, (b, o)), (t, more, shape, at, (front, rest, cut, sg, so)), q) = go o so q
  where
    go : (o : Option B) → SpelledBy (SpelledIn rule n) (optional h) l rest o → T (p, (b, o)) ≡ a → SpelledBy (SpelledIn rule n) g l w a
    go None (inr none) q = subst (λ v. SpelledBy (SpelledIn rule n) g l v a) (sym (cut ∙ ap (λ v. front ++ v) none.0 ∙ append-nil front)) (subst (SpelledBy (SpelledIn rule n) g l front) (sym (one p b) ∙ q) sg)
    go None (inl some) q = let clash = some.2 in cc
    go (Some c) so q = absurd (not_called a call e (ap name_called (sym q) ∙ two p b c))

alone_many : {B : Type 0} (T : Place × (Expr × List B) → Expr) → ((p : Place) (a : Expr) → T (p, (a, [])) ≡ a) → ((p : Place) (a : Expr) (b : B) (more : List B) → name_called (T (p, (a, b ∷ more))) ≡ None) → (g : Form Expr) (h : Form B) (n : ℕ) (l : Limits) (w : List Lexeme) (a : Expr) (call : ReferenceOf Expr × Args) → name_called a ≡ Some call → SpelledBy (SpelledIn rule n) (made T (placed (seq g (many h)))) l w a → SpelledBy (SpelledIn rule n) g l w a
alone_many {B = B} T one two g h n l w a call e ((p, (b, o)), (t, more, shape, at, (front, rest, cut, sg, so)), q) = go o so q
  where
    go : (o : List B) → SpelledBy (SpelledIn rule n) (many h) l rest o → T (p, (b, o)) ≡ a → SpelledBy (SpelledIn rule n) g l w a
    go [] none q = subst (λ v. SpelledBy (SpelledIn rule n) g l v a) (sym (cut ∙ ap (λ v. front ++ v) none ∙ append-nil front)) (subst (SpelledBy (SpelledIn rule n) g l front) (sym (one p b) ∙ q) sg)
    go (c ∷ list) so q = absurd (not_called a call e (ap name_called (sym q) ∙ two p b c list))

-- ---- and the same put together

with_optional : {B : Type 0} (T : Place × (Expr × Option B) → Expr) → ((p : Place) (a : Expr) → T (p, (a, None)) ≡ a) → (g : Form Expr) (h : Form B) (n : ℕ) (l : Limits) (w : List Lexeme) (a : Expr) (t : Lexeme) (more : List Lexeme) → w ≡ t ∷ more → SpelledBy (SpelledIn rule n) g l w a → SpelledBy (SpelledIn rule n) (made T (placed (seq g (optional h)))) l w a
with_optional T one g h n l w a t more e s = ((t.place, (a, None)), (t, more, e, refl, (w, [], sym (append-nil w), s, inr (refl, refl))), one t.place a)

with_many : {B : Type 0} (T : Place × (Expr × List B) → Expr) → ((p : Place) (a : Expr) → T (p, (a, [])) ≡ a) → (g : Form Expr) (h : Form B) (n : ℕ) (l : Limits) (w : List Lexeme) (a : Expr) (t : Lexeme) (more : List Lexeme) → w ≡ t ∷ more → SpelledBy (SpelledIn rule n) g l w a → SpelledBy (SpelledIn rule n) (made T (placed (seq g (many h)))) l w a
with_many T one g h n l w a t more e s = ((t.place, (a, [])), (t, more, e, refl, (w, [], sym (append-nil w), s, refl)), one t.place a)

-- ---- from the call of a name up to a simple expression

up_primary : (n : ℕ) (l : Limits) (w : List Lexeme) (r : ReferenceOf Expr) (args : Args) (t : Lexeme) (more : List Lexeme) → w ≡ t ∷ more → SpelledBy (SpelledIn rule n) (seq (symbol References) (symbol CallArguments)) l w (r, args) → SpelledIn rule (suc n) Primaries l w (expr_at t.place (Call (Named r) args))
unfolding rule
up_primary n l w r args t more e s = inr (inr (inl ((t.place, (r, Some args)), (t, more, e, refl, (s.0, s.1, s.2, s.3, inl (args, s.4, refl))), refl)))

up_simple : (n : ℕ) (l : Limits) (w : List Lexeme) (a : Expr) (t : Lexeme) (more : List Lexeme) → w ≡ t ∷ more → SpelledIn rule n Primaries l w a → (m : ℕ) × SpelledIn rule m Simples l w a
unfolding rule
up_simple n l w a t more e s =
    let one = with_optional power_tree (λ p a. refl) (symbol Primaries) (seq (token (power ∷ dot_power ∷ [])) (symbol Primaries)) n l w a t more e s in
    let two = with_many product_tree (λ p a. refl) (symbol Powers) further_factor (suc n) l w a t more e one in
    let three : SpelledIn rule (suc (suc (suc n))) Sums l w a = ((None, (t.place, (a, []))), ([], w, refl, inr (refl, refl), (t, more, e, refl, (w, [], sym (append-nil w), two, refl))), refl) in
    let four = with_optional relation_tree (λ p a. refl) (symbol Sums) (seq (token (less ∷ less_equal ∷ greater ∷ greater_equal ∷ equal_equal ∷ not_equal ∷ [])) (symbol Sums)) (suc (suc (suc n))) l w a t more e three in
    let five : SpelledIn rule (suc (suc (suc (suc (suc n))))) Negations l w a = ((t.place, (false, a)), (t, more, e, refl, ([], w, refl, inr (refl, refl), four)), refl) in
    let six = with_many all_tree (λ p a. refl) (symbol Negations) (behind and_word (symbol Negations)) (suc (suc (suc (suc (suc n))))) l w a t more e five in
    let seven = with_many any_tree (λ p a. refl) (symbol Conjunctions) (behind or_word (symbol Conjunctions)) (suc (suc (suc (suc (suc (suc n)))))) l w a t more e six in
    let eight = with_optional range_tree (λ p a. refl) (symbol Logicals) (behind colon (seq (symbol Logicals) (optional (behind colon (symbol Logicals))))) (suc (suc (suc (suc (suc (suc (suc n))))))) l w a t more e seven in
    (suc (suc (suc (suc (suc (suc (suc (suc n))))))), eight)

-- ---- from a simple expression that is the call of a name down to the call

-- a spelling of the call
Called : Limits → List Lexeme → Expr → Type 0
Called l w a = (h : ℕ) × (place : Place) × (r : ReferenceOf Expr) × (args : Args) × (a ≡ expr_at place (Call (Named r) args)) × SpelledBy (SpelledIn rule h) (seq (symbol References) (symbol CallArguments)) l w (r, args)

down_primary : (n : ℕ) (l : Limits) (w : List Lexeme) (a : Expr) (call : ReferenceOf Expr × Args) → name_called a ≡ Some call → (t : Lexeme) (more : List Lexeme) → w ≡ t ∷ more → Leads t → SpelledIn rule (suc n) Primaries l w a → Called l w a
unfolding rule name_called Called
down_primary n l w a call e t more shape lead (inl s) = absurd (not_first n literal refl l w a s t more shape lead)
down_primary n l w a call e t more shape lead (inr (inl s)) = absurd (not_first n word_call refl l w a s t more shape lead)
down_primary n l w a call e t more shape lead (inr (inr (inl ((p, (r, o)), (u, v, at, place, (front, rest, cut, sr, so)), q)))) = go o so q
  where
    go : (o : Option Args) → SpelledBy (SpelledIn rule n) (optional (symbol CallArguments)) l rest o → reference_tree (p, (r, o)) ≡ a → Called l w a
    go None (inr none) q = absurd (not_called a call e (ap name_called (sym q) ∙ ap name_called_by (outs-Ref r)))
    go None (inl some) q = let clash = some.2 in cc
    go (Some args) (inl some) q = (n, p, r, args, sym q, (front, rest, cut, sr, (let same : some.0 ≡ args = let f = some.2 in cc in subst (SpelledIn rule n CallArguments l rest) same some.1)))
    go (Some args) (inr none) q = let clash = none.1 in cc
down_primary n l w a call e t more shape lead (inr (inr (inr (inl s)))) = absurd (not_first n output_list refl l w a s t more shape lead)
down_primary n l w a call e t more shape lead (inr (inr (inr (inr (inl s))))) = absurd (not_first n matrix refl l w a s t more shape lead)
down_primary n l w a call e t more shape lead (inr (inr (inr (inr (inr s))))) = absurd (not_first n array refl l w a s t more shape lead)

down_sum : (n : ℕ) (l : Limits) (w : List Lexeme) (a : Expr) (call : ReferenceOf Expr × Args) → name_called a ≡ Some call → (t : Lexeme) (more : List Lexeme) → w ≡ t ∷ more → Leads t → SpelledIn rule (suc n) Sums l w a → SpelledIn rule n Products l w a
unfolding rule name_called
down_sum n l w a call e t more shape lead ((None, (p, (b, o))), (front, rest, cut, so, (u, v, at, place, (f, r, cut2, sg, sm))), q) = go o sm q so
  where
    go : (o : List (TermOf Expr)) → SpelledBy (SpelledIn rule n) (many further_term) l r o → sum_tree (None, (p, (b, o))) ≡ a → SpelledBy (SpelledIn rule n) (optional add) l front None → SpelledIn rule n Products l w a
    go [] none q (inr left) = subst (λ v. SpelledIn rule n Products l v a) (sym (cut ∙ ap (λ v. v ++ rest) left.0 ∙ cut2 ∙ ap (λ v. f ++ v) none ∙ append-nil f)) (subst (SpelledIn rule n Products l f) q sg)
    go o s q (inl some) = let clash = some.2 in cc
    go (c ∷ list) so q (inr left) = absurd (not_called a call e (ap name_called (sym q) ∙ ap name_called_by (outs-Sum _)))
down_sum n l w a call e t more shape lead ((Some s, y), (front, rest, cut, inl so, sp), q) =
    let same : t ≡ so.0 = let whole : t ∷ more ≡ so.0 ∷ rest = sym shape ∙ cut ∙ ap (λ v. v ++ rest) (so.1).0 in cc in
    absurd (apart_lem (plus ∷ minus ∷ dot_plus ∷ dot_minus ∷ []) (ident ∷ dot ∷ []) (code_of so.0) refl (so.1).1 (subst (λ u. has (ident ∷ dot ∷ []) (code_of u) ≡ true) same lead))
down_sum n l w a call e t more shape lead ((Some s, y), (front, rest, cut, inr so, sp), q) = let clash = so.1 in cc

down_negation : (n : ℕ) (l : Limits) (w : List Lexeme) (a : Expr) (call : ReferenceOf Expr × Args) → name_called a ≡ Some call → SpelledIn rule (suc n) Negations l w a → SpelledIn rule n Relations l w a
unfolding rule name_called
down_negation n l w a call e ((p, (true, b)), (u, v, at, place, (front, rest, cut, sf, sr)), q) = absurd (not_called a call e (ap name_called (sym q) ∙ ap name_called_by (outs-Not b)))
down_negation n l w a call e ((p, (false, b)), (u, v, at, place, (front, rest, cut, inl sf, sr)), q) = let clash = sf.2 in cc
down_negation n l w a call e ((p, (false, b)), (u, v, at, place, (front, rest, cut, inr sf, sr)), q) =
    subst (λ v. SpelledIn rule n Relations l v a) (sym (cut ∙ ap (λ v. v ++ rest) sf.0)) (subst (SpelledIn rule n Relations l rest) q sr)

down_from_primary : (n : ℕ) (l : Limits) (w : List Lexeme) (a : Expr) (call : ReferenceOf Expr × Args) → name_called a ≡ Some call → (t : Lexeme) (more : List Lexeme) → w ≡ t ∷ more → Leads t → SpelledIn rule n Primaries l w a → Called l w a
down_from_primary zero l w a call e t more shape lead s = absurd s
down_from_primary (suc n) l w a call e t more shape lead s = down_primary n l w a call e t more shape lead s

down_power : (n : ℕ) (l : Limits) (w : List Lexeme) (a : Expr) (call : ReferenceOf Expr × Args) → name_called a ≡ Some call → (t : Lexeme) (more : List Lexeme) → w ≡ t ∷ more → Leads t → SpelledIn rule n Powers l w a → Called l w a
unfolding rule name_called
down_power zero l w a call e t more shape lead s = absurd s
down_power (suc n) l w a call e t more shape lead s =
    down_from_primary n l w a call e t more shape lead
    (alone_optional power_tree (λ p a. refl) (λ p a b. ap name_called_by (outs-Power a (code_of b.0 == dot_power) b.1)) (symbol Primaries) (seq (token (power ∷ dot_power ∷ [])) (symbol Primaries)) n l w a call e s)

down_product : (n : ℕ) (l : Limits) (w : List Lexeme) (a : Expr) (call : ReferenceOf Expr × Args) → name_called a ≡ Some call → (t : Lexeme) (more : List Lexeme) → w ≡ t ∷ more → Leads t → SpelledIn rule n Products l w a → Called l w a
unfolding rule name_called
down_product zero l w a call e t more shape lead s = absurd s
down_product (suc n) l w a call e t more shape lead s =
    down_power n l w a call e t more shape lead
    (alone_many product_tree (λ p a. refl) (λ p a b c. ap name_called_by (outs-Product _)) (symbol Powers) further_factor n l w a call e s)

down_arith : (n : ℕ) (l : Limits) (w : List Lexeme) (a : Expr) (call : ReferenceOf Expr × Args) → name_called a ≡ Some call → (t : Lexeme) (more : List Lexeme) → w ≡ t ∷ more → Leads t → SpelledIn rule n Sums l w a → Called l w a
down_arith zero l w a call e t more shape lead s = absurd s
down_arith (suc n) l w a call e t more shape lead s = down_product n l w a call e t more shape lead (down_sum n l w a call e t more shape lead s)

down_relation : (n : ℕ) (l : Limits) (w : List Lexeme) (a : Expr) (call : ReferenceOf Expr × Args) → name_called a ≡ Some call → (t : Lexeme) (more : List Lexeme) → w ≡ t ∷ more → Leads t → SpelledIn rule n Relations l w a → Called l w a
unfolding rule name_called
down_relation zero l w a call e t more shape lead s = absurd s
down_relation (suc n) l w a call e t more shape lead s =
    down_arith n l w a call e t more shape lead
    (alone_optional relation_tree (λ p a. refl) (λ p a b. ap name_called_by (outs-Relation _ a b.1)) (symbol Sums) (seq (token (less ∷ less_equal ∷ greater ∷ greater_equal ∷ equal_equal ∷ not_equal ∷ [])) (symbol Sums)) n l w a call e s)

down_neg : (n : ℕ) (l : Limits) (w : List Lexeme) (a : Expr) (call : ReferenceOf Expr × Args) → name_called a ≡ Some call → (t : Lexeme) (more : List Lexeme) → w ≡ t ∷ more → Leads t → SpelledIn rule n Negations l w a → Called l w a
down_neg zero l w a call e t more shape lead s = absurd s
down_neg (suc n) l w a call e t more shape lead s = down_relation n l w a call e t more shape lead (down_negation n l w a call e s)

down_conj : (n : ℕ) (l : Limits) (w : List Lexeme) (a : Expr) (call : ReferenceOf Expr × Args) → name_called a ≡ Some call → (t : Lexeme) (more : List Lexeme) → w ≡ t ∷ more → Leads t → SpelledIn rule n Conjunctions l w a → Called l w a
unfolding rule name_called
down_conj zero l w a call e t more shape lead s = absurd s
down_conj (suc n) l w a call e t more shape lead s =
    down_neg n l w a call e t more shape lead
    (alone_many all_tree (λ p a. refl) (λ p a b c. ap name_called_by (outs-All _)) (symbol Negations) (behind and_word (symbol Negations)) n l w a call e s)

down_logical : (n : ℕ) (l : Limits) (w : List Lexeme) (a : Expr) (call : ReferenceOf Expr × Args) → name_called a ≡ Some call → (t : Lexeme) (more : List Lexeme) → w ≡ t ∷ more → Leads t → SpelledIn rule n Logicals l w a → Called l w a
unfolding rule name_called
down_logical zero l w a call e t more shape lead s = absurd s
down_logical (suc n) l w a call e t more shape lead s =
    down_conj n l w a call e t more shape lead
    (alone_many any_tree (λ p a. refl) (λ p a b c. ap name_called_by (outs-Any _)) (symbol Conjunctions) (behind or_word (symbol Conjunctions)) n l w a call e s)

no_range : (p : Place) (a : Expr) (b : Expr × Option Expr) → name_called (range_tree (p, (a, Some b))) ≡ None
unfolding name_called
no_range p a (b, None) = ap name_called_by (outs-Range a None b)
no_range p a (b, Some c) = ap name_called_by (outs-Range a (Some b) c)

down_simple : (n : ℕ) (l : Limits) (w : List Lexeme) (a : Expr) (call : ReferenceOf Expr × Args) → name_called a ≡ Some call → (t : Lexeme) (more : List Lexeme) → w ≡ t ∷ more → Leads t → SpelledIn rule n Simples l w a → Called l w a
unfolding rule
down_simple zero l w a call e t more shape lead s = absurd s
down_simple (suc n) l w a call e t more shape lead s =
    down_logical n l w a call e t more shape lead
    (alone_optional range_tree (λ p a. refl) no_range (symbol Logicals) (behind colon (seq (symbol Logicals) (optional (behind colon (symbol Logicals))))) n l w a call e s)

-- ---- the test

leads_from : (t : Lexeme) → (code_of t == ident || code_of t == dot) ≡ true → Leads t
leads_from t e = elim (one_of (code_of t == ident) (code_of t == dot) e) [
  | inl i ↦ or_left (ident == code_of t) ((dot == code_of t) || false) (eq-eqb ident (code_of t) (sym (eqb-true (code_of t) ident i)))
  | inr d ↦ or_right (ident == code_of t) ((dot == code_of t) || false) (or_left (dot == code_of t) false (eq-eqb dot (code_of t) (sym (eqb-true (code_of t) dot d))))
]

test_from : (t : Lexeme) → Leads t → (code_of t == ident || code_of t == dot) ≡ true
test_from t e = elim (one_of (ident == code_of t) ((dot == code_of t) || false) e) [
  | inl i ↦ or_left (code_of t == ident) (code_of t == dot) (eq-eqb (code_of t) ident (sym (eqb-true ident (code_of t) i)))
  | inr d ↦ elim (one_of (dot == code_of t) false d) [
    | inl h ↦ or_right (code_of t == ident) (code_of t == dot) (eq-eqb (code_of t) dot (sym (eqb-true dot (code_of t) h)))
    | inr h ↦ cc
  ]
]

some_call : {A : Type 0} (o : Option A) → is_some o ≡ true → (x : A) × (o ≡ Some x)
some_call (Some x) e = (x, refl)
some_call None e = cc

-- ---- both forms spell the same

printed_from : (n : ℕ) (l : Limits) (w : List Lexeme) (kind : EquationKind) → SpelledBy (SpelledIn rule n) equality_or_call l w kind → SpelledByForm printed_equality l w kind
unfolding Called
printed_from n l w kind ((a, Some b), (front, rest, cut, sg, so), q) = (n, inl ((a, b), (front, rest, cut, sg, so), q))
printed_from n l w kind ((a, None), (front, rest, cut, sg, so), q) = go front sg so.1 (cut ∙ ap (λ v. front ++ v) so.0 ∙ append-nil front)
  where
    go : (v : List Lexeme) → SpelledIn rule n Simples l v a → first_passes is_call v a ≡ true → w ≡ v → SpelledByForm printed_equality l w kind
    go [] s pass e = cc
    go (t ∷ more) s pass e =
        let parts = both (code_of t == ident || code_of t == dot) (is_some (name_called a)) pass in
        let call = some_call (name_called a) parts.1 in
        let c = down_simple n l (t ∷ more) a call.0 call.1 t more refl (leads_from t parts.0) s in (
          c.0,
          inr (
            (c.2, c.3),
            subst (λ v. SpelledBy (SpelledIn rule c.0) (seq (symbol References) (symbol CallArguments)) l v (c.2, c.3)) (sym e) c.5,
            sym (ap (call_of a) (ap name_called c.4 ∙ named_call c.1 c.2 c.3)) ∙ q,
          ),
        )

read_from : (n : ℕ) (l : Limits) (w : List Lexeme) (kind : EquationKind) → SpelledBy (SpelledIn rule n) printed_equality l w kind → SpelledByForm equality_or_call l w kind
read_from n l w kind (inl ((a, b), (front, rest, cut, sg, sh), q)) = (n, ((a, Some b), (front, rest, cut, sg, sh), q))
read_from n l w kind (inr ((r, args), s, q)) =
    let first = some_first tables rule passed n (seq (symbol References) (symbol CallArguments)) refl l w (r, args) s in
    let a : Expr = expr_at first.0.place (Call (Named r) args) in
    let up = up_simple (suc n) l w a first.0 first.1 first.2 (up_primary n l w r args first.0 first.1 first.2 s) in
    let named = named_call first.0.place r args in
    let pass : first_passes is_call w a ≡ true = ap (λ v. first_passes is_call v a) first.2 ∙ and_true (code_of first.0 == ident || code_of first.0 == dot) (is_some (name_called a)) (test_from first.0 first.3) (ap is_some named) in
    (up.0, ((a, None), (w, [], sym (append-nil w), up.1, (refl, pass)), ap (call_of a) named ∙ q))

pub equalities_agree : (l : Limits) (w : List Lexeme) (kind : EquationKind) → (SpelledByForm equality_or_call l w kind → SpelledByForm printed_equality l w kind) × (SpelledByForm printed_equality l w kind → SpelledByForm equality_or_call l w kind)
equalities_agree l w kind = (λ s. printed_from s.0 l w kind s.1, λ s. read_from s.0 l w kind s.1)
