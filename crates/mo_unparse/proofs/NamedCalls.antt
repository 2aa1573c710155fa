-- What is called by a name that tokens spell has a name.
use Rattle.std.proofs.Common.{◌≡◌, ◌==◌, Bool, true, false, List, [], ◌∷◌, inl, inr, Option, Some, None, sym, ap, subst, ◌∙◌}
use Rattle.std.specs.Prelude.{if◌then◌else◌}
use Rattle.mo_syntax.specs.declared.place.Place.{Place}
use Rattle.mo_syntax.specs.declared.expr.Args.{Args}
use Rattle.mo_syntax.specs.declared.expr.CalleeOf.TheVariants.{Named, Der, Initial, Pure}
use Rattle.mo_syntax.specs.declared.expr.Expr.{Expr}
use Rattle.mo_syntax.specs.declared.expr.FactorOf.{FactorOf}
use Rattle.mo_syntax.specs.declared.expr.Node.{Node, out-Node}
use Rattle.mo_syntax.specs.declared.expr.Node.TheVariants.{Call, Sum, outs-Whole, outs-Decimal, outs-Str, outs-Truth, outs-EndMark, outs-Ref, outs-Sum, outs-Product, outs-Power, outs-Relation, outs-Not, outs-All, outs-Any, outs-Range, outs-If, outs-Call, outs-Tuple, outs-Array, outs-ArrayFor, outs-Matrix}
use Rattle.mo_syntax.specs.declared.expr.PartOf.{PartOf}
use Rattle.mo_syntax.specs.declared.expr.ReferenceOf.{ReferenceOf}
use Rattle.mo_syntax.specs.declared.expr.TermOf.{TermOf}
use Rattle.mo_grammar.specs.ClassTrees.{name_called, name_called_by}
use Rattle.mo_grammar.specs.Codes.{comma, dot, open_paren, close_paren, der_word, initial_word}
use Rattle.mo_grammar.specs.Expressions.{literal, outputs, part}
use Rattle.mo_grammar.specs.Forms.{optional}
use Rattle.mo_grammar.specs.Grammar.{Limits, symbol}
use Rattle.mo_grammar.specs.Language.{Spells}
use Rattle.mo_grammar.specs.Lexeme.{Lexeme, code_of}
use Rattle.mo_grammar.specs.Productions.{rule}
use Rattle.mo_grammar.specs.Symbols.{Symbol, ValueOf, Expressions, Simples, Logicals, Conjunctions, Negations, Relations, Sums, Products, Powers, Primaries, References}
use Rattle.mo_grammar.specs.Trees.{InBraces, all_tree, any_tree, array_tree, call_tree, expr_at, is_minus, not_tree, outputs_tree, power_tree, product_tree, range_tree, reference_tree, relation_tree, sum_tree, term_of, terms_tree}
use Rattle.mo_pieces.specs.Pieces.{AreTokens, IsToken}
use Rattle.mo_unparse.proofs.Holding.{Fact, HoldsBy, spelled_holds}
use Rattle.mo_unparse.proofs.Inverting.{HoldsOption, between_holds, optional_holds, separated_holds}

-- a reference of one identifier or more
abbrev pub Filled : ReferenceOf Expr → Type 0
Filled r = (part : PartOf Expr) × (more : List (PartOf Expr)) × (r.parts ≡ part ∷ more)

-- where the expression is the call of a name
abbrev pub Calls : Expr → Type 0
Calls a = (call : ReferenceOf Expr × Args) → name_called a ≡ Some call → Filled call.0

abbrev CallFact : Fact Symbol ValueOf
CallFact Expressions l a = Calls a
CallFact Simples l a = Calls a
CallFact Logicals l a = Calls a
CallFact Conjunctions l a = Calls a
CallFact Negations l a = Calls a
CallFact Relations l a = Calls a
CallFact Sums l a = Calls a
CallFact Products l a = Calls a
CallFact Powers l a = Calls a
CallFact Primaries l a = Calls a
CallFact References l a = Filled a
CallFact _ l a = Unit {0}

none : (place : Place) (node : Node) → name_called_by (out-Node node) ≡ None → Calls (expr_at place node)
unfolding name_called
none place node d call e = let clash : Some call ≡ None = sym e ∙ d in cc

range_calls : (y : Place × (Expr × Option (Expr × Option Expr))) → Calls y.1.0 → Calls (range_tree y)
range_calls (p, (a, None)) h = h
range_calls (p, (a, Some (b, None))) h = none p _ (ap name_called_by (outs-Range a None b))
range_calls (p, (a, Some (b, Some c))) h = none p _ (ap name_called_by (outs-Range a (Some b) c))

any_calls : (y : Place × (Expr × List Expr)) → Calls y.1.0 → Calls (any_tree y)
any_calls (p, (a, [])) h = h
any_calls (p, (a, b ∷ more)) h = none p _ (ap name_called_by (outs-Any (a ∷ b ∷ more)))

all_calls : (y : Place × (Expr × List Expr)) → Calls y.1.0 → Calls (all_tree y)
all_calls (p, (a, [])) h = h
all_calls (p, (a, b ∷ more)) h = none p _ (ap name_called_by (outs-All (a ∷ b ∷ more)))

not_calls : (y : Place × (Bool × Expr)) → Calls y.1.1 → Calls (not_tree y)
not_calls (p, (true, a)) h = none p _ (ap name_called_by (outs-Not a))
not_calls (p, (false, a)) h = h

relation_calls : (y : Place × (Expr × Option (Lexeme × Expr))) → Calls y.1.0 → Calls (relation_tree y)
relation_calls (p, (a, None)) h = h
relation_calls (p, (a, Some x)) h = none p _ (ap name_called_by (outs-Relation _ a x.1))

terms_calls : (p : Place) (a : Expr) (more : List (TermOf Expr)) → Calls a → Calls (terms_tree p a more)
terms_calls p a [] h = h
terms_calls p a (b ∷ more) h = none p _ (ap name_called_by (outs-Sum _))

sum_calls : (y : Option Lexeme × (Place × (Expr × List (TermOf Expr)))) → Calls y.1.1.0 → Calls (sum_tree y)
sum_calls (None, x) h = terms_calls x.0 x.1.0 x.1.1 h
sum_calls (Some t, x) h = go (is_minus t)
  where
    go : (b : Bool) → Calls (if b then expr_at t.place (Sum (term_of (t, x.1.0) ∷ x.1.1)) else terms_tree x.0 x.1.0 x.1.1)
    go true = none t.place _ (ap name_called_by (outs-Sum _))
    go false = terms_calls x.0 x.1.0 x.1.1 h

product_calls : (y : Place × (Expr × List (FactorOf Expr))) → Calls y.1.0 → Calls (product_tree y)
product_calls (p, (a, [])) h = h
product_calls (p, (a, b ∷ more)) h = none p _ (ap name_called_by (outs-Product _))

power_calls : (y : Place × (Expr × Option (Lexeme × Expr))) → Calls y.1.0 → Calls (power_tree y)
power_calls (p, (a, None)) h = h
power_calls (p, (a, Some x)) h = none p _ (ap name_called_by (outs-Power a _ x.1))

literal_calls : (l : Limits) (a : Expr) → HoldsBy CallFact IsToken literal l a → Calls a
literal_calls l a (inl (t, h, e)) = subst Calls e (none t.place _ (ap name_called_by (outs-Whole _)))
literal_calls l a (inr (inl (t, h, e))) = subst Calls e (none t.place _ (ap name_called_by (outs-Decimal t.text)))
literal_calls l a (inr (inr (inl (t, h, e)))) = subst Calls e (none t.place _ (ap name_called_by (outs-Str t.text)))
literal_calls l a (inr (inr (inr (inl (t, h, e))))) = subst Calls e (none t.place _ (ap name_called_by (outs-Truth false)))
literal_calls l a (inr (inr (inr (inr (inl (t, h, e)))))) = subst Calls e (none t.place _ (ap name_called_by (outs-Truth true)))
literal_calls l a (inr (inr (inr (inr (inr (t, h, e)))))) = subst Calls e (none t.place _ (ap name_called_by outs-EndMark))

word_calls : (y : Lexeme × Args) → Calls (call_tree y)
word_calls (t, args) = go (code_of t == der_word) (code_of t == initial_word)
  where
    go : (b c : Bool) → Calls (expr_at t.place (Call (if b then Der else (if c then Initial else Pure)) args))
    go true c = none t.place _ (ap name_called_by (outs-Call Der args))
    go false true = none t.place _ (ap name_called_by (outs-Call Initial args))
    go false false = none t.place _ (ap name_called_by (outs-Call Pure args))

reference_calls : (y : Place × (ReferenceOf Expr × Option Args)) → Filled y.1.0 → Calls (reference_tree y)
unfolding name_called
reference_calls (p, (r, None)) h call e =
    let clash : Some call ≡ None = sym e ∙ ap name_called_by (outs-Ref r) in
    cc
reference_calls (p, (r, Some args)) h call e =
    let named : Some (let pair : ReferenceOf Expr × Args = (r, args) in pair) ≡ Some call = sym (ap name_called_by (outs-Call (Named r) args)) ∙ e in
    let same : (let pair : ReferenceOf Expr × Args = (r, args) in pair) ≡ call = cc in
    subst (λ c. Filled c.0) same h

outputs_calls : (l : Limits) (y : Place × List (Option Expr)) → HoldsBy CallFact IsToken outputs l y.1 → Calls (outputs_tree y)
outputs_calls l (p, []) h = none p _ (ap name_called_by (outs-Tuple []))
outputs_calls l (p, None ∷ more) h = none p _ (ap name_called_by (outs-Tuple (None ∷ more)))
outputs_calls l (p, Some a ∷ []) h =
    let parts = separated_holds CallFact IsToken comma (optional (symbol Expressions)) l (Some a ∷ []) h in
    let first : parts.0 ≡ Some a = let both = parts.2 in cc in
    subst (HoldsOption Calls) first (optional_holds CallFact IsToken (symbol Expressions) l parts.0 parts.3)
outputs_calls l (p, Some a ∷ b ∷ more) h = none p _ (ap name_called_by (outs-Tuple (Some a ∷ b ∷ more)))

array_calls : (y : Place × (Expr × InBraces)) → Calls (array_tree y)
array_calls (p, (a, (None, more))) = none p _ (ap name_called_by (outs-Array (a ∷ more)))
array_calls (p, (a, (Some iters, more))) = none p _ (ap name_called_by (outs-ArrayFor a iters))

step : (x : Symbol) (l : Limits) (a : ValueOf x) → HoldsBy CallFact IsToken (rule x) l a → CallFact x l a
unfolding rule
step Expressions l a (inl (inner, left, (y, h, e))) = subst Calls e (none y.0 _ (ap name_called_by (outs-If _ _)))
step Expressions l a (inr h) = h
step Simples l a (y, h, e) = subst Calls e (range_calls y h.0)
step Logicals l a (y, h, e) = subst Calls e (any_calls y h.0)
step Conjunctions l a (y, h, e) = subst Calls e (all_calls y h.0)
step Negations l a (y, h, e) = subst Calls e (not_calls y h.1)
step Relations l a (y, h, e) = subst Calls e (relation_calls y h.0)
step Sums l a (y, h, e) = subst Calls e (sum_calls y h.1.0)
step Products l a (y, h, e) = subst Calls e (product_calls y h.0)
step Powers l a (y, h, e) = subst Calls e (power_calls y h.0)
step Primaries l a (inl h) = literal_calls l a h
step Primaries l a (inr (inl (y, h, e))) = subst Calls e (word_calls y)
step Primaries l a (inr (inr (inl (y, h, e)))) = subst Calls e (reference_calls y h.0)
step Primaries l a (inr (inr (inr (inl (y, h, e))))) =
    let inside = between_holds CallFact IsToken open_paren close_paren outputs l y.1 h in
    subst Calls e (outputs_calls inside.0 y inside.2)
step Primaries l a (inr (inr (inr (inr (inl (y, h, e)))))) = subst Calls e (none y.0 _ (ap name_called_by (outs-Matrix y.1)))
step Primaries l a (inr (inr (inr (inr (inr (y, h, e)))))) = subst Calls e (array_calls y)
step References l a (y, h, e) =
    let parts = separated_holds CallFact IsToken dot part l y.1 h.1 in
    (parts.0, parts.1, ap (λ r. r.parts) (sym e) ∙ sym parts.2)
step _ l a h = tt

-- the name that a simple expression calls is not empty
pub call_named : (l : Limits) (tokens : List Lexeme) (a : Expr) → Spells Simples l tokens a → AreTokens tokens → Calls a
call_named l tokens a s all = spelled_holds rule CallFact IsToken step Simples l tokens a s all
