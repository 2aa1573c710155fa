-- What tokens spell in a class of one name they spell in a class of another, where no `end` of the class itself stands among them.
use Rattle.std.proofs.Common.{◌≡◌, ◌&&◌, ℕ, zero, suc, Bool, true, false, List, [], ◌∷◌, inl, inr, Option, Some, None, refl, subst}
use Rattle.mo_grammar.specs.Lexeme.{Lexeme}
use Rattle.mo_grammar.specs.Grammar.{this_name, Limits, at_most, a_construct, a_class, empty, token, seq, either, either2, many, made, placed, nested, end_name, under, unless, symbol, first_passes, Spelling, SpelledBy, SpelledEach, SpelledOr, SpelledIn, SpelledAs}
use Rattle.mo_grammar.specs.Symbols.{Symbol, ValueOf, Form, Expressions, Simples, Logicals, Conjunctions, Negations, Relations, Sums, Products, Powers, Primaries, CallArguments, Arguments, MoreArguments, OneArgument, Indices, References, Subscripts, TypeSpecs, Names, ClassMods, ModArguments, EquationItems, ForEquations, WhenEquations, ElseEquations, IfEquations, StatementItems, ImportNames, ElementItems, Compositions, Sections, SectionEquations, ClassDefinitions, Files}
use Rattle.mo_grammar.specs.Productions.{rule}
use Rattle.mo_grammar.proofs.Codes.{both}

-- the productions that do not end the class that they stand in
is_closed : Symbol → Bool
is_closed Compositions = false
is_closed Sections = false
is_closed SectionEquations = false
is_closed _ = true

-- the forms that lead to such productions alone; a class has its own name
is_closed_form : {A : Type 0} → Form A → Bool
is_closed_form (empty a) = true
is_closed_form (token codes) = true
is_closed_form (seq g h) = is_closed_form g && is_closed_form h
is_closed_form (either g h) = is_closed_form g && is_closed_form h
is_closed_form (either2 c ds g h) = is_closed_form g && is_closed_form h
is_closed_form (many g) = is_closed_form g
is_closed_form (made f g) = is_closed_form g
is_closed_form (placed g) = is_closed_form g
is_closed_form (nested o g) = is_closed_form g
is_closed_form end_name = false
is_closed_form (under called g h) = is_closed_form g
is_closed_form (unless test g h) = is_closed_form g && is_closed_form h
is_closed_form (symbol x) = is_closed x

closed_rule : (x : Symbol) → is_closed x ≡ true → is_closed_form (rule x) ≡ true
unfolding rule is_closed is_closed_form
closed_rule Expressions e = refl
closed_rule Simples e = refl
closed_rule Logicals e = refl
closed_rule Conjunctions e = refl
closed_rule Negations e = refl
closed_rule Relations e = refl
closed_rule Sums e = refl
closed_rule Products e = refl
closed_rule Powers e = refl
closed_rule Primaries e = refl
closed_rule CallArguments e = refl
closed_rule Arguments e = refl
closed_rule MoreArguments e = refl
closed_rule OneArgument e = refl
closed_rule Indices e = refl
closed_rule References e = refl
closed_rule Subscripts e = refl
closed_rule TypeSpecs e = refl
closed_rule Names e = refl
closed_rule ClassMods e = refl
closed_rule ModArguments e = refl
closed_rule EquationItems e = refl
closed_rule ForEquations e = refl
closed_rule WhenEquations e = refl
closed_rule ElseEquations e = refl
closed_rule IfEquations e = refl
closed_rule StatementItems e = refl
closed_rule ImportNames e = refl
closed_rule (ElementItems hidden) e = refl
closed_rule Compositions e = cc
closed_rule Sections e = cc
closed_rule SectionEquations e = cc
closed_rule ClassDefinitions e = refl
closed_rule Files e = refl

module _ (outer other : List ℕ) where
  -- what is spelled in the one class is spelled in the other
  Renames : {A : Type 0} → (Limits → List Lexeme → A → Type 0) → Type 0
  Renames {A = A} part = (n k : ℕ) (w : List Lexeme) (a : A) → part (at_most n k (this_name outer)) w a → part (at_most n k (this_name other)) w a

  each_renamed : {A : Type 0} (part : Limits → List Lexeme → A → Type 0) → Renames part → (n k : ℕ) (w : List Lexeme) (list : List A) → SpelledEach (part (at_most n k (this_name outer))) w list → SpelledEach (part (at_most n k (this_name other))) w list
  unfolding Renames
  each_renamed part h n k w [] s = s
  each_renamed part h n k w (a ∷ list) (front, rest, cut, here, others) = (front, rest, cut, h n k front a here, each_renamed part h n k rest list others)

  or_renamed : {A : Type 0} (part : Limits → List Lexeme → A → Type 0) → Renames part → (n k : ℕ) (allowed : Bool) (w : List Lexeme) (o : Option A) → SpelledOr (part (at_most n k (this_name outer))) allowed w o → SpelledOr (part (at_most n k (this_name other))) allowed w o
  unfolding Renames
  or_renamed part h n k allowed w None s = s
  or_renamed part h n k allowed w (Some a) s = h n k w a s

  by_renamed : (of : Spelling Symbol ValueOf) → ((x : Symbol) → is_closed x ≡ true → Renames (of x)) → {A : Type 0} (g : Form A) → is_closed_form g ≡ true → Renames (SpelledBy of g)
  unfolding Renames is_closed_form
  by_renamed of h (empty a) e n k w b s = s
  by_renamed of h (token codes) e n k w t s = s
  by_renamed of h (seq g i) e n k w x (front, rest, cut, one, two) =
      let p = both (is_closed_form g) (is_closed_form i) e in
      (front, rest, cut, by_renamed of h g p.0 n k front x.0 one, by_renamed of h i p.1 n k rest x.1 two)
  by_renamed of h (either g i) e n k w a (inl s) = let p = both (is_closed_form g) (is_closed_form i) e in inl (by_renamed of h g p.0 n k w a s)
  by_renamed of h (either g i) e n k w a (inr s) = let p = both (is_closed_form g) (is_closed_form i) e in inr (by_renamed of h i p.1 n k w a s)
  by_renamed of h (either2 c ds g i) e n k w a (inl s) = let p = both (is_closed_form g) (is_closed_form i) e in inl (by_renamed of h g p.0 n k w a s)
  by_renamed of h (either2 c ds g i) e n k w a (inr s) = let p = both (is_closed_form g) (is_closed_form i) e in inr (by_renamed of h i p.1 n k w a s)
  by_renamed of h (many g) e n k w list s = each_renamed (SpelledBy of g) (by_renamed of h g e) n k w list s
  by_renamed of h (made f g) e n k w b s = (s.0, by_renamed of h g e n k w s.0 s.1, s.2)
  by_renamed of h (placed g) e n k w x s = (s.0, s.1, s.2, s.3, by_renamed of h g e n k w x.1 s.4)
  by_renamed of h (nested a_construct g) e zero k w a (inner, left, s) = cc
  by_renamed of h (nested a_construct g) e (suc n) k w a (inner, left, s) =
      let same : inner ≡ at_most n k (this_name outer) = cc in
      (at_most n k (this_name other), refl, by_renamed of h g e n k w a (subst (λ m. SpelledBy of g m w a) same s))
  by_renamed of h (nested a_class g) e zero k w a (inner, left, s) = cc
  by_renamed of h (nested a_class g) e (suc n) zero w a (inner, left, s) = cc
  by_renamed of h (nested a_class g) e (suc n) (suc k) w a (inner, left, s) =
      let same : inner ≡ at_most n k (this_name outer) = cc in
      (at_most n k (this_name other), refl, by_renamed of h g e n k w a (subst (λ m. SpelledBy of g m w a) same s))
  by_renamed of h end_name e n k w t s = cc
  by_renamed of h (under called g i) e n k w x (front, rest, cut, one, two) = (front, rest, cut, by_renamed of h g e n k front x.0 one, two)
  by_renamed of h (unless test g i) e n k w x (front, rest, cut, one, two) =
      let p = both (is_closed_form g) (is_closed_form i) e in
      (front, rest, cut, by_renamed of h g p.0 n k front x.0 one, or_renamed (SpelledBy of i) (by_renamed of h i p.1) n k (first_passes test front x.0) rest x.1 two)
  by_renamed of h (symbol x) e n k w a s = h x e n k w a s

  in_renamed : (height : ℕ) (x : Symbol) → is_closed x ≡ true → Renames (SpelledIn rule height x)
  unfolding Renames
  in_renamed zero x e n k w a s = absurd s
  in_renamed (suc height) x e n k w a s = by_renamed (SpelledIn rule height) (λ y c. in_renamed height y c) (rule x) (closed_rule x e) n k w a s

-- a class stands in a class of any name
pub class_renamed : (outer other : List ℕ) (n k : ℕ) (w : List Lexeme) (class : ValueOf ClassDefinitions) → SpelledAs rule ClassDefinitions (at_most n k (this_name outer)) w class → SpelledAs rule ClassDefinitions (at_most n k (this_name other)) w class
unfolding Renames is_closed
class_renamed outer other n k w class s = (s.0, in_renamed outer other s.0 ClassDefinitions refl n k w class s.1)
