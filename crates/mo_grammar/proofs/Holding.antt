-- What holds of the values that tokens spell, the tokens aside: facts on productions by induction on what they are made of.
use Rattle.std.proofs.Common.{◌≡◌, ℕ, zero, suc, List, [], ◌∷◌, ◌++◌, ◌⊎◌, inl, inr, Option, Some, None, IsTrue, Bool, subst}
use Rattle.std.specs.List.{All}
use Rattle.std.proofs.lemmas.List.Elements.{All-cons, All-head, All-nil, All-tail}
use Rattle.mo_grammar.specs.Lexeme.{Lexeme, code_of}
use Rattle.mo_grammar.specs.Grammar.{Limits, left_inside, end_name_in, suits, renamed, Grammar, empty, token, seq, either, either2, many, made, placed, nested, end_name, under, unless, symbol, has, identifiers, first_passes, Spelling, Productions, SpelledBy, SpelledEach, SpelledOr, SpelledIn, SpelledAs}

-- what is said of the values of each production, within limits
abbrev pub Fact : (S : Type 0) → (S → Type 0) → Type 1
Fact S V = (x : S) → Limits → V x → Type 0

-- each of the values
abbrev pub HoldsEach : {A : Type 0} → (A → Type 0) → List A → Type 0
HoldsEach part [] = Unit {0}
HoldsEach part (a ∷ more) = part a × HoldsEach part more

-- the value, or none where a first token lets it be left out
abbrev pub HoldsOr : {A : Type 0} → (A → Type 0) → (Lexeme → Type 0) → Option A → Type 0
HoldsOr part passes (Some a) = part a
HoldsOr part passes None = (t : Lexeme) × passes t

-- What is known of the value that tokens spell by the grammar, where P holds of what productions spell and T of each token.
abbrev pub HoldsBy : {S : Type 0} {V : S → Type 0} → Fact S V → (Lexeme → Type 0) → {A : Type 0} → Grammar S V A → Limits → A → Type 0
HoldsBy P T (empty a) l b = a ≡ b
HoldsBy P T (token codes) l t = T t × IsTrue (has codes (code_of t))
HoldsBy P T (seq g h) l x = HoldsBy P T g l x.0 × HoldsBy P T h l x.1
HoldsBy P T (either g h) l a = HoldsBy P T g l a ⊎ HoldsBy P T h l a
HoldsBy P T (either2 c ds g h) l a = HoldsBy P T g l a ⊎ HoldsBy P T h l a
HoldsBy P T (many g) l list = HoldsEach (HoldsBy P T g l) list
HoldsBy P T (made f g) l b = (a : _) × HoldsBy P T g l a × (f a ≡ b)
HoldsBy P T (placed g) l x = HoldsBy P T g l x.1
HoldsBy P T (nested o g) l a = (inner : Limits) × (left_inside o l ≡ Some inner) × HoldsBy P T g inner a
HoldsBy P T end_name l t = T t × IsTrue (has identifiers (code_of t)) × IsTrue (suits (end_name_in l) t)
HoldsBy P T (under called g h) l x = HoldsBy P T g l x.0 × HoldsBy P T h (renamed (called x.0) l) x.1
HoldsBy P T (unless test g h) l x = HoldsBy P T g l x.0 × HoldsOr (HoldsBy P T h l) (λ t. T t × IsTrue (test t x.0)) x.1
HoldsBy P T (symbol x) l a = P x l a

-- what follows for each from what holds of each
pub each_follows : {A : Type 0} (P Q : A → Type 0) → ((a : A) → P a → Q a) → (list : List A) → HoldsEach P list → HoldsEach Q list
each_follows P Q k [] h = tt
each_follows P Q k (a ∷ list) h = (k a h.0, each_follows P Q k list h.1)

-- what holds of each of a list holds of each of its parts
pub all_left : {A : Type 0} (P : A → Type 0) (xs ys : List A) → All P (xs ++ ys) → All P xs
all_left P [] ys h = All-nil P
all_left P (x ∷ xs) ys h = All-cons P x xs (All-head P x (xs ++ ys) h) (all_left P xs ys (All-tail P x (xs ++ ys) h))

pub all_right : {A : Type 0} (P : A → Type 0) (xs ys : List A) → All P (xs ++ ys) → All P ys
all_right P [] ys h = h
all_right P (x ∷ xs) ys h = all_right P xs ys (All-tail P x (xs ++ ys) h)

each_holds : {A : Type 0} (T : Lexeme → Type 0) (part : List Lexeme → A → Type 0) (H : A → Type 0) → ((w : List Lexeme) (a : A) → part w a → All T w → H a) → (w : List Lexeme) (list : List A) → SpelledEach part w list → All T w → HoldsEach H list
each_holds T part H k w [] s h = tt
each_holds T part H k w (a ∷ list) (front, rest, cut, here, others) h =
    let whole = subst (λ v. All T v) cut h in
    (k front a here (all_left T front rest whole), each_holds T part H k rest list others (all_right T front rest whole))

or_holds : {A B : Type 0} (T : Lexeme → Type 0) (part : List Lexeme → A → Type 0) (H : A → Type 0) → ((w : List Lexeme) (a : A) → part w a → All T w → H a) → (test : Lexeme → B → Bool) (front : List Lexeme) (b : B) → All T front → (w : List Lexeme) (o : Option A) → SpelledOr part (first_passes test front b) w o → All T w → HoldsOr H (λ t. T t × IsTrue (test t b)) o
or_holds T part H k test front b hf w (Some a) s h = k w a s h
or_holds T part H k test [] b hf w None s h = let clash = s.1 in cc
or_holds T part H k test (t ∷ front) b hf w None s h = (t, (All-head T t front hf, s.1))

module _ {S : Type 0} {V : S → Type 0} where
  pub holds_by : {A : Type 0} (of : Spelling S V) (P : Fact S V) (T : Lexeme → Type 0) → ((x : S) (l : Limits) (w : List Lexeme) (a : V x) → of x l w a → All T w → P x l a) → (g : Grammar S V A) (l : Limits) (w : List Lexeme) (a : A) → SpelledBy of g l w a → All T w → HoldsBy P T g l a
  holds_by of P T k (empty b) l w a s h = s.1
  holds_by of P T k (token codes) l w a s h = (All-head T a [] (subst (λ v. All T v) s.0 h), s.1)
  holds_by of P T k (seq g h) l w a (front, rest, cut, one, two) all =
      let whole = subst (λ v. All T v) cut all in
      (holds_by of P T k g l front a.0 one (all_left T front rest whole), holds_by of P T k h l rest a.1 two (all_right T front rest whole))
  holds_by of P T k (either g h) l w a (inl s) all = inl (holds_by of P T k g l w a s all)
  holds_by of P T k (either g h) l w a (inr s) all = inr (holds_by of P T k h l w a s all)
  holds_by of P T k (either2 c ds g h) l w a (inl s) all = inl (holds_by of P T k g l w a s all)
  holds_by of P T k (either2 c ds g h) l w a (inr s) all = inr (holds_by of P T k h l w a s all)
  holds_by of P T k (many g) l w a s all = each_holds T (SpelledBy of g l) (HoldsBy P T g l) (λ w a. holds_by of P T k g l w a) w a s all
  holds_by of P T k (made f g) l w b s all = (s.0, holds_by of P T k g l w s.0 s.1 all, s.2)
  holds_by of P T k (placed g) l w a s all = holds_by of P T k g l w a.1 s.4 all
  holds_by of P T k (nested o g) l w a s all = (s.0, s.1, holds_by of P T k g s.0 w a s.2 all)
  holds_by of P T k end_name l w a s all = (All-head T a [] (subst (λ v. All T v) s.0 all), s.1, s.2)
  holds_by of P T k (under called g h) l w a (front, rest, cut, one, two) all =
      let whole = subst (λ v. All T v) cut all in
      (holds_by of P T k g l front a.0 one (all_left T front rest whole), holds_by of P T k h (renamed (called a.0) l) rest a.1 two (all_right T front rest whole))
  holds_by of P T k (unless test g h) l w a (front, rest, cut, one, two) all =
      let whole = subst (λ v. All T v) cut all in
      let left = all_left T front rest whole in
      (holds_by of P T k g l front a.0 one left, or_holds T (SpelledBy of h l) (HoldsBy P T h l) (λ w a. holds_by of P T k h l w a) test front a.0 left rest a.1 two (all_right T front rest whole))
  holds_by of P T k (symbol x) l w a s all = k x l w a s all

  in_holds : (rule : Productions S V) (P : Fact S V) (T : Lexeme → Type 0) → ((x : S) (l : Limits) (a : V x) → HoldsBy P T (rule x) l a → P x l a) → (n : ℕ) (x : S) (l : Limits) (w : List Lexeme) (a : V x) → SpelledIn rule n x l w a → All T w → P x l a
  in_holds rule P T step zero x l w a s all = absurd s
  in_holds rule P T step (suc n) x l w a s all = step x l a (holds_by (SpelledIn rule n) P T (λ x l w a s all. in_holds rule P T step n x l w a s all) (rule x) l w a s all)

  -- what follows for each production from what holds of its parts holds of all that tokens with the fact T spell
  pub spelled_holds : (rule : Productions S V) (P : Fact S V) (T : Lexeme → Type 0) → ((x : S) (l : Limits) (a : V x) → HoldsBy P T (rule x) l a → P x l a) → (x : S) (l : Limits) (tokens : List Lexeme) (a : V x) → SpelledAs rule x l tokens a → All T tokens → P x l a
  spelled_holds rule P T step x l tokens a s all = in_holds rule P T step s.0 x l tokens a s.1 all
