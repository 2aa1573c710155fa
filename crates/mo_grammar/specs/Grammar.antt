-- Grammars as data, with what each makes of its tokens, and what tokens spell. The names of the productions (S) and what
-- each of them makes (V) are given.
use Rattle.std.specs.Prelude.{◌≡◌, ◌==◌, ◌||◌, ℕ, zero, suc, Bool, true, false, List, [], ◌∷◌, ◌++◌, ◌⊎◌, Option, Some, None, IsTrue}
use Rattle.std.specs.Str.{bytes_eq}
use Rattle.mo_syntax.specs.declared.place.Place.{Place}
use Rattle.mo_grammar.specs.Codes.{ident}
use Rattle.mo_grammar.specs.Lexeme.{Lexeme, code_of}

-- what a construct counts among while it is open
pub data Opening : Type 0 where
  -- the constructs
  a_construct : Opening
  -- the constructs and the classes
  a_class : Opening

-- the name that may stand behind `end`: any, or that of the class that is open
pub data EndName : Type 0 where
  any_name : EndName
  this_name : List ℕ → EndName

-- How many constructs and how many classes may be open inside one another, and which name may stand behind `end`.
pub data Limits : Type 0 where
  at_most : (constructs classes : ℕ) (name : EndName) → Limits

abbrev pub end_name_in : Limits → EndName
end_name_in (at_most constructs classes name) = name

abbrev pub suits : EndName → Lexeme → Bool
suits any_name t = true
suits (this_name name) t = bytes_eq name t.text

-- inside a class of that name
abbrev pub renamed : List ℕ → Limits → Limits
renamed name (at_most constructs classes any_name) = at_most constructs classes any_name
renamed name (at_most constructs classes (this_name outer)) = at_most constructs classes (this_name name)

-- what is left of the limits inside one more construct, None where no more may be opened
abbrev pub left_inside : Opening → Limits → Option Limits
left_inside a_construct (at_most zero classes name) = None
left_inside a_construct (at_most (suc n) classes name) = Some (at_most n classes name)
left_inside a_class (at_most zero classes name) = None
left_inside a_class (at_most (suc n) zero name) = None
left_inside a_class (at_most (suc n) (suc k) name) = Some (at_most n k name)

pub data Grammar (S : Type 0) (V : S → Type 0) : Type 0 → Type 1 where
  -- no token
  empty : {A : Type 0} → A → Grammar S V A
  -- one token, whose code is one of these
  token : List ℕ → Grammar S V Lexeme
  -- the one and then the other
  seq : {A B : Type 0} → Grammar S V A → Grammar S V B → Grammar S V (A × B)
  -- the one or the other, as the next token tells
  either : {A : Type 0} → Grammar S V A → Grammar S V A → Grammar S V A
  -- the one or the other, as the next two tokens tell: the first begins with this code and then one of these
  either2 : {A : Type 0} → ℕ → List ℕ → Grammar S V A → Grammar S V A → Grammar S V A
  -- any number of times
  many : {A : Type 0} → Grammar S V A → Grammar S V (List A)
  -- what the function makes of it
  made : {A B : Type 0} → (A → B) → Grammar S V A → Grammar S V B
  -- with the place of its first token
  placed : {A : Type 0} → Grammar S V A → Grammar S V (Place × A)
  -- a construct that counts as nesting, opened by its first token
  nested : {A : Type 0} → Opening → Grammar S V A → Grammar S V A
  -- an identifier, the name of the class that is open
  end_name : Grammar S V Lexeme
  -- the one and then the other, inside a class of the name that the one gives
  under : {A B : Type 0} → (A → List ℕ) → Grammar S V A → Grammar S V B → Grammar S V (A × B)
  -- the one and then the other, which may be left out where the first token and the value of the one pass the test
  unless : {A B : Type 0} → (Lexeme → A → Bool) → Grammar S V A → Grammar S V B → Grammar S V (A × Option B)
  -- a production
  symbol : (x : S) → Grammar S V (V x)

abbrev pub has : List ℕ → ℕ → Bool
has [] c = false
has (x ∷ xs) c = (x == c) || has xs c

abbrev pub identifiers : List ℕ
identifiers = ident ∷ []

-- the first token passes
abbrev pub first_passes : {A : Type 0} → (Lexeme → A → Bool) → List Lexeme → A → Bool
first_passes test [] a = false
first_passes test (t ∷ tokens) a = test t a

-- a list of values, each spelled by the tokens of its part
abbrev pub SpelledEach : {A : Type 0} → (List Lexeme → A → Type 0) → List Lexeme → List A → Type 0
SpelledEach part tokens [] = tokens ≡ []
SpelledEach part tokens (a ∷ more) = (front : List Lexeme) × (rest : List Lexeme) × (tokens ≡ front ++ rest) × part front a × SpelledEach part rest more

-- the value, or none where that is allowed
abbrev pub SpelledOr : {A : Type 0} → (List Lexeme → A → Type 0) → Bool → List Lexeme → Option A → Type 0
SpelledOr part allowed tokens (Some a) = part tokens a
SpelledOr part allowed tokens None = (tokens ≡ []) × IsTrue allowed

-- which tokens spell which value of a production
abbrev pub Spelling : (S : Type 0) → (S → Type 0) → Type 1
Spelling S V = (x : S) → Limits → List Lexeme → V x → Type 0

-- which tokens begin a production
abbrev pub Beginning : Type 0 → Type 1
Beginning S = S → Limits → List Lexeme → Type 0

-- The tokens spell the value by the grammar and open no more than the limits allow. What the productions spell is given.
abbrev pub SpelledBy : {S : Type 0} {V : S → Type 0} → Spelling S V → {A : Type 0} → Grammar S V A → Limits → List Lexeme → A → Type 0
SpelledBy of (empty a) l tokens b = (tokens ≡ []) × (a ≡ b)
SpelledBy of (token codes) l tokens t = (tokens ≡ t ∷ []) × IsTrue (has codes (code_of t))
SpelledBy of (seq g h) l tokens x = (front : List Lexeme) × (rest : List Lexeme) × (tokens ≡ front ++ rest) × SpelledBy of g l front x.0 × SpelledBy of h l rest x.1
SpelledBy of (either g h) l tokens a = SpelledBy of g l tokens a ⊎ SpelledBy of h l tokens a
SpelledBy of (either2 c ds g h) l tokens a = SpelledBy of g l tokens a ⊎ SpelledBy of h l tokens a
SpelledBy of (many g) l tokens list = SpelledEach (SpelledBy of g l) tokens list
SpelledBy of (made f g) l tokens b = (a : _) × SpelledBy of g l tokens a × (f a ≡ b)
SpelledBy of (placed g) l tokens x = (t : Lexeme) × (more : List Lexeme) × (tokens ≡ t ∷ more) × (x.0 ≡ t.place) × SpelledBy of g l tokens x.1
SpelledBy of (nested o g) l tokens a = (inner : Limits) × (left_inside o l ≡ Some inner) × SpelledBy of g inner tokens a
SpelledBy of end_name l tokens t = (tokens ≡ t ∷ []) × IsTrue (has identifiers (code_of t)) × IsTrue (suits (end_name_in l) t)
SpelledBy of (under called g h) l tokens x = (front : List Lexeme) × (rest : List Lexeme) × (tokens ≡ front ++ rest) × SpelledBy of g l front x.0 × SpelledBy of h (renamed (called x.0) l) rest x.1
SpelledBy of (unless test g h) l tokens x = (front : List Lexeme) × (rest : List Lexeme) × (tokens ≡ front ++ rest) × SpelledBy of g l front x.0 × SpelledOr (SpelledBy of h l) (first_passes test front x.0) rest x.1
SpelledBy of (symbol x) l tokens a = of x l tokens a

-- values, and then the beginning of one more
abbrev pub BegunEach : {A : Type 0} → (List Lexeme → A → Type 0) → (List Lexeme → Type 0) → List Lexeme → List A → Type 0
BegunEach part begun tokens [] = begun tokens
BegunEach part begun tokens (a ∷ more) = (front : List Lexeme) × (rest : List Lexeme) × (tokens ≡ front ++ rest) × part front a × BegunEach part begun rest more

-- The tokens begin what the grammar spells, and open no more than the limits allow.
abbrev pub BegunBy : {S : Type 0} {V : S → Type 0} → Spelling S V → Beginning S → {A : Type 0} → Grammar S V A → Limits → List Lexeme → Type 0
BegunBy of begun (empty a) l tokens = tokens ≡ []
BegunBy of begun (token codes) l tokens = (tokens ≡ []) ⊎ ((t : Lexeme) × (tokens ≡ t ∷ []) × IsTrue (has codes (code_of t)))
BegunBy of begun (seq g h) l tokens = BegunBy of begun g l tokens ⊎ ((front : List Lexeme) × (rest : List Lexeme) × (a : _) × (tokens ≡ front ++ rest) × SpelledBy of g l front a × BegunBy of begun h l rest)
BegunBy of begun (either g h) l tokens = BegunBy of begun g l tokens ⊎ BegunBy of begun h l tokens
BegunBy of begun (either2 c ds g h) l tokens = BegunBy of begun g l tokens ⊎ BegunBy of begun h l tokens
BegunBy of begun (many {A = A} g) l tokens = (list : List A) × BegunEach (SpelledBy of g l) (BegunBy of begun g l) tokens list
BegunBy of begun (made f g) l tokens = BegunBy of begun g l tokens
BegunBy of begun (placed g) l tokens = BegunBy of begun g l tokens
BegunBy of begun (nested o g) l tokens = (tokens ≡ []) ⊎ ((inner : Limits) × (left_inside o l ≡ Some inner) × BegunBy of begun g inner tokens)
BegunBy of begun end_name l tokens = (tokens ≡ []) ⊎ ((t : Lexeme) × (tokens ≡ t ∷ []) × IsTrue (has identifiers (code_of t)) × IsTrue (suits (end_name_in l) t))
BegunBy of begun (under called g h) l tokens = BegunBy of begun g l tokens ⊎ ((front : List Lexeme) × (rest : List Lexeme) × (a : _) × (tokens ≡ front ++ rest) × SpelledBy of g l front a × BegunBy of begun h (renamed (called a) l) rest)
BegunBy of begun (unless test g h) l tokens = BegunBy of begun g l tokens ⊎ ((front : List Lexeme) × (rest : List Lexeme) × (a : _) × (tokens ≡ front ++ rest) × SpelledBy of g l front a × BegunBy of begun h l rest)
BegunBy of begun (symbol x) l tokens = begun x l tokens

-- ---- productions that lead back to one another

-- the grammar of each production
abbrev pub Productions : (S : Type 0) → (S → Type 0) → Type 1
Productions S V = (x : S) → Grammar S V (V x)

-- The tokens spell the value of the production by a derivation that is less than n productions high.
abbrev pub SpelledIn : {S : Type 0} {V : S → Type 0} → Productions S V → ℕ → Spelling S V
SpelledIn rule zero = λ x l tokens a. ⊥
SpelledIn rule (suc n) = λ x l tokens a. SpelledBy (SpelledIn rule n) (rule x) l tokens a

-- The tokens begin the production, seen that many productions deep; no token yet begins each.
abbrev pub BegunIn : {S : Type 0} {V : S → Type 0} → Productions S V → ℕ → Beginning S
BegunIn rule zero = λ x l tokens. tokens ≡ []
BegunIn rule (suc n) = λ x l tokens. BegunBy (SpelledIn rule n) (BegunIn rule n) (rule x) l tokens

-- The tokens spell the value of the production and open no more than the limits allow.
abbrev pub SpelledAs : {S : Type 0} {V : S → Type 0} → Productions S V → Spelling S V
SpelledAs rule x l tokens a = (n : ℕ) × SpelledIn rule n x l tokens a

-- The tokens begin what the production spells, and open no more than the limits allow.
abbrev pub BegunAs : {S : Type 0} {V : S → Type 0} → Productions S V → Beginning S
BegunAs rule x l tokens = (n : ℕ) × BegunIn rule n x l tokens
