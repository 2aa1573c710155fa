-- Reading from left to right, one token ahead, or two where a choice says so.
use Rattle.std.specs.Prelude.{◌==◌, ◌||◌, ◌&&◌, not, ℕ, zero, suc, ◌+◌, ◌*◌, Bool, true, false, List, [], ◌∷◌, ◌++◌, Option, Some, None, length, nat_lt, if◌then◌else◌, ◌≡◌, ◌<◌}
use Rattle.mo_syntax.specs.declared.place.Place.{Place}
use Rattle.mo_grammar.specs.declared.fault.Fault.{Fault}
use Rattle.mo_grammar.specs.declared.fault.Fault.TheVariants.{Misplaced, Misnamed, TooDeep}
use Rattle.mo_grammar.specs.Lexeme.{Lexeme, code_of}
use Rattle.mo_grammar.specs.Grammar.{Limits, at_most, EndName, any_name, end_name_in, suits, renamed, left_inside, Grammar, empty, token, seq, either, either2, many, made, placed, nested, end_name, under, unless, symbol, has, identifiers, first_passes, Productions}

-- what reading gives: a value and the tokens behind it, or a fault and the tokens from the one that cannot stand there
pub data Outcome (A : Type 0) : Type 0 where
  read : A → List Lexeme → Outcome A
  stuck : Fault → List Lexeme → Outcome A
  -- the steps that were granted were too few
  unfinished : Outcome A

infixl 10 ◌>>=◌
abbrev pub ◌>>=◌ : {A B : Type 0} → Outcome A → (A × List Lexeme → Outcome B) → Outcome B
(read a rest) >>= f = f (a, rest)
(stuck fault rest) >>= f = stuck fault rest
unfinished >>= f = unfinished

abbrev pub Reader : (S : Type 0) → (S → Type 0) → Type 0
Reader S V = (x : S) → Limits → List Lexeme → Outcome (V x)

-- ---- what a grammar may begin with

-- no token spells something
abbrev pub may_be_empty : {S : Type 0} {V : S → Type 0} {A : Type 0} → Grammar S V A → Bool
may_be_empty (empty a) = true
may_be_empty (token codes) = false
may_be_empty (seq g h) = may_be_empty g && may_be_empty h
may_be_empty (either g h) = may_be_empty g || may_be_empty h
may_be_empty (either2 c ds g h) = may_be_empty g || may_be_empty h
may_be_empty (many g) = true
may_be_empty (made f g) = may_be_empty g
may_be_empty (placed g) = may_be_empty g
may_be_empty (nested o g) = may_be_empty g
may_be_empty end_name = false
may_be_empty (under called g h) = may_be_empty g && may_be_empty h
may_be_empty (unless test g h) = may_be_empty g
may_be_empty (symbol x) = false

-- one token alone may spell something
abbrev pub may_be_one : {S : Type 0} {V : S → Type 0} {A : Type 0} → Grammar S V A → Bool
may_be_one (empty a) = false
may_be_one (token codes) = true
may_be_one (seq g h) = (may_be_one g && may_be_empty h) || (may_be_empty g && may_be_one h)
may_be_one (either g h) = may_be_one g || may_be_one h
may_be_one (either2 c ds g h) = may_be_one g || may_be_one h
may_be_one (many g) = may_be_one g
may_be_one (made f g) = may_be_one g
may_be_one (placed g) = may_be_one g
may_be_one (nested o g) = may_be_one g
may_be_one end_name = true
may_be_one (under called g h) = (may_be_one g && may_be_empty h) || (may_be_empty g && may_be_one h)
may_be_one (unless test g h) = may_be_one g || (may_be_empty g && may_be_one h)
may_be_one (symbol x) = true

abbrev pub when : Bool → List ℕ → List ℕ
when true codes = codes
when false codes = []

-- The codes of the tokens that may come first: all of them, or those that open no construct. Those of the productions are
-- given.
abbrev pub entry_codes : {S : Type 0} {V : S → Type 0} {A : Type 0} → Bool → (S → List ℕ) → Grammar S V A → List ℕ
entry_codes inside of (empty a) = []
entry_codes inside of (token codes) = codes
entry_codes inside of (seq g h) = entry_codes inside of g ++ when (may_be_empty g) (entry_codes inside of h)
entry_codes inside of (either g h) = entry_codes inside of g ++ entry_codes inside of h
entry_codes inside of (either2 c ds g h) = entry_codes inside of g ++ entry_codes inside of h
entry_codes inside of (many g) = entry_codes inside of g
entry_codes inside of (made f g) = entry_codes inside of g
entry_codes inside of (placed g) = entry_codes inside of g
entry_codes inside of (nested o g) = when inside (entry_codes inside of g)
entry_codes inside of end_name = when inside identifiers
entry_codes inside of (under called g h) = entry_codes inside of g ++ when (may_be_empty g) (entry_codes inside of h)
entry_codes inside of (unless test g h) = entry_codes inside of g ++ when (may_be_empty g) (entry_codes inside of h)
entry_codes inside of (symbol x) = of x

abbrev pub first_codes : {S : Type 0} {V : S → Type 0} {A : Type 0} → (S → List ℕ) → Grammar S V A → List ℕ
first_codes of g = entry_codes true of g

-- ---- reading

abbrev pub next_in : List ℕ → List Lexeme → Bool
next_in codes [] = false
next_in codes (t ∷ tokens) = has codes (code_of t)

abbrev pub next_two : ℕ → List ℕ → List Lexeme → Bool
next_two c ds [] = false
next_two c ds (t ∷ []) = false
next_two c ds (t ∷ u ∷ tokens) = (c == code_of t) && has ds (code_of u)

abbrev pub reads_token : List ℕ → List Lexeme → Outcome Lexeme
reads_token codes [] = stuck Misplaced []
reads_token codes (t ∷ tokens) = if has codes (code_of t) then read t tokens else stuck Misplaced (t ∷ tokens)

-- an identifier whose text suits
abbrev pub reads_end : EndName → List Lexeme → Outcome Lexeme
reads_end name [] = stuck Misplaced []
reads_end name (t ∷ tokens) = if has identifiers (code_of t) then (if suits name t then read t tokens else stuck Misnamed (t ∷ tokens)) else stuck Misplaced (t ∷ tokens)

-- values for as long as the next token begins one; the number bounds how many there can be
abbrev pub each_from : {A : Type 0} → List ℕ → (List Lexeme → Outcome A) → ℕ → List Lexeme → Outcome (List A)
each_from codes part zero tokens = if next_in codes tokens then unfinished else read [] tokens
each_from codes part (suc n) tokens = if next_in codes tokens then (part tokens >>= λ x. each_from codes part n x.1 >>= λ y. read (x.0 ∷ y.0) y.1) else read [] tokens

-- what stands in a construct, within what is left of the limits
abbrev pub reads_inside : {A : Type 0} → Bool → Option Limits → (Limits → Outcome A) → List Lexeme → Outcome A
reads_inside opens (Some inner) part tokens = part inner
reads_inside opens None part tokens = stuck (if opens then TooDeep else Misplaced) tokens

abbrev pub place_of_first : List Lexeme → Place
place_of_first [] = record { file = 0; byte = 0 }
place_of_first (t ∷ tokens) = t.place

abbrev pub reads_by : {S : Type 0} {V : S → Type 0} → (S → List ℕ) → Reader S V → {A : Type 0} → Grammar S V A → Limits → List Lexeme → Outcome A
reads_by starts of (empty a) l tokens = read a tokens
reads_by starts of (token codes) l tokens = reads_token codes tokens
reads_by starts of (seq g h) l tokens = reads_by starts of g l tokens >>= λ x. reads_by starts of h l x.1 >>= λ y. read (x.0, y.0) y.1
reads_by starts of (either g h) l tokens = if next_in (first_codes starts g) tokens then reads_by starts of g l tokens else reads_by starts of h l tokens
reads_by starts of (either2 c ds g h) l tokens = if next_two c ds tokens then reads_by starts of g l tokens else reads_by starts of h l tokens
reads_by starts of (many g) l tokens = each_from (first_codes starts g) (reads_by starts of g l) (length tokens) tokens
reads_by starts of (made f g) l tokens = reads_by starts of g l tokens >>= λ x. read (f x.0) x.1
reads_by starts of (placed g) l tokens = reads_by starts of g l tokens >>= λ x. read (place_of_first tokens, x.0) x.1
reads_by starts of (nested o g) l tokens = reads_inside (next_in (first_codes starts g) tokens) (left_inside o l) (λ inner. reads_by starts of g inner tokens) tokens
reads_by starts of end_name l tokens = reads_end (end_name_in l) tokens
reads_by starts of (under called g h) l tokens = reads_by starts of g l tokens >>= λ x. reads_by starts of h (renamed (called x.0) l) x.1 >>= λ y. read (x.0, y.0) y.1
reads_by starts of (unless test g h) l tokens = reads_by starts of g l tokens >>= λ x. if next_in (first_codes starts h) x.1 then (reads_by starts of h l x.1 >>= λ y. read (x.0, Some y.0) y.1) else (if first_passes test tokens x.0 then read (x.0, None) x.1 else stuck Misplaced x.1)
reads_by starts of (symbol x) l tokens = of x l tokens

-- reading a production, with at most that many productions inside one another
abbrev pub reads_within : {S : Type 0} {V : S → Type 0} → (S → List ℕ) → Productions S V → ℕ → Reader S V
reads_within starts rule zero = λ x l tokens. unfinished
reads_within starts rule (suc n) = λ x l tokens. reads_by starts (reads_within starts rule n) (rule x) l tokens

-- ---- the test of a grammar

-- the codes of the tokens that may make a spelling longer
abbrev pub later_codes : {S : Type 0} {V : S → Type 0} {A : Type 0} → (S → List ℕ) → (S → List ℕ) → Grammar S V A → List ℕ
later_codes starts of (empty a) = []
later_codes starts of (token codes) = []
later_codes starts of (seq g h) = later_codes starts of h ++ when (may_be_empty h) (later_codes starts of g)
later_codes starts of (either g h) = later_codes starts of g ++ (later_codes starts of h ++ when (may_be_empty h) (first_codes starts g))
later_codes starts of (either2 c ds g h) = later_codes starts of g ++ (later_codes starts of h ++ (c ∷ ds))
later_codes starts of (many g) = first_codes starts g ++ later_codes starts of g
later_codes starts of (made f g) = later_codes starts of g
later_codes starts of (placed g) = later_codes starts of g
later_codes starts of (nested o g) = later_codes starts of g
later_codes starts of end_name = []
later_codes starts of (under called g h) = later_codes starts of h ++ when (may_be_empty h) (later_codes starts of g)
later_codes starts of (unless test g h) = later_codes starts of g ++ (later_codes starts of h ++ first_codes starts h)
later_codes starts of (symbol x) = of x

-- the codes of the tokens that may come second behind a token of that code
abbrev pub second_codes : {S : Type 0} {V : S → Type 0} {A : Type 0} → (S → List ℕ) → (S → List ℕ) → ℕ → Grammar S V A → List ℕ
second_codes starts of c (empty a) = []
second_codes starts of c (token codes) = []
second_codes starts of c (seq g h) = second_codes starts of c g ++ (when (has (first_codes starts g) c && may_be_one g) (first_codes starts h) ++ when (may_be_empty g) (second_codes starts of c h))
second_codes starts of c (either g h) = second_codes starts of c g ++ second_codes starts of c h
second_codes starts of c (either2 d ds g h) = second_codes starts of c g ++ second_codes starts of c h
second_codes starts of c (many g) = second_codes starts of c g ++ when (has (first_codes starts g) c && may_be_one g) (first_codes starts g)
second_codes starts of c (made f g) = second_codes starts of c g
second_codes starts of c (placed g) = second_codes starts of c g
second_codes starts of c (nested o g) = second_codes starts of c g
second_codes starts of c end_name = []
second_codes starts of c (under called g h) = second_codes starts of c g ++ (when (has (first_codes starts g) c && may_be_one g) (first_codes starts h) ++ when (may_be_empty g) (second_codes starts of c h))
second_codes starts of c (unless test g h) = second_codes starts of c g ++ (when (has (first_codes starts g) c && may_be_one g) (first_codes starts h) ++ when (may_be_empty g) (second_codes starts of c h))
second_codes starts of c (symbol x) = of x

abbrev pub apart : List ℕ → List ℕ → Bool
apart [] ys = true
apart (x ∷ xs) ys = not (has ys x) && apart xs ys

-- the first list has all that the second has
abbrev pub covers : List ℕ → List ℕ → Bool
covers xs [] = true
covers xs (y ∷ ys) = has xs y && covers xs ys

-- one token of that code alone
abbrev pub is_only : {S : Type 0} {V : S → Type 0} {A : Type 0} → ℕ → Grammar S V A → Bool
is_only c (token codes) = has codes c && covers (c ∷ []) codes
is_only c (made f g) = is_only c g
is_only c (placed g) = is_only c g
is_only c _ = false

-- a token of that code, and then one of these
abbrev pub is_pair : {S : Type 0} {V : S → Type 0} {A : Type 0} → (S → List ℕ) → ℕ → List ℕ → Grammar S V A → Bool
is_pair starts c ds (seq g h) = is_only c g && (not (may_be_empty h) && (covers ds (first_codes starts h) && covers (first_codes starts h) ds))
is_pair starts c ds (made f g) = is_pair starts c ds g
is_pair starts c ds (placed g) = is_pair starts c ds g
is_pair starts c ds _ = false

abbrev pub no_codes : {S : Type 0} → S → List ℕ
no_codes x = []

-- What is known of each production without looking into it.
pub record Tables (S : Type 0) : Type 0 where
  -- the codes that its first token may have
  pub starts : S → List ℕ
  -- those of them that open no construct
  pub plains : S → List ℕ
  -- those that may make a spelling longer
  pub laters : S → List ℕ
  -- those that may come second behind a token of a special code
  pub seconds : ℕ → S → List ℕ
  pub specials : List ℕ
  -- a production leads only to lower ones before its first token
  pub rank : S → ℕ
  pub ranks : ℕ

-- The next token, or the next two where the grammar says so, tell each choice.
abbrev pub is_decided : {S : Type 0} {V : S → Type 0} {A : Type 0} → Tables S → Grammar S V A → Bool
is_decided k (empty a) = true
is_decided k (token codes) = true
is_decided k (seq g h) = is_decided k g && (is_decided k h && apart (later_codes k.starts k.laters g) (first_codes k.starts h))
is_decided k (either g h) = is_decided k g && (is_decided k h && (not (may_be_empty g) && apart (first_codes k.starts g) (first_codes k.starts h)))
is_decided k (either2 c ds g h) = is_decided k g && (is_decided k h && (is_pair k.starts c ds g && (has k.specials c && (has (entry_codes false k.plains h) c && apart ds (second_codes k.starts (k.seconds c) c h)))))
is_decided k (many g) = is_decided k g && (not (may_be_empty g) && apart (later_codes k.starts k.laters g) (first_codes k.starts g))
is_decided k (made f g) = is_decided k g
is_decided k (placed g) = is_decided k g && not (may_be_empty g)
is_decided k (nested o g) = is_decided k g && (not (may_be_empty g) && covers (entry_codes false no_codes g) (first_codes k.starts g))
is_decided k end_name = true
is_decided k (under called g h) = is_decided k g && (is_decided k h && apart (later_codes k.starts k.laters g) (first_codes k.starts h))
is_decided k (unless test g h) = is_decided k g && (is_decided k h && (not (may_be_empty g) && (not (may_be_empty h) && apart (later_codes k.starts k.laters g) (first_codes k.starts h))))
is_decided k (symbol x) = true

-- The productions that can be reached before the first token are lower than that.
abbrev pub is_below : {S : Type 0} {V : S → Type 0} {A : Type 0} → (S → ℕ) → ℕ → Grammar S V A → Bool
is_below rank r (empty a) = true
is_below rank r (token codes) = true
is_below rank r (seq g h) = is_below rank r g && (not (may_be_empty g) || is_below rank r h)
is_below rank r (either g h) = is_below rank r g && is_below rank r h
is_below rank r (either2 c ds g h) = is_below rank r g && is_below rank r h
is_below rank r (many g) = is_below rank r g
is_below rank r (made f g) = is_below rank r g
is_below rank r (placed g) = is_below rank r g
is_below rank r (nested o g) = is_below rank r g
is_below rank r end_name = true
is_below rank r (under called g h) = is_below rank r g && (not (may_be_empty g) || is_below rank r h)
is_below rank r (unless test g h) = is_below rank r g
is_below rank r (symbol x) = nat_lt (rank x) r

abbrev pub each_covers : (ℕ → Bool) → List ℕ → Bool
each_covers test [] = true
each_covers test (c ∷ cs) = test c && each_covers test cs

-- What the tables say of the productions is right.
pub record AreRight {S : Type 0} {V : S → Type 0} (k : Tables S) (rule : Productions S V) : Type 0 where
  -- the next token, or the next two where a choice says so, tell every choice
  pub decided : (x : S) → is_decided k (rule x) ≡ true
  -- what is spelled has a token
  pub some_token : (x : S) → may_be_empty (rule x) ≡ false
  -- `starts` are the codes of first tokens, all and only
  pub starts_all : (x : S) → covers (k.starts x) (first_codes k.starts (rule x)) ≡ true
  pub starts_only : (x : S) → covers (first_codes k.starts (rule x)) (k.starts x) ≡ true
  -- `plains` are among them, and open no construct
  pub plain_starts : (x : S) → covers (k.starts x) (k.plains x) ≡ true
  pub plains_only : (x : S) → covers (entry_codes false k.plains (rule x)) (k.plains x) ≡ true
  -- `laters` leave out no code that makes a spelling longer, `seconds` none that comes second behind a special one
  pub laters_all : (x : S) → covers (k.laters x) (later_codes k.starts k.laters (rule x)) ≡ true
  pub seconds_all : (x : S) → each_covers (λ c. covers (k.seconds c x) (second_codes k.starts (k.seconds c) c (rule x))) k.specials ≡ true
  -- what is reached before the first token has a lower rank, and all ranks are below their number
  pub below : (x : S) → is_below k.rank (k.rank x) (rule x) ≡ true
  pub ranked : (x : S) → k.rank x < k.ranks

-- ---- the limits that a fault asks to lift

-- any name for another name behind `end`, and one more construct and class for nesting that is too deep
abbrev pub lifted : Fault → Limits → Limits
lifted Misplaced l = l
lifted Misnamed (at_most constructs classes name) = at_most constructs classes any_name
lifted TooDeep (at_most constructs classes name) = at_most (suc constructs) (suc classes) name

-- Reading a production from left to right. As many productions are granted as can ever stand in one another.
unfoldable pub reads_as : {S : Type 0} {V : S → Type 0} → Tables S → Productions S V → Reader S V
reads_as k rule x l tokens = reads_within k.starts rule (length tokens * k.ranks + k.rank x + 1) x l tokens
