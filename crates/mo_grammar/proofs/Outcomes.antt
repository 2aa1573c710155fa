-- What reading leaves, and how two readings in a row behave.
use Rattle.std.proofs.Common.{◌≡◌, ℕ, zero, suc, ◌+◌, ◌<◌, ◌≤◌, Bool, true, false, List, [], ◌∷◌, Option, Some, None, length, refl, if◌then◌else◌, le_refl, le_trans, zero-le, arith}
use Rattle.mo_grammar.specs.declared.fault.Fault.{Fault}
use Rattle.mo_grammar.specs.declared.fault.Fault.TheVariants.{Misplaced, Misnamed, TooDeep}
use Rattle.mo_syntax.specs.declared.place.Place.{Place}
use Rattle.mo_grammar.specs.Lexeme.{Lexeme, code_of}
use Rattle.mo_grammar.specs.Grammar.{Limits, left_inside, EndName, end_name_in, suits, renamed, Grammar, empty, token, seq, either, either2, many, made, placed, nested, end_name, under, unless, symbol, has, identifiers, first_passes}
use Rattle.mo_grammar.specs.Reading.{Outcome, read, stuck, unfinished, ◌>>=◌, Reader, first_codes, next_in, next_two, reads_token, reads_end, each_from, reads_inside, reads_by, place_of_first}

-- how many tokens are left
abbrev pub remaining : {A : Type 0} → Outcome A → ℕ
remaining (read a rest) = length rest
remaining (stuck fault rest) = length rest
remaining unfinished = 0

-- reading came to an end
abbrev pub Finished : {A : Type 0} → Outcome A → Type 0
Finished (read a rest) = Unit {0}
Finished (stuck fault rest) = Unit {0}
Finished unfinished = ⊥

pub bind_shrinks : {A B : Type 0} (o : Outcome A) (f : A × List Lexeme → Outcome B) → ((x : A × List Lexeme) → remaining (f x) ≤ length x.1) → remaining (o >>= f) ≤ remaining o
bind_shrinks (read a rest) f h = h (a, rest)
bind_shrinks (stuck fault rest) f h = le_refl (length rest)
bind_shrinks unfinished f h = le_refl 0

-- the last step of a reading, which only puts values together
pub kept : {A B : Type 0} (f : A → B) (o : Outcome A) → remaining (o >>= λ y. read (f y.0) y.1) ≡ remaining o
kept f (read a rest) = refl
kept f (stuck fault rest) = refl
kept f unfinished = refl

pub token_shrinks : (codes : List ℕ) (tokens : List Lexeme) → remaining (reads_token codes tokens) ≤ length tokens
token_shrinks codes [] = le_refl 0
token_shrinks codes (t ∷ tokens) = go (has codes (code_of t))
  where
    go : (b : Bool) → remaining (if b then read t tokens else stuck Misplaced (t ∷ tokens)) ≤ length (t ∷ tokens)
    go true = omega arith
    go false = omega arith

pub end_shrinks : (name : EndName) (tokens : List Lexeme) → remaining (reads_end name tokens) ≤ length tokens
end_shrinks name [] = le_refl 0
end_shrinks name (t ∷ tokens) = go (has identifiers (code_of t)) (suits name t)
  where
    go : (b d : Bool) → remaining (if b then (if d then read t tokens else stuck Misnamed (t ∷ tokens)) else stuck Misplaced (t ∷ tokens)) ≤ length (t ∷ tokens)
    go true true = omega arith
    go true false = omega arith
    go false d = omega arith

pub each_shrinks : {A : Type 0} (codes : List ℕ) (part : List Lexeme → Outcome A) → ((tokens : List Lexeme) → remaining (part tokens) ≤ length tokens) → (n : ℕ) (tokens : List Lexeme) → remaining (each_from codes part n tokens) ≤ length tokens
each_shrinks {A = A} codes part h zero tokens = go (next_in codes tokens)
  where
    go : (b : Bool) → remaining {A = List A} (if b then unfinished else read [] tokens) ≤ length tokens
    go true = zero-le
    go false = le_refl (length tokens)
each_shrinks {A = A} codes part h (suc n) tokens = go (λ tokens. each_shrinks codes part h n tokens) (next_in codes tokens)
  where
    go : ((tokens : List Lexeme) → remaining (each_from codes part n tokens) ≤ length tokens) → (b : Bool) → remaining (if b then (part tokens >>= λ x. each_from codes part n x.1 >>= λ y. read (x.0 ∷ y.0) y.1) else read [] tokens) ≤ length tokens
    go ih true = le_trans (bind_shrinks (part tokens) (λ x. each_from codes part n x.1 >>= λ y. read (x.0 ∷ y.0) y.1) (λ x. rw (kept {B = List A} (λ y. x.0 ∷ y) (each_from codes part n x.1)) (ih x.1))) (h tokens)
    go ih false = le_refl (length tokens)

pub if_shrinks : {A : Type 0} (b : Bool) (o p : Outcome A) (n : ℕ) → remaining o ≤ n → remaining p ≤ n → remaining (if b then o else p) ≤ n
if_shrinks true o p n h k = h
if_shrinks false o p n h k = k

pub inside_shrinks : {A : Type 0} (opens : Bool) (left : Option Limits) (part : Limits → Outcome A) (tokens : List Lexeme) → ((l : Limits) → remaining (part l) ≤ length tokens) → remaining (reads_inside opens left part tokens) ≤ length tokens
inside_shrinks opens (Some l) part tokens h = h l
inside_shrinks opens None part tokens h = le_refl (length tokens)

module _ {S : Type 0} {V : S → Type 0} where
  -- what follows the one of an `unless`
  abbrev pub unless_rest : {A B : Type 0} (st : S → List ℕ) (of : Reader S V) → (Lexeme → A → Bool) → Grammar S V B → Limits → List Lexeme → A × List Lexeme → Outcome (A × Option B)
  unless_rest st of test h l w x = if next_in (first_codes st h) x.1 then (reads_by st of h l x.1 >>= λ y. read (x.0, Some y.0) y.1) else (if first_passes test w x.0 then read (x.0, None) x.1 else stuck Misplaced x.1)

  unless_rest_shrinks : {A B : Type 0} (st : S → List ℕ) (of : Reader S V) (test : Lexeme → A → Bool) (h : Grammar S V B) (l : Limits) (w : List Lexeme) → ((w : List Lexeme) → remaining (reads_by st of h l w) ≤ length w) → (x : A × List Lexeme) → remaining (unless_rest st of test h l w x) ≤ length x.1
  unless_rest_shrinks {A = A} {B = B} st of test h l w k x =
      let other : Outcome (A × Option B) = (if first_passes test w x.0 then read (x.0, None) x.1 else stuck Misplaced x.1) in
      if_shrinks (next_in (first_codes st h) x.1) (reads_by st of h l x.1 >>= λ y. read (x.0, Some y.0) y.1) other (length x.1)
      (rw (kept {B = A × Option B} (λ y. (x.0, Some y)) (reads_by st of h l x.1)) (k x.1))
      (if_shrinks (first_passes test w x.0) (read (x.0, None) x.1) (stuck Misplaced x.1) (length x.1) (le_refl (length x.1)) (le_refl (length x.1)))

  pub shrinks : {A : Type 0} (st : S → List ℕ) (of : Reader S V) → ((x : S) (l : Limits) (tokens : List Lexeme) → remaining (of x l tokens) ≤ length tokens) → (g : Grammar S V A) (l : Limits) (tokens : List Lexeme) → remaining (reads_by st of g l tokens) ≤ length tokens
  shrinks st of k (empty a) l w = le_refl (length w)
  shrinks st of k (token codes) l w = token_shrinks codes w
  shrinks st of k (seq {A = A} {B = B} g h) l w = le_trans (bind_shrinks (reads_by st of g l w) (λ x. reads_by st of h l x.1 >>= λ y. read (x.0, y.0) y.1) (λ x. rw (kept {B = A × B} (λ y. (x.0, y)) (reads_by st of h l x.1)) (shrinks st of k h l x.1))) (shrinks st of k g l w)
  shrinks st of k (either g h) l w = if_shrinks (next_in (first_codes st g) w) (reads_by st of g l w) (reads_by st of h l w) (length w) (shrinks st of k g l w) (shrinks st of k h l w)
  shrinks st of k (either2 c ds g h) l w = if_shrinks (next_two c ds w) (reads_by st of g l w) (reads_by st of h l w) (length w) (shrinks st of k g l w) (shrinks st of k h l w)
  shrinks st of k (many g) l w = each_shrinks (first_codes st g) (reads_by st of g l) (λ w. shrinks st of k g l w) (length w) w
  shrinks st of k (made f g) l w = rw (kept f (reads_by st of g l w)) (shrinks st of k g l w)
  shrinks st of k (placed {A = A} g) l w = rw (kept {B = Place × A} (λ a. (place_of_first w, a)) (reads_by st of g l w)) (shrinks st of k g l w)
  shrinks st of k (nested o g) l w = inside_shrinks (next_in (first_codes st g) w) (left_inside o l) (λ inner. reads_by st of g inner w) w (λ inner. shrinks st of k g inner w)
  shrinks st of k end_name l w = end_shrinks (end_name_in l) w
  shrinks st of k (under {A = A} {B = B} called g h) l w = le_trans (bind_shrinks (reads_by st of g l w) (λ x. reads_by st of h (renamed (called x.0) l) x.1 >>= λ y. read (x.0, y.0) y.1) (λ x. rw (kept {B = A × B} (λ y. (x.0, y)) (reads_by st of h (renamed (called x.0) l) x.1)) (shrinks st of k h (renamed (called x.0) l) x.1))) (shrinks st of k g l w)
  shrinks st of k (unless test g h) l w =
      le_trans (bind_shrinks (reads_by st of g l w) (unless_rest st of test h l w)
      (λ x. unless_rest_shrinks st of test h l w (λ w. shrinks st of k h l w) x))
      (shrinks st of k g l w)
  shrinks st of k (symbol x) l w = k x l w

module _ {S : Type 0} {V : S → Type 0} where
  pub unless_shrinks : {A B : Type 0} (st : S → List ℕ) (of : Reader S V) → ((x : S) (l : Limits) (tokens : List Lexeme) → remaining (of x l tokens) ≤ length tokens) → (test : Lexeme → A → Bool) (h : Grammar S V B) (l : Limits) (w : List Lexeme) (x : A × List Lexeme) → remaining (unless_rest st of test h l w x) ≤ length x.1
  unless_shrinks st of k test h l w x = unless_rest_shrinks st of test h l w (λ w. shrinks st of k h l w) x

-- ---- the next token is taken, or it opens a construct past the limits

-- one more for a fault of the limits, where they may be met
abbrev pub slack : Bool → Fault → ℕ
slack inside Misplaced = 0
slack true Misnamed = 1
slack true TooDeep = 1
slack false Misnamed = 0
slack false TooDeep = 0

abbrev pub Into : {A : Type 0} → Bool → Outcome A → List Lexeme → Type 0
Into inside (read a rest) tokens = length rest < length tokens
Into inside (stuck fault rest) tokens = length rest < length tokens + slack inside fault
Into inside unfinished tokens = Unit {0}

pub less_is_into : {A : Type 0} (inside : Bool) (o : Outcome A) (tokens : List Lexeme) → remaining o < length tokens → Into inside o tokens
less_is_into inside (read a rest) tokens h = h
less_is_into inside (stuck fault rest) tokens h = omega arith
less_is_into inside unfinished tokens h = tt

pub bind_into : {A B : Type 0} (inside : Bool) (o : Outcome A) (f : A × List Lexeme → Outcome B) (tokens : List Lexeme) → Into inside o tokens → ((x : A × List Lexeme) → remaining (f x) ≤ length x.1) → Into inside (o >>= f) tokens
bind_into inside (read a rest) f tokens h k = less_is_into inside (f (a, rest)) tokens (let below : remaining (f (a, rest)) ≤ length rest = k (a, rest) in omega arith)
bind_into inside (stuck fault rest) f tokens h k = h
bind_into inside unfinished f tokens h k = tt

pub if_into : {A : Type 0} (inside b : Bool) (o p : Outcome A) (tokens : List Lexeme) → (b ≡ true → Into inside o tokens) → (b ≡ false → Into inside p tokens) → Into inside (if b then o else p) tokens
if_into inside true o p tokens h k = h refl
if_into inside false o p tokens h k = k refl
