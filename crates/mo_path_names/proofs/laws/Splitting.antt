-- Texts that are cut in one way: a run of bytes of a class up to a byte of another, and an identifier up to a dot or a bracket.
use Rattle.std.proofs.Common.{◌≡◌, ℕ, ◌<◌, ◌⊎◌, inl, inr, Bool, true, false, not, List, [], ◌∷◌, ◌++◌, length, Option, Some, None, is_some, IsTrue, refl, ap, sym, ◌∙◌, subst, arith, eqb-true}
use Rattle.std.specs.Prelude.{◌&&◌, ◌||◌, ◌==◌, if◌then◌else◌}
use Rattle.std.specs.List.{list_all}
use Rattle.mo_syntax.specs.declared.token.TokenKind.TheVariants.{Ident}
use Rattle.mo_tables.specs.Words.{code_in, keywords}
use Rattle.mo_lexer.specs.Bytes.{is_digit, is_escaped, is_letter, is_quotable, is_word_byte}
use Rattle.mo_lexer.specs.Spelling.{AreContents, IsQuoted, Spells, is_word, nothing, plain, escape}
use Rattle.mo_path_names.specs.Delimited.{IsDelimited, ends_name, is_mark, is_unmarked}
use Rattle.mo_path_names.specs.Identifiers.{is_closed, is_identifier, is_quoted}
use Rattle.mo_path_names.specs.Laws.{AreDelimited, TestsIdentifiers}
use Rattle.mo_path_names.proofs.laws.Testing.{both_pass, left_of, right_of}

-- ---- runs

-- no byte of the class stands in front
abbrev pub stops : (ℕ → Bool) → List ℕ → Bool
stops p [] = true
stops p (b ∷ others) = not (p b)

never : (b : Bool) → b ≡ true → not b ≡ true → ⊥
never true h k = cc
never false h k = cc

pub same_run : (p : ℕ → Bool) (a b r s : List ℕ) → IsTrue (list_all p a) → IsTrue (list_all p b) → IsTrue (stops p r) → IsTrue (stops p s) → a ++ r ≡ b ++ s → (a ≡ b) × (r ≡ s)
same_run p [] [] r s ha hb hr hs e = (refl, e)
same_run p [] (x ∷ b) r s ha hb hr hs e = absurd (never (p x) (left_of (p x) (list_all p b) hb) (subst (λ (t : List ℕ). IsTrue (stops p t)) e hr))
same_run p (x ∷ a) [] r s ha hb hr hs e = absurd (never (p x) (left_of (p x) (list_all p a) ha) (subst (λ (t : List ℕ). IsTrue (stops p t)) (sym e) hs))
same_run p (x ∷ a) (y ∷ b) r s ha hb hr hs e =
    let first : x ≡ y = cc in
    let rest : a ++ r ≡ b ++ s = cc in
    let both = same_run p a b r s (right_of (p x) (list_all p a) ha) (right_of (p y) (list_all p b) hb) hr hs rest in
    (ap (λ (n : ℕ). n ∷ a) first ∙ ap (λ (l : List ℕ). y ∷ l) both.0, both.1)

-- ---- names without marks

mark_stops : (p : ℕ → Bool) → ((b : ℕ) → is_mark b ≡ true → p b ≡ false) → (rest : List ℕ) → IsTrue (ends_name rest) → IsTrue (stops p rest)
mark_stops p none [] h = refl
mark_stops p none (b ∷ rest) h = rw (none b h) refl

unmarked_stops : (b : ℕ) → is_mark b ≡ true → not (is_mark b) ≡ false
unmarked_stops b h = rw h refl

unmarked_delimited : IsDelimited is_unmarked
unmarked_delimited = record {
  one = λ name other behind rest h k ends stop e.
      (same_run (λ b. not (is_mark b)) name other behind rest h k (mark_stops (λ b. not (is_mark b)) unmarked_stops behind ends) (mark_stops (λ b. not (is_mark b)) unmarked_stops rest stop) e).0;
}

-- ---- words

either_is : (a b : Bool) → (a || b) ≡ true → (a ≡ true) ⊎ (b ≡ true)
either_is true b h = inl refl
either_is false b h = inr h

no_word_byte : (b : ℕ) → is_mark b ≡ true → is_word_byte b ≡ false
no_word_byte b h = elim (either_is (b == 46) (b == 91) h) [
  | inl dot ↦ ap is_word_byte (eqb-true b 46 dot)
  | inr bracket ↦ ap is_word_byte (eqb-true b 91 bracket)
]

or_left : (a b : Bool) → a ≡ true → (a || b) ≡ true
or_left true b h = refl
or_left false b h = absurd cc

-- each byte of a word may follow in one
word_bytes : (text : List ℕ) → is_word text ≡ true → IsTrue (list_all is_word_byte text)
word_bytes [] h = absurd cc
word_bytes (b ∷ others) h =
    both_pass (is_word_byte b) (list_all is_word_byte others) (or_left (is_letter b) (is_digit b) (left_of (is_letter b) (list_all is_word_byte others) h))
    (right_of (is_letter b) (list_all is_word_byte others) h)

same_word : (a b r s : List ℕ) → is_word a ≡ true → is_word b ≡ true → IsTrue (ends_name r) → IsTrue (ends_name s) → a ++ r ≡ b ++ s → a ≡ b
same_word a b r s h k ends stop e = (same_run is_word_byte a b r s (word_bytes a h) (word_bytes b k) (mark_stops is_word_byte no_word_byte r ends) (mark_stops is_word_byte no_word_byte s stop) e).0

-- ---- characters in quotes

abbrev closed_by : Bool → ℕ → ℕ → List ℕ → Bool
closed_by backslash b next others = if backslash then is_escaped next && is_closed others else is_quotable b && is_closed (next ∷ others)

no_quotable_quote : (b : ℕ) → b ≡ 39 → is_quotable b ≡ true → ⊥
no_quotable_quote b is h = let none : is_quotable b ≡ false = ap is_quotable is in cc

-- a closing quote stands at no other place
no_more : (b next : ℕ) (others : List ℕ) → b ≡ 39 → is_closed (b ∷ next ∷ others) ≡ true → ⊥
no_more b next others is h = by (b == 92) refl h
  where
    by : (t : Bool) → (b == 92) ≡ t → closed_by t b next others ≡ true → ⊥
    by true backslash k = let clash : (39 == 92) ≡ true = ap (λ (n : ℕ). n == 92) (sym is) ∙ backslash in cc
    by false backslash k = no_quotable_quote b is (left_of (is_quotable b) (is_closed (next ∷ others)) k)

same_closed : (a b r s : List ℕ) → is_closed a ≡ true → is_closed b ≡ true → a ++ r ≡ b ++ s → a ≡ b
same_closed [] b r s h k e = absurd cc
same_closed (x ∷ a) [] r s h k e = absurd cc
same_closed (x ∷ []) (y ∷ []) r s h k e = let first : x ≡ y = cc in ap (λ (n : ℕ). n ∷ []) first
same_closed (x ∷ []) (y ∷ m ∷ b) r s h k e = let first : x ≡ y = cc in absurd (no_more y m b (sym first ∙ eqb-true x 39 h) k)
same_closed (x ∷ n ∷ a) (y ∷ []) r s h k e = let first : x ≡ y = cc in absurd (no_more x n a (first ∙ eqb-true y 39 k) h)
same_closed (x ∷ n ∷ a) (y ∷ m ∷ b) r s h k e =
    let first : x ≡ y = cc in
    let second : n ≡ m = cc in
    let rest : a ++ r ≡ b ++ s = cc in
    let more : n ∷ (a ++ r) ≡ m ∷ (b ++ s) = cc in
    by (x == 92) refl (ap (λ (t : ℕ). t == 92) (sym first)) first second h k
    (λ p q. same_closed a b r s p q rest) (λ p q. same_closed (n ∷ a) (m ∷ b) r s p q more)
  where
    by : (t : Bool) → (x == 92) ≡ t → (y == 92) ≡ (x == 92) → x ≡ y → n ≡ m → closed_by (x == 92) x n a ≡ true → closed_by (y == 92) y m b ≡ true →
        (is_closed a ≡ true → is_closed b ≡ true → a ≡ b) → (is_closed (n ∷ a) ≡ true → is_closed (m ∷ b) ≡ true → n ∷ a ≡ m ∷ b) → x ∷ n ∷ a ≡ y ∷ m ∷ b
    by true is same first second h k behind more =
        let p : (is_escaped n && is_closed a) ≡ true = subst (λ (t : Bool). closed_by t x n a ≡ true) is h in
        let q : (is_escaped m && is_closed b) ≡ true = subst (λ (t : Bool). closed_by t y m b ≡ true) (same ∙ is) k in
        let rest : a ≡ b = behind (right_of (is_escaped n) (is_closed a) p) (right_of (is_escaped m) (is_closed b) q) in
        ap (λ (t : ℕ). t ∷ n ∷ a) first ∙ ap (λ (t : ℕ). y ∷ t ∷ a) second ∙ ap (λ (l : List ℕ). y ∷ m ∷ l) rest
    by false is same first second h k behind more =
        let p : (is_quotable x && is_closed (n ∷ a)) ≡ true = subst (λ (t : Bool). closed_by t x n a ≡ true) is h in
        let q : (is_quotable y && is_closed (m ∷ b)) ≡ true = subst (λ (t : Bool). closed_by t y m b ≡ true) (same ∙ is) k in
        ap (λ (t : ℕ). t ∷ n ∷ a) first ∙ ap (λ (l : List ℕ). y ∷ l) (more (right_of (is_quotable x) (is_closed (n ∷ a)) p) (right_of (is_quotable y) (is_closed (m ∷ b)) q))

same_quoted : (a b r s : List ℕ) → is_quoted a ≡ true → is_quoted b ≡ true → a ++ r ≡ b ++ s → a ≡ b
same_quoted [] b r s h k e = absurd cc
same_quoted (x ∷ []) b r s h k e = absurd cc
same_quoted (x ∷ n ∷ a) [] r s h k e = absurd cc
same_quoted (x ∷ n ∷ a) (y ∷ []) r s h k e = absurd cc
same_quoted (x ∷ n ∷ a) (y ∷ m ∷ b) r s h k e =
    let first : x ≡ y = cc in
    let rest : (n ∷ a) ++ r ≡ (m ∷ b) ++ s = cc in
    let p : (not (n == 39) && is_closed (n ∷ a)) ≡ true = right_of (x == 39) (not (n == 39) && is_closed (n ∷ a)) h in
    let q : (not (m == 39) && is_closed (m ∷ b)) ≡ true = right_of (y == 39) (not (m == 39) && is_closed (m ∷ b)) k in
    ap (λ (t : ℕ). t ∷ n ∷ a) first
    ∙ ap (λ (l : List ℕ). y ∷ l) (same_closed (n ∷ a) (m ∷ b) r s (right_of (not (n == 39)) (is_closed (n ∷ a)) p) (right_of (not (m == 39)) (is_closed (m ∷ b)) q) rest)

-- a word does not begin with a quote
word_or_quoted : (a b r s : List ℕ) → is_word a ≡ true → is_quoted b ≡ true → a ++ r ≡ b ++ s → ⊥
word_or_quoted [] b r s h k e = cc
word_or_quoted (x ∷ a) [] r s h k e = cc
word_or_quoted (x ∷ a) (y ∷ []) r s h k e = cc
word_or_quoted (x ∷ a) (y ∷ m ∷ b) r s h k e =
    let first : x ≡ y = cc in
    let quote : y ≡ 39 = eqb-true y 39 (left_of (y == 39) (not (m == 39) && is_closed (m ∷ b)) k) in
    let letter : is_letter 39 ≡ true = ap is_letter (sym (first ∙ quote)) ∙ left_of (is_letter x) (list_all is_word_byte a) h in
    cc

-- ---- identifiers

-- a word that is not reserved, or characters in quotes
abbrev IsForm : List ℕ → Type 0
IsForm text = ((is_word text && not (is_some (code_in keywords text))) ≡ true) ⊎ (is_quoted text ≡ true)

form_of : (text : List ℕ) → IsTrue (is_identifier text) → IsForm text
form_of text h = either_is (is_word text && not (is_some (code_in keywords text))) (is_quoted text) h

word_of : (text : List ℕ) → (is_word text && not (is_some (code_in keywords text))) ≡ true → is_word text ≡ true
word_of text h = left_of (is_word text) (not (is_some (code_in keywords text))) h

identifiers_delimited : IsDelimited is_identifier
identifiers_delimited = record { one = λ name other behind rest h k ends stop e. by name other behind rest (form_of name h) (form_of other k) ends stop e }
  where
    by : (name other behind rest : List ℕ) → IsForm name → IsForm other → IsTrue (ends_name behind) → IsTrue (ends_name rest) → name ++ behind ≡ other ++ rest → name ≡ other
    by name other behind rest (inl h) (inl k) ends stop e = same_word name other behind rest (word_of name h) (word_of other k) ends stop e
    by name other behind rest (inl h) (inr k) ends stop e = absurd (word_or_quoted name other behind rest (word_of name h) k e)
    by name other behind rest (inr h) (inl k) ends stop e = absurd (word_or_quoted other name rest behind (word_of other k) h (sym e))
    by name other behind rest (inr h) (inr k) ends stop e = same_quoted name other behind rest h k e

pub are_delimited : AreDelimited
are_delimited = record {
  identifiers = identifiers_delimited;
  unmarked = unmarked_delimited;
  fewer = λ naming wider passes delimited.
      record { one = λ name other behind rest h k ends stop e. delimited.one name other behind rest (passes name h) (passes other k) ends stop e };
}

-- ---- spellings

no_code : {A : Type 0} (o : Option A) → not (is_some o) ≡ true → o ≡ None
no_code None h = refl
no_code (Some a) h = absurd cc

some_not : {A : Type 0} (o : Option A) → o ≡ None → not (is_some o) ≡ true
some_not o is = rw is refl

record Contents (text : List ℕ) : Type 0 where
  body : List ℕ
  is : text ≡ body ++ 39 ∷ []
  contents : AreContents is_quotable body

contents_of : (text : List ℕ) → is_closed text ≡ true → Contents text
contents_of [] h = absurd cc
contents_of (b ∷ []) h = record { body = []; is = ap (λ (n : ℕ). n ∷ []) (eqb-true b 39 h); contents = nothing }
contents_of (b ∷ next ∷ others) h = by (b == 92) refl h (contents_of others) (contents_of (next ∷ others))
  where
    by : (t : Bool) → (b == 92) ≡ t → closed_by t b next others ≡ true → (is_closed others ≡ true → Contents others) → (is_closed (next ∷ others) ≡ true → Contents (next ∷ others)) → Contents (b ∷ next ∷ others)
    by true is k behind more =
        let rest = behind (right_of (is_escaped next) (is_closed others) k) in
        record {
          body = b ∷ next ∷ rest.body;
          is = ap (λ (l : List ℕ). b ∷ next ∷ l) rest.is;
          contents = escape (eqb-true b 92 is) (left_of (is_escaped next) (is_closed others) k) rest.contents;
        }
    by false is k behind more =
        let rest = more (right_of (is_quotable b) (is_closed (next ∷ others)) k) in
        record { body = b ∷ rest.body; is = ap (λ (l : List ℕ). b ∷ l) rest.is; contents = plain (left_of (is_quotable b) (is_closed (next ∷ others)) k) rest.contents }

spelled_quoted : (text : List ℕ) → is_quoted text ≡ true → IsQuoted text
spelled_quoted [] h = absurd cc
spelled_quoted (a ∷ []) h = absurd cc
spelled_quoted (a ∷ b ∷ others) h =
    let quote : a ≡ 39 = eqb-true a 39 (left_of (a == 39) (not (b == 39) && is_closed (b ∷ others)) h) in
    let rest : (not (b == 39) && is_closed (b ∷ others)) ≡ true = right_of (a == 39) (not (b == 39) && is_closed (b ∷ others)) h in
    let inner = contents_of (b ∷ others) (right_of (not (b == 39)) (is_closed (b ∷ others)) rest) in
    record {
      body = inner.body;
      is = ap (λ (n : ℕ). n ∷ b ∷ others) quote ∙ ap (λ (l : List ℕ). 39 ∷ l) inner.is;
      contents = inner.contents;
      some = some inner.body inner.is (left_of (not (b == 39)) (is_closed (b ∷ others)) rest);
    }
  where
    some : (body : List ℕ) → b ∷ others ≡ body ++ 39 ∷ [] → not (b == 39) ≡ true → 0 < length body
    some [] is other = let first : b ≡ 39 = cc in absurd (never (39 == 39) refl (subst (λ (n : ℕ). not (n == 39) ≡ true) first other))
    some (x ∷ body) is other = omega arith

-- a character that needs no escape, in front of more
plain_closed : (b next : ℕ) (others : List ℕ) → is_quotable b ≡ true → is_closed (next ∷ others) ≡ true → is_closed (b ∷ next ∷ others) ≡ true
plain_closed b next others h k = by (b == 92) refl
  where
    by : (t : Bool) → (b == 92) ≡ t → closed_by t b next others ≡ true
    by true is = let none : is_quotable 92 ≡ true = ap is_quotable (sym (eqb-true b 92 is)) ∙ h in absurd cc
    by false is = both_pass (is_quotable b) (is_closed (next ∷ others)) h k

plain_in_front : (b : ℕ) (body : List ℕ) → is_quotable b ≡ true → is_closed (body ++ 39 ∷ []) ≡ true → is_closed (b ∷ (body ++ 39 ∷ [])) ≡ true
plain_in_front b [] h k = plain_closed b 39 [] h k
plain_in_front b (x ∷ body) h k = plain_closed b x (body ++ 39 ∷ []) h k

closed_contents : (body : List ℕ) → AreContents is_quotable body → is_closed (body ++ 39 ∷ []) ≡ true
closed_contents _ nothing = refl
closed_contents _ (plain {b} {bs} h contents) = plain_in_front b bs h (closed_contents bs contents)
closed_contents _ (escape {s} {b} {bs} is h contents) = rw is (both_pass (is_escaped b) (is_closed (bs ++ 39 ∷ [])) h (closed_contents bs contents))

passes_quoted : (text : List ℕ) → IsQuoted text → is_quoted text ≡ true
passes_quoted text q = rw q.is (by q.body q.contents q.some (closed_contents q.body q.contents))
  where
    first_is : (b : ℕ) → is_quotable b ≡ true → (t : Bool) → (b == 39) ≡ t → not t ≡ true
    first_is b h true is = absurd (no_quotable_quote b (eqb-true b 39 is) h)
    first_is b h false is = refl

    no_quote : (x : ℕ) (body : List ℕ) → AreContents is_quotable (x ∷ body) → not (x == 39) ≡ true
    no_quote x body (plain h contents) = first_is x h (x == 39) refl
    no_quote x _ (escape is h contents) = rw is refl

    by : (body : List ℕ) → AreContents is_quotable body → 0 < length body → is_closed (body ++ 39 ∷ []) ≡ true → is_quoted (39 ∷ (body ++ 39 ∷ [])) ≡ true
    by [] contents some closed = absurd (omega (arith, some))
    by (x ∷ body) contents some closed = both_pass (not (x == 39)) (is_closed (x ∷ (body ++ 39 ∷ []))) (no_quote x body contents) closed

or_right : (a b : Bool) → b ≡ true → (a || b) ≡ true
or_right true b h = refl
or_right false b h = h

pub tests_identifiers : (text : List ℕ) → TestsIdentifiers text
tests_identifiers text = record { spelled = λ h. spelled (form_of text h); passes = passes }
  where
    spelled : IsForm text → Spells Ident text
    spelled (inl h) = inl (word_of text h, no_code (code_in keywords text) (right_of (is_word text) (not (is_some (code_in keywords text))) h))
    spelled (inr h) = inr (spelled_quoted text h)

    passes : Spells Ident text → IsTrue (is_identifier text)
    passes (inl h) = or_left (is_word text && not (is_some (code_in keywords text))) (is_quoted text) (both_pass (is_word text) (not (is_some (code_in keywords text))) h.0 (some_not (code_in keywords text) h.1))
    passes (inr h) = or_right (is_word text && not (is_some (code_in keywords text))) (is_quoted text) (passes_quoted text h)
