-- The quoted identifier at the front.
use Rattle.std.proofs.Common.{◌≡◌, ℕ, suc, ◌+◌, ◌<◌, inl, inr, Bool, true, false, List, [], ◌∷◌, ◌++◌, length, take, drop, get_or, ◌==◌, refl, sym, ap, ◌∙◌, arith, append_assoc, take-append-drop, length-take-le, length-append}
use Rattle.std.specs.List.{list_all}
use Rattle.std.proofs.lemmas.List.{take_more, drop_more, drop_all}
use Rattle.std.proofs.lemmas.Bool.Decides.{Decides-eqb}
use Rattle.std.proofs.lemmas.Bool.{cases_lt}
use Rattle.mo_syntax.specs.declared.token.TokenKind.TheVariants.{Ident}
use Rattle.mo_lexer.specs.Bytes.{is_letter, is_escaped, is_quotable, is_word_byte}
use Rattle.mo_lexer.specs.Spelling.{AreContents, nothing, plain, escape, is_word, Spells}
use Rattle.mo_lexer.proofs.Fronts.{both_hold, first_is, tail_is}
use Rattle.mo_report_lines.specs.steps.Reading.{begins_quoted, begins_escape, IsContentsEnd, Begins, BeginsOnly, BeginsNever}

-- what stands before the first stop is one text
pub same_contents : (s t a b : List ℕ) → AreContents is_quotable s → AreContents is_quotable t → s ++ a ≡ t ++ b → begins_quoted a ≡ false → begins_quoted b ≡ false → (s ≡ t) × (a ≡ b)
same_contents _ _ a b nothing nothing e h k = (refl, e)
same_contents _ _ [] b nothing (plain pass more) e h k = cc
same_contents _ _ (x ∷ a) b nothing (plain {b = y} pass more) e h k =
    let same : x ≡ y = cc in
    let on : is_quotable x ≡ true = rw same pass in
    let whole : begins_quoted (x ∷ a) ≡ true = rw on refl in cc
same_contents _ _ [] b nothing (escape slash letter more) e h k = cc
same_contents _ _ (x ∷ []) b nothing (escape slash letter more) e h k = cc
same_contents _ _ (x ∷ y ∷ a) b nothing (escape {s = s} {b = z} slash letter more) e h k =
    let first : x ≡ 92 = cc in
    let same : y ≡ z = cc in
    let on : is_escaped y ≡ true = rw same letter in
    let whole : begins_quoted (x ∷ y ∷ a) ≡ true = rw first (rw on refl) in cc
same_contents _ _ a [] (plain pass more) nothing e h k = cc
same_contents _ _ a (x ∷ b) (plain {b = y} pass more) nothing e h k =
    let same : x ≡ y = cc in
    let on : is_quotable x ≡ true = rw same pass in
    let whole : begins_quoted (x ∷ b) ≡ true = rw on refl in cc
same_contents _ _ a [] (escape slash letter more) nothing e h k = cc
same_contents _ _ a (x ∷ []) (escape slash letter more) nothing e h k = cc
same_contents _ _ a (x ∷ y ∷ b) (escape {s = s} {b = z} slash letter more) nothing e h k =
    let first : x ≡ 92 = cc in
    let same : y ≡ z = cc in
    let on : is_escaped y ≡ true = rw same letter in
    let whole : begins_quoted (x ∷ y ∷ b) ≡ true = rw first (rw on refl) in cc
same_contents _ _ a b (plain {b = x} {bs = s} pass more) (plain {b = y} {bs = t} pass' more') e h k =
    let heads : x ≡ y = cc in
    let tails : s ++ a ≡ t ++ b = cc in
    let rest = same_contents s t a b more more' tails h k in
    (rw (heads, rest.0) refl, rest.1)
same_contents _ _ a b (plain {b = x} pass more) (escape {s = y} slash letter more') e h k =
    let heads : x ≡ 92 = cc in
    let no : is_quotable x ≡ false = rw heads refl in cc
same_contents _ _ a b (escape {s = y} slash letter more) (plain {b = x} pass more') e h k =
    let heads : x ≡ 92 = cc in
    let no : is_quotable x ≡ false = rw heads refl in cc
same_contents _ _ a b (escape {s = s'} {b = x} {bs = s} slash letter more) (escape {s = t'} {b = y} {bs = t} slash' letter' more') e h k =
    let slashes : s' ≡ t' = cc in
    let heads : x ≡ y = cc in
    let tails : s ++ a ≡ t ++ b = cc in
    let rest = same_contents s t a b more more' tails h k in
    (rw (slashes, heads, rest.0) refl, rest.1)

contents_joined : (s t : List ℕ) → AreContents is_quotable s → AreContents is_quotable t → AreContents is_quotable (s ++ t)
contents_joined _ t nothing k = k
contents_joined _ t (plain {bs = s} pass more) k = plain pass (contents_joined s t more k)
contents_joined _ t (escape {bs = s} slash letter more) k = escape slash letter (contents_joined s t more k)

module _ (bytes : List ℕ) (n : ℕ) (so_far : AreContents is_quotable (take n bytes)) where
  pub contents_more : n < length bytes → is_quotable (get_or bytes n 0) ≡ true → AreContents is_quotable (take (n + 1) bytes)
  contents_more below pass = rw (take_more bytes n 0 below) (contents_joined _ _ so_far (plain pass nothing))

  pub contents_more_escape : n + 1 < length bytes → get_or bytes n 0 ≡ 92 → is_escaped (get_or bytes (n + 1) 0) ≡ true → AreContents is_quotable (take (n + 2) bytes)
  contents_more_escape below slash letter =
      let two : n + 2 ≡ n + 1 + 1 = omega arith in
      let here : n < length bytes = omega arith in
      let first = take_more bytes n 0 here in
      let second = take_more bytes (n + 1) 0 below in
      let joined = contents_joined _ _ so_far (escape {s = get_or bytes n 0} {b = get_or bytes (n + 1) 0} slash letter nothing) in
      rw (two, second, first) (rw (← append_assoc (take n bytes) (get_or bytes n 0 ∷ []) (get_or bytes (n + 1) 0 ∷ [])) at joined)

-- a quote ends it
quote_ends : (after : List ℕ) → begins_quoted (39 ∷ after) ≡ false
quote_ends after = refl

-- where the contents end nothing goes on
ends_there : (t : List ℕ) (n : ℕ) → IsContentsEnd t n → begins_quoted (drop n t) ≡ false
ends_there t n ends = elim (cases_lt n (length t)) [
  | inl below ↦ rw (drop_more t n 0 below) (go (get_or t n 0) (ends.stops below) (ends.unescaped below))
  | inr above ↦ rw (drop_all n t above) refl
]
  where
    go : (b : ℕ) → is_quotable b ≡ false → (b ≡ 92 → begins_escape (drop (n + 1) t) ≡ false) → begins_quoted (b ∷ drop (n + 1) t) ≡ false
    go b never escaped = check (b == 92) refl
      where
        check : (slash : Bool) → (b == 92) ≡ slash → begins_quoted (b ∷ drop (n + 1) t) ≡ false
        check true e = let is : b ≡ 92 = (Decides-eqb b 92).0 e in rw (never, e, escaped is) refl
        check false e = rw (never, e) refl

-- the body and what stands behind it
body_is : (t body other : List ℕ) (n : ℕ) → IsContentsEnd t n → AreContents is_quotable body → t ≡ body ++ 39 ∷ other → (take n t ≡ body) × (drop n t ≡ 39 ∷ other)
body_is t body other n ends contents e =
    same_contents (take n t) body (drop n t) (39 ∷ other) ends.contents contents (take-append-drop n t ∙ e) (ends_there t n ends) (quote_ends other)

letter_first : (w : List ℕ) → is_word w ≡ true → is_letter (get_or w 0 0) ≡ true
letter_first [] h = cc
letter_first (x ∷ w) h = (both_hold (is_letter x) (list_all is_word_byte w) h).0

word_has_letter : (t front other : List ℕ) → is_word front ≡ true → 39 ∷ t ≡ front ++ other → ⊥
word_has_letter t [] other h e = cc
word_has_letter t (x ∷ front) other h e =
    let first : 39 ≡ x = first_is 39 x t (front ++ other) e in
    let letter : is_letter x ≡ true = (both_hold (is_letter x) (list_all is_word_byte front) h).0 in
    let none : is_letter x ≡ false = ap is_letter (sym first) in cc

-- a quoted identifier before `other`, taken apart
record Quoted (t other : List ℕ) : Type 0 where
  body : List ℕ
  is : t ≡ body ++ 39 ∷ other
  contents : AreContents is_quotable body
  some : 0 < length body

quoted_parts : (t other : List ℕ) → Begins (Spells Ident) (39 ∷ t) other → Quoted t other
quoted_parts t other b = go b.front b.holds b.is
  where
    go : (front : List ℕ) → Spells Ident front → 39 ∷ t ≡ front ++ other → Quoted t other
    go front (inl w) e = absurd (word_has_letter t front other w.0 e)
    go front (inr q) e = record {
      body = q.body;
      is = tail_is 39 39 t (q.body ++ 39 ∷ other) (e ∙ ap (λ (x : List ℕ). x ++ other) q.is ∙ ap (λ (x : List ℕ). 39 ∷ x) (append_assoc q.body (39 ∷ []) other));
      contents = q.contents;
      some = q.some;
    }

module _ (t : List ℕ) (n : ℕ) (ends : IsContentsEnd t n) where
  pub only_quoted : 0 < n → n < length t → get_or t n 0 ≡ 39 → BeginsOnly (Spells Ident) is_word_byte (39 ∷ t) (drop (n + 1) t)
  only_quoted some below quote =
      let next : drop n t ≡ 39 ∷ drop (n + 1) t = drop_more t n 0 below ∙ ap (λ (x : ℕ). x ∷ drop (n + 1) t) quote in
      let whole : t ≡ take n t ++ 39 ∷ drop (n + 1) t = sym (take-append-drop n t) ∙ ap (λ (x : List ℕ). take n t ++ x) next in
      record {
        begins = record {
          front = 39 ∷ (take n t ++ 39 ∷ []);
          holds = inr (record { body = take n t; is = refl; contents = ends.contents; some = omega (arith, length-take-le n t ends.within) });
          is = ap (λ (x : List ℕ). 39 ∷ x) (whole ∙ sym (append_assoc (take n t) (39 ∷ []) (drop (n + 1) t)));
        };
        only = λ other stop b.
            let q = quoted_parts t other b in
            let same = body_is t q.body other n ends q.contents q.is in
            let tails : 39 ∷ other ≡ 39 ∷ drop (n + 1) t = sym same.1 ∙ next in
            tail_is 39 39 other (drop (n + 1) t) tails;
      }

  pub no_quoted : (0 < n → n < length t → get_or t n 0 ≡ 39 → ⊥) → BeginsNever (Spells Ident) is_word_byte (39 ∷ t)
  no_quoted none other stop b =
      let q = quoted_parts t other b in
      let same = body_is t q.body other n ends q.contents q.is in
      let size : length (take n t) ≡ n = length-take-le n t ends.within in
      let some : 0 < n = omega (arith, q.some, ap length same.0, size) in
      let bytes : length t ≡ length q.body + suc (length other) = ap length q.is ∙ length-append q.body (39 ∷ other) in
      let below : n < length t = omega (arith, bytes, ap length same.0, size) in
      let next : get_or t n 0 ∷ drop (n + 1) t ≡ 39 ∷ other = sym (drop_more t n 0 below) ∙ same.1 in
      none some below (first_is (get_or t n 0) 39 (drop (n + 1) t) other next)

-- ---- in the form of the code
front_quote : (text : List ℕ) → 0 < length text → get_or text 0 0 ≡ 39 → text ≡ 39 ∷ drop 1 text
front_quote [] some first = absurd (omega arith)
front_quote (b ∷ t) some first = ap (λ (x : ℕ). x ∷ t) first

pub quoted_at : (text : List ℕ) (n : ℕ) → 0 < length text → get_or text 0 0 ≡ 39 → IsContentsEnd (drop 1 text) n → 0 < n → n + 1 < length text → get_or text (n + 1) 0 ≡ 39
    → BeginsOnly (Spells Ident) is_word_byte text (drop (n + 2) text)
quoted_at [] n some first ends more below quote = absurd (omega arith)
quoted_at (b ∷ t) n some first ends more below quote =
    let one : n + 1 ≡ suc n = omega arith in
    let two : n + 2 ≡ suc (n + 1) = omega arith in
    let here : get_or t n 0 ≡ 39 = rw one at quote in
    rw (first, two) (only_quoted t n ends more (omega arith) here)

pub unquoted_at : (text : List ℕ) (n : ℕ) → 0 < length text → get_or text 0 0 ≡ 39 → IsContentsEnd (drop 1 text) n → (0 < n → n + 1 < length text → get_or text (n + 1) 0 ≡ 39 → ⊥)
    → BeginsNever (Spells Ident) is_word_byte text
unquoted_at [] n some first ends none = absurd (omega arith)
unquoted_at (b ∷ t) n some first ends none =
    let one : n + 1 ≡ suc n = omega arith in
    rw first (no_quoted t n ends (λ more below quote. none more (omega arith) (rw one quote)))
