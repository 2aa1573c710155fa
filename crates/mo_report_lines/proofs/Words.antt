-- The identifier at the front, in letters and digits.
use Rattle.std.proofs.Common.{◌≡◌, ℕ, suc, ◌<◌, inl, inr, true, false, List, [], ◌∷◌, ◌++◌, ◌==◌, ◌-◌, length, take, drop, get_or, None, Some, Option, refl, sym, ap, ◌∙◌, arith}
use Rattle.std.specs.List.{list_all, prefix_len}
use Rattle.std.proofs.lemmas.Bool.Decides.{Decides-eqb}
use Rattle.std.proofs.lemmas.List.{take-append-drop, take_rest}
use Rattle.mo_syntax.specs.declared.token.TokenKind.TheVariants.{Ident}
use Rattle.mo_tables.specs.Words.{code_in, keywords}
use Rattle.mo_lexer.specs.Bytes.{is_letter, is_word_byte}
use Rattle.mo_lexer.specs.Spelling.{is_word, IsQuoted, Spells}
use Rattle.mo_lexer.proofs.Fronts.{both, both_hold, run_passes}
use Rattle.mo_report_lines.specs.steps.Reading.{stops, BeginsOnly, BeginsNever}
use Rattle.mo_report_lines.proofs.Runs.{front_is}

letter_goes_on : (b : ℕ) → is_letter b ≡ true → is_word_byte b ≡ true
letter_goes_on b h = rw h refl

pub word_bytes : (t : List ℕ) → is_word t ≡ true → list_all is_word_byte t ≡ true
word_bytes [] h = refl
word_bytes (b ∷ t) h = both (is_word_byte b) (list_all is_word_byte t) (letter_goes_on b (both_hold (is_letter b) (list_all is_word_byte t) h).0) (both_hold (is_letter b) (list_all is_word_byte t) h).1

pub word_of_run : (text : List ℕ) → is_letter (get_or text 0 0) ≡ true → 0 < length text → is_word (take (prefix_len is_word_byte text) text) ≡ true
word_of_run [] h some = absurd (omega arith)
word_of_run (b ∷ t) h some =
    let go_on : is_word_byte b ≡ true = letter_goes_on b h in
    let step : prefix_len is_word_byte (b ∷ t) ≡ suc (prefix_len is_word_byte t) = rw go_on (omega arith) in
    rw step (both (is_letter b) (list_all is_word_byte (take (prefix_len is_word_byte t) t)) h (run_passes is_word_byte t))

quote_is_no_letter : is_letter 39 ≡ true → ⊥
quote_is_no_letter h = cc

-- a quoted identifier does not begin with a letter
no_quote : (text front other : List ℕ) → is_letter (get_or text 0 0) ≡ true → IsQuoted front → text ≡ front ++ other → ⊥
no_quote text front other h q e =
    let first : get_or text 0 0 ≡ 39 = let whole = q.is in rw (e, whole) refl in
    quote_is_no_letter (rw first at h)

pub front_word : (text front other : List ℕ) → is_letter (get_or text 0 0) ≡ true → stops is_word_byte other ≡ true → Spells Ident front → text ≡ front ++ other
    → (code_in keywords front ≡ None) × (front ≡ take (prefix_len is_word_byte text) text) × (other ≡ drop (prefix_len is_word_byte text) text)
front_word text front other h ends (inl w) e = let same = front_is is_word_byte text front other (word_bytes front w.0) ends e in (w.1, same.0, same.1)
front_word text front other h ends (inr q) e = absurd (no_quote text front other h q e)

pub only_word : (text : List ℕ) → 0 < length text → is_letter (get_or text 0 0) ≡ true → code_in keywords (take (prefix_len is_word_byte text) text) ≡ None
    → BeginsOnly (Spells Ident) is_word_byte text (drop (prefix_len is_word_byte text) text)
only_word text some h none = record {
  begins = record {
    front = take (prefix_len is_word_byte text) text;
    holds = inl (word_of_run text h some, none);
    is = sym (take-append-drop (prefix_len is_word_byte text) text);
  };
  only = λ other ends b. (front_word text b.front other h ends b.holds b.is).2;
}

some_is_not_none : (r : Option ℕ) (x : ℕ) → r ≡ Some x → r ≡ None → ⊥
some_is_not_none r x e f = cc

pub no_word : (text : List ℕ) (code : ℕ) → is_letter (get_or text 0 0) ≡ true → code_in keywords (take (prefix_len is_word_byte text) text) ≡ Some code → BeginsNever (Spells Ident) is_word_byte text
no_word text code h found other ends b =
    let w = front_word text b.front other h ends b.holds b.is in
    some_is_not_none (code_in keywords b.front) code (ap (code_in keywords) w.1 ∙ found) w.0

-- neither a letter nor a quote stands at the front
pub no_front : (text : List ℕ) → is_letter (get_or text 0 0) ≡ false → (get_or text 0 0 ≡ 39 → ⊥) → BeginsNever (Spells Ident) is_word_byte text
no_front text h apart other ends b = go b.front b.holds b.is
  where
    go : (front : List ℕ) → Spells Ident front → text ≡ front ++ other → ⊥
    go [] (inl w) e = cc
    go (x ∷ front) (inl w) e =
        let letter : is_letter x ≡ true = (both_hold (is_letter x) (list_all is_word_byte front) w.0).0 in
        let first : get_or text 0 0 ≡ x = rw e refl in
        let no : is_letter x ≡ false = rw first at h in cc
    go front (inr q) e = apart (let whole = q.is in rw (e, whole) refl)

-- ---- in the form of the code
pub word_at : (text : List ℕ) (len : ℕ) → 0 < length text → is_letter (get_or text 0 0) ≡ true → len ≡ prefix_len is_word_byte text → code_in keywords (take len text) ≡ None
    → BeginsOnly (Spells Ident) is_word_byte text (take (length text - len) (drop len text))
word_at text len some h e none = rw (take_rest text len) (rw e (only_word text some h (rw e at none)))

pub reserved_at : (text : List ℕ) (len code : ℕ) → is_letter (get_or text 0 0) ≡ true → len ≡ prefix_len is_word_byte text → code_in keywords (take len text) ≡ Some code → BeginsNever (Spells Ident) is_word_byte text
reserved_at text len code h e found = no_word text code h (rw e at found)

pub nothing_at : (text : List ℕ) → (length text == 0) ≡ true → BeginsNever (Spells Ident) is_word_byte text
nothing_at [] e = no_front [] refl (λ e. cc)
nothing_at (b ∷ text) e = absurd (omega (arith, (Decides-eqb (length (b ∷ text)) 0).0 e))
