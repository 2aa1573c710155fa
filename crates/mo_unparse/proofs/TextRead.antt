-- The text of pieces is read again as their tokens, places aside.
use Rattle.std.proofs.Common.{◌≡◌, ℕ, zero, suc, ◌<◌, inl, inr, Bool, true, false, List, [], ◌∷◌, ◌++◌, map, Option, Some, None, is_some, eqb, ltb, refl, sym, ap, subst, arith}
use mathlib.Core.Bool.{false≢true}
use Rattle.std.specs.Prelude.{codes}
use Rattle.std.specs.List.{list_all, repeat}
use Rattle.std.proofs.lemmas.Bool.Decides.{nat_tests}
use Rattle.std.proofs.lemmas.List.Elements.{All-head, All-tail}
use Rattle.mo_syntax.specs.Lexeme.{Lexeme}
use Rattle.mo_syntax.specs.declared.token.TokenKind.{TokenKind}
use Rattle.mo_syntax.specs.declared.token.TokenKind.TheVariants.{Ident, Keyword, Operator, Whole, Decimal, Str, End}
use Rattle.mo_tables.specs.Words.{code_in, operators}
use Rattle.mo_lexer.specs.Bytes.{is_blank, is_letter, is_digit, is_word_byte}
use Rattle.mo_lexer.specs.Spelling.{Spells, IsWithinLimit, blank}
use Rattle.mo_lexer.specs.Lexing.{Fits, Reads, stops, skips, takes, place_before, after_mark, end_of, Lexes}
use Rattle.mo_pieces.specs.declared.text.Ending.{Ending}
use Rattle.mo_pieces.specs.declared.text.Ending.TheVariants.{Closed, Word, Number, Mark}
use Rattle.mo_pieces.specs.Pieces.{Piece, a_name, a_word, a_mark, a_whole, a_decimal, a_string, a_blank, a_line, deeper, shallower, nowhere, placeless_token, tokens_of, IsToken, AreTokens}
use Rattle.mo_pieces.specs.Text.{joins, spaced, name_ending, mark_ending, depth_after, text_from, text_of}
use Rattle.mo_lexer.proofs.Fronts.{both_hold, first_passes, first_is}
use Rattle.mo_lexer.proofs.Shapes.{is_mark_text, operator_is_mark, mark_first, mark_second, NumberFirst, digit, point, decimal_first}
use Rattle.mo_unparse.proofs.TokenFits.{IsApart, mark_apart, some_of_decimal, blank_fits, name_fits, keyword_fits, mark_fits, whole_number_fits, decimal_number_fits, quoted_string_fits}

-- ---- what a text begins with
-- a blank joins nothing
no_operator_ends_blank : (a : ℕ) (o : Option ℕ) → code_in operators (a ∷ 32 ∷ []) ≡ o → is_some o ≡ false
no_operator_ends_blank a None e = refl
no_operator_ends_blank a (Some code) e = let clash = (mark_second a 32 [] (operator_is_mark (a ∷ 32 ∷ []) code e)).3 in absurd (false≢true clash)

blank_apart : (before : Ending) → joins before 32 ≡ false
blank_apart Closed = refl
blank_apart Word = refl
blank_apart Number = refl
blank_apart (Mark a) = mark_apart a 32 (no_operator_ends_blank a _ refl) refl refl

-- the first byte, if there is one, is below 128, as that of the byte order mark is not
abbrev IsLow : List ℕ → Type 0
IsLow [] = Unit {0}
IsLow (b ∷ after) = b < 128

-- what is put there does not join what is before it, and begins with a byte below 128
record Begins (before : Ending) (text : List ℕ) : Type 0 where
  apart : IsApart before text
  low : IsLow text

spaced_begins : (before : Ending) (b : ℕ) (t rest : List ℕ) → b < 128 → Begins before (spaced before (b ∷ t) ++ rest)
spaced_begins before b t rest low = go (joins before b) refl
  where
    go : (r : Bool) → joins before b ≡ r → Begins before (spaced before (b ∷ t) ++ rest)
    go true h = rw h record { apart = blank_apart before; low = omega arith }
    go false h = rw h record { apart = h; low = low }

letter_is_low : (b : ℕ) → is_letter b ≡ true → b < 128
letter_is_low b h = grind (arith, nat_tests)

digit_is_low : (b : ℕ) → is_digit b ≡ true → b < 128
digit_is_low b h = grind (arith, nat_tests)

decimal_is_low : (b : ℕ) (t : List ℕ) → NumberFirst b t → b < 128
decimal_is_low b t (digit h) = digit_is_low b h
decimal_is_low b t (point e c u f h) = omega arith

first_is_low : (kind : TokenKind) (b : ℕ) (t : List ℕ) → Spells kind (b ∷ t) → b < 128
first_is_low Ident b t (inl word) = letter_is_low b (both_hold (is_letter b) (list_all is_word_byte t) word.0).0
first_is_low Ident b t (inr q) = omega (arith, first_is b 39 t _ q.is)
first_is_low (Keyword code) b t word = letter_is_low b (both_hold (is_letter b) (list_all is_word_byte t) word.0).0
first_is_low (Operator code) b t is = let low : ltb b 128 ≡ true = (mark_first b t (operator_is_mark (b ∷ t) code is)).0 in grind (arith, nat_tests)
first_is_low Whole b t w = digit_is_low b (first_passes is_digit b t w.are_digits)
first_is_low Decimal b t d = decimal_is_low b t (decimal_first b t d)
first_is_low Str b t q = omega (arith, first_is b 34 t _ q.is)
first_is_low End b t h = absurd h

-- a token has a first byte
some_of_spelling : (kind : TokenKind) → Spells kind [] → ⊥
some_of_spelling Ident (inl word) = cc
some_of_spelling Ident (inr q) = let e = q.is in cc
some_of_spelling (Keyword code) word = cc
some_of_spelling (Operator code) is = let like : is_mark_text [] ≡ true = operator_is_mark [] code is in cc
some_of_spelling Whole w = omega (arith, w.some)
some_of_spelling Decimal d = some_of_decimal d
some_of_spelling Str q = let e = q.is in cc
some_of_spelling End h = h

token_begins : (before : Ending) (kind : TokenKind) (text rest : List ℕ) → Spells kind text → Begins before (spaced before text ++ rest)
token_begins before kind [] rest s = absurd (some_of_spelling kind s)
token_begins before kind (b ∷ t) rest s = spaced_begins before b t rest (first_is_low kind b t s)

-- the text of pieces begins so
text_begins : (before : Ending) (depth : ℕ) (ps : List Piece) → AreTokens (tokens_of ps) → Begins before (text_from before depth ps)
text_begins before depth [] h = record { apart = tt; low = tt }
text_begins before depth (a_name text ∷ ps) h = token_begins before Ident text _ (All-head IsToken _ _ h).0
text_begins before depth (a_word text ∷ ps) h = token_begins before (Keyword _) text _ (All-head IsToken _ _ h).0
text_begins before depth (a_mark text ∷ ps) h = token_begins before (Operator _) text _ (All-head IsToken _ _ h).0
text_begins before depth (a_whole text ∷ ps) h = token_begins before Whole text _ (All-head IsToken _ _ h).0
text_begins before depth (a_decimal text ∷ ps) h = token_begins before Decimal text _ (All-head IsToken _ _ h).0
text_begins before depth (a_string text ∷ ps) h = token_begins before Str text _ (All-head IsToken _ _ h).0
text_begins before depth (a_blank ∷ ps) h = spaced_begins before 32 [] _ (omega arith)
text_begins before depth (a_line ∷ ps) h = spaced_begins before 10 (repeat depth (codes "  ")) _ (omega arith)
text_begins before depth (deeper ∷ ps) h = text_begins before (depth_after depth deeper) ps h
text_begins before depth (shallower ∷ ps) h = text_begins before (depth_after depth shallower) ps h

-- a text that begins so has no byte order mark
unmarked : (text : List ℕ) → IsLow text → after_mark text ≡ text
unmarked [] low = refl
unmarked (a ∷ []) low = refl
unmarked (a ∷ b ∷ []) low = refl
unmarked (a ∷ b ∷ c ∷ rest) low =
    let other : eqb a 0xEF ≡ false = grind (arith, nat_tests) in
    rw other refl

-- ---- reading
-- a text is cut into these tokens, their places aside
abbrev IsReadAs : ℕ → List ℕ → List ℕ → List Lexeme → Type 0
IsReadAs file whole text tokens = (again : List Lexeme) × Reads file whole text again [] × (map placeless_token again ≡ tokens)

blank_read : (file : ℕ) (whole : List ℕ) (b : ℕ) (rest : List ℕ) (tokens : List Lexeme) → is_blank b ≡ true → IsReadAs file whole rest tokens → IsReadAs file whole (b ∷ rest) tokens
blank_read file whole b rest tokens h r = (r.0, skips (b ∷ []) rest refl (blank b refl h) (blank_fits b rest h) r.1, r.2)

blanks_read : (file : ℕ) (whole : List ℕ) (depth : ℕ) (rest : List ℕ) (tokens : List Lexeme) → IsReadAs file whole rest tokens → IsReadAs file whole (repeat depth (codes "  ") ++ rest) tokens
blanks_read file whole zero rest tokens r = r
blanks_read file whole (suc depth) rest tokens r =
    blank_read file whole 32 _ tokens refl (blank_read file whole 32 _ tokens refl (blanks_read file whole depth rest tokens r))

spaced_read : (file : ℕ) (whole : List ℕ) (before : Ending) (text rest : List ℕ) (tokens : List Lexeme) → IsReadAs file whole (text ++ rest) tokens → IsReadAs file whole (spaced before text ++ rest) tokens
spaced_read file whole before [] rest tokens r = r
spaced_read file whole before (b ∷ t) rest tokens r = go (joins before b) refl
  where
    go : (x : Bool) → joins before b ≡ x → IsReadAs file whole (spaced before (b ∷ t) ++ rest) tokens
    go true h = rw h (blank_read file whole 32 (b ∷ (t ++ rest)) tokens refl r)
    go false h = rw h r

token_read : (file : ℕ) (whole : List ℕ) (before : Ending) (kind : TokenKind) (text rest : List ℕ) (tokens : List Lexeme) → Spells kind text → IsWithinLimit kind text → Fits text rest → IsReadAs file whole rest tokens
    → IsReadAs file whole (spaced before text ++ rest) (record { kind = kind; text = text; place = nowhere } ∷ tokens)
token_read file whole before kind text rest tokens spells within fits r =
    let token : Lexeme = record { kind = kind; text = text; place = place_before file whole (text ++ rest) } in
    spaced_read file whole before text rest _ (token ∷ r.0, takes rest refl spells fits within refl r.1, ap (λ ts. placeless_token token ∷ ts) r.2)

pieces_read : (file : ℕ) (whole : List ℕ) (before : Ending) (depth : ℕ) (ps : List Piece) → AreTokens (tokens_of ps) → IsReadAs file whole (text_from before depth ps) (tokens_of ps)
pieces_read file whole before depth [] h = ([], stops refl, refl)
pieces_read file whole before depth (a_name text ∷ ps) h =
    let t = All-head IsToken _ _ h in
    let more = All-tail IsToken _ _ h in
    token_read file whole before Ident text _ (tokens_of ps) t.0 t.1 (name_fits text _ t.0 (text_begins (name_ending text) depth ps more).apart) (pieces_read file whole (name_ending text) depth ps more)
pieces_read file whole before depth (a_word text ∷ ps) h =
    let t = All-head IsToken _ _ h in
    let more = All-tail IsToken _ _ h in
    token_read file whole before (Keyword _) text _ (tokens_of ps) t.0 t.1 (keyword_fits _ text _ t.0 (text_begins Word depth ps more).apart) (pieces_read file whole Word depth ps more)
pieces_read file whole before depth (a_mark text ∷ ps) h =
    let t = All-head IsToken _ _ h in
    let more = All-tail IsToken _ _ h in
    token_read file whole before (Operator _) text _ (tokens_of ps) t.0 t.1 (mark_fits _ text _ t.0 (text_begins (mark_ending text) depth ps more).apart) (pieces_read file whole (mark_ending text) depth ps more)
pieces_read file whole before depth (a_whole text ∷ ps) h =
    let t = All-head IsToken _ _ h in
    let more = All-tail IsToken _ _ h in
    token_read file whole before Whole text _ (tokens_of ps) t.0 t.1 (whole_number_fits text _ t.0 (text_begins Number depth ps more).apart) (pieces_read file whole Number depth ps more)
pieces_read file whole before depth (a_decimal text ∷ ps) h =
    let t = All-head IsToken _ _ h in
    let more = All-tail IsToken _ _ h in
    token_read file whole before Decimal text _ (tokens_of ps) t.0 t.1 (decimal_number_fits text _ t.0 (text_begins Number depth ps more).apart) (pieces_read file whole Number depth ps more)
pieces_read file whole before depth (a_string text ∷ ps) h =
    let t = All-head IsToken _ _ h in
    let more = All-tail IsToken _ _ h in
    token_read file whole before Str text _ (tokens_of ps) t.0 t.1 (quoted_string_fits text _ t.0) (pieces_read file whole Closed depth ps more)
pieces_read file whole before depth (a_blank ∷ ps) h =
    spaced_read file whole before (32 ∷ []) _ (tokens_of ps) (blank_read file whole 32 _ (tokens_of ps) refl (pieces_read file whole Closed depth ps h))
pieces_read file whole before depth (a_line ∷ ps) h =
    spaced_read file whole before (10 ∷ repeat depth (codes "  ")) _ (tokens_of ps) (blank_read file whole 10 _ (tokens_of ps) refl (blanks_read file whole depth _ (tokens_of ps) (pieces_read file whole Closed depth ps h)))
pieces_read file whole before depth (deeper ∷ ps) h = pieces_read file whole before (depth_after depth deeper) ps h
pieces_read file whole before depth (shallower ∷ ps) h = pieces_read file whole before (depth_after depth shallower) ps h

-- The lexer's tokens of the text are those of the pieces, places aside.
pub text_is_read : (file : ℕ) (ps : List Piece) → AreTokens (tokens_of ps)
    → (again : List Lexeme) × Lexes file (text_of ps) (again ++ end_of file (text_of ps) ∷ []) × (map placeless_token again ≡ tokens_of ps)
text_is_read file ps h =
    let text = text_of ps in
    let r = pieces_read file text Closed 0 ps h in
    let whole : after_mark text ≡ text = unmarked text (text_begins Closed 0 ps h).low in
    (r.0, record { before_end = r.0; all = subst (λ t. Reads file text t r.0 []) (sym whole) r.1; closed = refl }, r.2)
