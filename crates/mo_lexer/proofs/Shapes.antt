-- What the first byte of a piece says of the piece.
use Rattle.std.proofs.Common.{◌≡◌, ℕ, ◌+◌, ◌<◌, inl, inr, Bool, true, false, ◌&&◌, not, List, [], ◌∷◌, ◌++◌, length, Some, if◌then◌else◌, eqb, ltb, refl, sym, ap, subst, ◌∙◌, arith}
use mathlib.Core.Bool.{false≢true}
use Rattle.std.specs.List.{list_all, position_from}
use Rattle.std.specs.Str.{bytes_eq}
use Rattle.std.proofs.lemmas.Bool.Decides.{nat_tests}
use Rattle.std.proofs.lemmas.Slice.Eq.{bytes_eq-Decides}
use Rattle.mo_syntax.specs.declared.token.TokenKind.{TokenKind}
use Rattle.mo_syntax.specs.declared.token.TokenKind.TheVariants.{Ident, Keyword, Operator, Whole, Decimal, Str, End}
use Rattle.mo_tables.specs.Words.{code_in, operators}
use Rattle.mo_lexer.specs.Bytes.{is_blank, is_letter, is_digit, is_word_byte}
use Rattle.mo_lexer.specs.Spelling.{is_word, IsQuoted, IsString, IsWhole, IsDecimal, pointed, unpointed, Spells, IsComment, line, block, IsSeparator, blank, comment}
use Rattle.mo_lexer.specs.steps.Finding.{is_mark}
use Rattle.mo_lexer.specs.Lexing.{IsPiece}
use Rattle.mo_lexer.proofs.Fronts.{both_hold, first_is, tail_is, first_passes}

-- the classes of first bytes
pub data Class : Type 0 where
  Blanks : Class
  Letters : Class
  Digits : Class
  SingleQuotes : Class
  DoubleQuotes : Class
  Marks : Class

abbrev pub class : ℕ → Class
class b = if is_blank b then Blanks else if is_letter b then Letters else if is_digit b then Digits else if eqb b 39 then SingleQuotes else if eqb b 34 then DoubleQuotes else Marks

-- what each operator is like: one ASCII mark, or two of which the first is no `/`
abbrev pub is_mark_text : List ℕ → Bool
is_mark_text [] = false
is_mark_text (b ∷ []) = ltb b 128 && is_mark b
is_mark_text (b ∷ c ∷ []) = (ltb b 128 && is_mark b) && (not (eqb b 47) && (ltb c 128 && is_mark c))
is_mark_text (b ∷ c ∷ d ∷ t) = false

marks : list_all is_mark_text operators ≡ true
unfolding operators
marks = refl

-- a word of a table is like all words of the table
pub among : (test : List ℕ → Bool) (text : List ℕ) (words : List (List ℕ)) (i code : ℕ) → position_from (λ word. bytes_eq word text) i words ≡ Some code → list_all test words ≡ true → test text ≡ true
among test text [] i code e h = cc
among test text (word ∷ words) i code e h = go (λ later. among test text words (i + 1) code later (both_hold _ _ h).1) (bytes_eq word text) refl
  where
    go : (position_from (λ word. bytes_eq word text) (i + 1) words ≡ Some code → test text ≡ true) → (r : Bool) → bytes_eq word text ≡ r → test text ≡ true
    go later true same = subst (λ t. test t ≡ true) ((bytes_eq-Decides word text).0 same) (both_hold _ _ h).0
    go later false other = later (rw other at e)

pub operator_is_mark : (text : List ℕ) (code : ℕ) → code_in operators text ≡ Some code → is_mark_text text ≡ true
operator_is_mark text code e = among is_mark_text text operators 0 code e marks

pub mark_first : (b : ℕ) (t : List ℕ) → is_mark_text (b ∷ t) ≡ true → (ltb b 128 ≡ true) × (is_mark b ≡ true)
mark_first b [] h = both_hold _ _ h
mark_first b (c ∷ []) h = both_hold _ _ (both_hold _ _ h).0
mark_first b (c ∷ d ∷ t) h = cc

is_off : (a : Bool) → not a ≡ true → a ≡ false
is_off true h = cc
is_off false h = refl

-- what a second byte says: it is the last, no comment begins so, and it is an ASCII mark
pub mark_second : (b c : ℕ) (t : List ℕ) → is_mark_text (b ∷ c ∷ t) ≡ true → (t ≡ []) × (eqb b 47 ≡ false) × (ltb c 128 ≡ true) × (is_mark c ≡ true)
mark_second b c [] h =
    let second = both_hold (not (eqb b 47)) (ltb c 128 && is_mark c) (both_hold (ltb b 128 && is_mark b) _ h).1 in
    let last = both_hold (ltb c 128) (is_mark c) second.1 in
    (refl, is_off _ second.0, last.0, last.1)
mark_second b c (d ∷ t) h = cc

pub digit_is_no_mark : (b : ℕ) → is_digit b ≡ true → is_mark b ≡ true → ⊥
digit_is_no_mark b h k =
    let no_digit : is_digit b ≡ false = is_off (is_digit b) (both_hold _ _ (both_hold _ _ (both_hold _ _ k).1).1).0 in
    false≢true (sym no_digit ∙ h)

pub class_letter : (b : ℕ) → is_letter b ≡ true → class b ≡ Letters
class_letter b h =
    let other : is_blank b ≡ false = grind (arith, nat_tests) in
    rw (other, h) refl

pub class_digit : (b : ℕ) → is_digit b ≡ true → class b ≡ Digits
class_digit b h =
    let other : is_blank b ≡ false = grind (arith, nat_tests) in
    let no_letter : is_letter b ≡ false = grind (arith, nat_tests) in
    rw (other, no_letter, h) refl

pub class_mark : (b : ℕ) → is_mark b ≡ true → class b ≡ Marks
class_mark b h =
    let p = both_hold _ _ h in
    let q = both_hold _ _ p.1 in
    let r = both_hold _ _ q.1 in
    let s = both_hold _ _ r.1 in
    let no_blank : is_blank b ≡ false = is_off _ p.0 in
    let no_letter : is_letter b ≡ false = is_off _ q.0 in
    let no_digit : is_digit b ≡ false = is_off _ r.0 in
    let no_single : eqb b 39 ≡ false = is_off _ s.0 in
    let no_double : eqb b 34 ≡ false = is_off _ s.1 in
    rw (no_blank, no_letter, no_digit, no_single, no_double) refl

-- a spelling of a number
pub data IsNumber (text : List ℕ) : Type 0 where
  whole : IsWhole text → IsNumber text
  decimal : IsDecimal text → IsNumber text

-- an operator, a number that begins with its point, or a comment
pub data IsMarked (b : ℕ) (t : List ℕ) : Type 0 where
  operator : (code : ℕ) → code_in operators (b ∷ t) ≡ Some code → IsMarked b t
  number : b ≡ 46 → IsDecimal (b ∷ t) → IsMarked b t
  remark : IsComment (b ∷ t) → IsMarked b t

abbrev pub ShapeAt : Class → ℕ → List ℕ → Type 0
ShapeAt Blanks b t = t ≡ []
ShapeAt Letters b t = list_all is_word_byte t ≡ true
ShapeAt Digits b t = IsNumber (b ∷ t)
ShapeAt SingleQuotes b t = IsQuoted (b ∷ t)
ShapeAt DoubleQuotes b t = IsString (b ∷ t)
ShapeAt Marks b t = IsMarked b t

at_class : (c : Class) (b : ℕ) (t : List ℕ) → class b ≡ c → ShapeAt c b t → ShapeAt (class b) b t
at_class c b t e h = subst (λ c. ShapeAt c b t) (sym e) h

at_byte : (n : ℕ) (b : ℕ) (t : List ℕ) → b ≡ n → ShapeAt (class n) b t → ShapeAt (class b) b t
at_byte n b t e h = at_class (class n) b t (ap class e) h

comment_shape : (b : ℕ) (t : List ℕ) → IsComment (b ∷ t) → ShapeAt (class b) b t
comment_shape b t (line body e h) = at_byte 47 b t (cc) (remark (line body e h))
comment_shape b t (block body e h) = at_byte 47 b t (cc) (remark (block body e h))

separator_shape : (b : ℕ) (t : List ℕ) → IsSeparator (b ∷ t) → ShapeAt (class b) b t
separator_shape b t (blank x e h) =
    let same : b ≡ x = cc in
    let here : is_blank b ≡ true = rw same h in
    at_class Blanks b t (rw here refl) (cc)
separator_shape b t (comment c) = comment_shape b t c

word_shape : (b : ℕ) (t : List ℕ) → is_word (b ∷ t) ≡ true → ShapeAt (class b) b t
word_shape b t h = at_class Letters b t (class_letter b (both_hold _ _ h).0) (both_hold _ _ h).1

whole_shape : (b : ℕ) (t : List ℕ) → IsWhole (b ∷ t) → ShapeAt (class b) b t
whole_shape b t w = at_class Digits b t (class_digit b (both_hold _ _ w.are_digits).0) (whole w)

-- what the first byte of a decimal number is
pub data NumberFirst (b : ℕ) (t : List ℕ) : Type 0 where
  digit : is_digit b ≡ true → NumberFirst b t
  point : b ≡ 46 → (c : ℕ) (u : List ℕ) → t ≡ c ∷ u → is_digit c ≡ true → NumberFirst b t

pub decimal_first : (b : ℕ) (t : List ℕ) → IsDecimal (b ∷ t) → NumberFirst b t
decimal_first b t (pointed [] [] exponent e ds fs some ex) = absurd (omega arith)
decimal_first b t (pointed [] (c ∷ fraction) exponent e ds fs some ex) = point (first_is b 46 t _ e) c (fraction ++ exponent) (tail_is b 46 t _ e) (first_passes is_digit c fraction fs)
decimal_first b t (pointed (d ∷ digits) fraction exponent e ds fs some ex) =
    let same : b ≡ d = first_is b d t _ e in
    digit (rw same (first_passes is_digit d digits ds))
decimal_first b t (unpointed [] exponent e w ex) = absurd (omega (arith, w.some))
decimal_first b t (unpointed (d ∷ digits) exponent e w ex) =
    let same : b ≡ d = first_is b d t _ e in
    digit (rw same (first_passes is_digit d digits w.are_digits))

decimal_shape : (b : ℕ) (t : List ℕ) → IsDecimal (b ∷ t) → ShapeAt (class b) b t
decimal_shape b t d = go (decimal_first b t d)
  where
    go : NumberFirst b t → ShapeAt (class b) b t
    go (digit h) = at_class Digits b t (class_digit b h) (decimal d)
    go (point e c u f h) = at_byte 46 b t e (number e d)

spelling_shape : (kind : TokenKind) (b : ℕ) (t : List ℕ) → Spells kind (b ∷ t) → ShapeAt (class b) b t
spelling_shape Ident b t (inl word) = word_shape b t word.0
spelling_shape Ident b t (inr q) = at_byte 39 b t (let e = q.is in cc) q
spelling_shape (Keyword code) b t word = word_shape b t word.0
spelling_shape (Operator code) b t e =
    at_class Marks b t (class_mark b (mark_first b t (operator_is_mark (b ∷ t) code e)).1) (operator code e)
spelling_shape Whole b t w = whole_shape b t w
spelling_shape Decimal b t d = decimal_shape b t d
spelling_shape Str b t s = at_byte 34 b t (let e = s.is in cc) s
spelling_shape End b t h = absurd h

-- the shape of a piece, by its first byte
pub shape : (b : ℕ) (t : List ℕ) → IsPiece (b ∷ t) → ShapeAt (class b) b t
shape b t (inl separator) = separator_shape b t separator
shape b t (inr (kind, spelling)) = spelling_shape kind b t spelling

pub shape_as : (c : Class) (b : ℕ) (t : List ℕ) → class b ≡ c → IsPiece (b ∷ t) → ShapeAt c b t
shape_as c b t e h = subst (λ c. ShapeAt c b t) e (shape b t h)

-- a piece has a first byte
pub some_of_separator : (text : List ℕ) → IsSeparator text → 0 < length text
some_of_separator [] (blank x e h) = cc
some_of_separator [] (comment (line body e h)) = cc
some_of_separator [] (comment (block body e h)) = cc
some_of_separator (b ∷ t) h = omega arith

pub some_of_spelling : (kind : TokenKind) (text : List ℕ) → Spells kind text → 0 < length text
some_of_spelling kind (b ∷ t) h = omega arith
some_of_spelling Ident [] (inl word) = cc
some_of_spelling Ident [] (inr q) = let e = q.is in cc
some_of_spelling (Keyword code) [] word = cc
some_of_spelling (Operator code) [] e = let h = operator_is_mark [] code e in cc
some_of_spelling Whole [] w = absurd (omega (arith, w.some))
some_of_spelling Decimal [] (pointed [] fraction exponent e ds fs some ex) = cc
some_of_spelling Decimal [] (pointed (d ∷ digits) fraction exponent e ds fs some ex) = cc
some_of_spelling Decimal [] (unpointed [] exponent e ds ex) = absurd (omega (arith, ds.some))
some_of_spelling Decimal [] (unpointed (d ∷ digits) exponent e ds ex) = cc
some_of_spelling Str [] s = let e = s.is in cc
some_of_spelling End [] h = absurd h

pub some_of_piece : (text : List ℕ) → IsPiece text → 0 < length text
some_of_piece text (inl separator) = some_of_separator text separator
some_of_piece text (inr (kind, spelling)) = some_of_spelling kind text spelling
