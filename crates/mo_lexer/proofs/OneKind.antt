-- A text is the spelling of one kind of token at most, and no separator.
use Rattle.std.proofs.Common.{◌≡◌, ℕ, ◌<◌, inl, inr, Bool, true, false, ◌||◌, not, List, [], ◌∷◌, ◌++◌, length, Option, Some, None, if◌then◌else◌, eqb, refl, sym, ap, subst, ◌∙◌, arith}
use Rattle.std.specs.List.{list_all}
use Rattle.std.proofs.lemmas.Bool.Decides.{nat_tests}
use Rattle.mo_syntax.specs.declared.token.TokenKind.{TokenKind}
use Rattle.mo_syntax.specs.declared.token.TokenKind.TheVariants.{Ident, Keyword, Operator, Whole, Decimal, Str, End}
use Rattle.mo_tables.specs.Words.{code_in, keywords, operators}
use Rattle.mo_lexer.specs.Bytes.{is_blank, is_letter, is_digit, is_word_byte}
use Rattle.mo_lexer.specs.steps.Finding.{is_mark}
use Rattle.mo_lexer.specs.Spelling.{is_word, are_digits, IsDecimal, pointed, unpointed, Spells, IsComment, line, block, IsSeparator, blank, comment}
use Rattle.mo_lexer.proofs.Fronts.{first_is, both_hold, first_passes, all_back}
use Rattle.mo_lexer.proofs.Shapes.{Class, Blanks, Letters, Digits, SingleQuotes, DoubleQuotes, Marks, class, is_mark_text, operator_is_mark, mark_first, mark_second, digit_is_no_mark, class_letter, class_digit, class_mark, some_of_spelling, some_of_separator}

word_kind : Option ℕ → TokenKind
word_kind None = Ident
word_kind (Some code) = Keyword code

mark_kind : Option ℕ → TokenKind
mark_kind None = Decimal
mark_kind (Some code) = Operator code

-- the kind that a text of that class would have
kind_at : Class → List ℕ → TokenKind
kind_at Blanks text = End
kind_at Letters text = word_kind (code_in keywords text)
kind_at Digits text = if are_digits text then Whole else Decimal
kind_at SingleQuotes text = Ident
kind_at DoubleQuotes text = Str
kind_at Marks text = mark_kind (code_in operators text)

decimal_is_more : (text : List ℕ) → IsDecimal text → are_digits text ≡ true → ⊥
decimal_is_more text (pointed digits fraction exponent e ds fs some ex) h =
    let at_point = all_back is_digit digits (46 ∷ (fraction ++ exponent)) (rw e at h) in
    let point : is_digit 46 ≡ true = first_passes is_digit 46 (fraction ++ exponent) at_point in cc
decimal_is_more text (unpointed digits exponent e ds ex) h =
    let at_mark = all_back is_digit digits exponent (rw e at h) in
    let again : list_all is_digit (ex.mark ∷ (ex.sign ++ ex.digits)) ≡ true = rw ex.is at at_mark in
    letters_only ex.mark ex.is_mark (first_passes is_digit ex.mark (ex.sign ++ ex.digits) again)
  where
    letters_only : (b : ℕ) → (eqb b 101 || eqb b 69) ≡ true → is_digit b ≡ true → ⊥
    letters_only b h k = grind (arith, nat_tests)

not_true : (b : Bool) → (b ≡ true → ⊥) → b ≡ false
not_true true h = absurd (h refl)
not_true false h = refl

no_operator : (o : Option ℕ) → ((code : ℕ) → o ≡ Some code → ⊥) → mark_kind o ≡ Decimal
unfolding mark_kind
no_operator None h = refl
no_operator (Some code) h = absurd (h code refl)

-- a number that begins with its point is no operator
no_mark : (digits rest : List ℕ) → are_digits digits ≡ true → 0 < length digits → is_mark_text (46 ∷ (digits ++ rest)) ≡ true → ⊥
no_mark [] rest ds some h = omega arith
no_mark (d ∷ []) [] ds some h =
    let digit : is_digit d ≡ true = first_passes is_digit d [] ds in
    digit_is_no_mark d digit (mark_second 46 d [] h).3
no_mark (d ∷ []) (x ∷ rest) ds some h = cc
no_mark (d ∷ e ∷ digits) rest ds some h = cc

by_class : (kind : TokenKind) (c : Class) (b : ℕ) (t : List ℕ) → class b ≡ c → kind ≡ kind_at c (b ∷ t) → kind ≡ kind_at (class b) (b ∷ t)
by_class kind c b t e h = subst (λ c. kind ≡ kind_at c (b ∷ t)) (sym e) h

decimal_kind : (b : ℕ) (t : List ℕ) → IsDecimal (b ∷ t) → Decimal ≡ kind_at (class b) (b ∷ t)
unfolding kind_at
decimal_kind b t (pointed [] fraction exponent e ds fs some ex) =
    let point : b ≡ 46 = cc in
    let digits_after : 0 < length fraction = omega arith in
    by_class Decimal Marks b t (ap class point) (sym (no_operator _ (λ code is. no_mark fraction exponent fs digits_after (subst (λ text. is_mark_text text ≡ true) e (operator_is_mark (b ∷ t) code is)))))
decimal_kind b t (pointed (d ∷ digits) fraction exponent e ds fs some ex) =
    let same : b ≡ d = cc in
    let here : is_digit b ≡ true = rw same (both_hold _ _ ds).0 in
    let off : are_digits (b ∷ t) ≡ false = not_true _ (decimal_is_more (b ∷ t) (pointed (d ∷ digits) fraction exponent e ds fs some ex)) in
    by_class Decimal Digits b t (class_digit b here) (rw off refl)
decimal_kind b t (unpointed [] exponent e ds ex) = absurd (omega (arith, ds.some))
decimal_kind b t (unpointed (d ∷ digits) exponent e ds ex) =
    let same : b ≡ d = cc in
    let here : is_digit b ≡ true = rw same (both_hold _ _ ds.are_digits).0 in
    let off : are_digits (b ∷ t) ≡ false = not_true _ (decimal_is_more (b ∷ t) (unpointed (d ∷ digits) exponent e ds ex)) in
    by_class Decimal Digits b t (class_digit b here) (rw off refl)

kind_is : (kind : TokenKind) (b : ℕ) (t : List ℕ) → Spells kind (b ∷ t) → kind ≡ kind_at (class b) (b ∷ t)
unfolding kind_at word_kind mark_kind
kind_is Ident b t (inl word) =
    let none : code_in keywords (b ∷ t) ≡ None = word.1 in
    by_class Ident Letters b t (class_letter b (both_hold _ _ word.0).0) (rw none refl)
kind_is Ident b t (inr q) = by_class Ident SingleQuotes b t (ap class (first_is b 39 t _ q.is)) refl
kind_is (Keyword code) b t word =
    let some : code_in keywords (b ∷ t) ≡ Some code = word.1 in
    by_class (Keyword code) Letters b t (class_letter b (both_hold _ _ word.0).0) (rw some refl)
kind_is (Operator code) b t e = by_class (Operator code) Marks b t (class_mark b (mark_first b t (operator_is_mark (b ∷ t) code e)).1) (rw e refl)
kind_is Whole b t w =
    let on : are_digits (b ∷ t) ≡ true = w.are_digits in
    by_class Whole Digits b t (class_digit b (both_hold _ _ w.are_digits).0) (rw on refl)
kind_is Decimal b t d = decimal_kind b t d
kind_is Str b t s = by_class Str DoubleQuotes b t (ap class (first_is b 34 t _ s.is)) refl
kind_is End b t h = absurd h

word_letter : (b : ℕ) (t : List ℕ) → is_word (b ∷ t) ≡ true → is_letter b ≡ true
word_letter b t h = (both_hold (is_letter b) (list_all is_word_byte t) h).0

pub same_kind : (text : List ℕ) (kind other : TokenKind) → Spells kind text → Spells other text → kind ≡ other
same_kind [] kind other s t = absurd (omega (arith, some_of_spelling kind [] s))
same_kind (b ∷ text) kind other s t = kind_is kind b text s ∙ sym (kind_is other b text t)

-- a spelling begins in one of these ways
no_spelling : (kind : TokenKind) (b : ℕ) (t : List ℕ) → Spells kind (b ∷ t) → is_letter b ≡ false → is_digit b ≡ false → (b ≡ 39 → ⊥) → (b ≡ 34 → ⊥) → (b ≡ 46 → ⊥)
    → (is_mark_text (b ∷ t) ≡ true → ⊥) → ⊥
no_spelling Ident b t (inl word) l d s q p m = let h : is_letter b ≡ true = word_letter b t word.0 in cc
no_spelling Ident b t (inr quoted) l d s q p m = s (first_is b 39 t _ quoted.is)
no_spelling (Keyword code) b t word l d s q p m = let h : is_letter b ≡ true = word_letter b t word.0 in cc
no_spelling (Operator code) b t e l d s q p m = m (operator_is_mark (b ∷ t) code e)
no_spelling Whole b t w l d s q p m = let h : is_digit b ≡ true = first_passes is_digit b t w.are_digits in cc
no_spelling Decimal b t (pointed [] fraction exponent e ds fs some ex) l d s q p m = p (cc)
no_spelling Decimal b t (pointed (x ∷ digits) fraction exponent e ds fs some ex) l d s q p m = let h : is_digit x ≡ true = first_passes is_digit x digits ds in let same : b ≡ x = cc in cc
no_spelling Decimal b t (unpointed [] exponent e ds ex) l d s q p m = omega (arith, ds.some)
no_spelling Decimal b t (unpointed (x ∷ digits) exponent e ds ex) l d s q p m = let h : is_digit x ≡ true = first_passes is_digit x digits ds.are_digits in let same : b ≡ x = cc in cc
no_spelling Str b t string l d s q p m = q (first_is b 34 t _ string.is)
no_spelling End b t h l d s q p m = h

blank_mark : (b : ℕ) (t : List ℕ) → is_blank b ≡ true → is_mark_text (b ∷ t) ≡ true → ⊥
blank_mark b t h k =
    let is_first : is_mark b ≡ true = (mark_first b t k).1 in
    let clash : not (is_blank b) ≡ true = (both_hold (not (is_blank b)) _ is_first).0 in cc

pub slash_mark : (b c : ℕ) (t : List ℕ) → b ≡ 47 → is_mark_text (b ∷ c ∷ t) ≡ true → ⊥
slash_mark b c t e h =
    let off : eqb b 47 ≡ false = (mark_second b c t h).1 in
    let on : eqb b 47 ≡ true = rw e refl in cc

slash_is_no_token : (kind : TokenKind) (b c : ℕ) (t : List ℕ) → b ≡ 47 → Spells kind (b ∷ c ∷ t) → ⊥
slash_is_no_token kind b c t e s =
    let no_letter : is_letter b ≡ false = rw e refl in
    let no_digit : is_digit b ≡ false = rw e refl in
    no_spelling kind b (c ∷ t) s no_letter no_digit (λ x. omega arith) (λ x. omega arith) (λ x. omega arith) (slash_mark b c t e)

comment_is_no_token : (b : ℕ) (t : List ℕ) (kind : TokenKind) → IsComment (b ∷ t) → Spells kind (b ∷ t) → ⊥
comment_is_no_token b [] kind (line body e h) s = cc
comment_is_no_token b (c ∷ t) kind (line body e h) s = slash_is_no_token kind b c t (first_is b 47 _ _ e) s
comment_is_no_token b [] kind (block body e h) s = cc
comment_is_no_token b (c ∷ t) kind (block body e h) s = slash_is_no_token kind b c t (first_is b 47 _ _ e) s

pub separator_is_no_token : (text : List ℕ) (kind : TokenKind) → IsSeparator text → Spells kind text → ⊥
separator_is_no_token [] kind h s = omega (arith, some_of_separator [] h)
separator_is_no_token (b ∷ t) kind (comment c) s = comment_is_no_token b t kind c s
separator_is_no_token (c ∷ t) kind (blank b e h) s =
    no_spelling kind b [] (subst (Spells kind) e s) (grind (arith, nat_tests)) (grind (arith, nat_tests)) (λ x. grind (arith, nat_tests)) (λ x. grind (arith, nat_tests)) (λ x. grind (arith, nat_tests)) (blank_mark b [] h)
