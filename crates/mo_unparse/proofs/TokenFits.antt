-- A token is the longest piece at the front of a text where what follows does not join it.
use Rattle.std.proofs.Common.{◌≡◌, ℕ, ◌<◌, ◌⊎◌, inl, inr, Bool, true, false, ◌&&◌, ◌||◌, List, [], ◌∷◌, ◌++◌, length, is_some, eqb, Some, refl, sym, ap, subst, ◌∙◌, arith, append_assoc}
use mathlib.Core.Bool.{false≢true}
use Rattle.std.specs.List.{list_all}
use Rattle.std.proofs.lemmas.Bool.Decides.{nat_tests}
use Rattle.mo_tables.specs.Words.{code_in, operators}
use Rattle.mo_lexer.specs.Bytes.{is_blank, is_letter, is_digit, is_word_byte, is_quotable, is_string_byte}
use Rattle.mo_syntax.specs.declared.token.TokenKind.TheVariants.{Ident, Keyword, Operator}
use Rattle.mo_lexer.specs.Spelling.{is_word, AreContents, nothing, plain, escape, IsQuoted, IsString, IsWhole, IsDecimal, pointed, unpointed, Spells, IsComment, line, block}
use Rattle.mo_lexer.specs.Lexing.{IsPiece, opens_block, Fits}
use Rattle.mo_pieces.specs.declared.text.Ending.{Ending}
use Rattle.mo_pieces.specs.declared.text.Ending.TheVariants.{Word, Number, Mark}
use Rattle.mo_pieces.specs.Text.{joins, name_ending, mark_ending}
use Rattle.mo_lexer.proofs.Fronts.{both_hold, first_passes, all_back, first_is, tail_is}
use Rattle.mo_lexer.proofs.Shapes.{is_mark_text, operator_is_mark, mark_first, mark_second, digit_is_no_mark, Class, Blanks, Letters, Digits, SingleQuotes, DoubleQuotes, Marks, class, class_letter, class_digit, class_mark, IsNumber, whole, decimal, IsMarked, operator, number, remark, ShapeAt, shape_as, NumberFirst, digit, point, decimal_first}
use Rattle.mo_unparse.proofs.NumberEnds.{number_goes_on}

-- what follows does not join
abbrev pub IsApart : Ending → List ℕ → Type 0
IsApart before [] = Unit {0}
IsApart before (b ∷ after) = joins before b ≡ false

apart_at : (before : Ending) (rest : List ℕ) (x : ℕ) (after : List ℕ) → IsApart before rest → rest ≡ x ∷ after → joins before x ≡ false
apart_at before rest x after apart e = let h : IsApart before (x ∷ after) = subst (IsApart before) e apart in h

-- ---- what follows, by the shapes of pieces
opens_with_slash : (b : ℕ) (t : List ℕ) → opens_block (b ∷ t) ≡ true → b ≡ 47
opens_with_slash b [] h = cc
opens_with_slash b (x ∷ t) h = grind (arith, nat_tests)

fits_where : (c : Class) (b : ℕ) (t rest : List ℕ) → class b ≡ c → ((x : ℕ) (more after : List ℕ) → rest ≡ x ∷ (more ++ after) → ShapeAt c b (t ++ x ∷ more) → ⊥)
    → (opens_block (b ∷ (t ++ rest)) ≡ true → IsComment (b ∷ t)) → Fits (b ∷ t) rest
fits_where c b t rest e none remark' = record { longest = longest; comment = remark' }
  where
    longest : (more after : List ℕ) → rest ≡ more ++ after → 0 < length more → IsPiece (b ∷ (t ++ more)) → ⊥
    longest [] after f some p = omega arith
    longest (x ∷ more) after f some p = none x more after f (shape_as c b (t ++ x ∷ more) e p)

pub blank_fits : (b : ℕ) (rest : List ℕ) → is_blank b ≡ true → Fits (b ∷ []) rest
blank_fits b rest h =
    let blanks : class b ≡ Blanks = rw h refl in
    fits_where Blanks b [] rest blanks (λ x more after e shape. cc) (λ opens. absurd (grind (arith, nat_tests, opens_with_slash b rest opens)))

pub word_fits : (b : ℕ) (t rest : List ℕ) → is_word (b ∷ t) ≡ true → IsApart Word rest → Fits (b ∷ t) rest
word_fits b t rest h apart =
    let letter : is_letter b ≡ true = (both_hold (is_letter b) (list_all is_word_byte t) h).0 in
    fits_where Letters b t rest (class_letter b letter)
    (λ x more after e shape. false≢true (sym (apart_at Word rest x (more ++ after) apart e) ∙ first_passes is_word_byte x more (all_back is_word_byte t (x ∷ more) shape)))
    (λ opens. absurd (grind (arith, nat_tests, opens_with_slash b (t ++ rest) opens)))

-- ---- text in quotes
-- contents end at the first byte that may not stand in them
closed : (p : ℕ → Bool) (q : ℕ) → p q ≡ false → p 92 ≡ false → (q ≡ 92 → ⊥) → (s t more : List ℕ) → AreContents p s → AreContents p t → s ++ q ∷ more ≡ t ++ q ∷ [] → more ≡ []
closed p q off slash apart _ _ more nothing nothing e = cc
closed p q off slash apart _ _ more nothing (plain {b = y} pass rest) e =
    let same : q ≡ y = cc in
    let on : p q ≡ true = rw same pass in cc
closed p q off slash apart _ _ more nothing (escape {s = s} is letter rest) e = absurd (apart (cc))
closed p q off slash apart _ _ more (plain {b = x} pass rest) nothing e =
    let same : x ≡ q = cc in
    let on : p q ≡ true = rw (← same) pass in cc
closed p q off slash apart _ _ more (escape {s = s} is letter rest) nothing e = absurd (apart (cc))
closed p q off slash apart _ _ more (plain {b = x} {bs = s} pass rest) (plain {b = y} {bs = t} pass' rest') e =
    closed p q off slash apart s t more rest rest' (tail_is x y (s ++ q ∷ more) (t ++ q ∷ []) e)
closed p q off slash apart _ _ more (plain {b = x} pass rest) (escape {s = y} is letter rest') e =
    let same : x ≡ 92 = cc in
    let on : p 92 ≡ true = rw (← same) pass in cc
closed p q off slash apart _ _ more (escape {s = y} is letter rest) (plain {b = x} pass rest') e =
    let same : x ≡ 92 = cc in
    let on : p 92 ≡ true = rw (← same) pass in cc
closed p q off slash apart _ _ more (escape {s = c} {b = x} {bs = s} is letter rest) (escape {s = d} {b = y} {bs = t} is' letter' rest') e =
    let tails : s ++ q ∷ more ≡ t ++ q ∷ [] = cc in
    closed p q off slash apart s t more rest rest' tails

pub quoted_fits : (b : ℕ) (t rest : List ℕ) → IsQuoted (b ∷ t) → Fits (b ∷ t) rest
quoted_fits b t rest q =
    let first : b ≡ 39 = first_is b 39 t _ q.is in
    let quotes : class b ≡ SingleQuotes = rw first refl in
    fits_where SingleQuotes b t rest quotes (λ x more after e shape. closed_before x more shape) (λ opens. absurd (omega (arith, opens_with_slash b (t ++ rest) opens)))
  where
    closed_before : (x : ℕ) (more : List ℕ) → IsQuoted (b ∷ (t ++ x ∷ more)) → ⊥
    closed_before x more r =
        let body : t ≡ q.body ++ 39 ∷ [] = tail_is b 39 t _ q.is in
        let bodies : q.body ++ 39 ∷ x ∷ more ≡ r.body ++ 39 ∷ [] =
        sym (append_assoc q.body (39 ∷ []) (x ∷ more)) ∙ sym (ap (λ s. s ++ x ∷ more) body) ∙ tail_is b 39 (t ++ x ∷ more) _ r.is in
        let none : x ∷ more ≡ [] = closed is_quotable 39 refl refl (λ e. cc) q.body r.body (x ∷ more) q.contents r.contents bodies in cc

pub string_fits : (b : ℕ) (t rest : List ℕ) → IsString (b ∷ t) → Fits (b ∷ t) rest
string_fits b t rest q =
    let first : b ≡ 34 = first_is b 34 t _ q.is in
    let quotes : class b ≡ DoubleQuotes = rw first refl in
    fits_where DoubleQuotes b t rest quotes (λ x more after e shape. closed_before x more shape) (λ opens. absurd (omega (arith, opens_with_slash b (t ++ rest) opens)))
  where
    closed_before : (x : ℕ) (more : List ℕ) → IsString (b ∷ (t ++ x ∷ more)) → ⊥
    closed_before x more r =
        let body : t ≡ q.body ++ 34 ∷ [] = tail_is b 34 t _ q.is in
        let bodies : q.body ++ 34 ∷ x ∷ more ≡ r.body ++ 34 ∷ [] =
        sym (append_assoc q.body (34 ∷ []) (x ∷ more)) ∙ sym (ap (λ s. s ++ x ∷ more) body) ∙ tail_is b 34 (t ++ x ∷ more) _ r.is in
        let none : x ∷ more ≡ [] = closed is_string_byte 34 refl refl (λ e. cc) q.body r.body (x ∷ more) q.contents r.contents bodies in cc

-- ---- numbers
not_joined : (t rest : List ℕ) (b x : ℕ) (more after : List ℕ) → IsApart Number rest → rest ≡ x ∷ (more ++ after) → IsNumber (b ∷ t) → IsNumber (b ∷ (t ++ x ∷ more)) → ⊥
not_joined t rest b x more after apart e n m = false≢true (sym (apart_at Number rest x (more ++ after) apart e) ∙ number_goes_on (b ∷ t) x more n m)

number_at_digit : (b : ℕ) (t rest : List ℕ) → is_digit b ≡ true → IsNumber (b ∷ t) → IsApart Number rest → Fits (b ∷ t) rest
number_at_digit b t rest h n apart =
    fits_where Digits b t rest (class_digit b h) (λ x more after e shape. not_joined t rest b x more after apart e n shape)
    (λ opens. absurd (grind (arith, nat_tests, opens_with_slash b (t ++ rest) opens)))

-- more than a point and a digit is no operator
no_operator : (b c : ℕ) (u : List ℕ) (x : ℕ) (more : List ℕ) → is_digit c ≡ true → (code : ℕ) → code_in operators (b ∷ c ∷ (u ++ x ∷ more)) ≡ Some code → ⊥
no_operator b c u x more h code is = digit_is_no_mark c h (mark_second b c (u ++ x ∷ more) (operator_is_mark _ code is)).3

not_slash : (b : ℕ) (t s : List ℕ) → b ≡ 46 → b ∷ t ≡ 47 ∷ s → ⊥
not_slash b t s e f = let slash : b ≡ 47 = first_is b 47 t s f in omega arith

number_at_point : (b c : ℕ) (u rest : List ℕ) → b ≡ 46 → is_digit c ≡ true → IsDecimal (b ∷ c ∷ u) → IsApart Number rest → Fits (b ∷ c ∷ u) rest
number_at_point b c u rest first h d apart =
    fits_where Marks b (c ∷ u) rest (ap class first) (λ x more after e shape. not_marked x more after e shape)
    (λ opens. absurd (omega (arith, opens_with_slash b ((c ∷ u) ++ rest) opens)))
  where
    not_marked : (x : ℕ) (more after : List ℕ) → rest ≡ x ∷ (more ++ after) → IsMarked b (c ∷ (u ++ x ∷ more)) → ⊥
    not_marked x more after e (operator code is) = no_operator b c u x more h code is
    not_marked x more after e (number at d') = not_joined (c ∷ u) rest b x more after apart e (decimal d) (decimal d')
    not_marked x more after e (remark (line body is pass)) = not_slash b _ _ first is
    not_marked x more after e (remark (block body is never)) = not_slash b _ _ first is

pub whole_fits : (b : ℕ) (t rest : List ℕ) → IsWhole (b ∷ t) → IsApart Number rest → Fits (b ∷ t) rest
whole_fits b t rest w apart = number_at_digit b t rest (first_passes is_digit b t w.are_digits) (whole w) apart

pub decimal_fits : (b : ℕ) (t rest : List ℕ) → IsDecimal (b ∷ t) → IsApart Number rest → Fits (b ∷ t) rest
decimal_fits b t rest d apart = go (decimal_first b t d)
  where
    go : NumberFirst b t → Fits (b ∷ t) rest
    go (digit h) = number_at_digit b t rest h (decimal d) apart
    go (point e c u f h) =
        subst (λ t. Fits (b ∷ t) rest) (sym f) (number_at_point b c u rest e h (subst (λ t. IsDecimal (b ∷ t)) f d) apart)

-- ---- operators
or_right : (p q : Bool) → q ≡ true → (p || q) ≡ true
or_right true q h = refl
or_right false q h = h

or_left : (p q : Bool) → p ≡ true → (p || q) ≡ true
or_left true q h = refl
or_left false q h = cc

joins_operator : (a x code : ℕ) → code_in operators (a ∷ x ∷ []) ≡ Some code → joins (Mark a) x ≡ true
joins_operator a x code is = rw is refl

joins_slash : (a x : ℕ) → a ≡ 47 → (x ≡ 47) ⊎ (x ≡ 42) → joins (Mark a) x ≡ true
joins_slash a x e f = or_left _ _ (or_right _ _ (second f))
  where
    second : (x ≡ 47) ⊎ (x ≡ 42) → ((eqb a 47) && ((eqb x 47) || (eqb x 42))) ≡ true
    second (inl g) = rw (e, g) refl
    second (inr g) = rw (e, g) refl

joins_digit : (a x : ℕ) → a ≡ 46 → is_digit x ≡ true → joins (Mark a) x ≡ true
joins_digit a x e h =
    let number : (eqb a 46 && is_digit x) ≡ true = rw (e, h) refl in
    or_right _ (eqb a 46 && is_digit x) number

-- what neither ends an operator nor a comment's mark, and is no digit, joins no mark
pub mark_apart : (a x : ℕ) → is_some (code_in operators (a ∷ x ∷ [])) ≡ false → (eqb x 47 || eqb x 42) ≡ false → is_digit x ≡ false → joins (Mark a) x ≡ false
mark_apart a x none no_comment no_digit = rw (none, no_comment, no_digit) (no_more (eqb a 47) (eqb a 46))
  where
    no_more : (p q : Bool) → ((p && false) || (q && false)) ≡ false
    no_more true true = refl
    no_more true false = refl
    no_more false true = refl
    no_more false false = refl

-- what is more than a mark joins it
module _ (a x : ℕ) (more : List ℕ) where
  mark_joined : IsMarked a (x ∷ more) → joins (Mark a) x ≡ true
  mark_joined (operator code is) =
      let none : more ≡ [] = (mark_second a x more (operator_is_mark _ code is)).0 in
      joins_operator a x code (subst (λ more. code_in operators (a ∷ x ∷ more) ≡ Some code) none is)
  mark_joined (number e d) = go (decimal_first a (x ∷ more) d)
    where
      go : NumberFirst a (x ∷ more) → joins (Mark a) x ≡ true
      go (digit h) = absurd (grind (arith, nat_tests))
      go (point f c u g h) = let same : x ≡ c = cc in joins_digit a x e (rw same h)
  mark_joined (remark (line body is pass)) =
      joins_slash a x (first_is a 47 _ _ is) (inl (first_is x 47 more _ (tail_is a 47 _ _ is)))
  mark_joined (remark (block body is never)) =
      joins_slash a x (first_is a 47 _ _ is) (inr (first_is x 42 more _ (tail_is a 47 _ _ is)))

opens_with_star : (a x : ℕ) (after : List ℕ) → opens_block (a ∷ x ∷ after) ≡ true → x ≡ 42
opens_with_star a x after h = grind (arith, nat_tests)

one_fits : (a code : ℕ) (rest : List ℕ) → code_in operators (a ∷ []) ≡ Some code → IsApart (Mark a) rest → Fits (a ∷ []) rest
one_fits a code rest is apart =
    fits_where Marks a [] rest (class_mark a (mark_first a [] (operator_is_mark _ code is)).1)
    (λ x more after e shape. false≢true (sym (apart_at (Mark a) rest x (more ++ after) apart e) ∙ mark_joined a x more shape))
    (λ opens. absurd (unopened rest apart opens))
  where
    unopened : (rest : List ℕ) → IsApart (Mark a) rest → opens_block (a ∷ rest) ≡ true → ⊥
    unopened [] apart opens = cc
    unopened (x ∷ after) apart opens =
        false≢true (sym apart ∙ joins_slash a x (opens_with_slash a (x ∷ after) opens) (inr (opens_with_star a x after opens)))

two_fits : (a b code : ℕ) (rest : List ℕ) → code_in operators (a ∷ b ∷ []) ≡ Some code → Fits (a ∷ b ∷ []) rest
two_fits a b code rest is =
    fits_where Marks a (b ∷ []) rest (class_mark a (mark_first a (b ∷ []) like).1)
    (λ x more after e shape. not_marked x more shape)
    (λ opens. absurd (no_slash (opens_with_slash a (b ∷ rest) opens)))
  where
    like : is_mark_text (a ∷ b ∷ []) ≡ true
    like = operator_is_mark (a ∷ b ∷ []) code is

    no_slash : a ≡ 47 → ⊥
    no_slash e = let off : eqb a 47 ≡ false = (mark_second a b [] like).1 in grind (arith, nat_tests)

    not_marked : (x : ℕ) (more : List ℕ) → IsMarked a (b ∷ x ∷ more) → ⊥
    not_marked x more (operator code' is') = let none : x ∷ more ≡ [] = (mark_second a b (x ∷ more) (operator_is_mark _ code' is')).0 in cc
    not_marked x more (number e d) = go (decimal_first a (b ∷ x ∷ more) d)
      where
        go : NumberFirst a (b ∷ x ∷ more) → ⊥
        go (digit h) = grind (arith, nat_tests)
        go (point f c u g h) =
            let same : b ≡ c = cc in
            digit_is_no_mark b (rw same h) (mark_second a b [] like).3
    not_marked x more (remark (line body is pass)) = no_slash (first_is a 47 _ _ is)
    not_marked x more (remark (block body is never)) = no_slash (first_is a 47 _ _ is)

pub operator_fits : (a : ℕ) (t rest : List ℕ) (code : ℕ) → code_in operators (a ∷ t) ≡ Some code → IsApart (mark_ending (a ∷ t)) rest → Fits (a ∷ t) rest
operator_fits a [] rest code is apart = one_fits a code rest is apart
operator_fits a (b ∷ []) rest code is apart = two_fits a b code rest is
operator_fits a (b ∷ c ∷ t) rest code is apart = let like : is_mark_text (a ∷ b ∷ c ∷ t) ≡ true = operator_is_mark _ code is in cc

-- ---- by the kind of the token
pub name_fits : (text rest : List ℕ) → Spells Ident text → IsApart (name_ending text) rest → Fits text rest
name_fits [] rest (inl word) apart = cc
name_fits [] rest (inr q) apart = let e = q.is in cc
name_fits (b ∷ t) rest (inl word) apart =
    let letter : is_letter b ≡ true = (both_hold (is_letter b) (list_all is_word_byte t) word.0).0 in
    let no_quote : eqb b 39 ≡ false = grind (arith, nat_tests) in
    word_fits b t rest word.0 (rw no_quote at apart)
name_fits (b ∷ t) rest (inr q) apart = quoted_fits b t rest q

pub keyword_fits : (code : ℕ) (text rest : List ℕ) → Spells (Keyword code) text → IsApart Word rest → Fits text rest
keyword_fits code [] rest word apart = cc
keyword_fits code (b ∷ t) rest word apart = word_fits b t rest word.0 apart

pub mark_fits : (code : ℕ) (text rest : List ℕ) → Spells (Operator code) text → IsApart (mark_ending text) rest → Fits text rest
mark_fits code [] rest is apart = let like : is_mark_text [] ≡ true = operator_is_mark [] code is in cc
mark_fits code (a ∷ t) rest is apart = operator_fits a t rest code is apart

pub whole_number_fits : (text rest : List ℕ) → IsWhole text → IsApart Number rest → Fits text rest
whole_number_fits [] rest w apart = absurd (omega (arith, w.some))
whole_number_fits (b ∷ t) rest w apart = whole_fits b t rest w apart

pub some_of_decimal : IsDecimal [] → ⊥
some_of_decimal (pointed [] fraction exponent e ds fs some ex) = cc
some_of_decimal (pointed (d ∷ digits) fraction exponent e ds fs some ex) = cc
some_of_decimal (unpointed [] exponent e w ex) = omega (arith, w.some)
some_of_decimal (unpointed (d ∷ digits) exponent e w ex) = cc

pub decimal_number_fits : (text rest : List ℕ) → IsDecimal text → IsApart Number rest → Fits text rest
decimal_number_fits [] rest d apart = absurd (some_of_decimal d)
decimal_number_fits (b ∷ t) rest d apart = decimal_fits b t rest d apart

pub quoted_string_fits : (text rest : List ℕ) → IsString text → Fits text rest
quoted_string_fits [] rest q = let e = q.is in cc
quoted_string_fits (b ∷ t) rest q = string_fits b t rest q
