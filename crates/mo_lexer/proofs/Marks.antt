-- The operator at the front.
use Rattle.std.proofs.Common.{◌≡◌, ℕ, suc, ◌<◌, ◌≤◌, ◌⊎◌, inl, inr, Bool, true, false, ◌&&◌, ◌||◌, List, [], ◌∷◌, ◌++◌, length, take, get_or, eqb, ltb, Some, None, refl, sym, ap, subst, ◌∙◌, arith}
use Rattle.mo_syntax.specs.declared.rules.TheConstants.{BAD_CHARACTER}
use mathlib.Core.Bool.{false≢true}
use Rattle.std.proofs.lemmas.Bool.Decides.{nat_tests}
use Rattle.mo_tables.specs.Words.{code_in, operators}
use Rattle.mo_lexer.specs.Bytes.{is_digit}
use Rattle.mo_lexer.specs.Spelling.{IsDecimal, IsComment, line, block}
use Rattle.mo_lexer.specs.Lexing.{opens_block, IsStuck, Breaks, no_token, IsCutByEnd, comment, string, quoted, IsBadAt, in_string, in_quoted}
use Rattle.mo_lexer.specs.steps.Finding.{is_mark, begins_number, opens_line}
use Rattle.mo_lexer.proofs.Fronts.{first_is}
use Rattle.mo_lexer.proofs.Shapes.{Marks, class, class_mark, IsMarked, operator, number, remark, is_mark_text, operator_is_mark, mark_first, mark_second, NumberFirst, digit, point, decimal_first}
use Rattle.mo_lexer.proofs.Stuck.{HasNoPiece, no_piece, stuck_where_none, narrow_where_none, fits_from, bounded, cut_after}
use Rattle.mo_lexer.proofs.Words.{Front}

-- an operator's text
abbrev pub IsOperator : ℕ → List ℕ → Type 0
IsOperator code text = code_in operators text ≡ Some code

-- a number that begins with its point has a digit next
second_is : (b c x d : ℕ) (s t : List ℕ) → b ∷ c ∷ s ≡ x ∷ d ∷ t → c ≡ d
second_is b c x d s t e = cc

digit_next : (b : ℕ) (s : List ℕ) → b ≡ 46 → IsDecimal (b ∷ s) → (c : ℕ) × (t : List ℕ) × (s ≡ c ∷ t) × (is_digit c ≡ true)
digit_next b s e d = go (decimal_first b s d)
  where
    go : NumberFirst b s → (c : ℕ) × (t : List ℕ) × (s ≡ c ∷ t) × (is_digit c ≡ true)
    go (digit h) = absurd (grind (arith, nat_tests))
    go (point f c u tail h) = (c, u, tail, h)

decimal_begins : (b : ℕ) (s after : List ℕ) → b ≡ 46 → IsDecimal (b ∷ s) → begins_number (b ∷ (s ++ after)) ≡ true
decimal_begins b s after e d =
    let next = digit_next b s e d in
    let point : eqb b 46 ≡ true = grind (arith, nat_tests) in
    let on : is_digit next.0 ≡ true = next.3 in
    let begins : begins_number (b ∷ next.0 ∷ (next.1 ++ after)) ≡ true = either_true (is_digit b) (eqb b 46 && is_digit next.0) (rw (point, on) refl) in
    subst (λ x. begins_number (b ∷ (x ++ after)) ≡ true) (sym next.2) begins
  where
    either_true : (p q : Bool) → q ≡ true → (p || q) ≡ true
    either_true true q h = refl
    either_true false q h = h

-- a comment there opens as one
comment_opens : (b : ℕ) (s after : List ℕ) → IsComment (b ∷ s) → (opens_line (b ∷ (s ++ after)) ≡ true) ⊎ (opens_block (b ∷ (s ++ after)) ≡ true)
comment_opens b s after (line body is pass) =
    let first : b ≡ 47 = first_is b 47 s _ is in
    let tail : s ≡ 47 ∷ body = cc in
    let opens : opens_line (b ∷ 47 ∷ (body ++ after)) ≡ true = rw first refl in
    inl (subst (λ x. opens_line (b ∷ (x ++ after)) ≡ true) (sym tail) opens)
comment_opens b s after (block body is never) =
    let first : b ≡ 47 = first_is b 47 s _ is in
    let tail : s ≡ 42 ∷ (body ++ 42 ∷ 47 ∷ []) = cc in
    let opens : opens_block (b ∷ 42 ∷ ((body ++ 42 ∷ 47 ∷ []) ++ after)) ≡ true = rw first refl in
    inr (subst (λ x. opens_block (b ∷ (x ++ after)) ≡ true) (sym tail) opens)

-- what is known where an operator alone may stand
pub record IsLone (rest : List ℕ) : Type 0 where
  pub some : 0 < length rest
  pub first : is_mark (get_or rest 0 0) ≡ true
  pub no_number : begins_number rest ≡ false
  pub no_line : opens_line rest ≡ false
  pub no_block : opens_block rest ≡ false

module _ (b : ℕ) (t : List ℕ) (lone : IsLone (b ∷ t)) where
  mark : class b ≡ Marks
  mark = class_mark b lone.first

  -- only operators are of its shape
  only_operator : (s after : List ℕ) → t ≡ s ++ after → IsMarked b s → (code : ℕ) × IsOperator code (b ∷ s)
  only_operator s after e (operator code is) = (code, is)
  only_operator s after e (number here d) =
      let on : begins_number (b ∷ t) ≡ true = subst (λ x. begins_number (b ∷ x) ≡ true) (sym e) (decimal_begins b s after here d) in
      absurd (false≢true (sym lone.no_number ∙ on))
  only_operator s after e (remark c) = elim (comment_opens b s after c) [
    | inl opens ↦ absurd (false≢true (sym lone.no_line ∙ subst (λ x. opens_line (b ∷ x) ≡ true) (sym e) opens))
    | inr opens ↦ absurd (false≢true (sym lone.no_block ∙ subst (λ x. opens_block (b ∷ x) ≡ true) (sym e) opens))
  ]

  not_opened : (n : ℕ) → opens_block (b ∷ t) ≡ true → IsComment (take n (b ∷ t))
  not_opened n opens = absurd (false≢true (sym lone.no_block ∙ opens))

  short : (s : List ℕ) (code : ℕ) → IsOperator code (b ∷ s) → length s ≤ 1
  short [] code is = omega arith
  short (x ∷ []) code is = omega arith
  short (x ∷ y ∷ s) code is = let like : is_mark_text (b ∷ x ∷ y ∷ s) ≡ true = operator_is_mark _ code is in cc

  pub one_front : (code : ℕ) → IsOperator code (b ∷ []) → (1 < length (b ∷ t) → (code : ℕ) → IsOperator code (take 2 (b ∷ t)) → ⊥) → Front (IsOperator code) (b ∷ t) 1
  one_front code is no_two = record {
    cut = cut_after (b ∷ t) 1 (omega arith) (omega arith) (ascii code is);
    is = is;
    fits = fits_from (b ∷ t) 1 (omega arith) (bounded Marks b t mark 1 (λ s after e m. longest s after e (only_operator s after e m))) (not_opened 1);
  }
    where
      ascii : (code : ℕ) → IsOperator code (b ∷ []) → b < 128
      ascii code is =
          let like : is_mark_text (b ∷ []) ≡ true = operator_is_mark _ code is in
          let low : ltb b 128 ≡ true = (mark_first b [] like).0 in
          grind (arith, nat_tests)

      longest : (s after : List ℕ) → t ≡ s ++ after → (code : ℕ) × IsOperator code (b ∷ s) → suc (length s) ≤ 1
      longest [] after e (code, is) = omega arith
      longest (x ∷ []) after e (code, is) =
          let two : take 2 (b ∷ t) ≡ b ∷ x ∷ [] = rw e refl in
          absurd (no_two (omega (arith, ap length e)) code (subst (IsOperator code) (sym two) is))
      longest (x ∷ y ∷ s) after e (code, is) = absurd (omega (arith, short (x ∷ y ∷ s) code is))

  pub none_front : ((code : ℕ) → IsOperator code (b ∷ []) → ⊥) → (1 < length (b ∷ t) → (code : ℕ) → IsOperator code (take 2 (b ∷ t)) → ⊥) → HasNoPiece (b ∷ t)
  none_front no_one no_two = no_piece Marks b t mark (λ s after e m. none s after e (only_operator s after e m))
    where
      none : (s after : List ℕ) → t ≡ s ++ after → (code : ℕ) × IsOperator code (b ∷ s) → ⊥
      none [] after e (code, is) = no_one code is
      none (x ∷ []) after e (code, is) =
          let two : take 2 (b ∷ t) ≡ b ∷ x ∷ [] = rw e refl in
          no_two (omega (arith, ap length e)) code (subst (IsOperator code) (sym two) is)
      none (x ∷ y ∷ s) after e (code, is) = omega (arith, short (x ∷ y ∷ s) code is)

  not_cut : IsCutByEnd (b ∷ t) → ⊥
  not_cut (comment body e never) =
      let opens : opens_block (b ∷ t) ≡ true = subst (λ x. opens_block x ≡ true) (sym e) refl in
      false≢true (sym lone.no_block ∙ opens)
  not_cut (string body e all) = let double : b ≡ 34 = first_is b 34 t _ e in no_mark double
    where
      no_mark : b ≡ 34 → ⊥
      no_mark e = let h : is_mark 34 ≡ true = subst (λ x. is_mark x ≡ true) e lone.first in false≢true h
  not_cut (quoted body e all) = let single : b ≡ 39 = first_is b 39 t _ e in no_mark single
    where
      no_mark : b ≡ 39 → ⊥
      no_mark e = let h : is_mark 39 ≡ true = subst (λ x. is_mark x ≡ true) e lone.first in false≢true h

  not_bad : (k : ℕ) → IsBadAt (b ∷ t) k → ⊥
  not_bad k (in_string body after e all off place) = let double : b ≡ 34 = first_is b 34 t _ e in no_mark double
    where
      no_mark : b ≡ 34 → ⊥
      no_mark e = let h : is_mark 34 ≡ true = subst (λ x. is_mark x ≡ true) e lone.first in false≢true h
  not_bad k (in_quoted body x after e all off close slash place) = let single : b ≡ 39 = first_is b 39 t _ e in no_mark single
    where
      no_mark : b ≡ 39 → ⊥
      no_mark e = let h : is_mark 39 ≡ true = subst (λ x. is_mark x ≡ true) e lone.first in false≢true h

-- two bytes
two_front : (b c : ℕ) (t : List ℕ) (lone : IsLone (b ∷ c ∷ t)) (code : ℕ) → IsOperator code (b ∷ c ∷ []) → Front (IsOperator code) (b ∷ c ∷ t) 2
two_front b c t lone code is = record {
  cut = cut_after (b ∷ c ∷ t) 2 (omega arith) (omega arith) ascii;
  is = is;
  fits = fits_from (b ∷ c ∷ t) 2 (omega arith) (bounded Marks b (c ∷ t) (mark b (c ∷ t) lone) 2 (λ s after e m. longest s (only_operator b (c ∷ t) lone s after e m))) (not_opened b (c ∷ t) lone 2);
}
  where
    ascii : c < 128
    ascii =
        let like : is_mark_text (b ∷ c ∷ []) ≡ true = operator_is_mark _ code is in
        let low : ltb c 128 ≡ true = (mark_second b c [] like).2 in
        grind (arith, nat_tests)

    longest : (s : List ℕ) → (code : ℕ) × IsOperator code (b ∷ s) → suc (length s) ≤ 2
    longest s (code, is) = omega (arith, short b (c ∷ t) lone s code is)

-- ---- in the form of the code
pub two_found : (rest : List ℕ) → IsLone rest → 2 ≤ length rest → (code : ℕ) → IsOperator code (take 2 rest) → Front (IsOperator code) rest 2
two_found [] lone two code is = absurd (omega arith)
two_found (b ∷ []) lone two code is = absurd (omega arith)
two_found (b ∷ c ∷ t) lone two code is = two_front b c t lone code is

pub one_found : (rest : List ℕ) → IsLone rest → (code : ℕ) → IsOperator code (take 1 rest) → (1 < length rest → (code : ℕ) → IsOperator code (take 2 rest) → ⊥) → Front (IsOperator code) rest 1
one_found [] lone code is no_two = absurd (omega (arith, lone.some))
one_found (b ∷ t) lone code is no_two = one_front b t lone code is no_two

pub none_found : (rest : List ℕ) → IsLone rest → (rule : ℕ) → rule ≡ BAD_CHARACTER → ((code : ℕ) → IsOperator code (take 1 rest) → ⊥) → (1 < length rest → (code : ℕ) → IsOperator code (take 2 rest) → ⊥)
    → (0 < length rest) × IsStuck rest × Breaks rest rule 0
none_found [] lone rule is no_one no_two = absurd (omega (arith, lone.some))
none_found (b ∷ t) lone rule is no_one no_two =
    let none = none_front b t lone no_one no_two in
    (lone.some, stuck_where_none (b ∷ t) lone.some none, no_token (narrow_where_none (b ∷ t) none) (not_cut b t lone) (not_bad b t lone) is refl)

-- none where the table has none
pub none_is : (text : List ℕ) → code_in operators text ≡ None → (code : ℕ) → IsOperator code text → ⊥
none_is text none code is = let clash : None ≡ Some code = sym none ∙ is in absurd (differ code clash)
  where
    differ : (code : ℕ) → None ≡ Some code → ⊥
    differ code e = let h : false ≡ true = cc in false≢true h

abbrev pub NoPair : List ℕ → Type 0
NoPair rest = 1 < length rest → code_in operators (take 2 rest) ≡ None

pub no_pair : (rest : List ℕ) → NoPair rest → 1 < length rest → (code : ℕ) → IsOperator code (take 2 rest) → ⊥
no_pair rest none more code is = none_is (take 2 rest) (none more) code is
