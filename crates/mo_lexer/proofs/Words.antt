-- The longest word at the front, a blank, and a comment.
use Rattle.std.proofs.Common.{◌≡◌, ℕ, suc, ◌+◌, ◌-◌, ◌<◌, ◌≤◌, inl, true, List, [], ◌∷◌, length, take, drop, get_or, None, refl, arith, length-take-le}
use Rattle.std.specs.List.{prefix_len}
use Rattle.std.proofs.lemmas.Bool.Decides.{nat_tests}
use Rattle.std.proofs.lemmas.List.Sums.{prefix_len_passes, prefix_len-le-length}
use Rattle.mo_syntax.specs.declared.rules.TheConstants.{LITERAL_TOO_WIDE}
use Rattle.mo_syntax.specs.declared.token.TokenKind.TheVariants.{Ident}
use Rattle.mo_tables.specs.Words.{code_in, keywords}
use Rattle.mo_lexer.specs.Bytes.{is_blank, is_letter, is_word_byte}
use Rattle.mo_lexer.specs.Spelling.{is_word, IsSeparator, blank}
use Rattle.mo_lexer.specs.Lexing.{Fits, IsStuck, Breaks}
use Rattle.mo_lexer.specs.steps.Finding.{IsCut}
use Rattle.mo_lexer.proofs.Fronts.{both, run_passes, run_longest}
use Rattle.mo_lexer.proofs.Shapes.{Blanks, Letters, class, class_letter}
use Rattle.mo_lexer.proofs.Stuck.{fits_from, bounded, cut_after, opens_with_slash, wide_front}

-- so many bytes are a piece that fits
pub record Front (P : List ℕ → Type 0) (rest : List ℕ) (n : ℕ) : Type 0 where
  pub cut : IsCut rest n
  pub is : P (take n rest)
  pub fits : Fits (take n rest) (drop n rest)

word_is_ascii : (b : ℕ) → is_word_byte b ≡ true → b < 128
word_is_ascii b h = grind (arith, nat_tests)

word_front : (b : ℕ) (t : List ℕ) → is_letter b ≡ true → Front (λ text. is_word text ≡ true) (b ∷ t) (suc (prefix_len is_word_byte t))
word_front b t first =
    let m : ℕ = prefix_len is_word_byte t in
    let within : m ≤ length t = prefix_len-le-length is_word_byte t in
    let word_byte : is_word_byte b ≡ true = rw first refl in
    let all_len : prefix_len is_word_byte (b ∷ t) ≡ 1 + m = rw word_byte refl in
    let last_passes : is_word_byte (get_or (b ∷ t) m 0) ≡ true = prefix_len_passes is_word_byte (b ∷ t) m 0 (omega arith) in
    let last : get_or (b ∷ t) (suc m - 1) 0 < 128 =
    let back : suc m - 1 ≡ m = omega arith in
    rw back (word_is_ascii _ last_passes) in
    record {
      cut = cut_after (b ∷ t) (suc m) (omega arith) (omega (arith, within)) last;
      is = both _ _ first (run_passes is_word_byte t);
      fits = fits_from (b ∷ t) (suc m) (omega (arith, within))
          (bounded Letters b t (class_letter b first) (suc m) (λ s after e all.
          let longest : length s ≤ prefix_len is_word_byte t = rw e (run_longest is_word_byte s after all) in
          omega (arith, longest)))
          (λ opens. let slash : b ≡ 47 = opens_with_slash b t opens in absurd (grind (arith, nat_tests)));
    }

pub word_found : (rest : List ℕ) → is_letter (get_or rest 0 0) ≡ true → (n : ℕ) → n ≡ prefix_len is_word_byte rest → Front (λ text. is_word text ≡ true) rest n
word_found [] first n e = cc
word_found (b ∷ t) first n e =
    let word_byte : is_word_byte b ≡ true = rw first refl in
    let all_len : prefix_len is_word_byte (b ∷ t) ≡ 1 + prefix_len is_word_byte t = rw word_byte refl in
    let size : n ≡ suc (prefix_len is_word_byte t) = omega arith in
    rw size (word_front b t first)

pub word_too_wide : (rest : List ℕ) (n : ℕ) (rule : ℕ) → rule ≡ LITERAL_TOO_WIDE → Front (λ text. is_word text ≡ true) rest n → code_in keywords (take n rest) ≡ None → 256 < n
    → (0 < length rest) × IsStuck rest × Breaks rest rule 0
word_too_wide rest n rule is front none wide =
    wide_front rest n Ident rule is (omega (arith, front.cut.within)) (inl (front.is, none)) front.fits (λ short. omega (arith, short, length-take-le n rest front.cut.within))

pub blank_found : (rest : List ℕ) → 0 < length rest → is_blank (get_or rest 0 0) ≡ true → Front IsSeparator rest 1
blank_found [] some first = absurd (omega arith)
blank_found (b ∷ t) some first =
    let ascii : b < 128 = grind (arith, nat_tests) in
    let class_is : class b ≡ Blanks = rw first refl in
    record {
      cut = cut_after (b ∷ t) 1 (omega arith) (omega arith) ascii;
      is = blank b refl first;
      fits = fits_from (b ∷ t) 1 (omega arith)
          (bounded Blanks b t class_is 1 (λ s after e none. rw none (omega arith)))
          (λ opens. let slash : b ≡ 47 = opens_with_slash b t opens in absurd (grind (arith, nat_tests)));
    }
