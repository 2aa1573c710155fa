-- What may stand in a number: bytes of words and points, and signs behind the mark of an exponent.
use Rattle.std.proofs.Common.{◌≡◌, ℕ, ◌<◌, ◌≤◌, ◌⊎◌, inl, inr, Bool, true, false, ◌||◌, List, [], ◌∷◌, ◌++◌, length, Option, Some, None, if◌then◌else◌, eqb, refl, sym, ap, ◌∙◌, arith}
use Rattle.std.specs.List.{list_all}
use Rattle.std.proofs.lemmas.Bool.Decides.{nat_tests}
use Rattle.mo_lexer.specs.Bytes.{is_digit, is_letter, is_word_byte, is_exponent_mark, is_sign}
use Rattle.mo_lexer.specs.Spelling.{are_digits, IsExponent, pointed, unpointed}
use Rattle.mo_lexer.proofs.Fronts.{first_passes, later_pass}
use Rattle.mo_lexer.proofs.Shapes.{IsNumber, whole, decimal}

-- a byte of a word, or a point
abbrev pub is_plain : ℕ → Bool
is_plain b = is_word_byte b || eqb b 46

-- whether the mark of an exponent stands last, where all bytes may stand in a number
abbrev run : Bool → List ℕ → Option Bool
run marked [] = Some marked
run marked (b ∷ bs) = if marked || is_plain b then run (is_exponent_mark b) bs else None

run_on : (marked now : Bool) (s t : List ℕ) → run marked s ≡ Some now → run marked (s ++ t) ≡ run now t
run_on marked now [] t e = let same : marked ≡ now = cc in ap (λ m. run m t) same
run_on marked now (b ∷ s) t e = go (λ h. run_on (is_exponent_mark b) now s t h) (marked || is_plain b) refl
  where
    go : (run (is_exponent_mark b) s ≡ Some now → run (is_exponent_mark b) (s ++ t) ≡ run now t) → (r : Bool) → (marked || is_plain b) ≡ r → run marked (b ∷ (s ++ t)) ≡ run now t
    go later true h = rw h (later (rw h at e))
    go later false h = let none : None ≡ Some now = rw h at e in cc

digit_is_plain : (b : ℕ) → is_digit b ≡ true → is_plain b ≡ true
digit_is_plain b h =
    let no_letter : is_letter b ≡ false = grind (arith, nat_tests) in
    rw (no_letter, h) refl

digit_is_no_mark : (b : ℕ) → is_digit b ≡ true → is_exponent_mark b ≡ false
digit_is_no_mark b h = grind (arith, nat_tests)

sign_is_no_mark : (b : ℕ) → is_sign b ≡ true → is_exponent_mark b ≡ false
sign_is_no_mark b h = grind (arith, nat_tests)

mark_is_plain : (b : ℕ) → is_exponent_mark b ≡ true → is_plain b ≡ true
mark_is_plain b h =
    let letter : is_letter b ≡ true = grind (arith, nat_tests) in
    rw letter refl

run_digits : (s : List ℕ) → are_digits s ≡ true → run false s ≡ Some false
run_digits [] h = refl
run_digits (d ∷ s) h =
    let digit : is_digit d ≡ true = first_passes is_digit d s h in
    let plain : is_plain d ≡ true = digit_is_plain d digit in
    let no_mark : is_exponent_mark d ≡ false = digit_is_no_mark d digit in
    rw (plain, no_mark) (run_digits s (later_pass is_digit d s h))

run_marked : (s : List ℕ) → are_digits s ≡ true → 0 < length s → run true s ≡ Some false
run_marked [] h some = absurd (omega arith)
run_marked (d ∷ s) h some =
    let no_mark : is_exponent_mark d ≡ false = digit_is_no_mark d (first_passes is_digit d s h) in
    rw no_mark (run_digits s (later_pass is_digit d s h))

run_signed : (sign digits : List ℕ) → length sign ≤ 1 → list_all is_sign sign ≡ true → are_digits digits ≡ true → 0 < length digits → run true (sign ++ digits) ≡ Some false
run_signed [] digits few h ds some = run_marked digits ds some
run_signed (s ∷ []) digits few h ds some =
    let no_mark : is_exponent_mark s ≡ false = sign_is_no_mark s (first_passes is_sign s [] h) in
    rw no_mark (run_digits digits ds)
run_signed (s ∷ s' ∷ sign) digits few h ds some = absurd (omega arith)

run_exponent : (text : List ℕ) → IsExponent text → run false text ≡ Some false
run_exponent text ex =
    let plain : is_plain ex.mark ≡ true = mark_is_plain ex.mark ex.is_mark in
    let mark : is_exponent_mark ex.mark ≡ true = ex.is_mark in
    rw (ex.is, plain, mark) (run_signed ex.sign ex.digits ex.is_sign.0 ex.is_sign.1 ex.are_digits ex.some)

run_end : (exponent : List ℕ) → (exponent ≡ []) ⊎ IsExponent exponent → run false exponent ≡ Some false
run_end exponent (inl none) = rw none refl
run_end exponent (inr ex) = run_exponent exponent ex

run_number : (text : List ℕ) → IsNumber text → run false text ≡ Some false
run_number text (whole w) = run_digits text w.are_digits
run_number text (decimal (unpointed digits exponent is w ex)) =
    ap (run false) is ∙ run_on false false digits exponent (run_digits digits w.are_digits) ∙ run_exponent exponent ex
run_number text (decimal (pointed digits fraction exponent is ds fs some ex)) =
    ap (run false) is ∙ run_on false false digits (46 ∷ (fraction ++ exponent)) (run_digits digits ds)
    ∙ run_on false false fraction exponent (run_digits fraction fs) ∙ run_end exponent ex

-- a number goes on in no other way
pub number_goes_on : (text : List ℕ) (b : ℕ) (more : List ℕ) → IsNumber text → IsNumber (text ++ b ∷ more) → is_plain b ≡ true
number_goes_on text b more n m = go (is_plain b) refl
  where
    both : run false (b ∷ more) ≡ Some false
    both = sym (run_on false false text (b ∷ more) (run_number text n)) ∙ run_number (text ++ b ∷ more) m

    go : (r : Bool) → is_plain b ≡ r → is_plain b ≡ true
    go true h = h
    go false h = let none : None ≡ Some false = rw h at both in cc
