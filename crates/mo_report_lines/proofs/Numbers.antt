-- Digits and what they spell.
use Rattle.std.proofs.Common.{◌≡◌, ℕ, zero, suc, ◌+◌, ◌-◌, ◌*◌, ◌<◌, ◌≤◌, true, false, List, [], ◌∷◌, ◌++◌, ◌==◌, length, take, drop, get_or, take-append-drop, length-append, refl, sym, ap, ◌∙◌, arith, rules}
use Rattle.std.specs.Fmt.{decimal}
use Rattle.std.specs.List.{list_all, prefix_len}
use Rattle.std.specs.Char.{digit_value}
use Rattle.std.specs.Str.Parse.{digits_value, digits_value_after}
use Rattle.std.proofs.lemmas.Bool.Decides.{nat_tests, Decides-eqb}
use Rattle.std.proofs.lemmas.List.{drop_more, take_rest}
use Rattle.std.proofs.lemmas.Fmt.{decimal_digit, decimal_nonempty, first_decimal, digits_decimal, digits_value-decimal, decimal-digits_value}
use Rattle.std.proofs.lemmas.Str.Parse.{IsNumeralModel, numerals_by_value}
use Rattle.mo_lexer.specs.Bytes.{is_digit}
use Rattle.mo_lexer.specs.Spelling.{are_digits}
use Rattle.mo_report_lines.specs.Grammar.{IsNumber, AreNumbers}
use Rattle.mo_report_lines.specs.steps.Reading.{in_numbers, BeginsOnly, BeginsNever}
use Rattle.mo_report_lines.proofs.Separated.{GoesOn, first_goes, never_first, next_goes, next_never, all_gone}
use Rattle.mo_lexer.proofs.Fronts.{run_passes}
use Rattle.mo_report_lines.proofs.Runs.{front_is, passes_at}

pub own : IsNumeralModel (λ ds. are_digits ds ≡ true) (digits_value 10)
own = numerals_by_value _ (search rules)

grows : (n : ℕ) (ds : List ℕ) → n ≤ digits_value_after 10 n ds
grows n [] = omega arith
grows n (c ∷ cs) = omega (arith, grows (n * 10 + digit_value c) cs)

digit_is : (c : ℕ) → is_digit c ≡ true → digit_value c ≡ c - 48
digit_is c h = grind (arith, nat_tests)

-- the value only grows with more digits
pub past : (ds : List ℕ) (i v : ℕ) → are_digits ds ≡ true → digits_value_after 10 v (drop i ds) ≡ digits_value 10 ds → i < length ds → 4294967295 < v * 10 + (get_or ds i 0 - 48)
    → 4294967295 < digits_value 10 ds
past ds i v all so_far below wide =
    let digit : digit_value (get_or ds i 0) ≡ get_or ds i 0 - 48 = digit_is (get_or ds i 0) (passes_at is_digit ds i all below) in
    let step : digits_value_after 10 v (drop i ds) ≡ digits_value_after 10 (v * 10 + digit_value (get_or ds i 0)) (drop (i + 1) ds) = ap (digits_value_after 10 v) (drop_more ds i 0 below) in
    let more : v * 10 + digit_value (get_or ds i 0) ≤ digits_value_after 10 (v * 10 + digit_value (get_or ds i 0)) (drop (i + 1) ds) = grows (v * 10 + digit_value (get_or ds i 0)) (drop (i + 1) ds) in
    omega (arith, digit, step, more, so_far, wide)

-- a number's digits
pub digits_of : (n : ℕ) → n < 4294967296 → are_digits (decimal n) ≡ true
digits_of n small = digits_decimal own n (omega arith)

pub value_is : (n : ℕ) (ds : List ℕ) → n < 4294967296 → decimal n ≡ ds → digits_value 10 ds ≡ n
value_is n ds small e = rw (← e) (digits_value-decimal own n (omega arith))

pub spelled : (ds : List ℕ) → are_digits ds ≡ true → 0 < length ds → (get_or ds 0 0 ≡ 48 → length ds ≡ 1) → digits_value 10 ds ≤ 4294967295 → decimal (digits_value 10 ds) ≡ ds
spelled ds all some lead small = decimal-digits_value own ds all some lead (omega arith)

pub not_empty : (n : ℕ) (ds : List ℕ) → n < 4294967296 → decimal n ≡ ds → length ds ≡ 0 → ⊥
not_empty n ds small e none = let some : 0 < length (decimal n) = decimal_nonempty n (omega arith) in omega (arith, some, ap length e)

pub not_zeros : (n : ℕ) (ds : List ℕ) → n < 4294967296 → decimal n ≡ ds → get_or ds 0 0 ≡ 48 → 1 < length ds → ⊥
not_zeros zero ds small e lead long = let one : length (decimal zero) ≡ 1 = ap length (decimal_digit zero (omega arith)) in omega (arith, one, ap length e)
not_zeros (suc n) ds small e lead long =
    let first : 48 < get_or (decimal (suc n)) 0 0 = first_decimal (suc n) (omega arith) (omega arith) in
    let same : get_or (decimal (suc n)) 0 0 ≡ get_or ds 0 0 = ap (λ (l : List ℕ). get_or l 0 0) e in
    omega (arith, first, same, lead)

-- ---- the number at the front
pub only_number : (text : List ℕ) (n : ℕ) → decimal n ≡ take (prefix_len is_digit text) text → text ≡ decimal n ++ drop (prefix_len is_digit text) text → n < 4294967296
    → BeginsOnly IsNumber is_digit text (drop (prefix_len is_digit text) text)
only_number text n e whole small = record {
  begins = record { front = decimal n; holds = record { value = n; is = refl; fits = small }; is = whole };
  only = λ other ends b.
      let all : list_all is_digit b.front ≡ true = let same = b.holds.is in rw same (digits_of b.holds.value b.holds.fits) in
      (front_is is_digit text b.front other all ends b.is).1;
}

pub no_number : (text : List ℕ) → ((n : ℕ) → n < 4294967296 → decimal n ≡ take (prefix_len is_digit text) text → ⊥) → BeginsNever IsNumber is_digit text
no_number text none other ends b =
    let all : list_all is_digit b.front ≡ true = let same = b.holds.is in rw same (digits_of b.holds.value b.holds.fits) in
    none b.holds.value b.holds.fits (sym b.holds.is ∙ (front_is is_digit text b.front other all ends b.is).0)

-- ---- in the form of the code
pub zero_of : (n : ℕ) → (n == 0) ≡ true → n ≡ 0
zero_of n e = (Decides-eqb n 0).0 e

pub some_of : (n : ℕ) → (n == 0) ≡ false → 0 < n
some_of zero h = cc
some_of (suc n) h = omega arith

pub spelled_by : (ds : List ℕ) (n : ℕ) → are_digits ds ≡ true → (length ds == 0) ≡ false → (get_or ds 0 0 ≡ 48 → length ds ≡ 1) → n ≡ digits_value 10 ds → n < 4294967296 → decimal n ≡ ds
spelled_by ds n all some lead e small =
    let more : 0 < length ds = positive (length ds) some in
    rw e (spelled ds all more lead (omega arith))
  where
    positive : (m : ℕ) → (m == 0) ≡ false → 0 < m
    positive zero h = cc
    positive (suc m) h = omega arith

pub too_great : (ds : List ℕ) → 4294967295 < digits_value 10 ds → (n : ℕ) → n < 4294967296 → decimal n ≡ ds → ⊥
too_great ds great n small e = let is : digits_value 10 ds ≡ n = value_is n ds small e in omega arith

pub digits_taken : (text : List ℕ) (len : ℕ) → len ≡ prefix_len is_digit text → are_digits (take len text) ≡ true
digits_taken text len e = rw e (run_passes is_digit text)

pub whole_number : (text : List ℕ) (len n : ℕ) → decimal n ≡ take len text → text ≡ decimal n ++ take (length text - len) (drop len text)
whole_number text len n e = rw (take_rest text len) (sym (take-append-drop len text) ∙ ap (λ (x : List ℕ). x ++ drop len text) (sym e))

pub number_at : (text : List ℕ) (len n : ℕ) → len ≡ prefix_len is_digit text → decimal n ≡ take len text → n < 4294967296 → BeginsOnly IsNumber is_digit text (take (length text - len) (drop len text))
number_at text len n e is small =
    let whole : text ≡ decimal n ++ drop len text = sym (take-append-drop len text) ∙ ap (λ (x : List ℕ). x ++ drop len text) (sym is) in
    rw (take_rest text len) (rw e (only_number text n (rw e at is) (rw e at whole) small))

pub no_number_at : (text : List ℕ) (len : ℕ) → len ≡ prefix_len is_digit text → ((n : ℕ) → n < 4294967296 → decimal n ≡ take len text → ⊥) → BeginsNever IsNumber is_digit text
no_number_at text len e none = no_number text (λ n small is. none n small (rw e is))

pub number_shorter : (text rest : List ℕ) (n : ℕ) → n < 4294967296 → text ≡ decimal n ++ rest → length rest < length text
number_shorter text rest n small e =
    let some : 0 < length (decimal n) = decimal_nonempty n (omega arith) in
    let size : length text ≡ length (decimal n) + length rest = ap length e ∙ length-append (decimal n) rest in
    omega arith

-- ---- numbers with a byte between neighbours
digit_within : (separator b : ℕ) → is_digit b ≡ true → in_numbers separator b ≡ true
digit_within separator b h = rw h refl

separator_within : (separator : ℕ) → in_numbers separator separator ≡ true
separator_within separator = grind (arith, nat_tests)

module _ (separator : ℕ) (apart : is_digit separator ≡ false) where
  pub numbers_first : (text rest : List ℕ) → BeginsOnly IsNumber is_digit text rest → GoesOn separator IsNumber (in_numbers separator) text rest
  numbers_first = first_goes separator IsNumber is_digit (in_numbers separator) apart (separator_within separator) (digit_within separator)

  pub numbers_never : (text : List ℕ) → BeginsNever IsNumber is_digit text → BeginsNever (AreNumbers separator) (in_numbers separator) text
  numbers_never = never_first separator IsNumber is_digit (in_numbers separator) apart (separator_within separator) (digit_within separator)

  pub numbers_next : (text rest left : List ℕ) → GoesOn separator IsNumber (in_numbers separator) text rest → rest ≡ separator ∷ drop 1 rest → BeginsOnly IsNumber is_digit (drop 1 rest) left
      → GoesOn separator IsNumber (in_numbers separator) text left
  numbers_next text rest left = next_goes separator IsNumber is_digit (in_numbers separator) apart (separator_within separator) (digit_within separator) text rest (drop 1 rest) left

  pub numbers_stop : (text rest : List ℕ) → GoesOn separator IsNumber (in_numbers separator) text rest → rest ≡ separator ∷ drop 1 rest → BeginsNever IsNumber is_digit (drop 1 rest)
      → BeginsNever (AreNumbers separator) (in_numbers separator) text
  numbers_stop text rest = next_never separator IsNumber is_digit (in_numbers separator) apart (separator_within separator) (digit_within separator) text rest (drop 1 rest)

  pub numbers_all : (text rest : List ℕ) → GoesOn separator IsNumber (in_numbers separator) text rest → ((t : List ℕ) → rest ≡ separator ∷ t → ⊥) → BeginsOnly (AreNumbers separator) (in_numbers separator) text rest
  numbers_all = all_gone separator IsNumber is_digit (in_numbers separator) apart (separator_within separator) (digit_within separator)
