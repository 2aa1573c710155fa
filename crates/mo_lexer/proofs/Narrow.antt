-- The value of digits only grows with more of them.
use Rattle.std.proofs.Common.{◌≡◌, ℕ, ◌+◌, ◌-◌, ◌*◌, ◌<◌, ◌≤◌, true, false, IsTrue, List, [], ◌∷◌, length, drop, get_or, ap, arith}
use mathlib.Core.Bool.{false≢true}
use Rattle.std.specs.Char.{digit_value}
use Rattle.std.specs.Str.Parse.{digits_value, digits_value_after}
use Rattle.std.proofs.lemmas.Bool.Decides.{nat_tests}
use Rattle.std.proofs.lemmas.List.{drop_more}
use Rattle.mo_lexer.specs.Bytes.{is_digit}
use Rattle.mo_lexer.specs.Spelling.{are_digits}
use Rattle.mo_lexer.proofs.Numbers.{passes_at}

grows : (n : ℕ) (ds : List ℕ) → n ≤ digits_value_after 10 n ds
grows n [] = omega arith
grows n (c ∷ cs) = omega (arith, grows (n * 10 + digit_value c) cs)

digit_is : (c : ℕ) → is_digit c ≡ true → digit_value c ≡ c - 48
digit_is c h = grind (arith, nat_tests)

pub not_narrow : (ds : List ℕ) (i v : ℕ) → are_digits ds ≡ true → digits_value_after 10 v (drop i ds) ≡ digits_value 10 ds → i < length ds → 9223372036854775807 < v * 10 + (get_or ds i 0 - 48)
    → (IsTrue false → digits_value 10 ds ≤ 9223372036854775807) × (digits_value 10 ds ≤ 9223372036854775807 → IsTrue false)
not_narrow ds i v all so_far below wide =
    let digit : digit_value (get_or ds i 0) ≡ get_or ds i 0 - 48 = digit_is (get_or ds i 0) (passes_at is_digit ds i all below) in
    let step : digits_value_after 10 v (drop i ds) ≡ digits_value_after 10 (v * 10 + digit_value (get_or ds i 0)) (drop (i + 1) ds) = ap (digits_value_after 10 v) (drop_more ds i 0 below) in
    let more : v * 10 + digit_value (get_or ds i 0) ≤ digits_value_after 10 (v * 10 + digit_value (get_or ds i 0)) (drop (i + 1) ds) = grows (v * 10 + digit_value (get_or ds i 0)) (drop (i + 1) ds) in
    (λ h. absurd (false≢true h), λ le. absurd (omega (arith, digit, step, more, so_far, wide, le)))
