-- The digits that are printed of a whole number are those of a token with that value.
use Rattle.std.proofs.Common.{◌≡◌, ℕ, ◌+◌, ◌-◌, ◌*◌, ◌^◌, ◌<◌, true, ◌&&◌, List, [], ◌∷◌, refl, ap, ◌∙◌, arith}
use Rattle.std.proofs.lemmas.Bool.Decides.{nat_tests}
use Rattle.std.specs.List.{list_all}
use Rattle.std.specs.Char.{digit_value}
use Rattle.std.specs.Fmt.{decimal}
use Rattle.std.specs.Str.Parse.{AllDigits, digits_value, digits_value_after}
use Rattle.std.proofs.lemmas.Fmt.{decimal_is_IsNumeral}
use Rattle.std.proofs.lemmas.Str.{digit_value_digit}
use Rattle.std.proofs.lemmas.Str.Parse.{digit_from_value}
use Rattle.mo_lexer.specs.Bytes.{is_digit}
use Rattle.mo_lexer.specs.Spelling.{are_digits, IsWhole}
use Rattle.mo_grammar.specs.Trees.{digits_after}

one_digit : (c : ℕ) → digit_value c < 10 → is_digit c ≡ true
one_digit c h = let range = digit_from_value c h in grind (arith, nat_tests)

all_digits : (ds : List ℕ) → AllDigits 10 ds → are_digits ds ≡ true
all_digits [] h = refl
all_digits (c ∷ cs) h = ap (λ b. b && list_all is_digit cs) (one_digit c h.0) ∙ all_digits cs h.1

value_after : (v : ℕ) (ds : List ℕ) → AllDigits 10 ds → digits_after v ds ≡ digits_value_after 10 v ds
value_after v [] h = refl
value_after v (c ∷ cs) h =
    let range = digit_from_value c h.0 in
    let one = digit_value_digit c range in
    let same : c - 48 ≡ digit_value c = omega arith in
    ap (λ d. digits_after (v * 10 + d) cs) same ∙ value_after (v * 10 + digit_value c) cs h.1

pub decimal_whole : (n : ℕ) → n < 2 ^ 64 → IsWhole (decimal n)
decimal_whole n h = let numeral = (decimal_is_IsNumeral n h).0 in record { are_digits = all_digits (decimal n) numeral.1; some = numeral.0 }

pub decimal_value : (n : ℕ) → n < 2 ^ 64 → digits_value 10 (decimal n) ≡ n
decimal_value n h = (decimal_is_IsNumeral n h).1

pub decimal_after : (n : ℕ) → n < 2 ^ 64 → digits_after 0 (decimal n) ≡ n
decimal_after n h = value_after 0 (decimal n) (decimal_is_IsNumeral n h).0.1 ∙ decimal_value n h
