-- The value of decimal digits, digit by digit.
use Rattle.std.proofs.Common.{◌≡◌, ◌<◌, ◌+◌, ◌-◌, ◌*◌, ℕ, List, [], ◌∷◌, length, take, get_or, fold, min, refl, ap, sym, ◌∙◌, arith}
use Rattle.std.proofs.lemmas.List.Sums.{fold_more}
use Rattle.mo_grammar.specs.Trees.{digits_after}

abbrev with_digit : ℕ → ℕ → ℕ
with_digit value digit = value * 10 + (digit - 48)

folded : (value : ℕ) (digits : List ℕ) → digits_after value digits ≡ fold with_digit value digits
folded value [] = refl
folded value (digit ∷ digits) = folded (with_digit value digit) digits

-- one digit more
one_more : (digits : List ℕ) (k d : ℕ) → k < length digits → digits_after 0 (take (k + 1) digits) ≡ digits_after 0 (take k digits) * 10 + (get_or digits k d - 48)
one_more digits k d within =
    folded 0 (take (k + 1) digits) ∙ fold_more with_digit 0 digits k d within ∙ ap (λ value. with_digit value (get_or digits k d)) (sym (folded 0 (take k digits)))

-- where the greatest number stands for all greater ones
bounded : (most value held digit : ℕ) → held ≡ min value most → min (min (held * 10) most + digit) most ≡ min (value * 10 + digit) most
bounded most value held digit is = omega (arith, is)

pub value_more : (most held : ℕ) (digits : List ℕ) (k d : ℕ) → k < length digits → held ≡ min (digits_after 0 (take k digits)) most →
    min (min (held * 10) most + (get_or digits k d - 48)) most ≡ min (digits_after 0 (take (k + 1) digits)) most
value_more most held digits k d within is =
    bounded most (digits_after 0 (take k digits)) held (get_or digits k d - 48) is ∙ ap (λ n. min n most) (sym (one_more digits k d within))
