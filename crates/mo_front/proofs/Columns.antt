-- Counting the bytes after the last line feed.
use Rattle.std.proofs.Common.{◌≡◌, ◌-◌, ◌≤◌, ℕ, List, length, reverse, Bool, not, sym, ◌∙◌, arith}
use Rattle.std.specs.Prelude.{take_while}
use Rattle.std.specs.List.{after_last, suffix_len}
use Rattle.std.proofs.lemmas.List.{length-drop, length-take-le, length-reverse}
use Rattle.std.proofs.lemmas.List.Sums.{suffix_len-le-length}

-- the elements after the last that passes are those that are met going back until one passes
pub length_after_last : (p : ℕ → Bool) (xs : List ℕ) → length (take_while (λ x. not (p x)) (reverse xs)) ≡ length (after_last p xs)
length_after_last p xs =
    let n : ℕ = suffix_len (λ x. not (p x)) xs in
    let within : suffix_len (λ x. not (p x)) xs ≤ length xs = suffix_len-le-length (λ x. not (p x)) xs in
    let back : suffix_len (λ x. not (p x)) xs ≤ length (reverse xs) = omega (arith, length-reverse xs) in
    length-take-le n (reverse xs) back ∙ sym (omega (arith, length-drop (length xs - n) xs))
