-- The value of digits, where it stays at the greatest.
use Rattle.std.proofs.Common.{◌≡◌, ◌≤◌, ◌<◌, ◌+◌, ◌*◌, ◌-◌, ℕ, zero, suc, ◌⊎◌, List, [], ◌∷◌, length, drop, get_or, min, sym, ap, ◌∙◌, arith, inl, inr, drop-cons}
use Rattle.std.proofs.Math.Nat.{min-eq_left, min-eq_right}
use Rattle.mo_grammar.specs.Trees.{digits_after}

at_least : (v c : ℕ) (digits : List ℕ) → c ≤ v → c ≤ digits_after v digits
at_least v c [] p = p
at_least v c (digit ∷ digits) p = at_least (v * 10 + (digit - 48)) c digits (omega (arith, p))

either_way : (v c : ℕ) → (v ≤ c) ⊎ (c ≤ v)
either_way zero c = inl (omega arith)
either_way (suc v) zero = inr (omega arith)
either_way (suc v) (suc c) = elim (either_way v c) [ inl p ↦ inl (omega (arith, p)) | inr p ↦ inr (omega (arith, p)) ]

capped : (v c : ℕ) (digits : List ℕ) → min (digits_after (min v c) digits) c ≡ min (digits_after v digits) c
capped v c digits = elim (either_way v c) [
  | inl p ↦ ap (λ n. min (digits_after n digits) c) (min-eq_left p)
  | inr p ↦ min-eq_right (at_least (min v c) c digits (let same : min v c ≡ c = min-eq_right p in omega (arith, same))) ∙ sym (min-eq_right (at_least v c digits p))
]

pub next_digit : (text : List ℕ) (i v r c all : ℕ) → i < length text → r ≡ min (v * 10 + (get_or text i 0 - 48)) c → min (digits_after v (drop i text)) c ≡ all → min (digits_after r (drop (i + 1) text)) c ≡ all
next_digit text i v r c all within is so_far =
    ap (λ n. min (digits_after n (drop (i + 1) text)) c) is ∙ capped (v * 10 + (get_or text i 0 - 48)) c (drop (i + 1) text)
    ∙ ap (λ n. min (digits_after (v * 10 + (get_or text i 0 - 48)) (drop n text)) c) (let same : i + 1 ≡ suc i = omega arith in same)
    ∙ sym (ap (λ w. min (digits_after v w) c) (drop-cons text i 0 within)) ∙ so_far
