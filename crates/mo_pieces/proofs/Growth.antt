-- Steps of the code that makes a text of pieces.
use Rattle.std.proofs.Common.{◌≡◌, ℕ, zero, suc, ◌+◌, List, ◌++◌, ap, sym, ◌∙◌, add-one, append-nil, append_assoc}
use Rattle.std.specs.List.{repeat}

pub repeat_more : (n : ℕ) (s : List ℕ) → repeat (n + 1) s ≡ repeat n s ++ s
repeat_more zero s = append-nil s
repeat_more (suc n) s =
    let step : repeat (suc n) s ≡ repeat n s ++ s = ap (λ n. repeat n s) (sym (add-one n)) ∙ repeat_more n s in
    ap (λ n. repeat n s) (add-one (suc n)) ∙ ap (λ t. s ++ t) step ∙ sym (append_assoc s (repeat n s) s)
