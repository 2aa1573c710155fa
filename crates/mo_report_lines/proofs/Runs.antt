-- A run of bytes of a class, up to a byte that is of another.
use Rattle.std.proofs.Common.{◌≡◌, ℕ, zero, suc, ◌<◌, Bool, true, false, not, List, [], ◌∷◌, ◌++◌, length, take, drop, get_or, refl, sym, ap, arith}
use Rattle.std.specs.List.{list_all, prefix_len}
use Rattle.std.proofs.lemmas.List.Prefix.{front_rest}
use Rattle.mo_lexer.proofs.Fronts.{both_hold}
use Rattle.mo_report_lines.specs.steps.Reading.{stops}

pub off : (b : Bool) → not b ≡ true → b ≡ false
off true e = cc
off false e = refl

pub run_stops : (p : ℕ → Bool) (t after : List ℕ) → list_all p t ≡ true → stops p after ≡ true → prefix_len p (t ++ after) ≡ length t
run_stops p [] [] all ends = refl
run_stops p [] (x ∷ after) all ends = let no : p x ≡ false = off (p x) ends in rw no refl
run_stops p (x ∷ t) after all ends =
    let first : p x ≡ true = (both_hold (p x) (list_all p t) all).0 in
    let so_far : prefix_len p (t ++ after) ≡ length t = run_stops p t after (both_hold (p x) (list_all p t) all).1 ends in
    rw first (omega arith)

pub take_front : (s t : List ℕ) → take (length s) (s ++ t) ≡ s
take_front [] t = refl
take_front (x ∷ s) t = ap (λ (l : List ℕ). x ∷ l) (take_front s t)

-- what stands before and behind it
pub front_is : (p : ℕ → Bool) (text front after : List ℕ) → list_all p front ≡ true → stops p after ≡ true → text ≡ front ++ after
    → (front ≡ take (prefix_len p text) text) × (after ≡ drop (prefix_len p text) text)
front_is p text front after all ends e =
    let n : prefix_len p text ≡ length front = rw e (run_stops p front after all ends) in
    (rw n (rw e (sym (take_front front after))), rw n (sym (front_rest text front after e)))

pub passes_at : (p : ℕ → Bool) (xs : List ℕ) (i : ℕ) → list_all p xs ≡ true → i < length xs → p (get_or xs i 0) ≡ true
passes_at p [] i all below = absurd (omega arith)
passes_at p (x ∷ xs) zero all below = (both_hold (p x) (list_all p xs) all).0
passes_at p (x ∷ xs) (suc i) all below = passes_at p xs i (both_hold (p x) (list_all p xs) all).1 (omega arith)
