-- Calls with more than two arguments.
use Rattle.std.proofs.Common.{◌≡◌, ◌≤◌, List, [], ◌∷◌, map, length, Ok, Err, sym, subst, arith}
use Rattle.std.proofs.lemmas.Grind.{common_steps}
use Rattle.mo_syntax.specs.Outcome.{Outcome, and_then}
use Rattle.mo_typing.specs.Outcome.{each}

abbrev IsOkay : Outcome (Unit {0}) → Type 0
IsOkay (Ok u) = Unit {0}
IsOkay (Err b) = ⊥

three_or_more : {Y T : Type 0} (call : List Y → Outcome T) (refused : Outcome T) → ((p q r : Y) (ys : List Y) → call (p ∷ q ∷ r ∷ ys) ≡ refused) →
    (a b c : Outcome Y) (more : Outcome (List Y)) →
    IsOkay (and_then (and_then a (λ p. and_then (and_then b (λ q. and_then (and_then c (λ r. and_then more (λ ks. Ok (r ∷ ks)))) (λ ks. Ok (q ∷ ks)))) (λ ks. Ok (p ∷ ks)))) (λ _. Ok (tt {0}))) →
    refused ≡ and_then (and_then a (λ p. and_then (and_then b (λ q. and_then (and_then c (λ r. and_then more (λ ks. Ok (r ∷ ks)))) (λ ks. Ok (q ∷ ks)))) (λ ks. Ok (p ∷ ks)))) call
three_or_more call refused all (Ok a) (Ok b) (Ok c) (Ok ks) h = sym (all a b c ks)
three_or_more call refused all (Ok a) (Ok b) (Ok c) (Err x) h = absurd h
three_or_more call refused all (Ok a) (Ok b) (Err x) more h = absurd h
three_or_more call refused all (Ok a) (Err x) c more h = absurd h
three_or_more call refused all (Err x) b c more h = absurd h

-- more than two arguments that break no rule themselves
pub many_args : {P X Y T : Type 0} (part : X → P) (asked : P → Outcome Y) (call : List Y → Outcome T) (refused : Outcome T) → ((p q r : Y) (ys : List Y) → call (p ∷ q ∷ r ∷ ys) ≡ refused) →
    (xs : List X) (u : Unit {0}) → 3 ≤ length xs →
    and_then (each asked (map part xs)) (λ _. Ok (tt {0})) ≡ Ok u → refused ≡ and_then (each asked (map part xs)) call
many_args part asked call refused all [] u small h = absurd (grind (arith, common_steps))
many_args part asked call refused all (a ∷ []) u small h = absurd (grind (arith, common_steps))
many_args part asked call refused all (a ∷ b ∷ []) u small h = absurd (grind (arith, common_steps))
many_args part asked call refused all (a ∷ b ∷ c ∷ more) u small h = three_or_more call refused all (asked (part a)) (asked (part b)) (asked (part c)) (each asked (map part more)) (subst IsOkay (sym h) (tt {0}))
