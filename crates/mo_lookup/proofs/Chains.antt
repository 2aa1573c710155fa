-- Outcomes, one after another.
use Rattle.std.proofs.Common.{◌≡◌, Ok, Err, refl}
use Rattle.mo_syntax.specs.Outcome.{Outcome, and_then}

-- what comes of what comes of a value
pub then_after : {A B C : Type 0} (o : Outcome A) (f : A → Outcome B) (g : B → Outcome C) → and_then o (λ a. and_then (f a) g) ≡ and_then (and_then o f) g
then_after (Ok a) f g = refl
then_after (Err b) f g = refl
