-- Ranges of numbers.
use Rattle.std.proofs.Common.{◌≡◌, ◌≢◌, ℕ, zero, suc, ◌+◌, ◌/◌, ◌≤◌, ℤ, pos, negsuc, ◌-ℤ◌, true, false, [], ◌∷◌, Ok, Err, refl, arith}
use Rattle.std.specs.Prelude.{nat_lt, unsigned_abs}
use Rattle.std.specs.Ordering.{int_eq}
use Rattle.std.proofs.lemmas.Grind.{common_steps}
use Rattle.mo_syntax.specs.Outcome.{breach}
use Rattle.mo_syntax.specs.declared.place.Place.{Place}
use Rattle.mo_syntax.specs.declared.rules.TheConstants.{WRONG_SIZE}
use Rattle.mo_typing.specs.Dims.{range, is_past, largest}

not_still : (z : ℤ) → z ≢ pos 0 → int_eq z (pos 0) ≡ false
not_still (pos zero) h = absurd (h refl)
not_still (pos (suc n)) h = grind (arith, common_steps)
not_still (negsuc n) h = refl

pub empty_range : (place : Place) (first step last : ℤ) → step ≢ pos 0 → is_past first step last ≡ true → range place first step last ≡ Ok (0 ∷ [])
empty_range place first step last h k = rw (not_still step h, k) refl

above : (n : ℕ) → largest ≤ n → nat_lt largest (n + 1) ≡ true
above n h = grind (arith, common_steps)

pub long_range : (place : Place) (first step last : ℤ) → step ≢ pos 0 → is_past first step last ≡ false →
    largest ≤ unsigned_abs (last -ℤ first) / unsigned_abs step → range place first step last ≡ Err (breach WRONG_SIZE place)
long_range place first step last h k m = rw (not_still step h, k, above (unsigned_abs (last -ℤ first) / unsigned_abs step) m) refl
