-- Worked rows of Integer arithmetic, by computation.
use Rattle.std.proofs.Common.{◌≡◌, pos, negsuc, false, Some, None, refl}
use Rattle.mo_values.specs.Numbers.{added, absolute, quotient, remainder, modulo}

-- `div(-7, 2)` is -3, `mod(-7, 2)` is 1, `rem(-7, 2)` is -1
pub quotient_cuts_toward_zero : quotient (negsuc 6) (pos 2) ≡ Some (negsuc 2)
quotient_cuts_toward_zero = refl

pub modulo_has_the_sign_of_the_right : modulo (negsuc 6) (pos 2) ≡ Some (pos 1)
modulo_has_the_sign_of_the_right = refl

pub modulo_by_a_negative : modulo (pos 7) (negsuc 1) ≡ Some (negsuc 0)
modulo_by_a_negative = refl

pub remainder_has_the_sign_of_the_left : remainder (negsuc 6) (pos 2) ≡ Some (negsuc 0)
remainder_has_the_sign_of_the_left = refl

-- `9223372036854775807 + 1` and `div(1, 0)` have no result
pub sum_past_64_bits : added false (pos 9223372036854775807) (pos 1) ≡ None
sum_past_64_bits = refl

pub quotient_by_zero : quotient (pos 1) (pos 0) ≡ None
quotient_by_zero = refl

-- the least number divided by -1 does not fit, what that leaves does
pub least_by_minus_one : quotient (negsuc 9223372036854775807) (negsuc 0) ≡ None
least_by_minus_one = refl

pub rest_by_minus_one : remainder (negsuc 9223372036854775807) (negsuc 0) ≡ Some (pos 0)
rest_by_minus_one = refl

pub least_has_no_absolute_value : absolute (negsuc 9223372036854775807) ≡ None
least_has_no_absolute_value = refl
