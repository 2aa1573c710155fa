-- Arithmetic of Integers (Modelica Language Specification 3.5, sections 3.4, 3.5, 3.7.1 and 4.8.2). Numbers have 64 bits and a sign;
-- there is no result where it does not fit, or where zero divides.
use Rattle.std.specs.Prelude.{ℤ, pos, negsuc, ◌+ℤ◌, ◌-ℤ◌, ◌*ℤ◌, neg_ℤ, Bool, ◌&&◌, ◌||◌, not, Option, Some, None, if◌then◌else◌, int_lt, int_le, int_div}
use Rattle.std.specs.Ordering.{int_eq}
use Rattle.mo_syntax.specs.declared.expr.RelOp.{RelOp}
use Rattle.mo_syntax.specs.declared.expr.RelOp.TheVariants.{Less, LessEqual, Greater, GreaterEqual, Equal, NotEqual}

abbrev pub zero : ℤ
zero = pos 0

-- from -2^63 to 2^63 - 1
abbrev pub fits : ℤ → Bool
fits n = int_le (negsuc 9223372036854775807) n && int_le n (pos 9223372036854775807)

abbrev pub fitting : ℤ → Option ℤ
fitting n = if fits n then Some n else None

-- one more term of a sum
abbrev pub added : (minus : Bool) → ℤ → ℤ → Option ℤ
added minus a b = fitting (if minus then a -ℤ b else a +ℤ b)

abbrev pub multiplied : ℤ → ℤ → Option ℤ
multiplied a b = fitting (a *ℤ b)

abbrev pub absolute : ℤ → Option ℤ
absolute n = fitting (if int_lt n zero then neg_ℤ n else n)

abbrev pub lesser : ℤ → ℤ → ℤ
lesser a b = if int_lt b a then b else a

abbrev pub greater : ℤ → ℤ → ℤ
greater a b = if int_lt a b then b else a

-- where zero does not divide
abbrev pub divided : (ℤ → ℤ → ℤ) → ℤ → ℤ → Option ℤ
divided operation a b = if int_eq b zero then None else fitting (operation a b)

-- `div(a, b)` cuts toward zero
abbrev pub quotient : ℤ → ℤ → Option ℤ
quotient = divided int_div

-- `rem(a, b)` is a - b*div(a, b)
abbrev pub rest : ℤ → ℤ → ℤ
rest a b = a -ℤ (b *ℤ int_div a b)

abbrev pub remainder : ℤ → ℤ → Option ℤ
remainder = divided rest

abbrev pub same_sign : ℤ → ℤ → Bool
same_sign m n = if int_lt m zero then int_lt n zero else int_lt zero m && int_lt zero n

-- `mod(a, b)` has the sign of b, or is 0
abbrev pub floored : ℤ → ℤ → ℤ
floored a b = if int_eq (rest a b) zero || same_sign (rest a b) b then rest a b else rest a b +ℤ b

abbrev pub modulo : ℤ → ℤ → Option ℤ
modulo = divided floored

-- a relation, where it is known whether the left operand is less than the right one, and whether they are equal
abbrev pub holds : RelOp → (less : Bool) → (equal : Bool) → Bool
holds Less less equal = less
holds LessEqual less equal = less || equal
holds Greater less equal = not (less || equal)
holds GreaterEqual less equal = not less
holds Equal less equal = equal
holds NotEqual less equal = not equal
