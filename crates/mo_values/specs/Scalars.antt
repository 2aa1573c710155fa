-- What is known of scalars before a simulation (Modelica Language Specification 3.5, sections 3.3 to 3.5, 3.7.1 and 3.8).
--
-- An operation with an undecided operand is undecided. A chain has a result only if every partial result from the left fits 64 bits.
use Rattle.std.specs.Prelude.{ℕ, ℤ, Bool, true, false, ◌&&◌, not, List, [], ◌∷◌, Option, Some, None, Ok, if◌then◌else◌, nat_eq, nat_lt, int_lt}
use Rattle.std.specs.Ordering.{int_eq}
use Rattle.mo_syntax.specs.Outcome.{Outcome, and_then, breaks}
use Rattle.mo_syntax.specs.declared.expr.RelOp.{RelOp}
use Rattle.mo_syntax.specs.declared.meaning.Kind.{Kind}
use Rattle.mo_syntax.specs.declared.meaning.Kind.TheVariants.{Real, Str}
use Rattle.mo_syntax.specs.declared.place.Place.{Place}
use Rattle.mo_syntax.specs.declared.rules.TheConstants.{INTEGER_ARITHMETIC}
use Rattle.mo_tables.specs.declared.functions.TheConstants.{DIV, MOD}
use Rattle.mo_values.specs.declared.value.Reckoned.{Reckoned}
use Rattle.mo_values.specs.declared.value.Reckoned.TheVariants.{Unknown, Outside, Is}
use Rattle.mo_values.specs.declared.value.Scalar.{Scalar}
use Rattle.mo_values.specs.declared.value.Scalar.TheVariants.{Whole, Truth, Literal}
use Rattle.mo_values.specs.declared.value.Value.{Value}
use Rattle.mo_values.specs.declared.value.Value.TheVariants.{Whole as whole_value, Truth as truth_value, Literal as literal_value, Undecided}
use Rattle.mo_values.specs.Numbers.{added, multiplied, absolute, lesser, greater, quotient, remainder, modulo, holds}

-- a value, or none where it is undecided
abbrev pub Known : Type 0
Known = Option Scalar

-- a value with the kind of its expression, which tells what an undecided one is
abbrev pub value_with : Kind → Known → Value
value_with kind None = Undecided kind
value_with kind (Some (Whole n)) = whole_value n
value_with kind (Some (Truth b)) = truth_value b
value_with kind (Some (Literal class place)) = literal_value class place

-- An expression of kind Real or String has no value.
abbrev pub has_values : Kind → Bool
has_values Real = false
has_values Str = false
has_values kind = true

abbrev pub if_it_has : Kind → Known → Known
if_it_has kind known = if has_values kind then known else None

-- ---- results of operations: nothing is known where an operand is undecided, no number where it lies outside 64 bits

abbrev pub of_known : Known → Reckoned
of_known None = Unknown
of_known (Some scalar) = Is scalar

abbrev pub of_number : Option ℤ → Reckoned
of_number None = Outside
of_number (Some n) = Is (Whole n)

-- a number outside breaks rule 30 at the operation
abbrev pub known_from : Place → Reckoned → Outcome Known
known_from place Unknown = Ok None
known_from place Outside = breaks INTEGER_ARITHMETIC place
known_from place (Is scalar) = Ok (Some scalar)

-- the result at the place of its operation; of kind Real or String there is none
abbrev pub settled : Place → Kind → Reckoned → Outcome Known
settled place kind result = if has_values kind then known_from place result else Ok None

-- what an operation gives that has no two numbers
abbrev pub no_result : Reckoned → Reckoned → Reckoned
no_result Unknown b = Unknown
no_result a Unknown = Unknown
no_result Outside b = Outside
no_result a Outside = Outside
no_result a b = Unknown

abbrev pub on_numbers : (ℤ → ℤ → Option ℤ) → Reckoned → Reckoned → Reckoned
on_numbers operation (Is (Whole a)) (Is (Whole b)) = of_number (operation a b)
on_numbers operation a b = no_result a b

abbrev pub sum_with : (minus : Bool) → Reckoned → Reckoned → Reckoned
sum_with minus = on_numbers (added minus)

-- dividing gives a Real
abbrev pub product_with : (divide : Bool) → Reckoned → Reckoned → Reckoned
product_with true a b = Unknown
product_with false a b = on_numbers multiplied a b

abbrev pub absolute_of : Known → Reckoned
absolute_of (Some (Whole n)) = of_number (absolute n)
absolute_of known = Unknown

abbrev pub lesser_of : Known → Known → Known
lesser_of (Some (Whole a)) (Some (Whole b)) = Some (Whole (lesser a b))
lesser_of a b = None

abbrev pub greater_of : Known → Known → Known
greater_of (Some (Whole a)) (Some (Whole b)) = Some (Whole (greater a b))
greater_of a b = None

-- ---- `div`, `mod` and `rem`

abbrev pub divided_by : ℕ → ℤ → ℤ → Option ℤ
divided_by function = if nat_eq function DIV then quotient else (if nat_eq function MOD then modulo else remainder)

abbrev pub division : Place → ℕ → Known → Known → Outcome Known
division place function (Some (Whole a)) (Some (Whole b)) = known_from place (of_number (divided_by function a b))
division place function a b = Ok None

-- ---- relations

-- false is less than true
abbrev pub truth_lt : Bool → Bool → Bool
truth_lt a b = not a && b

abbrev pub truth_eq : Bool → Bool → Bool
truth_eq a b = if a then b else not b

-- Literals of an enumeration stand in the order in which they are declared.
abbrev pub related : RelOp → Known → Known → Known
related op (Some (Whole a)) (Some (Whole b)) = Some (Truth (holds op (int_lt a b) (int_eq a b)))
related op (Some (Truth a)) (Some (Truth b)) = Some (Truth (holds op (truth_lt a b) (truth_eq a b)))
related op (Some (Literal class a)) (Some (Literal class' b)) = Some (Truth (holds op (nat_lt a b) (nat_eq a b)))
related op a b = None

-- ---- `not`, `and` and `or`

abbrev pub negated : Known → Known
negated (Some (Truth b)) = Some (Truth (not b))
negated known = None

-- all are read, and what they have is dropped
abbrev pub read_all : List (Outcome Known) → Outcome Known
read_all [] = Ok None
read_all (operand ∷ operands) = and_then operand (λ _. read_all operands)

-- A chain of `and` (of `or`) is decided by the first operand that is false (true), if all operands before it are decided; those behind
-- it are not read. Behind an undecided one all are read, and the chain is undecided.
abbrev pub chained : (deciding : Bool) → List (Outcome Known) → Outcome Known
chained deciding [] = Ok (Some (Truth (not deciding)))
chained deciding (operand ∷ operands) = and_then operand (next (chained deciding operands) (read_all operands))
  where
    next : Outcome Known → Outcome Known → Known → Outcome Known
    next further undecided (Some (Truth b)) = if truth_eq b deciding then Ok (Some (Truth deciding)) else further
    next further undecided known = undecided
