-- The law that the value of a resolved expression at an index is that of its element (Modelica Language Specification 3.5, sections 3.4,
-- 3.7.1 and 10.6).
--
-- What is known of an expression is found by a walk over it, one operation after the other; its element is a scalar expression of the flat
-- model. Wherever both are numbers they are one number, if its dimensions break no rule: where those of operands do not fit one another,
-- the walk and the element may take them at different indices.
use Rattle.std.specs.Prelude.{◌≡◌, ℕ, ℤ, pos, ◌+ℤ◌, ◌-ℤ◌, ◌*ℤ◌, neg_ℤ, Bool, List, [], ◌∷◌, fold, Option, Some, None, Ok, if◌then◌else◌, nat_eq, int_lt}
use Rattle.mo_syntax.specs.Outcome.{Outcome}
use Rattle.mo_tables.specs.declared.functions.TheConstants.{ABS, MAX, MIN, NO_EVENT}
use Rattle.mo_flat.specs.declared.expr.FlatExpr.{FlatExpr, FlatExpr-F, fold-FlatExpr}
use Rattle.mo_typing.specs.Dims.{Dims, dims_of}
use Rattle.mo_typing.specs.Indices.{Index}
use Rattle.mo_arrays.specs.Elements.{element_of}
use Rattle.mo_values.specs.declared.value.Scalar.TheVariants.{Whole}
use Rattle.mo_values.specs.Numbers.{greater, lesser}
use Rattle.mo_values.specs.Scalars.{Known}
use Rattle.mo_eval.specs.Virtuals.{Element, Resolved, known_at, known_of_virtuals, numbered}

-- ---- numbers of scalar expressions

-- a whole number of any size, None where an expression is not made of numbers
abbrev pub Number : Type 0
Number = Option ℤ

abbrev pub on_one : (ℤ → ℤ) → Number → Number
on_one f None = None
on_one f (Some n) = Some (f n)

abbrev pub on_both : (ℤ → ℤ → ℤ) → Number → Number → Number
on_both f (Some a) (Some b) = Some (f a b)
on_both f a b = None

abbrev pub with_term : Number → Bool × Number → Number
with_term so_far term = on_both (λ a b. if term.0 then a -ℤ b else a +ℤ b) so_far term.1

-- dividing gives no whole number
abbrev pub with_factor : Number → Bool × Number → Number
with_factor so_far factor = if factor.0 then None else on_both (λ a b. a *ℤ b) so_far factor.1

abbrev pub magnitude : ℤ → ℤ
magnitude n = if int_lt n (pos 0) then neg_ℤ n else n

abbrev pub called : ℕ → List Number → Number
called function (a ∷ []) = if nat_eq function ABS then on_one magnitude a else (if nat_eq function NO_EVENT then a else None)
called function (a ∷ b ∷ []) = if nat_eq function MIN then on_both lesser a b else (if nat_eq function MAX then on_both greater a b else None)
called function args = None

abbrev pub number_node : (ℕ → Number) → FlatExpr-F Number → Number
number_node variable (FlatExpr-F.Whole n) = Some n
number_node variable (FlatExpr-F.Var n order) = variable n
number_node variable (FlatExpr-F.Sum terms) = fold with_term (Some (pos 0)) terms
number_node variable (FlatExpr-F.Product factors) = fold with_factor (Some (pos 1)) factors
number_node variable (FlatExpr-F.Call function args) = called function args
number_node variable other = None

-- the number of a scalar expression, where the variables have these numbers
abbrev pub number_by : (ℕ → Number) → FlatExpr → Number
number_by variable = fold-FlatExpr Number (number_node variable)

-- ---- the law

abbrev pub known_number : Outcome Known → Number
known_number (Ok (Some (Whole n))) = Some n
known_number outcome = None

-- what is known of a resolved expression's variables, by their numbers
abbrev pub variable_number : (Element → Outcome Known) → Resolved → ℕ → Number
variable_number read e n = known_number (numbered (known_of_virtuals read e.virtuals) n)

abbrev pub ElementsHaveTheirValues : Type 0
ElementsHaveTheirValues =
    (read : Element → Outcome Known) (e : Resolved) (dims : Dims) (index : Index) (value number : ℤ) → dims_of e.expression ≡ Ok dims →
    known_at read e index ≡ Ok (Some (Whole value)) → number_by (variable_number read e) (element_of e.expression index) ≡ Some number →
    value ≡ number
