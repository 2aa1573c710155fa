-- Values of expressions under an interpretation, and dual numbers: a value with its first-order part, pushed forward through
-- an expression (W. K. Clifford, Preliminary sketch of biquaternions, 1873; R. E. Wengert, A simple automatic derivative
-- evaluation program, Comm. ACM 7, 1964). A quotient is a product with a reciprocal, a product is taken from the left, and
-- `noEvent` is transparent.
use Rattle.std.specs.Prelude.{ℕ, ℤ, pos, neg_ℤ, ◌+ℤ◌, ◌-ℤ◌, ◌*ℤ◌, Bool, true, false, not, List, [], ◌∷◌, Option, Some, None, map, if◌then◌else◌, nat_eq, int_lt, int_le}
use Rattle.std.specs.List.{list_all, list_any}
use Rattle.std.specs.Ordering.{int_eq}
use Rattle.mo_syntax.specs.declared.expr.RelOp.{RelOp}
use Rattle.mo_syntax.specs.declared.expr.RelOp.TheVariants.{Less, LessEqual, Greater, GreaterEqual, Equal, NotEqual}
use Rattle.mo_tables.specs.declared.functions.TheConstants.{ABS, ACOS, ASIN, ATAN, ATAN2, COS, COSH, EXP, LOG, LOG10, MAX, MIN, NO_EVENT, SIN, SINH, SQRT, TAN, TANH}
use Rattle.mo_flat.specs.declared.expr.FlatExpr.{FlatExpr, FlatExpr-F, fold-FlatExpr, para-FlatExpr, map-FlatExpr, out-FlatExpr}
use Rattle.mo_flat.specs.declared.model.FlatVar.{FlatVar}
use Rattle.mo_symdiff.specs.Derivative.{derived, literal_at, next_order}
use Rattle.mo_symdiff.specs.Still.{still_node}

-- a whole number for the time, each order of each variable, each literal's text, and each application of a function, a
-- power and a reciprocal
pub record Interpretation : Type 0 where
  pub time : ℤ
  pub variable : ℕ → ℕ → ℤ
  pub decimal : List ℕ → ℤ
  pub string : List ℕ → ℤ
  pub literal : List ℕ → ℤ
  pub function : ℕ → List ℤ → ℤ
  pub power : ℤ → ℤ → ℤ
  pub reciprocal : ℤ → ℤ

-- truth values are 1 and 0
abbrev pub truth : Bool → ℤ
truth b = if b then pos 1 else pos 0

abbrev pub is_zero : ℤ → Bool
is_zero z = int_eq z (pos 0)

abbrev pub compares : RelOp → ℤ → ℤ → Bool
compares Less a b = int_lt a b
compares LessEqual a b = int_le a b
compares Greater a b = int_lt b a
compares GreaterEqual a b = int_le b a
compares Equal a b = int_eq a b
compares NotEqual a b = not (int_eq a b)

abbrev pub signed : Bool → ℤ → ℤ
signed minus v = if minus then neg_ℤ v else v

abbrev pub signed_sum : List (Bool × ℤ) → ℤ
signed_sum [] = pos 0
signed_sum (term ∷ terms) = signed term.0 term.1 +ℤ signed_sum terms

abbrev pub factor_value : Interpretation → Bool × ℤ → ℤ
factor_value I factor = if factor.0 then I.reciprocal factor.1 else factor.1

-- the product of a number and factors
abbrev pub product_from : Interpretation → ℤ → List (Bool × ℤ) → ℤ
product_from I v [] = v
product_from I v (factor ∷ factors) = product_from I (v *ℤ factor_value I factor) factors

abbrev pub call_value : Interpretation → ℕ → List ℤ → ℤ
call_value I function (v ∷ []) = if nat_eq function NO_EVENT then v else I.function function (v ∷ [])
call_value I function args = I.function function args

-- the value of the first branch whose condition is not 0
abbrev pub first_chosen : List (ℤ × ℤ) → ℤ → ℤ
first_chosen [] other = other
first_chosen (branch ∷ branches) other = if is_zero branch.0 then first_chosen branches other else branch.1

abbrev pub value_node : Interpretation → FlatExpr-F ℤ → ℤ
value_node I (FlatExpr-F.Whole n) = n
value_node I (FlatExpr-F.Decimal text) = I.decimal text
value_node I (FlatExpr-F.Str text) = I.string text
value_node I (FlatExpr-F.Truth b) = truth b
value_node I (FlatExpr-F.Literal text) = I.literal text
value_node I FlatExpr-F.Time = I.time
value_node I (FlatExpr-F.Var variable order) = I.variable variable order
-- none is left to carry out
value_node I (FlatExpr-F.Der inner) = pos 0
value_node I (FlatExpr-F.Sum terms) = signed_sum terms
value_node I (FlatExpr-F.Product factors) = product_from I (pos 1) factors
value_node I (FlatExpr-F.Power base exponent) = I.power base exponent
value_node I (FlatExpr-F.Call function args) = call_value I function args
value_node I (FlatExpr-F.Relation op left right) = truth (compares op left right)
value_node I (FlatExpr-F.Not inner) = truth (is_zero inner)
value_node I (FlatExpr-F.All parts) = truth (list_all (λ part. not (is_zero part)) parts)
value_node I (FlatExpr-F.Any parts) = truth (list_any (λ part. not (is_zero part)) parts)
value_node I (FlatExpr-F.If branches other) = first_chosen branches other

abbrev pub value_in : Interpretation → FlatExpr → ℤ
value_in I = fold-FlatExpr ℤ (value_node I)

-- a dual number; a constant, which moves with nothing, has first-order part 0
pub record Dual : Type 0 where
  pub still : Bool
  pub value : ℤ
  pub part : ℤ

-- the value and the part of a product of dual numbers
abbrev pub dual_product : Interpretation → ℤ × ℤ → List (Bool × Dual) → ℤ × ℤ
dual_product I d [] = d
dual_product I (v, p) ((false, d) ∷ factors) = dual_product I (v *ℤ d.value, p *ℤ d.value +ℤ v *ℤ d.part) factors
dual_product I (v, p) ((true, d) ∷ factors) =
    dual_product I (v *ℤ I.reciprocal d.value, p *ℤ I.reciprocal d.value +ℤ v *ℤ (neg_ℤ (I.reciprocal d.value) *ℤ I.reciprocal d.value *ℤ d.part)) factors

abbrev pub apply : Interpretation → ℕ → ℤ → ℤ
apply I function v = I.function function (v ∷ [])

-- a^n for a literal n, and a^b
abbrev pub power_part : Interpretation → Option ℤ → Dual → Dual → ℤ
power_part I (Some n) a b = if int_eq n (pos 2) then pos 2 *ℤ a.value *ℤ a.part else n *ℤ I.power a.value (n -ℤ pos 1) *ℤ a.part
power_part I None a b =
    (if a.still then pos 0 else b.value *ℤ I.power a.value (b.value -ℤ pos 1) *ℤ a.part)
    +ℤ (if b.still then pos 0 else I.power a.value b.value *ℤ apply I LOG a.value *ℤ b.part)

abbrev pub call_part : Interpretation → ℕ → ℤ → ℤ → ℤ
call_part I function v p =
    if nat_eq function SIN then apply I COS v *ℤ p else
    (if nat_eq function COS then neg_ℤ (apply I SIN v *ℤ p) else
    (if nat_eq function TAN then p *ℤ I.reciprocal (I.power (apply I COS v) (pos 2)) else
    (if nat_eq function ASIN then p *ℤ I.reciprocal (apply I SQRT (pos 1 -ℤ I.power v (pos 2))) else
    (if nat_eq function ACOS then neg_ℤ (p *ℤ I.reciprocal (apply I SQRT (pos 1 -ℤ I.power v (pos 2)))) else
    (if nat_eq function ATAN then p *ℤ I.reciprocal (pos 1 +ℤ I.power v (pos 2)) else
    (if nat_eq function SINH then apply I COSH v *ℤ p else
    (if nat_eq function COSH then apply I SINH v *ℤ p else
    (if nat_eq function TANH then p *ℤ I.reciprocal (I.power (apply I COSH v) (pos 2)) else
    (if nat_eq function EXP then apply I EXP v *ℤ p else
    (if nat_eq function LOG then I.reciprocal v *ℤ p else
    (if nat_eq function LOG10 then p *ℤ I.reciprocal (v *ℤ apply I LOG (pos 10)) else
    (if nat_eq function SQRT then p *ℤ I.reciprocal (pos 2 *ℤ apply I SQRT v) else
    (if nat_eq function ABS then (if int_le (pos 0) v then p else neg_ℤ p) else
    call_value I function (p ∷ []))))))))))))))

abbrev pub call_part_of_two : Interpretation → ℕ → Dual → Dual → ℤ
call_part_of_two I function a b =
    if nat_eq function ATAN2 then
    (a.part *ℤ b.value -ℤ a.value *ℤ b.part) *ℤ I.reciprocal (I.power a.value (pos 2) +ℤ I.power b.value (pos 2)) else
    (if nat_eq function MIN then (if int_lt a.value b.value then a.part else b.part) else
    (if nat_eq function MAX then (if int_lt b.value a.value then a.part else b.part) else
    I.function function (a.part ∷ b.part ∷ [])))

abbrev pub args_part : Interpretation → ℕ → List Dual → ℤ
args_part I function (u ∷ []) = call_part I function u.value u.part
args_part I function (a ∷ b ∷ []) = call_part_of_two I function a b
args_part I function args = I.function function (map (λ arg. arg.part) args)

-- The first-order part of what is not constant. What is no number, and what is no function of flat expressions, is never
-- differentiated: there it is the value of the parts.
abbrev pub part_node : Interpretation → FlatExpr-F (FlatExpr × Dual) → ℤ
part_node I FlatExpr-F.Time = pos 1
part_node I (FlatExpr-F.Var variable order) = I.variable variable (next_order order)
part_node I (FlatExpr-F.Sum terms) = signed_sum (map (λ term. (term.0, term.1.1.part)) terms)
part_node I (FlatExpr-F.Product factors) = (dual_product I (pos 1, pos 0) (map (λ factor. (factor.0, factor.1.1)) factors)).1
part_node I (FlatExpr-F.Power base exponent) = power_part I (literal_at (out-FlatExpr exponent.0)) base.1 exponent.1
part_node I (FlatExpr-F.Call function args) = args_part I function (map (λ arg. arg.1) args)
part_node I (FlatExpr-F.If branches other) = first_chosen (map (λ branch. (branch.0.1.value, branch.1.1.part)) branches) other.1.part
part_node I (FlatExpr-F.Relation op left right) = truth (compares op left.1.part right.1.part)
part_node I (FlatExpr-F.Not inner) = truth (is_zero inner.1.part)
part_node I (FlatExpr-F.All parts) = truth (list_all (λ part. not (is_zero part.1.part)) parts)
part_node I (FlatExpr-F.Any parts) = truth (list_any (λ part. not (is_zero part.1.part)) parts)
part_node I _ = pos 0

abbrev pub dual_of : Bool → ℤ → ℤ → Dual
dual_of still value part = record { still = still; value = value; part = if still then pos 0 else part }

abbrev pub dual_node : Interpretation → List FlatVar → FlatExpr-F (FlatExpr × Dual) → Dual
dual_node I vars node =
    dual_of (still_node vars (map-FlatExpr (FlatExpr × Dual) Bool (λ x. x.1.still) node)) (value_node I (map-FlatExpr (FlatExpr × Dual) ℤ (λ x. x.1.value) node)) (part_node I node)

-- the dual number of an expression in which no derivative is left to carry out
abbrev pub dual_in : Interpretation → List FlatVar → FlatExpr → Dual
dual_in I vars = para-FlatExpr Dual (dual_node I vars)

-- the value of the derivative of an expression
abbrev pub slope_in : Interpretation → List FlatVar → FlatExpr → ℤ
slope_in I vars e = value_in I (derived vars e)

-- whether the dual number of an expression is constant
abbrev pub constant_in : Interpretation → List FlatVar → FlatExpr → Bool
constant_in I vars e = (dual_in I vars e).still
