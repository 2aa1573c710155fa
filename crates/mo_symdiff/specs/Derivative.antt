-- The derivative of an expression with respect to time, as a tree: the rules of calculus node for node, with nothing else
-- simplified. (Pantelides 1988 differentiates equations so; the rules for built-in functions are those of the Modelica
-- Language Specification 3.5, section 3.7.2.)
use Rattle.std.specs.Prelude.{ℕ, min, ◌+◌, ℤ, pos, negsuc, ◌-ℤ◌, Bool, true, false, List, [], ◌∷◌, ◌++◌, Option, Some, None, map, if◌then◌else◌, nat_eq}
use Rattle.std.specs.Ordering.{int_eq}
use Rattle.mo_syntax.specs.declared.expr.RelOp.{RelOp}
use Rattle.mo_syntax.specs.declared.expr.RelOp.TheVariants.{Less, Greater, GreaterEqual}
use Rattle.mo_tables.specs.declared.functions.TheConstants.{ABS, ACOS, ASIN, ATAN, ATAN2, COS, COSH, EXP, LOG, LOG10, MAX, MIN, SIN, SINH, SQRT, TAN, TANH}
use Rattle.mo_flat.specs.declared.expr.FlatExpr.{FlatExpr, FlatExpr-F, para-FlatExpr, map-FlatExpr, out-FlatExpr}
use Rattle.mo_flat.specs.declared.expr.FlatExpr.TheVariants.{Whole, Var, Der, Sum, Product, Power, Call, Relation, Not, All, Any, If}
use Rattle.mo_flat.specs.declared.model.FlatVar.{FlatVar}
use Rattle.mo_symdiff.specs.Still.{is_still, still_node}

-- a part with its derivative
abbrev pub Part : Type 0
Part = FlatExpr × FlatExpr

abbrev pub two : FlatExpr
two = Whole (pos 2)

abbrev pub one : FlatExpr
one = Whole (pos 1)

abbrev pub times : List FlatExpr → FlatExpr
times factors = Product (map (λ factor. (false, factor)) factors)

-- u / v
abbrev pub over : FlatExpr → FlatExpr → FlatExpr
over u v = Product ((false, u) ∷ (true, v) ∷ [])

abbrev pub raised : FlatExpr → FlatExpr → FlatExpr
raised a b = Power a b

abbrev pub squared : FlatExpr → FlatExpr
squared u = raised u two

abbrev pub plus : FlatExpr → FlatExpr → FlatExpr
plus u v = Sum ((false, u) ∷ (false, v) ∷ [])

abbrev pub minus : FlatExpr → FlatExpr → FlatExpr
minus u v = Sum ((false, u) ∷ (true, v) ∷ [])

abbrev pub negated : FlatExpr → FlatExpr
negated u = Sum ((true, u) ∷ [])

abbrev pub applied : ℕ → FlatExpr → FlatExpr
applied function u = Call function (u ∷ [])

-- if a op b then u else v
abbrev pub chosen : RelOp → FlatExpr → FlatExpr → FlatExpr → FlatExpr → FlatExpr
chosen op a b u v = If ((Relation op a b, u) ∷ []) v

-- one positive term stands alone
abbrev pub sum_of : List (Bool × FlatExpr) → FlatExpr
sum_of ((false, u) ∷ []) = u
sum_of terms = Sum terms

-- the derivatives of the terms that are not still, with their signs
abbrev pub moving_terms : List FlatVar → List (Bool × Part) → List (Bool × FlatExpr)
moving_terms vars [] = []
moving_terms vars (term ∷ terms) =
    if is_still vars term.1.0 then moving_terms vars terms else (term.0, term.1.1) ∷ moving_terms vars terms

-- what stands in the place of a factor: D(f) for f, and /f*D(f)/f for /f
abbrev pub in_place : Bool → (f slope : FlatExpr) → List (Bool × FlatExpr)
in_place false f slope = (false, slope) ∷ []
in_place true f slope = (true, f) ∷ (false, slope) ∷ (true, f) ∷ []

-- the product with one factor replaced, which is subtracted where that factor is a divisor
abbrev pub replaced_factor : List (Bool × FlatExpr) → Bool × Part → List (Bool × FlatExpr) → Bool × FlatExpr
replaced_factor before (divides, (f, slope)) after = (divides, Product (before ++ (in_place divides f slope ++ after)))

abbrev pub plain_factors : List (Bool × Part) → List (Bool × FlatExpr)
plain_factors = map (λ factor. (factor.0, factor.1.0))

-- a term for each factor that is not still
abbrev pub product_terms : List FlatVar → List (Bool × FlatExpr) → List (Bool × Part) → List (Bool × FlatExpr)
product_terms vars before [] = []
product_terms vars before (factor ∷ factors) =
    if is_still vars factor.1.0 then product_terms vars (before ++ (factor.0, factor.1.0) ∷ []) factors
    else replaced_factor before factor (plain_factors factors) ∷ product_terms vars (before ++ (factor.0, factor.1.0) ∷ []) factors

-- n - 1, where n is above the least 64-bit number
abbrev pub least : ℤ
least = negsuc 9223372036854775807

-- a power whose exponent is an Integer literal n, for n = 2 and for another n above the least 64-bit number
abbrev pub literal_power : ℤ → Part → FlatExpr
literal_power n (a, slope) =
    if int_eq n (pos 2) then times (two ∷ a ∷ slope ∷ [])
    else times (Whole n ∷ Power a (Whole (n -ℤ pos 1)) ∷ slope ∷ [])

-- b*a^(b - 1)*D(a)
abbrev pub base_term : Part → FlatExpr → FlatExpr
base_term (a, slope) b = times (b ∷ Power a (minus b one) ∷ slope ∷ [])

-- a^b*log(a)*D(b)
abbrev pub exponent_term : FlatExpr → Part → FlatExpr
exponent_term a (b, slope) = times (Power a b ∷ applied LOG a ∷ slope ∷ [])

-- the Integer literal that a node is, if it is one above the least 64-bit number
abbrev pub literal_at : FlatExpr-F FlatExpr → Option ℤ
literal_at (FlatExpr-F.Whole n) = if int_eq n least then None else Some n
literal_at _ = None

abbrev pub general_power : List FlatVar → Part → Part → FlatExpr
general_power vars a b =
    if is_still vars b.0 then base_term a b.0
    else (if is_still vars a.0 then exponent_term a.0 b else plus (base_term a b.0) (exponent_term a.0 b))

abbrev pub power_by : List FlatVar → Option ℤ → Part → Part → FlatExpr
power_by vars None a b = general_power vars a b
power_by vars (Some n) a b = literal_power n a

abbrev pub power_slope : List FlatVar → Part → Part → FlatExpr
power_slope vars a b = power_by vars (literal_at (out-FlatExpr b.0)) a b

-- functions of one argument u with derivative D(u)
abbrev pub call_slope : ℕ → Part → FlatExpr
call_slope function (u, slope) =
    if nat_eq function SIN then times (applied COS u ∷ slope ∷ []) else
    (if nat_eq function COS then negated (times (applied SIN u ∷ slope ∷ [])) else
    (if nat_eq function TAN then over slope (squared (applied COS u)) else
    (if nat_eq function ASIN then over slope (applied SQRT (minus one (squared u))) else
    (if nat_eq function ACOS then negated (over slope (applied SQRT (minus one (squared u)))) else
    (if nat_eq function ATAN then over slope (plus one (squared u)) else
    (if nat_eq function SINH then times (applied COSH u ∷ slope ∷ []) else
    (if nat_eq function COSH then times (applied SINH u ∷ slope ∷ []) else
    (if nat_eq function TANH then over slope (squared (applied COSH u)) else
    (if nat_eq function EXP then times (applied EXP u ∷ slope ∷ []) else
    (if nat_eq function LOG then over slope u else
    (if nat_eq function LOG10 then over slope (times (u ∷ applied LOG (Whole (pos 10)) ∷ [])) else
    (if nat_eq function SQRT then over slope (times (two ∷ applied SQRT u ∷ [])) else
    (if nat_eq function ABS then chosen GreaterEqual u (Whole (pos 0)) slope (negated slope) else
    applied function slope)))))))))))))

-- functions of two arguments
abbrev pub call_slope_of_two : ℕ → Part → Part → FlatExpr
call_slope_of_two function (a, p) (b, q) =
    if nat_eq function ATAN2 then over (minus (times (p ∷ b ∷ [])) (times (a ∷ q ∷ []))) (plus (squared a) (squared b)) else
    (if nat_eq function MIN then chosen Less a b p q else
    (if nat_eq function MAX then chosen Greater a b p q else
    Call function (p ∷ q ∷ [])))

abbrev pub args_slope : ℕ → List Part → FlatExpr
args_slope function (u ∷ []) = call_slope function u
args_slope function (a ∷ b ∷ []) = call_slope_of_two function a b
args_slope function args = Call function (map (λ arg. arg.1) args)

-- the next order; the orders of a sound expression stay below the greatest number of 32 bits, where this is one more
abbrev pub next_order : ℕ → ℕ
next_order order = min (order + 1) 4294967295

-- the derivative of a node that is not still, by its parts with their derivatives
abbrev pub slope_node : List FlatVar → FlatExpr-F Part → FlatExpr
slope_node vars FlatExpr-F.Time = one
slope_node vars (FlatExpr-F.Var variable order) = Var variable (next_order order)
slope_node vars (FlatExpr-F.Sum terms) = sum_of (moving_terms vars terms)
slope_node vars (FlatExpr-F.Product factors) = sum_of (product_terms vars [] factors)
slope_node vars (FlatExpr-F.Power base exponent) = power_slope vars base exponent
slope_node vars (FlatExpr-F.Call function args) = args_slope function args
slope_node vars (FlatExpr-F.If branches other) = If (map (λ branch. (branch.0.0, branch.1.1)) branches) other.1
-- what is no number is never differentiated; its parts are
slope_node vars (FlatExpr-F.Relation op left right) = Relation op left.1 right.1
slope_node vars (FlatExpr-F.Not inner) = Not inner.1
slope_node vars (FlatExpr-F.All parts) = All (map (λ part. part.1) parts)
slope_node vars (FlatExpr-F.Any parts) = Any (map (λ part. part.1) parts)
slope_node vars (FlatExpr-F.Der inner) = Der inner.1
slope_node vars _ = Whole (pos 0)

-- the derivative of a node: 0 where it is still
abbrev pub derive_node : List FlatVar → FlatExpr-F Part → FlatExpr
derive_node vars node =
    if still_node vars (map-FlatExpr Part Bool (λ part. is_still vars part.0) node) then Whole (pos 0) else slope_node vars node

-- the derivative of an expression in which no derivative is left to carry out
abbrev pub derived : List FlatVar → FlatExpr → FlatExpr
derived vars = para-FlatExpr FlatExpr (derive_node vars)

-- terms or factors with their derivatives
abbrev pub with_slopes : List FlatVar → List (Bool × FlatExpr) → List (Bool × Part)
with_slopes vars = map (λ part. (part.0, (part.1, derived vars part.1)))
