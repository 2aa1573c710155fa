-- The elements of each form of a node.
use Rattle.std.proofs.Common.{◌≡◌, ◌≤◌, ℕ, ℤ, Bool, List, [], ◌∷◌, map, length, Option, Some, None, ap, sym, ◌∙◌, arith}
use Rattle.std.specs.Option.{option_map}
use Rattle.std.proofs.lemmas.Grind.{common_steps}
use Rattle.std.proofs.lemmas.Simd.{map-map}
use Rattle.std.proofs.Math.Seq.{take-length}
use Rattle.mo_syntax.specs.declared.place.Place.{Place}
use Rattle.mo_syntax.specs.declared.meaning.Kind.{Kind}
use Rattle.mo_syntax.specs.declared.meaning.ClassId.{ClassId}
use Rattle.mo_syntax.specs.declared.expr.RelOp.{RelOp}
use Rattle.mo_flat.specs.declared.array.Subscript.{Subscript}
use Rattle.mo_flat.specs.declared.array.ArrayExpr.{ArrayExpr, out-ArrayExpr, roll-out-ArrayExpr, para-roll-ArrayExpr}
use Rattle.mo_flat.specs.declared.array.ArrayNode.{ArrayNode-F, para-roll-ArrayNode}
use Rattle.mo_flat.specs.declared.array.ArrayNode.TheVariants.{Whole, Decimal, Str, Truth, Literal, Time, Vars, Sum, Product, Power, Relation, Not, All, Any, If, Call, Der, Array, Range, Size, Sized}
use Rattle.mo_flat.specs.declared.array.ArrayNode.TheVariants.{rolls-Whole, rolls-Decimal, rolls-Str, rolls-Truth, rolls-Literal, rolls-Time, rolls-Vars, rolls-Sum, rolls-Product, rolls-Power, rolls-Relation, rolls-Not, rolls-All, rolls-Any, rolls-If, rolls-Call, rolls-Der, rolls-Array, rolls-Range, rolls-Size, rolls-Sized}
use Rattle.mo_flat.specs.declared.expr.FlatExpr.{FlatExpr}
use Rattle.mo_flat.specs.declared.expr.FlatExpr.TheVariants.{Whole as whole, Decimal as decimal, Str as text_of, Truth as truth, Literal as literal, Time as time, Power as power, Relation as relation, Not as negated, All as all_of, Any as any_of, If as choice, Der as derivative, Call as called}
use Rattle.mo_typing.specs.Dims.{Dims}
use Rattle.mo_typing.specs.Shape.{shape_of}
use Rattle.mo_typing.specs.Indices.{Index, range_element, located}
use Rattle.mo_arrays.specs.Elements.{Part, element_of, element_of_node, element_node, element_part, at, sum_of, product_of, chain_of, call, element_among, sized_element, size_element, variable}
use Rattle.mo_arrays.specs.steps.Parts.{part_of, factor_of, chain_before}

abbrev Element : Type 0
Element = Index → FlatExpr

-- an element of an expression is that of its node
pub at_expression : (e : ArrayExpr) (i : Index) → element_of e i ≡ element_of_node (out-ArrayExpr e).node i
at_expression e i = ap (λ x. element_of x i) (sym (roll-out-ArrayExpr e))
    ∙ ap (λ (f : Element). f i) (para-roll-ArrayExpr Element Element element_node element_part (out-ArrayExpr e))

pub at_Whole : (n : ℤ) (i : Index) → element_of_node (Whole n) i ≡ whole n
at_Whole n i = ap (λ node. element_of_node node i) (sym (rolls-Whole n))
    ∙ ap (λ (f : Element). f i) (para-roll-ArrayNode Element Element element_node element_part (ArrayNode-F.Whole n))

pub at_Decimal : (text : List ℕ) (i : Index) → element_of_node (Decimal text) i ≡ decimal text
at_Decimal text i = ap (λ node. element_of_node node i) (sym (rolls-Decimal text))
    ∙ ap (λ (f : Element). f i) (para-roll-ArrayNode Element Element element_node element_part (ArrayNode-F.Decimal text))

pub at_Str : (text : List ℕ) (i : Index) → element_of_node (Str text) i ≡ text_of text
at_Str text i = ap (λ node. element_of_node node i) (sym (rolls-Str text))
    ∙ ap (λ (f : Element). f i) (para-roll-ArrayNode Element Element element_node element_part (ArrayNode-F.Str text))

pub at_Truth : (b : Bool) (i : Index) → element_of_node (Truth b) i ≡ truth b
at_Truth b i = ap (λ node. element_of_node node i) (sym (rolls-Truth b))
    ∙ ap (λ (f : Element). f i) (para-roll-ArrayNode Element Element element_node element_part (ArrayNode-F.Truth b))

pub at_Literal : (class : ClassId) (n : ℕ) (name : List ℕ) (i : Index) → element_of_node (Literal class n name) i ≡ literal name
at_Literal class n name i = ap (λ node. element_of_node node i) (sym (rolls-Literal class n name))
    ∙ ap (λ (f : Element). f i) (para-roll-ArrayNode Element Element element_node element_part (ArrayNode-F.Literal class n name))

pub at_Time : (i : Index) → element_of_node Time i ≡ time
at_Time i = ap (λ node. element_of_node node i) (sym rolls-Time)
    ∙ ap (λ (f : Element). f i) (para-roll-ArrayNode Element Element element_node element_part ArrayNode-F.Time)

pub at_Vars : (vars : List ℕ) (kind : Kind) (dims : Dims) (subs : List Subscript) (i : Index) → element_of_node (Vars vars kind dims subs) i ≡ variable vars dims (located subs i)
at_Vars vars kind dims subs i = ap (λ node. element_of_node node i) (sym (rolls-Vars vars kind dims subs))
    ∙ ap (λ (f : Element). f i) (para-roll-ArrayNode Element Element element_node element_part (ArrayNode-F.Vars vars kind dims subs))

pub at_Sum : (ts : List (Bool × Bool × ArrayExpr)) (i : Index) → element_of_node (Sum ts) i ≡ sum_of (map (λ t. (t.0, at (part_of t.2) i)) ts)
at_Sum ts i = ap (λ node. element_of_node node i) (sym (rolls-Sum ts))
    ∙ (ap (λ (f : Element). f i) (para-roll-ArrayNode Element Element element_node element_part (ArrayNode-F.Sum ts))
    ∙ ap sum_of (map-map (λ (t : Bool × Bool × Part). (t.0, at t.2 i)) (λ t. (t.0, t.1, part_of t.2)) ts))

pub at_Product : (fs : List (Bool × Bool × ArrayExpr)) (i : Index) → element_of_node (Product fs) i ≡ product_of ((chain_before fs (length fs)).factors i)
at_Product fs i = ap (λ node. element_of_node node i) (sym (rolls-Product fs))
    ∙ (ap (λ (f : Element). f i) (para-roll-ArrayNode Element Element element_node element_part (ArrayNode-F.Product fs))
    ∙ ap (λ xs. product_of ((chain_of (map factor_of xs)).factors i)) (sym (take-length fs)))

pub at_Power : (base : ArrayExpr) (dotted : Bool) (exponent : ArrayExpr) (i : Index) → element_of_node (Power base dotted exponent) i ≡ power (at (part_of base) i) (at (part_of exponent) i)
at_Power base dotted exponent i = ap (λ node. element_of_node node i) (sym (rolls-Power base dotted exponent))
    ∙ ap (λ (f : Element). f i) (para-roll-ArrayNode Element Element element_node element_part (ArrayNode-F.Power base dotted exponent))

pub at_Relation : (op : RelOp) (left right : ArrayExpr) (i : Index) → element_of_node (Relation op left right) i ≡ relation op (at (part_of left) i) (at (part_of right) i)
at_Relation op left right i = ap (λ node. element_of_node node i) (sym (rolls-Relation op left right))
    ∙ ap (λ (f : Element). f i) (para-roll-ArrayNode Element Element element_node element_part (ArrayNode-F.Relation op left right))

pub at_Not : (inner : ArrayExpr) (i : Index) → element_of_node (Not inner) i ≡ negated (at (part_of inner) i)
at_Not inner i = ap (λ node. element_of_node node i) (sym (rolls-Not inner))
    ∙ ap (λ (f : Element). f i) (para-roll-ArrayNode Element Element element_node element_part (ArrayNode-F.Not inner))

pub at_All : (parts : List ArrayExpr) (i : Index) → element_of_node (All parts) i ≡ all_of (map (λ e. at (part_of e) i) parts)
at_All parts i = ap (λ node. element_of_node node i) (sym (rolls-All parts))
    ∙ (ap (λ (f : Element). f i) (para-roll-ArrayNode Element Element element_node element_part (ArrayNode-F.All parts))
    ∙ ap all_of (map-map (λ (part : Part). at part i) part_of parts))

pub at_Any : (parts : List ArrayExpr) (i : Index) → element_of_node (Any parts) i ≡ any_of (map (λ e. at (part_of e) i) parts)
at_Any parts i = ap (λ node. element_of_node node i) (sym (rolls-Any parts))
    ∙ (ap (λ (f : Element). f i) (para-roll-ArrayNode Element Element element_node element_part (ArrayNode-F.Any parts))
    ∙ ap any_of (map-map (λ (part : Part). at part i) part_of parts))

pub at_If : (bs : List (ArrayExpr × ArrayExpr)) (other : ArrayExpr) (i : Index) → element_of_node (If bs other) i ≡ choice (map (λ b. (at (part_of b.0) i, at (part_of b.1) i)) bs) (at (part_of other) i)
at_If bs other i = ap (λ node. element_of_node node i) (sym (rolls-If bs other))
    ∙ (ap (λ (f : Element). f i) (para-roll-ArrayNode Element Element element_node element_part (ArrayNode-F.If bs other))
    ∙ ap (λ made. choice made (at (part_of other) i)) (map-map (λ (b : Part × Part). (at b.0 i, at b.1 i)) (λ b. (part_of b.0, part_of b.1)) bs))

pub at_Call : (function : ℕ) (args : List ArrayExpr) (i : Index) → element_of_node (Call function args) i ≡ call function (map part_of args) i
at_Call function args i = ap (λ node. element_of_node node i) (sym (rolls-Call function args))
    ∙ ap (λ (f : Element). f i) (para-roll-ArrayNode Element Element element_node element_part (ArrayNode-F.Call function args))

pub at_Der : (inner : ArrayExpr) (i : Index) → element_of_node (Der inner) i ≡ derivative (at (part_of inner) i)
at_Der inner i = ap (λ node. element_of_node node i) (sym (rolls-Der inner))
    ∙ ap (λ (f : Element). f i) (para-roll-ArrayNode Element Element element_node element_part (ArrayNode-F.Der inner))

pub at_Array : (parts : List ArrayExpr) (i : Index) → element_of_node (Array parts) i ≡ element_among (map part_of parts) i
at_Array parts i = ap (λ node. element_of_node node i) (sym (rolls-Array parts))
    ∙ ap (λ (f : Element). f i) (para-roll-ArrayNode Element Element element_node element_part (ArrayNode-F.Array parts))

pub at_Range : (first step last : ℤ) (i : Index) → element_of_node (Range first step last) i ≡ whole (range_element first step i)
at_Range first step last i = ap (λ node. element_of_node node i) (sym (rolls-Range first step last))
    ∙ ap (λ (f : Element). f i) (para-roll-ArrayNode Element Element element_node element_part (ArrayNode-F.Range first step last))

pub at_Size : (e : ArrayExpr) (k : Option (Place × ℤ)) (i : Index) → element_of_node (Size e k) i ≡ size_element (shape_of e) k i
at_Size e None i = ap (λ node. element_of_node node i) (sym (rolls-Size e None))
    ∙ ap (λ (f : Element). f i) (para-roll-ArrayNode Element Element element_node element_part (ArrayNode-F.Size e None))
at_Size e (Some k) i = ap (λ node. element_of_node node i) (sym (rolls-Size e (Some k)))
    ∙ ap (λ (f : Element). f i) (para-roll-ArrayNode Element Element element_node element_part (ArrayNode-F.Size e (Some k)))

pub at_Sized : (function : ℕ) (part : Option ArrayExpr) (sizes : List (Place × ℤ)) (i : Index) →
    element_of_node (Sized function part sizes) i ≡ sized_element function (option_map part_of part) i
at_Sized function None sizes i = ap (λ node. element_of_node node i) (sym (rolls-Sized function None sizes))
    ∙ ap (λ (f : Element). f i) (para-roll-ArrayNode Element Element element_node element_part (ArrayNode-F.Sized function None sizes))
at_Sized function (Some e) sizes i = ap (λ node. element_of_node node i) (sym (rolls-Sized function (Some e) sizes))
    ∙ ap (λ (f : Element). f i) (para-roll-ArrayNode Element Element element_node element_part (ArrayNode-F.Sized function (Some e) sizes))

-- a call with more than two arguments
pub at_many : (function : ℕ) (args : List ArrayExpr) (i : Index) → 3 ≤ length args →
    called function (map (λ e. at (part_of e) i) args) ≡ call function (map part_of args) i
at_many function [] i small = absurd (grind (arith, common_steps))
at_many function (a ∷ []) i small = absurd (grind (arith, common_steps))
at_many function (a ∷ b ∷ []) i small = absurd (grind (arith, common_steps))
at_many function (a ∷ b ∷ c ∷ more) i small = ap (called function) (sym (map-map (λ (part : Part). at part i) part_of (a ∷ b ∷ c ∷ more)))
