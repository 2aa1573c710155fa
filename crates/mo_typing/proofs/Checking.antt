-- The subscripts of each form of a node.
use Rattle.std.proofs.Common.{◌≡◌, ℕ, ℤ, Bool, List, map, Option, Some, None, ap, sym, ◌∙◌}
use Rattle.std.specs.Option.{option_map}
use Rattle.std.proofs.lemmas.Simd.{map-map}
use Rattle.mo_syntax.specs.Outcome.{and_then}
use Rattle.mo_syntax.specs.declared.place.Place.{Place}
use Rattle.mo_syntax.specs.declared.meaning.Kind.{Kind}
use Rattle.mo_syntax.specs.declared.meaning.ClassId.{ClassId}
use Rattle.mo_syntax.specs.declared.expr.RelOp.{RelOp}
use Rattle.mo_flat.specs.declared.array.Subscript.{Subscript}
use Rattle.mo_flat.specs.declared.array.ArrayExpr.{ArrayExpr, out-ArrayExpr, roll-out-ArrayExpr, para-roll-ArrayExpr}
use Rattle.mo_flat.specs.declared.array.ArrayNode.{ArrayNode-F, para-roll-ArrayNode}
use Rattle.mo_flat.specs.declared.array.ArrayNode.TheVariants.{Whole, Decimal, Str, Truth, Literal, Time, Vars, Sum, Product, Power, Relation, Not, All, Any, If, Call, Der, Array, Range, Size, Sized}
use Rattle.mo_flat.specs.declared.array.ArrayNode.TheVariants.{rolls-Whole, rolls-Decimal, rolls-Str, rolls-Truth, rolls-Literal, rolls-Time, rolls-Vars, rolls-Sum, rolls-Product, rolls-Power, rolls-Relation, rolls-Not, rolls-All, rolls-Any, rolls-If, rolls-Call, rolls-Der, rolls-Array, rolls-Range, rolls-Size, rolls-Sized}
use Rattle.mo_typing.specs.Outcome.{each}
use Rattle.mo_typing.specs.Dims.{Dims}
use Rattle.mo_typing.specs.Shape.{shape_of}
use Rattle.mo_typing.specs.Subscripts.{Checked, Part, fine, both, every, of_part, of_option, size_number, subscripts, subscripts_node, subscripts_part, subscripts_of, subscripts_of_node, part_of}

-- the subscripts of an expression are those of its node
pub within_expression : (e : ArrayExpr) → subscripts_of e ≡ subscripts_of_node (out-ArrayExpr e).node
within_expression e = ap subscripts_of (sym (roll-out-ArrayExpr e)) ∙ para-roll-ArrayExpr Checked Checked subscripts_node subscripts_part (out-ArrayExpr e)

every_of : {A B : Type 0} (check : B → Checked) (g : A → B) (xs : List A) → every check (map g xs) ≡ every (λ x. check (g x)) xs
every_of check g xs = ap (λ cs. and_then (each (λ c. c) cs) (λ _. fine)) (map-map check g xs)

pub in_Whole : (n : ℤ) → subscripts_of_node (Whole n) ≡ fine
in_Whole n = ap subscripts_of_node (sym (rolls-Whole n))
    ∙ para-roll-ArrayNode Checked Checked subscripts_node subscripts_part (ArrayNode-F.Whole n)

pub in_Decimal : (text : List ℕ) → subscripts_of_node (Decimal text) ≡ fine
in_Decimal text = ap subscripts_of_node (sym (rolls-Decimal text))
    ∙ para-roll-ArrayNode Checked Checked subscripts_node subscripts_part (ArrayNode-F.Decimal text)

pub in_Str : (text : List ℕ) → subscripts_of_node (Str text) ≡ fine
in_Str text = ap subscripts_of_node (sym (rolls-Str text))
    ∙ para-roll-ArrayNode Checked Checked subscripts_node subscripts_part (ArrayNode-F.Str text)

pub in_Truth : (b : Bool) → subscripts_of_node (Truth b) ≡ fine
in_Truth b = ap subscripts_of_node (sym (rolls-Truth b))
    ∙ para-roll-ArrayNode Checked Checked subscripts_node subscripts_part (ArrayNode-F.Truth b)

pub in_Literal : (class : ClassId) (n : ℕ) (name : List ℕ) → subscripts_of_node (Literal class n name) ≡ fine
in_Literal class n name = ap subscripts_of_node (sym (rolls-Literal class n name))
    ∙ para-roll-ArrayNode Checked Checked subscripts_node subscripts_part (ArrayNode-F.Literal class n name)

pub in_Time : subscripts_of_node Time ≡ fine
in_Time = ap subscripts_of_node (sym rolls-Time)
    ∙ para-roll-ArrayNode Checked Checked subscripts_node subscripts_part ArrayNode-F.Time

pub in_Vars : (vars : List ℕ) (kind : Kind) (dims : Dims) (subs : List Subscript) → subscripts_of_node (Vars vars kind dims subs) ≡ subscripts dims subs
in_Vars vars kind dims subs = ap subscripts_of_node (sym (rolls-Vars vars kind dims subs))
    ∙ para-roll-ArrayNode Checked Checked subscripts_node subscripts_part (ArrayNode-F.Vars vars kind dims subs)

pub in_Sum : (ts : List (Bool × Bool × ArrayExpr)) → subscripts_of_node (Sum ts) ≡ every (λ t. subscripts_of t.2) ts
in_Sum ts = ap subscripts_of_node (sym (rolls-Sum ts))
    ∙ (para-roll-ArrayNode Checked Checked subscripts_node subscripts_part (ArrayNode-F.Sum ts)
    ∙ every_of (λ (t : Bool × Bool × Part). t.2.1) (λ t. (t.0, t.1, part_of t.2)) ts)

pub in_Product : (ts : List (Bool × Bool × ArrayExpr)) → subscripts_of_node (Product ts) ≡ every (λ t. subscripts_of t.2) ts
in_Product ts = ap subscripts_of_node (sym (rolls-Product ts))
    ∙ (para-roll-ArrayNode Checked Checked subscripts_node subscripts_part (ArrayNode-F.Product ts)
    ∙ every_of (λ (t : Bool × Bool × Part). t.2.1) (λ t. (t.0, t.1, part_of t.2)) ts)

pub in_Power : (base : ArrayExpr) (dotted : Bool) (exponent : ArrayExpr) → subscripts_of_node (Power base dotted exponent) ≡ both (subscripts_of base) (subscripts_of exponent)
in_Power base dotted exponent = ap subscripts_of_node (sym (rolls-Power base dotted exponent))
    ∙ para-roll-ArrayNode Checked Checked subscripts_node subscripts_part (ArrayNode-F.Power base dotted exponent)

pub in_Relation : (op : RelOp) (left right : ArrayExpr) → subscripts_of_node (Relation op left right) ≡ both (subscripts_of left) (subscripts_of right)
in_Relation op left right = ap subscripts_of_node (sym (rolls-Relation op left right))
    ∙ para-roll-ArrayNode Checked Checked subscripts_node subscripts_part (ArrayNode-F.Relation op left right)

pub in_Not : (inner : ArrayExpr) → subscripts_of_node (Not inner) ≡ subscripts_of inner
in_Not inner = ap subscripts_of_node (sym (rolls-Not inner))
    ∙ para-roll-ArrayNode Checked Checked subscripts_node subscripts_part (ArrayNode-F.Not inner)

pub in_All : (parts : List ArrayExpr) → subscripts_of_node (All parts) ≡ every subscripts_of parts
in_All parts = ap subscripts_of_node (sym (rolls-All parts))
    ∙ (para-roll-ArrayNode Checked Checked subscripts_node subscripts_part (ArrayNode-F.All parts)
    ∙ every_of of_part part_of parts)

pub in_Any : (parts : List ArrayExpr) → subscripts_of_node (Any parts) ≡ every subscripts_of parts
in_Any parts = ap subscripts_of_node (sym (rolls-Any parts))
    ∙ (para-roll-ArrayNode Checked Checked subscripts_node subscripts_part (ArrayNode-F.Any parts)
    ∙ every_of of_part part_of parts)

pub in_If : (bs : List (ArrayExpr × ArrayExpr)) (other : ArrayExpr) → subscripts_of_node (If bs other) ≡ both (every (λ b. both (subscripts_of b.0) (subscripts_of b.1)) bs) (subscripts_of other)
in_If bs other = ap subscripts_of_node (sym (rolls-If bs other))
    ∙ (para-roll-ArrayNode Checked Checked subscripts_node subscripts_part (ArrayNode-F.If bs other)
    ∙ ap (λ c. both c (subscripts_of other)) (every_of (λ (b : Part × Part). both b.0.1 b.1.1) (λ b. (part_of b.0, part_of b.1)) bs))

pub in_Call : (function : ℕ) (parts : List ArrayExpr) → subscripts_of_node (Call function parts) ≡ every subscripts_of parts
in_Call function parts = ap subscripts_of_node (sym (rolls-Call function parts))
    ∙ (para-roll-ArrayNode Checked Checked subscripts_node subscripts_part (ArrayNode-F.Call function parts)
    ∙ every_of of_part part_of parts)

pub in_Der : (inner : ArrayExpr) → subscripts_of_node (Der inner) ≡ subscripts_of inner
in_Der inner = ap subscripts_of_node (sym (rolls-Der inner))
    ∙ para-roll-ArrayNode Checked Checked subscripts_node subscripts_part (ArrayNode-F.Der inner)

pub in_Array : (parts : List ArrayExpr) → subscripts_of_node (Array parts) ≡ every subscripts_of parts
in_Array parts = ap subscripts_of_node (sym (rolls-Array parts))
    ∙ (para-roll-ArrayNode Checked Checked subscripts_node subscripts_part (ArrayNode-F.Array parts)
    ∙ every_of of_part part_of parts)

pub in_Range : (first step last : ℤ) → subscripts_of_node (Range first step last) ≡ fine
in_Range first step last = ap subscripts_of_node (sym (rolls-Range first step last))
    ∙ para-roll-ArrayNode Checked Checked subscripts_node subscripts_part (ArrayNode-F.Range first step last)

pub in_Size : (e : ArrayExpr) (k : Option (Place × ℤ)) → subscripts_of_node (Size e k) ≡ both (subscripts_of e) (size_number (shape_of e) k)
in_Size e None = ap subscripts_of_node (sym (rolls-Size e None)) ∙ para-roll-ArrayNode Checked Checked subscripts_node subscripts_part (ArrayNode-F.Size e None)
in_Size e (Some k) = ap subscripts_of_node (sym (rolls-Size e (Some k))) ∙ para-roll-ArrayNode Checked Checked subscripts_node subscripts_part (ArrayNode-F.Size e (Some k))

pub in_Sized : (function : ℕ) (part : Option ArrayExpr) (sizes : List (Place × ℤ)) → subscripts_of_node (Sized function part sizes) ≡ of_option (option_map part_of part)
in_Sized function None sizes = ap subscripts_of_node (sym (rolls-Sized function None sizes)) ∙ para-roll-ArrayNode Checked Checked subscripts_node subscripts_part (ArrayNode-F.Sized function None sizes)
in_Sized function (Some e) sizes = ap subscripts_of_node (sym (rolls-Sized function (Some e) sizes)) ∙ para-roll-ArrayNode Checked Checked subscripts_node subscripts_part (ArrayNode-F.Sized function (Some e) sizes)
