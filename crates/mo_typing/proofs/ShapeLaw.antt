-- The dimensions by which elements are counted are those that are asked, where these break no rule.
use Rattle.std.proofs.Common.{◌≡◌, suc, Bool, List, [], ◌∷◌, ◌++◌, map, length, Some, None, refl, ap, sym, ◌∙◌, subst}
use Rattle.std.specs.Prelude.{fold, Ok}
use Rattle.mo_syntax.specs.Outcome.{Outcome, and_then}
use Rattle.mo_syntax.specs.declared.place.Place.{Place}
use Rattle.mo_flat.specs.declared.array.ArrayExpr.{ArrayExpr, ArrayExpr-F, roll-ArrayExpr, map-ArrayExpr, fold-roll-ArrayExpr, ind-ArrayExpr}
use Rattle.mo_flat.specs.declared.array.ArrayNode.{ArrayNode, ArrayNode-F, roll-ArrayNode, map-ArrayNode, fold-roll-ArrayNode}
use Rattle.mo_typing.specs.Dims.{Dims, Operand, Part, dims_node, dims_part, part_of, dims_of, dims_of_node, added, multiplied, chain, operand, operands_of, scalar, scalars, related, raised, dims_of_branches, dims_of_all, alike, call, size_dims}
use Rattle.mo_typing.specs.Shape.{shape_node, shape_part, shape_of, shape_of_node, or_scalar, first, call_shape, power_shape}
use Rattle.mo_typing.specs.Shape.{added as added_shape, multiplied as multiplied_shape}
use Rattle.mo_typing.proofs.Agreeing.{ok_same, after, each_agrees, sum_agrees, product_agrees, power_agrees, scalar_agrees, scalars_agree, alike_first, alike_last, call_agrees, filled_agrees, range_agrees}

AgreesIn : ArrayNode → Type 0
AgreesIn node = (place : Place) (d : Dims) → dims_of_node node place ≡ Ok d → shape_of_node node ≡ d

Agrees : ArrayExpr → Type 0
Agrees e = (d : Dims) → dims_of e ≡ Ok d → shape_of e ≡ d

abbrev Node : Type 0
Node = (node : ArrayNode) × AgreesIn node

abbrev Whole : Type 0
Whole = (e : ArrayExpr) × Agrees e

abbrev Asked : Type 0
Asked = Place → Outcome Dims

-- a node by its parts
rolled : (layer : ArrayNode-F ArrayNode ArrayExpr) → ((place : Place) (d : Dims) → dims_node (map-ArrayNode ArrayNode ArrayExpr Asked Part dims_of_node part_of layer) place ≡ Ok d → shape_node (map-ArrayNode ArrayNode ArrayExpr Dims Dims shape_of_node shape_of layer) ≡ d) → AgreesIn (roll-ArrayNode layer)
unfolding AgreesIn
rolled layer h place d e =
    fold-roll-ArrayNode Dims Dims shape_node shape_part layer
    ∙ h place d (ap (λ (f : Asked). f place) (sym (fold-roll-ArrayNode Asked Part dims_node dims_part layer)) ∙ e)

same_length : {X Y A B : Type 0} (f : Y → A) (g : Y → B) (h : X → Y) (xs : List X) → length (map f (map h xs)) ≡ length (map g (map h xs))
same_length f g h [] = refl
same_length f g h (x ∷ xs) = ap suc (same_length f g h xs)

all_agree : (ts : List Whole) (ds : List Dims) → dims_of_all (map part_of (map (λ t. t.0) ts)) ≡ Ok ds → map shape_of (map (λ t. t.0) ts) ≡ ds
unfolding Agrees
all_agree = each_agrees (λ part. part.dims) part_of shape_of (λ (t : Whole). t.0) (λ t d e. t.1 d e)

-- a term or factor as a part, by its dimensions, and without the proof
abbrev signed_part : Bool × Bool × ArrayExpr → Bool × Bool × Part
signed_part t = (t.0, t.1, part_of t.2)

abbrev signed_shape : Bool × Bool × ArrayExpr → Operand
signed_shape t = (t.0, t.1, shape_of t.2)

abbrev signed_whole : Bool × Bool × Whole → Bool × Bool × ArrayExpr
signed_whole t = (t.0, t.1, t.2.0)

operands_agree : (ts : List (Bool × Bool × Whole)) (ops : List Operand) → operands_of (map signed_part (map signed_whole ts)) ≡ Ok ops → map signed_shape (map signed_whole ts) ≡ ops
unfolding Agrees
operands_agree = each_agrees operand signed_part signed_shape signed_whole (λ t b e.
    let a = after (dims_of t.2.0) (λ dims. Ok (t.0, t.1, dims)) b e in
    ap (λ s. (t.0, t.1, s)) (t.2.1 a.0 a.1) ∙ ok_same (t.0, t.1, a.0) b a.2)

abbrev branch_part : ArrayExpr × ArrayExpr → Part × Part
branch_part b = (part_of b.0, part_of b.1)

abbrev branch_whole : Whole × Whole → ArrayExpr × ArrayExpr
branch_whole b = (b.0.0, b.1.0)

abbrev Kept : ArrayNode-F Node Whole → Place → Dims → Type 0
Kept node place d =
    dims_node (map-ArrayNode ArrayNode ArrayExpr Asked Part dims_of_node part_of (map-ArrayNode Node Whole ArrayNode ArrayExpr (λ t. t.0) (λ t. t.0) node)) place ≡ Ok d →
    shape_node (map-ArrayNode ArrayNode ArrayExpr Dims Dims shape_of_node shape_of (map-ArrayNode Node Whole ArrayNode ArrayExpr (λ t. t.0) (λ t. t.0) node)) ≡ d

node_agrees : (node : ArrayNode-F Node Whole) (place : Place) (d : Dims) → Kept node place d
unfolding Agrees
node_agrees (ArrayNode-F.Whole n) place d e = ok_same [] d e
node_agrees (ArrayNode-F.Decimal text) place d e = ok_same [] d e
node_agrees (ArrayNode-F.Str text) place d e = ok_same [] d e
node_agrees (ArrayNode-F.Truth b) place d e = ok_same [] d e
node_agrees (ArrayNode-F.Literal class n name) place d e = ok_same [] d e
node_agrees ArrayNode-F.Time place d e = ok_same [] d e
node_agrees (ArrayNode-F.Vars vars kind dims subs) place d e = ok_same _ d e
node_agrees (ArrayNode-F.Sum terms) place d e =
    let a = after (operands_of (map signed_part (map signed_whole terms))) (chain (added place)) d e in
    ap (λ ops. or_scalar (fold added_shape None ops)) (operands_agree terms a.0 a.1) ∙ sum_agrees place a.0 d a.2
node_agrees (ArrayNode-F.Product factors) place d e =
    let a = after (operands_of (map signed_part (map signed_whole factors))) (chain (multiplied place)) d e in
    ap (λ ops. or_scalar (fold multiplied_shape None ops)) (operands_agree factors a.0 a.1) ∙ product_agrees place a.0 d a.2
node_agrees (ArrayNode-F.Power base dotted exponent) place d e =
    let a = after (dims_of base.0) (λ x. and_then (dims_of exponent.0) (raised place dotted x)) d e in
    let b = after (dims_of exponent.0) (raised place dotted a.0) d a.2 in
    ap (λ x. power_shape dotted x (shape_of exponent.0)) (base.1 a.0 a.1) ∙ (ap (power_shape dotted a.0) (exponent.1 b.0 b.1) ∙ power_agrees place dotted a.0 b.0 d b.2)
node_agrees (ArrayNode-F.Relation op left right) place d e =
    let a = after (dims_of left.0) (λ x. and_then (dims_of right.0) (related place x)) d e in
    let b = after (dims_of right.0) (related place a.0) d a.2 in
    scalars_agree place (a.0 ∷ b.0 ∷ []) d b.2
node_agrees (ArrayNode-F.Not inner) place d e = let a = after (dims_of inner.0) (scalar place) d e in (scalar_agrees place a.0 d a.2).1
node_agrees (ArrayNode-F.All parts) place d e = let a = after (dims_of_all (map part_of (map (λ t. t.0) parts))) (scalars place) d e in scalars_agree place a.0 d a.2
node_agrees (ArrayNode-F.Any parts) place d e = let a = after (dims_of_all (map part_of (map (λ t. t.0) parts))) (scalars place) d e in scalars_agree place a.0 d a.2
node_agrees (ArrayNode-F.If branches other) place d e =
    let a = after (dims_of_branches (map branch_part (map branch_whole branches))) (λ all. and_then (dims_of other.0) (λ dims. alike place (all ++ dims ∷ []))) d e in
    let b = after (dims_of other.0) (λ dims. alike place (a.0 ++ dims ∷ [])) d a.2 in
    other.1 b.0 b.1 ∙ alike_last place a.0 b.0 d b.2
node_agrees (ArrayNode-F.Call function args) place d e =
    let a = after (dims_of_all (map part_of (map (λ t. t.0) args))) (call place function) d e in
    ap (call_shape function) (all_agree args a.0 a.1) ∙ call_agrees place function a.0 d a.2
node_agrees (ArrayNode-F.Der inner) place d e = inner.1 d e
node_agrees (ArrayNode-F.Array parts) place d e =
    let asked : List Part = map part_of (map (λ t. t.0) parts) in
    let a = after (and_then (dims_of_all asked) (alike place)) (λ dims. Ok (length asked ∷ dims)) d e in
    let b = after (dims_of_all asked) (alike place) a.0 a.1 in
    ap (λ n. n ∷ first (map shape_of (map (λ t. t.0) parts))) (same_length shape_of part_of (λ (t : Whole). t.0) parts)
    ∙ (ap (λ s. length asked ∷ s) (ap first (all_agree parts b.0 b.1) ∙ alike_first place b.0 a.0 b.2) ∙ ok_same (length asked ∷ a.0) d a.2)
node_agrees (ArrayNode-F.Range first step last) place d e = range_agrees place first step last d e
node_agrees (ArrayNode-F.Size part at) place d e =
    let a = after (dims_of part.0) (λ dims. Ok (size_dims at dims)) d e in
    ap (size_dims at) (part.1 a.0 a.1) ∙ ok_same (size_dims at a.0) d a.2
node_agrees (ArrayNode-F.Sized function None sizes) place d e = filled_agrees place function (Ok []) sizes d e
node_agrees (ArrayNode-F.Sized function (Some part) sizes) place d e = filled_agrees place function (dims_of part.0) sizes d e

-- an expression by its node
expression_agrees : (e : ArrayExpr-F Node Whole) → Agrees (roll-ArrayExpr (map-ArrayExpr Node Whole ArrayNode ArrayExpr (λ t. t.0) (λ t. t.0) e))
unfolding Agrees AgreesIn
expression_agrees e d asked =
    let layer : ArrayExpr-F ArrayNode ArrayExpr = map-ArrayExpr Node Whole ArrayNode ArrayExpr (λ t. t.0) (λ t. t.0) e in
    fold-roll-ArrayExpr Dims Dims shape_node shape_part layer
    ∙ e.node.1 e.place d (ap (λ (part : Part). part.dims) (sym (fold-roll-ArrayExpr Asked Part dims_node dims_part layer)) ∙ asked)

pub dims_agree : (e : ArrayExpr) (d : Dims) → dims_of e ≡ Ok d → shape_of e ≡ d
unfolding Agrees
dims_agree = ind-ArrayExpr AgreesIn Agrees
    (λ x y is. subst (λ z. AgreesIn (roll-ArrayNode z)) is (rolled (map-ArrayNode Node Whole ArrayNode ArrayExpr (λ t. t.0) (λ t. t.0) y) (node_agrees y)))
    (λ x y is. subst (λ z. Agrees (roll-ArrayExpr z)) is (expression_agrees y))
