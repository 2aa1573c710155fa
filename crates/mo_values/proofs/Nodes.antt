-- What is known of each form of a resolved expression.
use Rattle.std.proofs.Common.{◌≡◌, ◌≤◌, ℕ, ℤ, Bool, true, false, List, [], ◌∷◌, ◌++◌, map, length, Option, Some, None, Ok, ap, sym, ◌∙◌, arith}
use Rattle.std.specs.Prelude.{fold}
use Rattle.std.specs.Option.{option_map}
use Rattle.std.proofs.lemmas.Grind.{common_steps}
use Rattle.std.proofs.lemmas.Simd.{map-map}
use Rattle.std.proofs.Math.Seq.{take-length}
use Rattle.mo_syntax.specs.Outcome.{Outcome, and_then}
use Rattle.mo_syntax.specs.declared.place.Place.{Place}
use Rattle.mo_syntax.specs.declared.meaning.Kind.{Kind}
use Rattle.mo_syntax.specs.declared.meaning.ClassId.{ClassId}
use Rattle.mo_syntax.specs.declared.expr.RelOp.{RelOp}
use Rattle.mo_flat.specs.declared.array.Subscript.{Subscript}
use Rattle.mo_flat.specs.declared.array.ArrayExpr.{ArrayExpr, out-ArrayExpr, roll-out-ArrayExpr, para-roll-ArrayExpr, fold_out-ArrayExpr}
use Rattle.mo_flat.specs.declared.array.ArrayNode.{ArrayNode-F, para-roll-ArrayNode}
use Rattle.mo_flat.specs.declared.array.ArrayNode.TheVariants.{Whole, Decimal, Str, Truth, Literal, Time, Vars, Sum, Product, Power, Relation, Not, All, Any, If, Call, Der, Array, Range, Size, Sized}
use Rattle.mo_flat.specs.declared.array.ArrayNode.TheVariants.{rolls-Whole, rolls-Decimal, rolls-Str, rolls-Truth, rolls-Literal, rolls-Time, rolls-Vars, rolls-Sum, rolls-Product, rolls-Power, rolls-Relation, rolls-Not, rolls-All, rolls-Any, rolls-If, rolls-Call, rolls-Der, rolls-Array, rolls-Range, rolls-Size, rolls-Sized}
use Rattle.mo_typing.specs.Dims.{Dims}
use Rattle.mo_typing.specs.Shape.{shape_of}
use Rattle.mo_typing.specs.Kinds.{kind_of, kind_of_node, kind_node, kind_part}
use Rattle.mo_typing.specs.Kinds.{Part as KindPart}
use Rattle.mo_typing.specs.Indices.{Index, range_element, located, variable_at}
use Rattle.mo_values.specs.declared.value.Reckoned.{Reckoned}
use Rattle.mo_values.specs.declared.value.Reckoned.TheVariants.{Unknown, Is}
use Rattle.mo_values.specs.declared.value.Scalar.TheVariants.{Whole as whole, Truth as truth, Literal as literal}
use Rattle.mo_values.specs.Scalars.{Known, of_known, settled, negated, related, chained}
use Rattle.mo_values.specs.Walk.{Part, at, number, sum_at, chain_of, undecided_behind, on_both, read_as, branch_reads, call, element_among, sized_element, size_element, result_node, known_part, kind_or_real, known_by, result_of_node, part_of, signed_of, branch_of}
use Rattle.mo_values.specs.steps.Chains.{chain_before}

abbrev Element : Type 0
Element = Index → Outcome Known

abbrev Result_at : Type 0
Result_at = Index → Outcome Reckoned

kind_at : (e : ArrayExpr) → kind_of_node (out-ArrayExpr e).node (out-ArrayExpr e).place ≡ kind_of e
kind_at e = ap (λ (part : KindPart). part.kind) (sym (fold_out-ArrayExpr (Place → Outcome Kind) KindPart kind_node kind_part e))

-- what is known of an expression is what its node gives, at its place and of its kind
pub known_expression : (variable : ℕ → Outcome Known) (e : ArrayExpr) (i : Index) →
    known_by variable e i ≡ and_then (result_of_node variable (out-ArrayExpr e).node i) (settled (out-ArrayExpr e).place (kind_or_real (kind_of e)))
known_expression variable e i = ap (λ x. known_by variable x i) (sym (roll-out-ArrayExpr e))
    ∙ (ap (λ (f : Element). f i) (para-roll-ArrayExpr Result_at Element (result_node variable) known_part (out-ArrayExpr e))
    ∙ ap (λ kind. and_then (result_of_node variable (out-ArrayExpr e).node i) (settled (out-ArrayExpr e).place (kind_or_real kind))) (kind_at e))

module _ (variable : ℕ → Outcome Known) where
  pub at_Whole : (n : ℤ) (i : Index) → result_of_node variable (Whole n) i ≡ Ok (Is (whole n))
  at_Whole n i = ap (λ node. result_of_node variable node i) (sym (rolls-Whole n))
      ∙ ap (λ (f : Result_at). f i) (para-roll-ArrayNode Result_at Element (result_node variable) known_part (ArrayNode-F.Whole n))

  pub at_Decimal : (text : List ℕ) (i : Index) → result_of_node variable (Decimal text) i ≡ Ok Unknown
  at_Decimal text i = ap (λ node. result_of_node variable node i) (sym (rolls-Decimal text))
      ∙ ap (λ (f : Result_at). f i) (para-roll-ArrayNode Result_at Element (result_node variable) known_part (ArrayNode-F.Decimal text))

  pub at_Str : (text : List ℕ) (i : Index) → result_of_node variable (Str text) i ≡ Ok Unknown
  at_Str text i = ap (λ node. result_of_node variable node i) (sym (rolls-Str text))
      ∙ ap (λ (f : Result_at). f i) (para-roll-ArrayNode Result_at Element (result_node variable) known_part (ArrayNode-F.Str text))

  pub at_Truth : (b : Bool) (i : Index) → result_of_node variable (Truth b) i ≡ Ok (Is (truth b))
  at_Truth b i = ap (λ node. result_of_node variable node i) (sym (rolls-Truth b))
      ∙ ap (λ (f : Result_at). f i) (para-roll-ArrayNode Result_at Element (result_node variable) known_part (ArrayNode-F.Truth b))

  pub at_Literal : (class : ClassId) (n : ℕ) (name : List ℕ) (i : Index) → result_of_node variable (Literal class n name) i ≡ Ok (Is (literal class n))
  at_Literal class n name i = ap (λ node. result_of_node variable node i) (sym (rolls-Literal class n name))
      ∙ ap (λ (f : Result_at). f i) (para-roll-ArrayNode Result_at Element (result_node variable) known_part (ArrayNode-F.Literal class n name))

  pub at_Time : (i : Index) → result_of_node variable Time i ≡ Ok Unknown
  at_Time i = ap (λ node. result_of_node variable node i) (sym rolls-Time)
      ∙ ap (λ (f : Result_at). f i) (para-roll-ArrayNode Result_at Element (result_node variable) known_part ArrayNode-F.Time)

  pub at_Vars : (vars : List ℕ) (kind : Kind) (dims : Dims) (subs : List Subscript) (i : Index) → result_of_node variable (Vars vars kind dims subs) i ≡ read_as of_known (variable (variable_at vars dims (located subs i)))
  at_Vars vars kind dims subs i = ap (λ node. result_of_node variable node i) (sym (rolls-Vars vars kind dims subs))
      ∙ ap (λ (f : Result_at). f i) (para-roll-ArrayNode Result_at Element (result_node variable) known_part (ArrayNode-F.Vars vars kind dims subs))

  pub at_Sum : (terms : List (Bool × Bool × ArrayExpr)) (i : Index) → result_of_node variable (Sum terms) i ≡ fold (sum_at i) (Ok (number 0)) (map (signed_of variable) terms)
  at_Sum terms i = ap (λ node. result_of_node variable node i) (sym (rolls-Sum terms))
      ∙ ap (λ (f : Result_at). f i) (para-roll-ArrayNode Result_at Element (result_node variable) known_part (ArrayNode-F.Sum terms))

  pub at_Product : (factors : List (Bool × Bool × ArrayExpr)) (i : Index) → result_of_node variable (Product factors) i ≡ (chain_before variable factors (length factors)).product i
  at_Product factors i = ap (λ node. result_of_node variable node i) (sym (rolls-Product factors))
      ∙ (ap (λ (f : Result_at). f i) (para-roll-ArrayNode Result_at Element (result_node variable) known_part (ArrayNode-F.Product factors))
      ∙ ap (λ xs. (chain_of (map (signed_of variable) xs)).product i) (sym (take-length factors)))

  pub at_Power : (base : ArrayExpr) (dotted : Bool) (exponent : ArrayExpr) (i : Index) → result_of_node variable (Power base dotted exponent) i ≡ undecided_behind (at (part_of variable base) i ∷ at (part_of variable exponent) i ∷ [])
  at_Power base dotted exponent i = ap (λ node. result_of_node variable node i) (sym (rolls-Power base dotted exponent))
      ∙ ap (λ (f : Result_at). f i) (para-roll-ArrayNode Result_at Element (result_node variable) known_part (ArrayNode-F.Power base dotted exponent))

  pub at_Relation : (op : RelOp) (left right : ArrayExpr) (i : Index) → result_of_node variable (Relation op left right) i ≡ on_both (related op) (at (part_of variable left) i) (at (part_of variable right) i)
  at_Relation op left right i = ap (λ node. result_of_node variable node i) (sym (rolls-Relation op left right))
      ∙ ap (λ (f : Result_at). f i) (para-roll-ArrayNode Result_at Element (result_node variable) known_part (ArrayNode-F.Relation op left right))

  pub at_Not : (inner : ArrayExpr) (i : Index) → result_of_node variable (Not inner) i ≡ read_as (λ known. of_known (negated known)) (at (part_of variable inner) i)
  at_Not inner i = ap (λ node. result_of_node variable node i) (sym (rolls-Not inner))
      ∙ ap (λ (f : Result_at). f i) (para-roll-ArrayNode Result_at Element (result_node variable) known_part (ArrayNode-F.Not inner))

  pub at_All : (parts : List ArrayExpr) (i : Index) → result_of_node variable (All parts) i ≡ read_as of_known (chained false (map (λ e. at (part_of variable e) i) parts))
  at_All parts i = ap (λ node. result_of_node variable node i) (sym (rolls-All parts))
      ∙ (ap (λ (f : Result_at). f i) (para-roll-ArrayNode Result_at Element (result_node variable) known_part (ArrayNode-F.All parts))
      ∙ ap (λ xs. read_as of_known (chained false xs)) (map-map (λ (part : Part). at part i) (part_of variable) parts))

  pub at_Any : (parts : List ArrayExpr) (i : Index) → result_of_node variable (Any parts) i ≡ read_as of_known (chained true (map (λ e. at (part_of variable e) i) parts))
  at_Any parts i = ap (λ node. result_of_node variable node i) (sym (rolls-Any parts))
      ∙ (ap (λ (f : Result_at). f i) (para-roll-ArrayNode Result_at Element (result_node variable) known_part (ArrayNode-F.Any parts))
      ∙ ap (λ xs. read_as of_known (chained true xs)) (map-map (λ (part : Part). at part i) (part_of variable) parts))

  pub at_If : (branches : List (ArrayExpr × ArrayExpr)) (other : ArrayExpr) (i : Index) → result_of_node variable (If branches other) i ≡ undecided_behind (branch_reads i (map (branch_of variable) branches) ++ at (part_of variable other) i ∷ [])
  at_If branches other i = ap (λ node. result_of_node variable node i) (sym (rolls-If branches other))
      ∙ ap (λ (f : Result_at). f i) (para-roll-ArrayNode Result_at Element (result_node variable) known_part (ArrayNode-F.If branches other))

  pub at_Call : (function : ℕ) (args : List ArrayExpr) (i : Index) → result_of_node variable (Call function args) i ≡ call function (map (part_of variable) args) i
  at_Call function args i = ap (λ node. result_of_node variable node i) (sym (rolls-Call function args))
      ∙ ap (λ (f : Result_at). f i) (para-roll-ArrayNode Result_at Element (result_node variable) known_part (ArrayNode-F.Call function args))

  pub at_Der : (inner : ArrayExpr) (i : Index) → result_of_node variable (Der inner) i ≡ undecided_behind (at (part_of variable inner) i ∷ [])
  at_Der inner i = ap (λ node. result_of_node variable node i) (sym (rolls-Der inner))
      ∙ ap (λ (f : Result_at). f i) (para-roll-ArrayNode Result_at Element (result_node variable) known_part (ArrayNode-F.Der inner))

  pub at_Array : (parts : List ArrayExpr) (i : Index) → result_of_node variable (Array parts) i ≡ element_among (map (part_of variable) parts) i
  at_Array parts i = ap (λ node. result_of_node variable node i) (sym (rolls-Array parts))
      ∙ ap (λ (f : Result_at). f i) (para-roll-ArrayNode Result_at Element (result_node variable) known_part (ArrayNode-F.Array parts))

  pub at_Range : (first step last : ℤ) (i : Index) → result_of_node variable (Range first step last) i ≡ Ok (Is (whole (range_element first step i)))
  at_Range first step last i = ap (λ node. result_of_node variable node i) (sym (rolls-Range first step last))
      ∙ ap (λ (f : Result_at). f i) (para-roll-ArrayNode Result_at Element (result_node variable) known_part (ArrayNode-F.Range first step last))

  pub at_Size : (e : ArrayExpr) (k : Option (Place × ℤ)) (i : Index) → result_of_node variable (Size e k) i ≡ Ok (size_element (shape_of e) k i)
  at_Size e None i = ap (λ node. result_of_node variable node i) (sym (rolls-Size e None))
      ∙ ap (λ (f : Result_at). f i) (para-roll-ArrayNode Result_at Element (result_node variable) known_part (ArrayNode-F.Size e None))
  at_Size e (Some k) i = ap (λ node. result_of_node variable node i) (sym (rolls-Size e (Some k)))
      ∙ ap (λ (f : Result_at). f i) (para-roll-ArrayNode Result_at Element (result_node variable) known_part (ArrayNode-F.Size e (Some k)))

  pub at_Sized : (function : ℕ) (part : Option ArrayExpr) (sizes : List (Place × ℤ)) (i : Index) →
      result_of_node variable (Sized function part sizes) i ≡ sized_element function (option_map (part_of variable) part) i
  at_Sized function None sizes i = ap (λ node. result_of_node variable node i) (sym (rolls-Sized function None sizes))
      ∙ ap (λ (f : Result_at). f i) (para-roll-ArrayNode Result_at Element (result_node variable) known_part (ArrayNode-F.Sized function None sizes))
  at_Sized function (Some e) sizes i = ap (λ node. result_of_node variable node i) (sym (rolls-Sized function (Some e) sizes))
      ∙ ap (λ (f : Result_at). f i) (para-roll-ArrayNode Result_at Element (result_node variable) known_part (ArrayNode-F.Sized function (Some e) sizes))

  -- a call with more than two arguments
  pub at_many : (function : ℕ) (args : List ArrayExpr) (i : Index) → 3 ≤ length args →
      call function (map (part_of variable) args) i ≡ undecided_behind (map (λ e. at (part_of variable e) i) args)
  at_many function [] i small = absurd (grind (arith, common_steps))
  at_many function (a ∷ []) i small = absurd (grind (arith, common_steps))
  at_many function (a ∷ b ∷ []) i small = absurd (grind (arith, common_steps))
  at_many function (a ∷ b ∷ c ∷ more) i small = ap undecided_behind (map-map (λ (part : Part). at part i) (part_of variable) (a ∷ b ∷ c ∷ more))
