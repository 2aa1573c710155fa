-- A rule of kinds is broken at a place of the expression.
use Rattle.std.proofs.Common.{ℕ, Bool, ◌||◌, List, [], ◌∷◌, ◌++◌, map, flat_map, length, Option, Some, None, Ok, sym, subst, nat_eq, if◌then◌else◌}
use Rattle.std.specs.Prelude.{fold}
use Rattle.mo_syntax.specs.Outcome.{Outcome, and_then, breaks}
use Rattle.mo_syntax.specs.declared.meaning.Kind.{Kind}
use Rattle.mo_syntax.specs.declared.meaning.Kind.TheVariants.{Real, Whole, Truth, Str, Enumeration}
use Rattle.mo_syntax.specs.declared.place.Place.{Place}
use Rattle.mo_syntax.specs.declared.rules.TheConstants.{WRONG_ENUMERATION, WRONG_TYPE}
use Rattle.mo_tables.specs.declared.functions.TheConstants.{ABS, ATAN2, CROSS, MAX, MIN, NDIMS, NO_EVENT, PRODUCT, SUM, TRANSPOSE}
use Rattle.mo_flat.specs.declared.array.ArrayExpr.{ArrayExpr, ArrayExpr-F, fold-roll-ArrayExpr, ind-ArrayExpr, map-ArrayExpr, out-ArrayExpr, roll-ArrayExpr, roll-out-ArrayExpr}
use Rattle.mo_flat.specs.declared.array.ArrayNode.{ArrayNode, ArrayNode-F, fold-roll-ArrayNode, map-ArrayNode, roll-ArrayNode}
use Rattle.mo_typing.specs.declared.agree.Shared.{Shared}
use Rattle.mo_typing.specs.declared.agree.Shared.TheVariants.{Unseen, Alike, Different}
use Rattle.mo_typing.specs.Kinds.{Part, alike, are_enumerations, arithmetic, both, both_numeric, branch_kind, call, call_of_one, call_of_two, common, condition, divided, is_among, is_number, is_truth, joined, kept, kind_node, kind_of, kind_of_node, kind_part, kinds_of, kinds_of_branches, logical, number, numeric, or_breaks, part_of, raised, real_of, relation, settled, sum_of, takes_sizes, truth, wider, with_number, with_truth}
use Rattle.mo_places.specs.Written.{Written, At}
use Rattle.mo_places.specs.Resolved.{ArrayStands, in_array, in_array_node, places_in_array, places_in_array_node}
use Rattle.mo_places.specs.Stands.{Answers, Anything, Every}
use Rattle.mo_places.proofs.laws.Standing.{every_back, every_front, if_answers}
use Rattle.mo_places.proofs.laws.Making.{any_each, any_ok, any_then}

module _ (P : Written → Type 0) where
  abbrev Fine : {A : Type 0} → Outcome A → Type 0
  Fine {A = A} o = Answers P (Anything {A = A}) o

  any_broken : {A : Type 0} (rule : ℕ) (place : Place) → P (At place) → Answers P (Anything {A = A}) (breaks rule place)
  any_broken rule place hp = record { holds = hp }

  any_if : {A : Type 0} (b : Bool) (x y : Outcome A) → Answers P (Anything {A = A}) x → Answers P (Anything {A = A}) y → Answers P (Anything {A = A}) (if b then x else y)
  any_if {A} b x y hx hy = if_answers P (Anything {A = A}) b x y hx hy

  any_fold : {A X : Type 0} (step : Outcome A → X → Outcome A) → ((o : Outcome A) (x : X) → Answers P (Anything {A = A}) o → Answers P (Anything {A = A}) (step o x)) → (o : Outcome A) (xs : List X) →
      Answers P (Anything {A = A}) o → Answers P (Anything {A = A}) (fold step o xs)
  any_fold step h o [] ho = ho
  any_fold step h o (x ∷ xs) ho = any_fold step h (step o x) xs (h o x ho)

  -- ---- each rule

  module _ (place : Place) (hp : P (At place)) where
    number_fine : (kind : Kind) → Fine (number place kind)
    number_fine Real = any_ok P Real
    number_fine Whole = any_ok P Whole
    number_fine (Enumeration class) = any_broken WRONG_ENUMERATION place hp
    number_fine Truth = any_broken WRONG_TYPE place hp
    number_fine Str = any_broken WRONG_TYPE place hp

    arithmetic_fine : (kinds : List Kind) → Fine (arithmetic place kinds)
    arithmetic_fine kinds =
        any_fold (with_number place) (λ o kind h. any_then P o (λ a. and_then (number place kind) (λ b. Ok (wider a b))) h (λ a. any_then P (number place kind) (λ b. Ok (wider a b)) (number_fine kind) (λ b. any_ok P (wider a b))))
        (Ok Whole) kinds (any_ok P Whole)

    truth_fine : (kind : Kind) → Fine (truth place kind)
    truth_fine kind = any_if (is_truth kind) (Ok Truth) (breaks WRONG_TYPE place) (any_ok P Truth) (any_broken WRONG_TYPE place hp)

    logical_fine : (kinds : List Kind) → Fine (logical place kinds)
    logical_fine kinds = any_fold (with_truth place) (λ o kind h. any_then P o (λ _. truth place kind) h (λ a. truth_fine kind)) (Ok Truth) kinds (any_ok P Truth)

    settled_fine : (shared : Shared) → Fine (settled place shared)
    settled_fine Unseen = any_ok P Real
    settled_fine (Alike kind) = any_ok P kind
    settled_fine Different = any_broken WRONG_TYPE place hp

    alike_fine : (kinds : List Kind) → Fine (alike place kinds)
    alike_fine kinds = settled_fine (fold joined Unseen kinds)

    or_fine : (found : Option Kind) (rule : ℕ) → Fine (or_breaks found rule place)
    or_fine None rule = any_broken rule place hp
    or_fine (Some kind) rule = any_ok P kind

    relation_fine : (a b : Kind) → Fine (relation place a b)
    relation_fine a b = any_then P (or_breaks (common a b) (if are_enumerations a b then WRONG_ENUMERATION else WRONG_TYPE) place) (λ _. Ok Truth) (or_fine (common a b) (if are_enumerations a b then WRONG_ENUMERATION else WRONG_TYPE)) (λ k. any_ok P Truth)

    numeric_fine : (kind : Kind) → Fine (numeric place kind)
    numeric_fine kind = any_if (is_number kind) (Ok kind) (breaks WRONG_TYPE place) (any_ok P kind) (any_broken WRONG_TYPE place hp)

    real_fine : (kind : Kind) → Fine (real_of place kind)
    real_fine kind = any_then P (numeric place kind) (λ _. Ok Real) (numeric_fine kind) (λ k. any_ok P Real)

    kept_fine : (kind : Kind) → Fine (kept place kind)
    kept_fine kind = any_if (is_number kind || is_truth kind) (Ok kind) (breaks WRONG_TYPE place) (any_ok P kind) (any_broken WRONG_TYPE place hp)

    call_one_fine : (function : ℕ) (kind : Kind) → Fine (call_of_one place function kind)
    call_one_fine function kind =
        any_if (nat_eq function NDIMS) _ _ (any_ok P Whole)
        (any_if (nat_eq function TRANSPOSE) _ _ (any_ok P kind)
        (any_if (nat_eq function NO_EVENT) _ _ (kept_fine kind)
        (any_if (is_among (ABS ∷ PRODUCT ∷ SUM ∷ []) function) _ _ (numeric_fine kind)
        (any_if (is_among (ATAN2 ∷ CROSS ∷ MAX ∷ MIN ∷ []) function) _ _ (any_broken WRONG_TYPE place hp) (real_fine kind)))))

    both_numeric_fine : (a b : Kind) → Fine (both_numeric place a b)
    both_numeric_fine a b =
        any_then P (numeric place a) (λ a. and_then (numeric place b) (λ b. Ok (wider a b))) (numeric_fine a) (λ x. any_then P (numeric place b) (λ b. Ok (wider x b)) (numeric_fine b) (λ y. any_ok P (wider x y)))

    call_two_fine : (function : ℕ) (a b : Kind) → Fine (call_of_two place function a b)
    call_two_fine function a b =
        any_if (is_among (CROSS ∷ MAX ∷ MIN ∷ []) function) _ _ (both_numeric_fine a b)
        (any_if (nat_eq function ATAN2) _ _ (any_then P (numeric place a) (λ _. real_of place b) (numeric_fine a) (λ x. real_fine b)) (any_broken WRONG_TYPE place hp))

    call_fine : (function : ℕ) (kinds : List Kind) → Fine (call place function kinds)
    call_fine function [] = any_broken WRONG_TYPE place hp
    call_fine function (a ∷ []) = call_one_fine function a
    call_fine function (a ∷ b ∷ []) = call_two_fine function a b
    call_fine function (a ∷ b ∷ c ∷ kinds) = any_broken WRONG_TYPE place hp

    raised_fine : (a b : Kind) → Fine (raised place a b)
    raised_fine a b = any_then P (arithmetic place (a ∷ b ∷ [])) (λ _. Ok Real) (arithmetic_fine (a ∷ b ∷ [])) (λ k. any_ok P Real)

    takes_fine : (function count : ℕ) (kind : Kind) → Fine (if takes_sizes function count then Ok kind else breaks WRONG_TYPE place)
    takes_fine function count kind = any_if (takes_sizes function count) (Ok kind) (breaks WRONG_TYPE place) (any_ok P kind) (any_broken WRONG_TYPE place hp)

  -- ---- expressions

  abbrev Stand : List Place → Type 0
  Stand places = Every (λ place. P (At place)) places

  front : (ps qs : List Place) → Stand (ps ++ qs) → Stand ps
  front ps qs h = every_front (λ place. P (At place)) ps qs h

  back : (ps qs : List Place) → Stand (ps ++ qs) → Stand qs
  back ps qs h = every_back (λ place. P (At place)) ps qs h

  unfoldable HoldsIn : ArrayNode → Type 0
  HoldsIn node = (place : Place) → P (At place) → Stand (places_in_array_node node) → Fine (kind_of_node node place)

  unfoldable Holds : ArrayExpr → Type 0
  Holds e = ArrayStands P e → Fine (kind_of e)

  abbrev NodeAt : Type 0
  NodeAt = (node : ArrayNode) × HoldsIn node

  abbrev ExprAt : Type 0
  ExprAt = (e : ArrayExpr) × Holds e

  abbrev Asked : Type 0
  Asked = Place → Outcome Kind

  abbrev places_in : ArrayNode-F ArrayNode ArrayExpr → List Place
  places_in layer = in_array_node (map-ArrayNode ArrayNode ArrayExpr (List Place) (List Place) places_in_array_node places_in_array layer)

  abbrev kind_in : ArrayNode-F ArrayNode ArrayExpr → Place → Outcome Kind
  kind_in layer = kind_node (map-ArrayNode ArrayNode ArrayExpr Asked Part kind_of_node part_of layer)

  rolled : (layer : ArrayNode-F ArrayNode ArrayExpr) → ((place : Place) → P (At place) → Stand (places_in layer) → Fine (kind_in layer place)) → HoldsIn (roll-ArrayNode layer)
  unfolding HoldsIn
  rolled layer law place hp h =
      subst (λ (f : Asked). Fine (f place)) (sym (fold-roll-ArrayNode Asked Part kind_node kind_part layer))
      (law place hp (subst Stand (fold-roll-ArrayNode (List Place) (List Place) in_array_node in_array layer) h))

  -- the place of an expression itself
  part_place : (e : ArrayExpr) → ArrayStands P e → P (At (part_of e).place)
  part_place e h =
      let layer = out-ArrayExpr e in
      subst (λ (x : ArrayExpr). ArrayStands P x → P (At (part_of x).place)) (roll-out-ArrayExpr e)
      (λ k. subst (λ (part : Part). P (At part.place)) (sym (fold-roll-ArrayExpr Asked Part kind_node kind_part layer)) (subst Stand (fold-roll-ArrayExpr (List Place) (List Place) in_array_node in_array layer) k).0) h

  parts_fine : (ts : List ExprAt) → Stand (flat_map (λ part. part) (map places_in_array (map (λ t. t.0) ts))) → Every (λ (part : Part). Fine part.kind) (map part_of (map (λ t. t.0) ts))
  unfolding Holds
  parts_fine [] h = tt
  parts_fine (t ∷ ts) h =
      let rest = flat_map (λ (part : List Place). part) (map places_in_array (map (λ t. t.0) ts)) in
      (t.1 (front (places_in_array t.0) rest h), parts_fine ts (back (places_in_array t.0) rest h))

  kinds_fine : (ts : List ExprAt) → Stand (flat_map (λ part. part) (map places_in_array (map (λ t. t.0) ts))) → Fine (kinds_of (map part_of (map (λ t. t.0) ts)))
  kinds_fine ts h = any_each P (λ (part : Part). part.kind) (map part_of (map (λ t. t.0) ts)) (parts_fine ts h)

  abbrev Term : Type 0
  Term = Bool × Bool × ExprAt

  abbrev bare : Term → Bool × Bool × ArrayExpr
  bare t = (t.0, t.1, t.2.0)

  abbrev part_term : Bool × Bool × ArrayExpr → Bool × Bool × Part
  part_term t = (t.0, t.1, part_of t.2)

  abbrev place_term : Bool × Bool × ArrayExpr → Bool × Bool × List Place
  place_term t = (t.0, t.1, places_in_array t.2)

  terms_fine : (ts : List Term) → Stand (flat_map (λ t. t.2) (map place_term (map bare ts))) → Every (λ (part : Part). Fine part.kind) (map (λ t. t.2) (map part_term (map bare ts)))
  unfolding Holds
  terms_fine [] h = tt
  terms_fine (t ∷ ts) h =
      let rest = flat_map (λ (t : Bool × Bool × List Place). t.2) (map place_term (map bare ts)) in
      (t.2.1 (front (places_in_array t.2.0) rest h), terms_fine ts (back (places_in_array t.2.0) rest h))

  sum_fine : (place : Place) → P (At place) → (ts : List Term) → Stand (flat_map (λ t. t.2) (map place_term (map bare ts))) → Fine (sum_of (map (λ t. t.2) (map part_term (map bare ts))) place)
  sum_fine place hp ts h =
      any_then P (kinds_of (map (λ t. t.2) (map part_term (map bare ts)))) (arithmetic place) (any_each P (λ (part : Part). part.kind) (map (λ t. t.2) (map part_term (map bare ts))) (terms_fine ts h)) (arithmetic_fine place hp)

  abbrev bare_branch : ExprAt × ExprAt → ArrayExpr × ArrayExpr
  bare_branch b = (b.0.0, b.1.0)

  abbrev part_branch : ArrayExpr × ArrayExpr → Part × Part
  part_branch b = (part_of b.0, part_of b.1)

  abbrev place_branch : ArrayExpr × ArrayExpr → List Place × List Place
  place_branch b = (places_in_array b.0, places_in_array b.1)

  one_branch : (b : ExprAt × ExprAt) → ArrayStands P b.0.0 → ArrayStands P b.1.0 → Fine (branch_kind (part_branch (bare_branch b)))
  unfolding Holds
  one_branch b h k =
      any_then P (condition (part_of b.0.0)) (λ _. kind_of b.1.0)
      (any_then P (kind_of b.0.0) (truth (part_of b.0.0).place) (b.0.1 h) (truth_fine (part_of b.0.0).place (part_place b.0.0 h))) (λ u. b.1.1 k)

  branches_fine : (bs : List (ExprAt × ExprAt)) → Stand (flat_map (λ b. b.0 ++ b.1) (map place_branch (map bare_branch bs))) → Every (λ b. Fine (branch_kind b)) (map part_branch (map bare_branch bs))
  branches_fine [] h = tt
  branches_fine (b ∷ bs) h =
      let rest = flat_map (λ (b : List Place × List Place). b.0 ++ b.1) (map place_branch (map bare_branch bs)) in
      let one = front (places_in_array b.0.0 ++ places_in_array b.1.0) rest h in (
        one_branch b (front (places_in_array b.0.0) (places_in_array b.1.0) one) (back (places_in_array b.0.0) (places_in_array b.1.0) one),
        branches_fine bs (back (places_in_array b.0.0 ++ places_in_array b.1.0) rest h),
      )

  both_fine : (a b : ExprAt) (f : Kind → Kind → Outcome Kind) → ((x y : Kind) → Fine (f x y)) → Stand (places_in_array a.0 ++ places_in_array b.0) → Fine (both (part_of a.0) (part_of b.0) f)
  unfolding Holds
  both_fine a b f law h =
      any_then P (kind_of a.0) (λ x. and_then (kind_of b.0) (f x)) (a.1 (front (places_in_array a.0) (places_in_array b.0) h))
      (λ x. any_then P (kind_of b.0) (f x) (b.1 (back (places_in_array a.0) (places_in_array b.0) h)) (law x))

  whole_fine : (a : ExprAt) → ArrayStands P a.0 → Fine (kind_of a.0)
  unfolding Holds
  whole_fine a h = a.1 h

  abbrev bare_layer : ArrayNode-F NodeAt ExprAt → ArrayNode-F ArrayNode ArrayExpr
  bare_layer y = map-ArrayNode NodeAt ExprAt ArrayNode ArrayExpr (λ t. t.0) (λ t. t.0) y

  layer_fine : (y : ArrayNode-F NodeAt ExprAt) (place : Place) → P (At place) → Stand (places_in (bare_layer y)) → Fine (kind_in (bare_layer y) place)
  layer_fine (ArrayNode-F.Whole n) place hp h = any_ok P Whole
  layer_fine (ArrayNode-F.Decimal text) place hp h = any_ok P Real
  layer_fine (ArrayNode-F.Str text) place hp h = any_ok P Str
  layer_fine (ArrayNode-F.Truth b) place hp h = any_ok P Truth
  layer_fine (ArrayNode-F.Literal class n name) place hp h = any_ok P (Enumeration class)
  layer_fine ArrayNode-F.Time place hp h = any_ok P Real
  layer_fine (ArrayNode-F.Vars vars kind dims subs) place hp h = any_ok P kind
  layer_fine (ArrayNode-F.Sum terms) place hp h = sum_fine place hp terms h
  layer_fine (ArrayNode-F.Product factors) place hp h =
      any_then P (sum_of (map (λ t. t.2) (map part_term (map bare factors))) place) (λ kind. Ok (divided _ kind)) (sum_fine place hp factors h) (λ kind. any_ok P (divided _ kind))
  layer_fine (ArrayNode-F.Power base dotted exponent) place hp h = both_fine base exponent (raised place) (raised_fine place hp) h
  layer_fine (ArrayNode-F.Relation op left right) place hp h = both_fine left right (relation place) (relation_fine place hp) h
  layer_fine (ArrayNode-F.Not inner) place hp h = any_then P (kind_of inner.0) (truth place) (whole_fine inner h) (truth_fine place hp)
  layer_fine (ArrayNode-F.All parts) place hp h = any_then P (kinds_of (map part_of (map (λ t. t.0) parts))) (logical place) (kinds_fine parts h) (logical_fine place hp)
  layer_fine (ArrayNode-F.Any parts) place hp h = any_then P (kinds_of (map part_of (map (λ t. t.0) parts))) (logical place) (kinds_fine parts h) (logical_fine place hp)
  layer_fine (ArrayNode-F.If branches other) place hp h =
      let first = flat_map (λ (b : List Place × List Place). b.0 ++ b.1) (map place_branch (map bare_branch branches)) in
      any_then P (kinds_of_branches (map part_branch (map bare_branch branches))) (λ kinds. and_then (kind_of other.0) (λ kind. alike place (kinds ++ kind ∷ [])))
      (any_each P branch_kind (map part_branch (map bare_branch branches)) (branches_fine branches (front first (places_in_array other.0) h)))
      (λ kinds. any_then P (kind_of other.0) (λ kind. alike place (kinds ++ kind ∷ [])) (whole_fine other (back first (places_in_array other.0) h)) (λ kind. alike_fine place hp (kinds ++ kind ∷ [])))
  layer_fine (ArrayNode-F.Call function args) place hp h = any_then P (kinds_of (map part_of (map (λ t. t.0) args))) (call place function) (kinds_fine args h) (call_fine place hp function)
  layer_fine (ArrayNode-F.Der inner) place hp h = any_then P (kind_of inner.0) (real_of place) (whole_fine inner h) (real_fine place hp)
  layer_fine (ArrayNode-F.Array parts) place hp h = any_then P (kinds_of (map part_of (map (λ t. t.0) parts))) (alike place) (kinds_fine parts h) (alike_fine place hp)
  layer_fine (ArrayNode-F.Range first step last) place hp h = any_ok P Whole
  layer_fine (ArrayNode-F.Size part at) place hp h = any_then P (kind_of part.0) (λ _. Ok Whole) (whole_fine part (front (places_in_array part.0) _ h)) (λ k. any_ok P Whole)
  layer_fine (ArrayNode-F.Sized function None sizes) place hp h = takes_fine place hp function (length sizes) Whole
  layer_fine (ArrayNode-F.Sized function (Some part) sizes) place hp h =
      any_then P (kind_of part.0) (λ kind. if takes_sizes function (length sizes) then Ok kind else breaks WRONG_TYPE place) (whole_fine part (front (places_in_array part.0) _ h)) (takes_fine place hp function (length sizes))

  expression_fine : (y : ArrayExpr-F NodeAt ExprAt) → Holds (roll-ArrayExpr (map-ArrayExpr NodeAt ExprAt ArrayNode ArrayExpr (λ t. t.0) (λ t. t.0) y))
  unfolding Holds HoldsIn
  expression_fine y h =
      let layer : ArrayExpr-F ArrayNode ArrayExpr = map-ArrayExpr NodeAt ExprAt ArrayNode ArrayExpr (λ t. t.0) (λ t. t.0) y in
      let own : Stand (y.place ∷ places_in_array_node y.node.0) = subst Stand (fold-roll-ArrayExpr (List Place) (List Place) in_array_node in_array layer) h in
      subst (λ (part : Part). Fine part.kind) (sym (fold-roll-ArrayExpr Asked Part kind_node kind_part layer)) (y.node.1 y.place own.0 own.1)

  pub kind_answers : (e : ArrayExpr) → ArrayStands P e → Answers P (Anything {A = Kind}) (kind_of e)
  unfolding Holds
  kind_answers = ind-ArrayExpr HoldsIn Holds
      (λ x y is. subst (λ z. HoldsIn (roll-ArrayNode z)) is (rolled (bare_layer y) (layer_fine y)))
      (λ x y is. subst (λ z. Holds (roll-ArrayExpr z)) is (expression_fine y))
