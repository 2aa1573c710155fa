-- The value of a resolved expression at an index is that of its element, wherever both are numbers and its dimensions break no rule.
use Rattle.std.proofs.Common.{◌≡◌, ℕ, ℤ, pos, ◌+ℤ◌, ◌-ℤ◌, ◌*ℤ◌, ◌-◌, Bool, true, false, ◌&&◌, ◌||◌, List, [], ◌∷◌, ◌++◌, map, take, drop, length, Option, Some, None, Ok, Err, refl, ap, sym, ◌∙◌, subst, arith, if◌then◌else◌, nat_eq, not, zero, suc}
use Rattle.std.specs.Prelude.{fold, slice_get}
use Rattle.std.proofs.lemmas.Int.{ints}
use Rattle.mo_syntax.specs.Outcome.{Outcome, and_then, breaks}
use Rattle.mo_syntax.specs.declared.meaning.ClassId.{ClassId}
use Rattle.mo_syntax.specs.declared.meaning.Kind.{Kind}
use Rattle.mo_syntax.specs.declared.place.Broken.{Broken}
use Rattle.mo_syntax.specs.declared.place.Place.{Place}
use Rattle.mo_syntax.specs.declared.rules.TheConstants.{INTEGER_ARITHMETIC}
use Rattle.mo_tables.specs.declared.functions.TheConstants.{ABS, CROSS, IDENTITY, MAX, MIN, NDIMS, NO_EVENT, ONES, PRODUCT, SUM, TRANSPOSE}
use Rattle.mo_flat.specs.declared.array.ArrayExpr.{ArrayExpr, ArrayExpr-F, fold-roll-ArrayExpr, ind-ArrayExpr, map-ArrayExpr, para-roll-ArrayExpr, roll-ArrayExpr}
use Rattle.mo_flat.specs.declared.array.ArrayNode.{ArrayNode, ArrayNode-F, fold-roll-ArrayNode, map-ArrayNode, para-roll-ArrayNode, roll-ArrayNode}
use Rattle.mo_flat.specs.declared.expr.FlatExpr.{FlatExpr, FlatExpr-F, fold_out-FlatExpr, map-FlatExpr, out-FlatExpr}
use Rattle.mo_flat.specs.declared.expr.FlatExpr.TheVariants as flat
use Rattle.mo_typing.specs.Dims.{Dims, dims_node, dims_of, dims_of_all, dims_of_node, dims_part, is_scalar, operand, operands_of}
use Rattle.mo_typing.specs.Dims.{Part as DimsPart, added as added_dims, alike, call as call_dims, call_of_two as call_of_two_dims, chain, crossed as crossed_dims, filled, multiplied as times_dims, part_of as dims_part_of, sizes_of}
use Rattle.mo_typing.specs.Indices.{Index, first_number, indices, is_diagonal, located, numbers_to, or_else, own, range_element, variable_at}
use Rattle.mo_typing.specs.Kinds.{kind_of_node}
use Rattle.mo_typing.specs.Shape.{is_matrix_factor, multiplied as multiplied_dims, or_scalar, shape_of, size_of, swapped}
use Rattle.mo_typing.proofs.Agreeing.{after, not_broken, ok_same}
use Rattle.mo_typing.proofs.ShapeLaw.{dims_agree}
use Rattle.mo_arrays.specs.Elements as element
use Rattle.mo_arrays.specs.Elements.{element_node, element_of, element_of_node, element_part, plain}
use Rattle.mo_values.specs.declared.value.Reckoned.{Reckoned}
use Rattle.mo_values.specs.declared.value.Reckoned.TheVariants.{Unknown, Outside, Is}
use Rattle.mo_values.specs.declared.value.Scalar.TheVariants.{Whole, Truth, Literal}
use Rattle.mo_values.specs.Numbers.{absolute, added, fits, fitting, greater, lesser, multiplied}
use Rattle.mo_values.specs.Scalars.{Known, absolute_of, greater_of, has_values, known_from, lesser_of, no_result, of_known, of_number, on_numbers, product_with, read_all, settled, sum_with}
use Rattle.mo_eval.specs.Virtuals.{known_of_virtuals, numbered}
use Rattle.mo_values.specs.Walk as walk
use Rattle.mo_values.specs.Walk.{both, kind_or_real, known_by, known_part, number, read_as, result_node, result_of_node}
use Rattle.mo_equations.specs.ElementValues.{ElementsHaveTheirValues, Number, called, known_number, magnitude, number_by, number_node, on_both, on_one, with_factor, with_term}

-- ---- one number

-- where both are numbers they are one
abbrev IsTold : Outcome Reckoned → Number → Type 0
IsTold r p = (v n : ℤ) → r ≡ Ok (Is (Whole v)) → p ≡ Some n → v ≡ n

abbrev IsKnown : Outcome Known → Number → Type 0
IsKnown k p = (v n : ℤ) → k ≡ Ok (Some (Whole v)) → p ≡ Some n → v ≡ n

same_number : (a b : ℤ) → ◌≡◌ {A = Number} (Some a) (Some b) → a ≡ b
same_number a b e = let f = e in cc

clash_number : {A : Type 0} (n : ℤ) → ◌≡◌ {A = Number} None (Some n) → A
clash_number n e = absurd (let f : ◌≡◌ {A = Number} None (Some n) = e in cc)

same_reckoned : (a b : Reckoned) → ◌≡◌ {A = Outcome Reckoned} (Ok a) (Ok b) → a ≡ b
same_reckoned a b e = let f = e in cc

broken_reckoned : {A : Type 0} (b : Broken) (r : Reckoned) → ◌≡◌ {A = Outcome Reckoned} (Err b) (Ok r) → A
broken_reckoned b r e = absurd (let f : ◌≡◌ {A = Outcome Reckoned} (Err b) (Ok r) = e in cc)

unknown_is : {A : Type 0} (v : ℤ) → ◌≡◌ {A = Reckoned} Unknown (Is (Whole v)) → A
unknown_is v e = absurd (let f : ◌≡◌ {A = Reckoned} Unknown (Is (Whole v)) = e in cc)

outside_is : {A : Type 0} (v : ℤ) → ◌≡◌ {A = Reckoned} Outside (Is (Whole v)) → A
outside_is v e = absurd (let f : ◌≡◌ {A = Reckoned} Outside (Is (Whole v)) = e in cc)

truth_is : {A : Type 0} (b : Bool) (v : ℤ) → ◌≡◌ {A = Reckoned} (Is (Truth b)) (Is (Whole v)) → A
truth_is b v e = absurd (let f : ◌≡◌ {A = Reckoned} (Is (Truth b)) (Is (Whole v)) = e in cc)

literal_is : {A : Type 0} (c : ClassId) (k : ℕ) (v : ℤ) → ◌≡◌ {A = Reckoned} (Is (Literal c k)) (Is (Whole v)) → A
literal_is c k v e = absurd (let f : ◌≡◌ {A = Reckoned} (Is (Literal c k)) (Is (Whole v)) = e in cc)

whole_is : (a b : ℤ) → ◌≡◌ {A = Reckoned} (Is (Whole a)) (Is (Whole b)) → a ≡ b
whole_is a b e = let f = e in cc

known_whole : (a b : ℤ) → ◌≡◌ {A = Outcome Known} (Ok (Some (Whole a))) (Ok (Some (Whole b))) → a ≡ b
known_whole a b e = let f = e in cc

-- ---- answers

told_never : (r : Outcome Reckoned) (p : Number) → ((v : ℤ) → r ≡ Ok (Is (Whole v)) → ⊥) → IsTold r p
told_never r p never v n h k = absurd (never v h)

-- an expression that is no number
told_none : (r : Outcome Reckoned) (p : Number) → p ≡ None → IsTold r p
told_none r p e v n h k = clash_number n (sym e ∙ k)

told_as : (r : Outcome Reckoned) (p q : Number) → p ≡ q → IsTold r p → IsTold r q
told_as r p q e f v n h k = f v n h (e ∙ k)

told_same : (w : ℤ) (p : Number) → p ≡ Some w → IsTold (Ok (Is (Whole w))) p
told_same w p e v n h k = sym (whole_is w v (same_reckoned (Is (Whole w)) (Is (Whole v)) h)) ∙ same_number w n (sym e ∙ k)

-- what is read of an operand
known_told : (k : Outcome Known) (p : Number) → IsKnown k p → IsTold (read_as of_known k) p
known_told (Err b) p f v n h k = broken_reckoned b (Is (Whole v)) h
known_told (Ok None) p f v n h k = unknown_is v (same_reckoned Unknown (Is (Whole v)) h)
known_told (Ok (Some (Whole x))) p f v n h k = f v n (ap (λ (z : ℤ). Ok (Some (Whole z))) (whole_is x v (same_reckoned (Is (Whole x)) (Is (Whole v)) h))) k
known_told (Ok (Some (Truth b))) p f v n h k = truth_is b v (same_reckoned (Is (Truth b)) (Is (Whole v)) h)
known_told (Ok (Some (Literal c m))) p f v n h k = literal_is c m v (same_reckoned (Is (Literal c m)) (Is (Whole v)) h)

from_reckoned : (place : Place) (r : Reckoned) (v : ℤ) → known_from place r ≡ Ok (Some (Whole v)) → r ≡ Is (Whole v)
from_reckoned place Unknown v h = absurd (let f : ◌≡◌ {A = Outcome Known} (Ok None) (Ok (Some (Whole v))) = h in cc)
from_reckoned place Outside v h = absurd (let f : ◌≡◌ {A = Outcome Known} (breaks INTEGER_ARITHMETIC place) (Ok (Some (Whole v))) = h in cc)
from_reckoned place (Is (Whole x)) v h = ap (λ (z : ℤ). Is (Whole z)) (known_whole x v h)
from_reckoned place (Is (Truth b)) v h = absurd (let f : ◌≡◌ {A = Outcome Known} (Ok (Some (Truth b))) (Ok (Some (Whole v))) = h in cc)
from_reckoned place (Is (Literal c m)) v h = absurd (let f : ◌≡◌ {A = Outcome Known} (Ok (Some (Literal c m))) (Ok (Some (Whole v))) = h in cc)

-- the result of an operation at its place
told_known : (place : Place) (kind : Kind) (r : Outcome Reckoned) (p : Number) → IsTold r p → IsKnown (and_then r (settled place kind)) p
told_known place kind (Err b) p f v n h k = absurd (let g : ◌≡◌ {A = Outcome Known} (Err b) (Ok (Some (Whole v))) = h in cc)
told_known place kind (Ok r) p f v n h k = by (has_values kind) h
  where
    by : (b : Bool) → (if b then known_from place r else Ok None) ≡ Ok (Some (Whole v)) → v ≡ n
    by true e = f v n (ap (λ (x : Reckoned). Ok x) (from_reckoned place r v e)) k
    by false e = absurd (let g : ◌≡◌ {A = Outcome Known} (Ok None) (Ok (Some (Whole v))) = e in cc)

-- ---- operations on numbers

fitting_is : (x z : ℤ) → fitting x ≡ Some z → z ≡ x
fitting_is x z h = by (fits x) h
  where
    by : (b : Bool) → (if b then Some x else None) ≡ Some z → z ≡ x
    by true e = sym (same_number x z e)
    by false e = clash_number z e

none_is : (r s : Reckoned) (v : ℤ) → no_result r s ≡ Is (Whole v) → ⊥
none_is Unknown s v h = unknown_is v h
none_is Outside Unknown v h = unknown_is v h
none_is Outside Outside v h = outside_is v h
none_is Outside (Is x) v h = outside_is v h
none_is (Is x) Unknown v h = unknown_is v h
none_is (Is x) Outside v h = outside_is v h
none_is (Is x) (Is y) v h = unknown_is v h

module _ (operation : ℤ → ℤ → Option ℤ) (exact : ℤ → ℤ → ℤ) (honest : (x y z : ℤ) → operation x y ≡ Some z → z ≡ exact x y) where
  number_told : (x y v : ℤ) → of_number (operation x y) ≡ Is (Whole v) → v ≡ exact x y
  number_told x y v h = by (operation x y) refl h
    where
      by : (o : Option ℤ) → operation x y ≡ o → of_number o ≡ Is (Whole v) → v ≡ exact x y
      by None e k = outside_is v k
      by (Some z) e k = sym (whole_is z v k) ∙ honest x y z e

  both_numbers : (x y v n : ℤ) (p q : Number) → IsTold (Ok (Is (Whole x))) p → IsTold (Ok (Is (Whole y))) q → v ≡ exact x y → on_both exact p q ≡ Some n → v ≡ n
  both_numbers x y v n None q f g e k = clash_number n k
  both_numbers x y v n (Some a) None f g e k = clash_number n k
  both_numbers x y v n (Some a) (Some b) f g e k = e ∙ (ap (λ (z : ℤ). exact z y) (f x a refl refl) ∙ (ap (exact a) (g y b refl refl) ∙ same_number (exact a b) n k))

  two_reckoned : (r s : Reckoned) (p q : Number) → IsTold (Ok r) p → IsTold (Ok s) q → (v n : ℤ) → on_numbers operation r s ≡ Is (Whole v) → on_both exact p q ≡ Some n → v ≡ n
  two_reckoned Unknown s p q f g v n h k = absurd (none_is Unknown s v h)
  two_reckoned Outside s p q f g v n h k = absurd (none_is Outside s v h)
  two_reckoned (Is (Truth b)) s p q f g v n h k = absurd (none_is (Is (Truth b)) s v h)
  two_reckoned (Is (Literal c m)) s p q f g v n h k = absurd (none_is (Is (Literal c m)) s v h)
  two_reckoned (Is (Whole x)) Unknown p q f g v n h k = absurd (none_is (Is (Whole x)) Unknown v h)
  two_reckoned (Is (Whole x)) Outside p q f g v n h k = absurd (none_is (Is (Whole x)) Outside v h)
  two_reckoned (Is (Whole x)) (Is (Truth b)) p q f g v n h k = absurd (none_is (Is (Whole x)) (Is (Truth b)) v h)
  two_reckoned (Is (Whole x)) (Is (Literal c m)) p q f g v n h k = absurd (none_is (Is (Whole x)) (Is (Literal c m)) v h)
  two_reckoned (Is (Whole x)) (Is (Whole y)) p q f g v n h k = both_numbers x y v n p q f g (number_told x y v h) k

  told_two : (a b : Outcome Reckoned) (p q : Number) → IsTold a p → IsTold b q → IsTold (both (on_numbers operation) a b) (on_both exact p q)
  told_two (Err x) b p q f g v n h k = broken_reckoned x (Is (Whole v)) h
  told_two (Ok r) (Err x) p q f g v n h k = broken_reckoned x (Is (Whole v)) h
  told_two (Ok r) (Ok s) p q f g v n h k = two_reckoned r s p q f g v n (same_reckoned (on_numbers operation r s) (Is (Whole v)) h) k

signed : Bool → ℤ → ℤ → ℤ
signed minus a b = if minus then a -ℤ b else a +ℤ b

told_term : (minus : Bool) (a b : Outcome Reckoned) (p q : Number) → IsTold a p → IsTold b q → IsTold (both (sum_with minus) a b) (with_term p (minus, q))
told_term minus a b p q f g = told_two (added minus) (λ a b. if minus then a -ℤ b else a +ℤ b) (λ x y z e. fitting_is (if minus then x -ℤ y else x +ℤ y) z e) a b p q f g

told_times : (a b : Outcome Reckoned) (p q : Number) → IsTold a p → IsTold b q → IsTold (both (product_with false) a b) (on_both (λ a b. a *ℤ b) p q)
told_times a b p q f g = told_two multiplied (λ a b. a *ℤ b) (λ x y z e. fitting_is (x *ℤ y) z e) a b p q f g

never_divided : (a b : Outcome Reckoned) (v : ℤ) → both (product_with true) a b ≡ Ok (Is (Whole v)) → ⊥
never_divided (Err x) b v h = broken_reckoned x (Is (Whole v)) h
never_divided (Ok r) (Err x) v h = broken_reckoned x (Is (Whole v)) h
never_divided (Ok r) (Ok s) v h = unknown_is v (same_reckoned Unknown (Is (Whole v)) h)

told_factor : (divide : Bool) (a b : Outcome Reckoned) (p q : Number) → IsTold a p → IsTold b q → IsTold (both (product_with divide) a b) (with_factor p (divide, q))
told_factor true a b p q f g = told_never (both (product_with true) a b) (with_factor p (true, q)) (never_divided a b)
told_factor false a b p q f g = told_times a b p q f g

plus_none : (q : Number) → with_term (Some (pos 0)) (false, q) ≡ q
plus_none None = refl
plus_none (Some n) = let same : pos 0 +ℤ n ≡ n = omega (arith, ints) in ap (λ (z : ℤ). Some z) same

times_one : (q : Number) → with_factor (Some (pos 1)) (false, q) ≡ q
times_one None = refl
times_one (Some n) = let same : pos 1 *ℤ n ≡ n = omega (arith, ints) in ap (λ (z : ℤ). Some z) same

fold_last : {A B C : Type 0} (f : B → C → B) (g : A → C) (z : B) (xs : List A) (x : A) → fold f z (map g (xs ++ x ∷ [])) ≡ f (fold f z (map g xs)) (g x)
fold_last f g z [] x = refl
fold_last f g z (y ∷ xs) x = fold_last f g (f z (g y)) xs x

-- ---- the law

module _ (variable : ℕ → Outcome Known) where
  abbrev of_variable : ℕ → Number
  of_variable n = known_number (variable n)

  abbrev num : FlatExpr → Number
  num = number_by of_variable

  num_at : (e : FlatExpr) (node : FlatExpr-F FlatExpr) → out-FlatExpr e ≡ node → num e ≡ number_node of_variable (map-FlatExpr FlatExpr Number num node)
  num_at e node h = fold_out-FlatExpr Number (number_node of_variable) e ∙ ap (λ n. number_node of_variable (map-FlatExpr FlatExpr Number num n)) h

  abbrev mark : Bool × FlatExpr → Bool × Number
  mark t = (t.0, num t.1)

  num_Sum : (ts : List (Bool × FlatExpr)) → num (flat.Sum ts) ≡ fold with_term (Some (pos 0)) (map mark ts)
  num_Sum ts = num_at (flat.Sum ts) (FlatExpr-F.Sum ts) (flat.outs-Sum ts)

  num_Product : (ts : List (Bool × FlatExpr)) → num (flat.Product ts) ≡ fold with_factor (Some (pos 1)) (map mark ts)
  num_Product ts = num_at (flat.Product ts) (FlatExpr-F.Product ts) (flat.outs-Product ts)

  num_Whole : (n : ℤ) → num (flat.Whole n) ≡ Some n
  num_Whole n = num_at (flat.Whole n) (FlatExpr-F.Whole n) (flat.outs-Whole n)

  num_Call : (f : ℕ) (args : List FlatExpr) → num (flat.Call f args) ≡ called f (map num args)
  num_Call f args = num_at (flat.Call f args) (FlatExpr-F.Call f args) (flat.outs-Call f args)

  sum_number : (ts : List (Bool × FlatExpr)) → num (element.sum_of ts) ≡ fold with_term (Some (pos 0)) (map mark ts)
  sum_number [] = num_Whole (pos 0)
  sum_number ((false, u) ∷ []) = sym (plus_none (num u))
  sum_number ((true, u) ∷ []) = num_Sum ((true, u) ∷ [])
  sum_number ((false, u) ∷ t ∷ ts) = num_Sum ((false, u) ∷ t ∷ ts)
  sum_number ((true, u) ∷ t ∷ ts) = num_Sum ((true, u) ∷ t ∷ ts)

  abbrev product_number : List (Bool × FlatExpr) → Number
  product_number ts = fold with_factor (Some (pos 1)) (map mark ts)

  product_is : (ts : List (Bool × FlatExpr)) → num (element.product_of ts) ≡ product_number ts
  product_is [] = num_Whole (pos 1)
  product_is ((false, u) ∷ []) = sym (times_one (num u))
  product_is ((true, u) ∷ []) = num_Product ((true, u) ∷ [])
  product_is ((false, u) ∷ t ∷ ts) = num_Product ((false, u) ∷ t ∷ ts)
  product_is ((true, u) ∷ t ∷ ts) = num_Product ((true, u) ∷ t ∷ ts)

  -- sums and products of many
  module _ {X : Type 0} (w : X → Outcome Reckoned) (u : X → FlatExpr) (told : (x : X) → IsTold (w x) (num (u x))) where
    sums_from : (xs : List X) (acc : Outcome Reckoned) (p : Number) → IsTold acc p → IsTold (fold (both (sum_with false)) acc (map w xs)) (fold with_term p (map mark (map (λ x. plain (u x)) xs)))
    sums_from [] acc p h = h
    sums_from (x ∷ xs) acc p h = sums_from xs (both (sum_with false) acc (w x)) (with_term p (false, num (u x))) (told_term false acc (w x) p (num (u x)) h (told x))

    sums : (xs : List X) → IsTold (walk.sum_of (map w xs)) (num (element.sum_of (map (λ x. plain (u x)) xs)))
    sums xs = told_as (walk.sum_of (map w xs)) _ (num (element.sum_of (map (λ x. plain (u x)) xs))) (sym (sum_number (map (λ x. plain (u x)) xs)))
        (sums_from xs (Ok (number 0)) (Some (pos 0)) (told_same (pos 0) (Some (pos 0)) refl))

    products_from : (xs : List X) (acc : Outcome Reckoned) (p : Number) → IsTold acc p → IsTold (fold (both (product_with false)) acc (map w xs)) (fold with_factor p (map mark (map (λ x. plain (u x)) xs)))
    products_from [] acc p h = h
    products_from (x ∷ xs) acc p h = products_from xs (both (product_with false) acc (w x)) (with_factor p (false, num (u x))) (told_factor false acc (w x) p (num (u x)) h (told x))

    products : (xs : List X) → IsTold (walk.product_of (map w xs)) (num (element.product_of (map (λ x. plain (u x)) xs)))
    products xs = told_as (walk.product_of (map w xs)) _ (num (element.product_of (map (λ x. plain (u x)) xs))) (sym (product_is (map (λ x. plain (u x)) xs)))
        (products_from xs (Ok (number 1)) (Some (pos 1)) (told_same (pos 1) (Some (pos 1)) refl))

  -- ---- nodes and expressions

  unfoldable HoldsIn : ArrayNode → Type 0
  HoldsIn node = (place : Place) (d : Dims) → dims_of_node node place ≡ Ok d → (i : Index) → IsTold (result_of_node variable node i) (num (element_of_node node i))

  unfoldable Holds : ArrayExpr → Type 0
  Holds e = (d : Dims) → dims_of e ≡ Ok d → (i : Index) → IsKnown (known_by variable e i) (num (element_of e i))

  abbrev NodeAt : Type 0
  NodeAt = (node : ArrayNode) × HoldsIn node

  abbrev ExprAt : Type 0
  ExprAt = (e : ArrayExpr) × Holds e

  abbrev Walked : Type 0
  Walked = Index → Outcome Reckoned

  abbrev KnownAt : Type 0
  KnownAt = Index → Outcome Known

  abbrev Elements : Type 0
  Elements = Index → FlatExpr

  abbrev DimsAsked : Type 0
  DimsAsked = Place → Outcome Dims

  abbrev walked : ArrayNode-F ArrayNode ArrayExpr → ArrayNode-F (ArrayNode × Walked) (ArrayExpr × KnownAt)
  walked layer = map-ArrayNode ArrayNode ArrayExpr (ArrayNode × Walked) (ArrayExpr × KnownAt) (λ x. (x, result_of_node variable x)) (λ x. (x, known_by variable x)) layer

  abbrev elements : ArrayNode-F ArrayNode ArrayExpr → ArrayNode-F (ArrayNode × Elements) (ArrayExpr × Elements)
  elements layer = map-ArrayNode ArrayNode ArrayExpr (ArrayNode × Elements) (ArrayExpr × Elements) (λ x. (x, element_of_node x)) (λ x. (x, element_of x)) layer

  abbrev asked : ArrayNode-F ArrayNode ArrayExpr → ArrayNode-F DimsAsked DimsPart
  asked layer = map-ArrayNode ArrayNode ArrayExpr DimsAsked DimsPart dims_of_node dims_part_of layer

  abbrev LayerHolds : ArrayNode-F ArrayNode ArrayExpr → Type 0
  LayerHolds layer = (place : Place) (d : Dims) → dims_node (asked layer) place ≡ Ok d → (i : Index) → IsTold (result_node variable (walked layer) i) (num (element_node (elements layer) i))

  rolled : (layer : ArrayNode-F ArrayNode ArrayExpr) → LayerHolds layer → HoldsIn (roll-ArrayNode layer)
  unfolding HoldsIn
  rolled layer law place d h i =
      subst (λ (f : Elements). IsTold (result_of_node variable (roll-ArrayNode layer) i) (num (f i))) (sym (para-roll-ArrayNode Elements Elements element_node element_part layer))
      (subst (λ (f : Walked). IsTold (f i) (num (element_node (elements layer) i))) (sym (para-roll-ArrayNode Walked KnownAt (result_node variable) known_part layer))
      (law place d (ap (λ (f : DimsAsked). f place) (sym (fold-roll-ArrayNode DimsAsked DimsPart dims_node dims_part layer)) ∙ h) i))

  -- ---- operands

  abbrev HasDims : ArrayExpr → Type 0
  HasDims e = (d : Dims) × (dims_of e ≡ Ok d)

  abbrev Each : {A : Type 0} → (A → Type 0) → List A → Type 0
  Each P [] = Unit {0}
  Each P (x ∷ xs) = P x × Each P xs

  abbrev walk_part : ArrayExpr → walk.Part
  walk_part e = (e, known_by variable e)

  abbrev flat_part : ArrayExpr → element.Part
  flat_part e = (e, element_of e)

  operand_known : (t : ExprAt) → HasDims t.0 → (i : Index) → IsKnown (walk.at (walk_part t.0) i) (num (element.at (flat_part t.0) i))
  unfolding Holds
  operand_known t d i = t.1 d.0 d.1 (own (shape_of t.0) i)

  operand_told : (t : ExprAt) → HasDims t.0 → (i : Index) → IsTold (walk.result_at (walk_part t.0) i) (num (element.at (flat_part t.0) i))
  operand_told t d i = known_told (walk.at (walk_part t.0) i) (num (element.at (flat_part t.0) i)) (operand_known t d i)

  straight : (t : ExprAt) → HasDims t.0 → (i : Index) → IsTold (read_as of_known (known_by variable t.0 i)) (num (element_of t.0 i))
  unfolding Holds
  straight t d i = known_told (known_by variable t.0 i) (num (element_of t.0 i)) (t.1 d.0 d.1 i)

  abbrev Term : Type 0
  Term = Bool × Bool × ExprAt

  abbrev bare : Term → Bool × Bool × ArrayExpr
  bare t = (t.0, t.1, t.2.0)

  abbrev dims_term : Bool × Bool × ArrayExpr → Bool × Bool × DimsPart
  dims_term t = (t.0, t.1, dims_part_of t.2)

  abbrev walk_term : Bool × Bool × ArrayExpr → Bool × Bool × walk.Part
  walk_term t = (t.0, t.1, walk_part t.2)

  abbrev flat_term : Bool × Bool × ArrayExpr → Bool × Bool × element.Part
  flat_term t = (t.0, t.1, flat_part t.2)

  terms_have : (ts : List Term) (ops : List (Bool × Bool × Dims)) → operands_of (map dims_term (map bare ts)) ≡ Ok ops → Each (λ t. HasDims t.2.0) ts
  terms_have [] ops h = tt
  terms_have (t ∷ ts) ops h =
      let one = after (operand (dims_term (bare t))) (λ v. and_then (operands_of (map dims_term (map bare ts))) (λ vs. Ok (v ∷ vs))) ops h in
      let more = after (operands_of (map dims_term (map bare ts))) (λ vs. Ok (one.0 ∷ vs)) ops one.2 in
      let d = after (dims_of t.2.0) (λ dims. Ok (t.0, t.1, dims)) one.0 one.1 in
      ((d.0, d.1), terms_have ts more.0 more.1)

  parts_have : (ts : List ExprAt) (ds : List Dims) → dims_of_all (map dims_part_of (map (λ t. t.0) ts)) ≡ Ok ds → Each (λ t. HasDims t.0) ts
  parts_have [] ds h = tt
  parts_have (t ∷ ts) ds h =
      let one = after (dims_of t.0) (λ v. and_then (dims_of_all (map dims_part_of (map (λ t. t.0) ts))) (λ vs. Ok (v ∷ vs))) ds h in
      let more = after (dims_of_all (map dims_part_of (map (λ t. t.0) ts))) (λ vs. Ok (one.0 ∷ vs)) ds one.2 in
      ((one.0, one.1), parts_have ts more.0 more.1)

  -- ---- sums

  terms_told : (i : Index) (ts : List Term) (acc : Outcome Reckoned) (p : Number) → Each (λ t. HasDims t.2.0) ts → IsTold acc p →
      IsTold (fold (walk.sum_at i) acc (map walk_term (map bare ts))) (fold with_term p (map mark (map {A = Bool × Bool × element.Part} {B = Bool × FlatExpr} (λ t. (t.0, element.at t.2 i)) (map flat_term (map bare ts)))))
  terms_told i [] acc p d h = h
  terms_told i (t ∷ ts) acc p d h =
      terms_told i ts (both (sum_with t.0) acc (walk.result_at (walk_part t.2.0) i)) (with_term p (t.0, num (element.at (flat_part t.2.0) i))) d.1
      (told_term t.0 acc (walk.result_at (walk_part t.2.0) i) p (num (element.at (flat_part t.2.0) i)) h (operand_told t.2 d.0 i))

  -- ---- products

  record IsChain (c : walk.Chain) (f : element.Chain) : Type 0 where
    dims : c.dims ≡ f.dims
    told : (i : Index) → IsTold (c.product i) (product_number (f.factors i))

  product_more : (fs : List (Bool × FlatExpr)) (x : Bool × FlatExpr) → product_number (fs ++ x ∷ []) ≡ with_factor (product_number fs) (mark x)
  product_more fs x = fold_last with_factor mark (Some (pos 1)) fs x

  one_factor : (u : FlatExpr) → product_number (plain u ∷ []) ≡ num u
  one_factor u = times_one (num u)

  two_factors : (a b : FlatExpr) → num (flat.Product (plain a ∷ plain b ∷ [])) ≡ on_both (λ x y. x *ℤ y) (num a) (num b)
  two_factors a b = num_Product (plain a ∷ plain b ∷ []) ∙ ap (λ (q : Number). on_both (λ x y. x *ℤ y) q (num b)) (times_one (num a))

  not_scalar : (dims : Option Dims) (t : Term) → is_matrix_factor dims (t.0, t.1, shape_of t.2.0) ≡ true → is_scalar (shape_of t.2.0) ≡ false
  not_scalar None t h = absurd (let clash : false ≡ true = h in cc)
  not_scalar (Some dims) t h = by t.1 (is_scalar dims) (is_scalar (shape_of t.2.0)) h
    where
      by : (a b c : Bool) → not (a || b || c) ≡ true → c ≡ false
      by false false false k = refl
      by false false true k = absurd (let clash : false ≡ true = k in cc)
      by false true c k = absurd (let clash : false ≡ true = k in cc)
      by true b c k = absurd (let clash : false ≡ true = k in cc)

  own_index : (dims : Dims) (i : Index) → is_scalar dims ≡ false → own dims i ≡ i
  own_index dims i h = ap (λ (b : Bool). if b then [] else i) h

  -- where its shape is no scalar, an operand stands at the index itself
  straight_at : (t : ExprAt) → HasDims t.0 → is_scalar (shape_of t.0) ≡ false → (i : Index) → IsTold (walk.result_at (walk_part t.0) i) (num (element_of t.0 i))
  straight_at t d h i =
      subst (λ (j : Index). IsTold (read_as of_known (known_by variable t.0 j)) (num (element_of t.0 i))) (sym (own_index (shape_of t.0) i h)) (straight t d i)

  module _ (dims : Option Dims) (product : Index → Outcome Reckoned) (factors : Index → List (Bool × FlatExpr)) (before : (i : Index) → IsTold (product i) (product_number (factors i))) (t : Term) (d : HasDims t.2.0) where
    inner_told : is_scalar (shape_of t.2.0) ≡ false → (row column : Index) (m : ℕ) →
        IsTold (walk.sum_of (map (λ k. both (product_with false) (product (row ++ k ∷ [])) (walk.result_at (walk_part t.2.0) (k ∷ column))) (numbers_to m)))
        (num (element.sum_of (map (element.inner_term factors (flat_part t.2.0) row column) (numbers_to m))))
    inner_told h row column m =
        sums (λ (k : ℕ). both (product_with false) (product (row ++ k ∷ [])) (walk.result_at (walk_part t.2.0) (k ∷ column)))
        (λ (k : ℕ). flat.Product (plain (element.product_of (factors (row ++ k ∷ []))) ∷ plain (element_of t.2.0 (k ∷ column)) ∷ []))
        (λ k. told_as _ (on_both (λ x y. x *ℤ y) (num (element.product_of (factors (row ++ k ∷ [])))) (num (element_of t.2.0 (k ∷ column)))) _
        (sym (two_factors (element.product_of (factors (row ++ k ∷ []))) (element_of t.2.0 (k ∷ column))))
        (told_times (product (row ++ k ∷ [])) (walk.result_at (walk_part t.2.0) (k ∷ column)) (num (element.product_of (factors (row ++ k ∷ [])))) (num (element_of t.2.0 (k ∷ column)))
        (told_as (product (row ++ k ∷ [])) (product_number (factors (row ++ k ∷ []))) _ (sym (product_is (factors (row ++ k ∷ [])))) (before (row ++ k ∷ [])))
        (straight_at t.2 d h (k ∷ column))))
        (numbers_to m)

    abbrev shape : Bool × Bool × Dims
    shape = (t.0, t.1, shape_of t.2.0)

    abbrev walk_chain : walk.Chain
    walk_chain = record { dims = dims; product = product }

    abbrev flat_chain : element.Chain
    flat_chain = record { dims = dims; factors = factors }

    extended_told : (i : Index) → IsTold (walk.extended_product walk_chain (walk_term (bare t)) i) (product_number (element.extended_factors flat_chain (flat_term (bare t)) i))
    extended_told i = by (is_matrix_factor dims shape) refl
      where
        by : (b : Bool) → is_matrix_factor dims shape ≡ b →
            IsTold (if b then walk.inner_product walk_chain (walk_part t.2.0) (own (or_scalar (multiplied_dims dims shape)) i) else both (product_with t.0) (product i) (walk.result_at (walk_part t.2.0) i))
            (product_number (if b then plain (element.inner_product flat_chain (flat_part t.2.0) (own (or_scalar (multiplied_dims dims shape)) i)) ∷ [] else factors i ++ (t.0, element.at (flat_part t.2.0) i) ∷ []))
        by true e =
            let j = own (or_scalar (multiplied_dims dims shape)) i in
            let rows = length (or_scalar dims) - 1 in
            told_as _ (num (element.inner_product flat_chain (flat_part t.2.0) j)) _ (sym (one_factor (element.inner_product flat_chain (flat_part t.2.0) j)))
            (inner_told (not_scalar dims t e) (take rows j) (drop rows j) (first_number (shape_of t.2.0)))
        by false e =
            told_as _ (with_factor (product_number (factors i)) (t.0, num (element.at (flat_part t.2.0) i))) _ (sym (product_more (factors i) (t.0, element.at (flat_part t.2.0) i)))
            (told_factor t.0 (product i) (walk.result_at (walk_part t.2.0) i) (product_number (factors i)) (num (element.at (flat_part t.2.0) i)) (before i) (operand_told t.2 d i))

  chain_step : (c : walk.Chain) (f : element.Chain) (t : Term) → HasDims t.2.0 → IsChain c f → IsChain (walk.extended c (walk_term (bare t))) (element.extended f (flat_term (bare t)))
  chain_step c f t d is = record {
    dims = ap (λ (x : Option Dims). multiplied_dims x (t.0, t.1, shape_of t.2.0)) is.dims;
    told = λ i.
        subst (λ (x : Option Dims). IsTold (walk.extended_product c (walk_term (bare t)) i) (product_number (element.extended_factors (record { dims = x; factors = f.factors }) (flat_term (bare t)) i))) is.dims
        (extended_told c.dims c.product f.factors is.told t d i);
  }

  chains_told : (ts : List Term) (c : walk.Chain) (f : element.Chain) → Each (λ t. HasDims t.2.0) ts → IsChain c f →
      IsChain (fold walk.extended c (map walk_term (map bare ts))) (fold element.extended f (map flat_term (map bare ts)))
  chains_told [] c f d is = is
  chains_told (t ∷ ts) c f d is = chains_told ts (walk.extended c (walk_term (bare t))) (element.extended f (flat_term (bare t))) d.1 (chain_step c f t d.0 is)

  -- ---- calls

  absolute_told : (k : Outcome Known) (p : Number) → IsKnown k p → IsTold (read_as absolute_of k) (on_one magnitude p)
  absolute_told (Err b) p f v n h k = broken_reckoned b (Is (Whole v)) h
  absolute_told (Ok None) p f v n h k = unknown_is v (same_reckoned Unknown (Is (Whole v)) h)
  absolute_told (Ok (Some (Truth b))) p f v n h k = unknown_is v (same_reckoned Unknown (Is (Whole v)) h)
  absolute_told (Ok (Some (Literal c m))) p f v n h k = unknown_is v (same_reckoned Unknown (Is (Whole v)) h)
  absolute_told (Ok (Some (Whole x))) None f v n h k = clash_number n k
  absolute_told (Ok (Some (Whole x))) (Some a) f v n h k =
      let is : v ≡ magnitude x = by (absolute x) refl (same_reckoned (of_number (absolute x)) (Is (Whole v)) h) in
      is ∙ (ap magnitude (f x a refl refl) ∙ same_number (magnitude a) n k)
    where
      by : (o : Option ℤ) → absolute x ≡ o → of_number o ≡ Is (Whole v) → v ≡ magnitude x
      by None e r = outside_is v r
      by (Some z) e r = sym (whole_is z v r) ∙ fitting_is (magnitude x) z e

  -- the lesser or the greater of two
  module _ (operation : Known → Known → Known) (exact : ℤ → ℤ → ℤ) (on_whole : (x y : ℤ) → operation (Some (Whole x)) (Some (Whole y)) ≡ Some (Whole (exact x y)))
      (only : (a b : Known) (v : ℤ) → operation a b ≡ Some (Whole v) → (x : ℤ) × (y : ℤ) × (a ≡ Some (Whole x)) × (b ≡ Some (Whole y))) where
    pair_number : (p q : Number) (x y v n : ℤ) → IsKnown (Ok (Some (Whole x))) p → IsKnown (Ok (Some (Whole y))) q → v ≡ exact x y → on_both exact p q ≡ Some n → v ≡ n
    pair_number None q x y v n f g e k = clash_number n k
    pair_number (Some a) None x y v n f g e k = clash_number n k
    pair_number (Some a) (Some b) x y v n f g e k = e ∙ (ap (λ (z : ℤ). exact z y) (f x a refl refl) ∙ (ap (exact a) (g y b refl refl) ∙ same_number (exact a b) n k))

    of_known_whole : (k : Known) (v : ℤ) → of_known k ≡ Is (Whole v) → k ≡ Some (Whole v)
    of_known_whole None v h = unknown_is v h
    of_known_whole (Some (Whole x)) v h = ap (λ (z : ℤ). Some (Whole z)) (whole_is x v h)
    of_known_whole (Some (Truth b)) v h = truth_is b v h
    of_known_whole (Some (Literal c m)) v h = literal_is c m v h

    some_whole : (x v : ℤ) → ◌≡◌ {A = Known} (Some (Whole x)) (Some (Whole v)) → x ≡ v
    some_whole x v e = let f = e in cc

    pair_told : (a b : Outcome Known) (p q : Number) → IsKnown a p → IsKnown b q → IsTold (walk.on_both operation a b) (on_both exact p q)
    pair_told (Err x) b p q f g v n h k = broken_reckoned x (Is (Whole v)) h
    pair_told (Ok a) (Err x) p q f g v n h k = broken_reckoned x (Is (Whole v)) h
    pair_told (Ok a) (Ok b) p q f g v n h k =
        let is = of_known_whole (operation a b) v (same_reckoned (of_known (operation a b)) (Is (Whole v)) h) in
        let o = only a b v is in
        let value : v ≡ exact o.0 o.1 = some_whole v (exact o.0 o.1) (sym is ∙ (ap (λ (z : Known). operation z b) o.2 ∙ (ap (operation (Some (Whole o.0))) o.3 ∙ on_whole o.0 o.1))) in
        pair_number p q o.0 o.1 v n (subst (λ (z : Known). IsKnown (Ok z) p) o.2 f) (subst (λ (z : Known). IsKnown (Ok z) q) o.3 g) value k

  -- an operation that is left undecided
  never_decided : (ops : List (Outcome Known)) (v : ℤ) → walk.undecided_behind ops ≡ Ok (Is (Whole v)) → ⊥
  never_decided ops v h = by (read_all ops) h
    where
      by : (o : Outcome Known) → and_then o (λ (known : Known). Ok Unknown) ≡ Ok (Is (Whole v)) → ⊥
      by (Err b) k = broken_reckoned b (Is (Whole v)) k
      by (Ok known) k = unknown_is v (same_reckoned Unknown (Is (Whole v)) k)

  told_undecided : (ops : List (Outcome Known)) (p : Number) → IsTold (walk.undecided_behind ops) p
  told_undecided ops p = told_never (walk.undecided_behind ops) p (never_decided ops)

  picked : (b : Bool) (r s : Outcome Reckoned) (p q : Number) → IsTold r p → IsTold s q → IsTold (if b then r else s) (if b then p else q)
  picked true r s p q f g = f
  picked false r s p q f g = g

  picked_element : (b : Bool) (r s : Outcome Reckoned) (x y : FlatExpr) → IsTold r (num x) → IsTold s (num y) → IsTold (if b then r else s) (num (if b then x else y))
  picked_element true r s x y f g = f
  picked_element false r s x y f g = g

  told_number : (n : ℤ) → IsTold (Ok (Is (Whole n))) (num (flat.Whole n))
  told_number n = told_same n (num (flat.Whole n)) (num_Whole n)

  all_told : (t : ExprAt) → HasDims t.0 → (i : Index) → IsTold (read_as of_known (known_by variable t.0 i)) (num (element_of t.0 i))
  all_told t d i = straight t d i

  abbrev scalar_call_of_one : ℕ → ArrayExpr → Index → Outcome Reckoned
  scalar_call_of_one f e i =
      if nat_eq f ABS then read_as absolute_of (walk.at (walk_part e) i) else
      (if nat_eq f NO_EVENT then walk.result_at (walk_part e) i else walk.undecided_behind (walk.at (walk_part e) i ∷ []))

  scalar_call_one : (f : ℕ) (t : ExprAt) → HasDims t.0 → (i : Index) → IsTold (scalar_call_of_one f t.0 i) (num (flat.Call f (element.at (flat_part t.0) i ∷ [])))
  scalar_call_one f t d i =
      let a = walk.at (walk_part t.0) i in
      let p = num (element.at (flat_part t.0) i) in
      told_as (scalar_call_of_one f t.0 i) (if nat_eq f ABS then on_one magnitude p else (if nat_eq f NO_EVENT then p else None)) (num (flat.Call f (element.at (flat_part t.0) i ∷ [])))
      (sym (num_Call f (element.at (flat_part t.0) i ∷ [])))
      (picked (nat_eq f ABS) (read_as absolute_of a) (if nat_eq f NO_EVENT then walk.result_at (walk_part t.0) i else walk.undecided_behind (a ∷ [])) (on_one magnitude p) (if nat_eq f NO_EVENT then p else None)
      (absolute_told a p (operand_known t d i))
      (picked (nat_eq f NO_EVENT) (walk.result_at (walk_part t.0) i) (walk.undecided_behind (a ∷ [])) p None (operand_told t d i) (told_undecided (a ∷ []) None)))

  call_one_told : (f : ℕ) (t : ExprAt) → HasDims t.0 → (i : Index) → IsTold (walk.call_of_one f (walk_part t.0) i) (num (element.call_of_one f (flat_part t.0) i))
  call_one_told f t d i = by (nat_eq f NDIMS) (nat_eq f SUM) (nat_eq f PRODUCT) (nat_eq f TRANSPOSE)
    where
      by : (a b c e : Bool) →
          IsTold (if a then Ok (number (length (shape_of t.0))) else (if b then walk.sum_of (walk.all_results (walk_part t.0)) else (if c then walk.product_of (walk.all_results (walk_part t.0)) else (if e then read_as of_known (known_by variable t.0 (swapped i)) else scalar_call_of_one f t.0 i))))
          (num (if a then flat.Whole (pos (length (shape_of t.0))) else (if b then element.sum_of (element.all_elements (flat_part t.0)) else (if c then element.product_of (element.all_elements (flat_part t.0)) else (if e then element_of t.0 (swapped i) else flat.Call f (element.at (flat_part t.0) i ∷ []))))))
      by true b c e = told_number (pos (length (shape_of t.0)))
      by false true c e = sums (λ (j : Index). read_as of_known (known_by variable t.0 j)) (element_of t.0) (all_told t d) (indices (shape_of t.0))
      by false false true e = products (λ (j : Index). read_as of_known (known_by variable t.0 j)) (element_of t.0) (all_told t d) (indices (shape_of t.0))
      by false false false true = straight t d (swapped i)
      by false false false false = scalar_call_one f t d i

  -- ---- calls of two

  whole_pair : (exact : ℤ → ℤ → ℤ) (x y v : ℤ) → ◌≡◌ {A = Known} (Some (Whole (exact x y))) (Some (Whole v)) → (a : ℤ) × (b : ℤ) × (◌≡◌ {A = Known} (Some (Whole x)) (Some (Whole a))) × (◌≡◌ {A = Known} (Some (Whole y)) (Some (Whole b)))
  whole_pair exact x y v h = (x, y, refl, refl)

  no_known : {A : Type 0} (v : ℤ) → ◌≡◌ {A = Known} None (Some (Whole v)) → A
  no_known v e = absurd (let f : ◌≡◌ {A = Known} None (Some (Whole v)) = e in cc)

  lesser_only : (a b : Known) (v : ℤ) → lesser_of a b ≡ Some (Whole v) → (x : ℤ) × (y : ℤ) × (a ≡ Some (Whole x)) × (b ≡ Some (Whole y))
  lesser_only None b v h = no_known v h
  lesser_only (Some (Truth x)) b v h = no_known v h
  lesser_only (Some (Literal c m)) b v h = no_known v h
  lesser_only (Some (Whole x)) None v h = no_known v h
  lesser_only (Some (Whole x)) (Some (Truth y)) v h = no_known v h
  lesser_only (Some (Whole x)) (Some (Literal c m)) v h = no_known v h
  lesser_only (Some (Whole x)) (Some (Whole y)) v h = (x, y, refl, refl)

  greater_only : (a b : Known) (v : ℤ) → greater_of a b ≡ Some (Whole v) → (x : ℤ) × (y : ℤ) × (a ≡ Some (Whole x)) × (b ≡ Some (Whole y))
  greater_only None b v h = no_known v h
  greater_only (Some (Truth x)) b v h = no_known v h
  greater_only (Some (Literal c m)) b v h = no_known v h
  greater_only (Some (Whole x)) None v h = no_known v h
  greater_only (Some (Whole x)) (Some (Truth y)) v h = no_known v h
  greater_only (Some (Whole x)) (Some (Literal c m)) v h = no_known v h
  greater_only (Some (Whole x)) (Some (Whole y)) v h = (x, y, refl, refl)

  -- a[j]*b[k]
  times_told : (a b : ExprAt) → HasDims a.0 → HasDims b.0 → is_scalar (shape_of a.0) ≡ false → is_scalar (shape_of b.0) ≡ false → (j k : ℕ) →
      IsTold (both (product_with false) (walk.result_at (walk_part a.0) (j ∷ [])) (walk.result_at (walk_part b.0) (k ∷ [])))
      (num (flat.Product (plain (element_of a.0 (j ∷ [])) ∷ plain (element_of b.0 (k ∷ [])) ∷ [])))
  times_told a b da db ha hb j k =
      told_as (both (product_with false) (walk.result_at (walk_part a.0) (j ∷ [])) (walk.result_at (walk_part b.0) (k ∷ [])))
      (on_both (λ x y. x *ℤ y) (num (element_of a.0 (j ∷ []))) (num (element_of b.0 (k ∷ []))))
      (num (flat.Product (plain (element_of a.0 (j ∷ [])) ∷ plain (element_of b.0 (k ∷ [])) ∷ [])))
      (sym (two_factors (element_of a.0 (j ∷ [])) (element_of b.0 (k ∷ []))))
      (told_times (walk.result_at (walk_part a.0) (j ∷ [])) (walk.result_at (walk_part b.0) (k ∷ [])) (num (element_of a.0 (j ∷ []))) (num (element_of b.0 (k ∷ [])))
      (straight_at a da ha (j ∷ [])) (straight_at b db hb (k ∷ [])))

  crossed_at_told : (a b : ExprAt) → HasDims a.0 → HasDims b.0 → is_scalar (shape_of a.0) ≡ false → is_scalar (shape_of b.0) ≡ false → (j k : ℕ) →
      IsTold (walk.crossed_at (walk_part a.0) (walk_part b.0) j k) (num (element.crossed_at (flat_part a.0) (flat_part b.0) j k))
  crossed_at_told a b da db ha hb j k =
      let x = flat.Product (plain (element_of a.0 (j ∷ [])) ∷ plain (element_of b.0 (k ∷ [])) ∷ []) in
      let y = flat.Product (plain (element_of a.0 (k ∷ [])) ∷ plain (element_of b.0 (j ∷ [])) ∷ []) in
      let r = both (product_with false) (walk.result_at (walk_part a.0) (j ∷ [])) (walk.result_at (walk_part b.0) (k ∷ [])) in
      let s = both (product_with false) (walk.result_at (walk_part a.0) (k ∷ [])) (walk.result_at (walk_part b.0) (j ∷ [])) in
      told_as (both (sum_with true) r s) (with_term (num x) (true, num y)) (num (element.crossed_at (flat_part a.0) (flat_part b.0) j k))
      (sym (num_Sum (plain x ∷ (true, y) ∷ []) ∙ ap (λ (q : Number). with_term q (true, num y)) (plus_none (num x))))
      (told_term true r s (num x) (num y) (times_told a b da db ha hb j k) (times_told a b da db ha hb k j))

  crossed_told : (a b : ExprAt) → HasDims a.0 → HasDims b.0 → is_scalar (shape_of a.0) ≡ false → is_scalar (shape_of b.0) ≡ false → (n : ℕ) →
      IsTold (walk.crossed (walk_part a.0) (walk_part b.0) n) (num (element.crossed (flat_part a.0) (flat_part b.0) n))
  crossed_told a b da db ha hb n = by (nat_eq n 1) (nat_eq n 2)
    where
      by : (p q : Bool) →
          IsTold (if p then walk.crossed_at (walk_part a.0) (walk_part b.0) 2 3 else (if q then walk.crossed_at (walk_part a.0) (walk_part b.0) 3 1 else walk.crossed_at (walk_part a.0) (walk_part b.0) 1 2))
          (num (if p then element.crossed_at (flat_part a.0) (flat_part b.0) 2 3 else (if q then element.crossed_at (flat_part a.0) (flat_part b.0) 3 1 else element.crossed_at (flat_part a.0) (flat_part b.0) 1 2)))
      by true q = crossed_at_told a b da db ha hb 2 3
      by false true = crossed_at_told a b da db ha hb 3 1
      by false false = crossed_at_told a b da db ha hb 1 2

  vectors : (place : Place) (x y d : Dims) → crossed_dims place x y ≡ Ok d → (is_scalar x ≡ false) × (is_scalar y ≡ false)
  vectors place [] y d h = absurd (not_broken _ d h)
  vectors place (n ∷ []) [] d h = absurd (not_broken _ d h)
  vectors place (n ∷ []) (m ∷ ms) d h = (refl, refl)
  vectors place (n ∷ k ∷ ns) y d h = absurd (not_broken _ d h)

  are_vectors : (place : Place) (a b : ArrayExpr) (x y d : Dims) → dims_of a ≡ Ok x → dims_of b ≡ Ok y → crossed_dims place x y ≡ Ok d → (is_scalar (shape_of a) ≡ false) × (is_scalar (shape_of b) ≡ false)
  are_vectors place a b x y d ha hb h =
      let are = vectors place x y d h in
      (ap is_scalar (dims_agree a x ha) ∙ are.0, ap is_scalar (dims_agree b y hb) ∙ are.1)

  abbrev scalar_call_of_two : ℕ → ArrayExpr → ArrayExpr → Index → Outcome Reckoned
  scalar_call_of_two f a b i =
      if nat_eq f MIN then walk.on_both lesser_of (walk.at (walk_part a) i) (walk.at (walk_part b) i) else
      (if nat_eq f MAX then walk.on_both greater_of (walk.at (walk_part a) i) (walk.at (walk_part b) i) else walk.undecided_behind (walk.at (walk_part a) i ∷ walk.at (walk_part b) i ∷ []))

  scalar_call_two : (f : ℕ) (a b : ExprAt) → HasDims a.0 → HasDims b.0 → (i : Index) → IsTold (scalar_call_of_two f a.0 b.0 i) (num (flat.Call f (element.at (flat_part a.0) i ∷ element.at (flat_part b.0) i ∷ [])))
  scalar_call_two f a b da db i =
      let r = walk.at (walk_part a.0) i in
      let s = walk.at (walk_part b.0) i in
      let p = num (element.at (flat_part a.0) i) in
      let q = num (element.at (flat_part b.0) i) in
      told_as (scalar_call_of_two f a.0 b.0 i) (if nat_eq f MIN then on_both lesser p q else (if nat_eq f MAX then on_both greater p q else None)) (num (flat.Call f (element.at (flat_part a.0) i ∷ element.at (flat_part b.0) i ∷ [])))
      (sym (num_Call f (element.at (flat_part a.0) i ∷ element.at (flat_part b.0) i ∷ [])))
      (picked (nat_eq f MIN) (walk.on_both lesser_of r s) (if nat_eq f MAX then walk.on_both greater_of r s else walk.undecided_behind (r ∷ s ∷ [])) (on_both lesser p q) (if nat_eq f MAX then on_both greater p q else None)
      (pair_told lesser_of lesser (λ x y. refl) lesser_only r s p q (operand_known a da i) (operand_known b db i))
      (picked (nat_eq f MAX) (walk.on_both greater_of r s) (walk.undecided_behind (r ∷ s ∷ [])) (on_both greater p q) None
      (pair_told greater_of greater (λ x y. refl) greater_only r s p q (operand_known a da i) (operand_known b db i))
      (told_undecided (r ∷ s ∷ []) None)))

  call_two_told : (place : Place) (f : ℕ) (a b : ExprAt) (x y d : Dims) → dims_of a.0 ≡ Ok x → dims_of b.0 ≡ Ok y → call_of_two_dims place f x y ≡ Ok d → (i : Index) →
      IsTold (walk.call_of_two f (walk_part a.0) (walk_part b.0) i) (num (element.call_of_two f (flat_part a.0) (flat_part b.0) i))
  call_two_told place f a b x y d ha hb h i = by (nat_eq f CROSS) _ h
    where
      by : (c : Bool) (o : Outcome Dims) → (if c then crossed_dims place x y else o) ≡ Ok d →
          IsTold (if c then walk.crossed (walk_part a.0) (walk_part b.0) (first_number i) else scalar_call_of_two f a.0 b.0 i)
          (num (if c then element.crossed (flat_part a.0) (flat_part b.0) (first_number i) else flat.Call f (element.at (flat_part a.0) i ∷ element.at (flat_part b.0) i ∷ [])))
      by true o e =
          let are = are_vectors place a.0 b.0 x y d ha hb e in
          crossed_told a b (x, ha) (y, hb) are.0 are.1 (first_number i)
      by false o e = scalar_call_two f a b (x, ha) (y, hb) i

  -- ---- arrays

  -- what is among parts, by its place
  among_walk : (parts : List walk.Part) (k : ℕ) (i : Index) (part : walk.Part) → slice_get parts (k - 1) ≡ Some part → walk.element_among parts (k ∷ i) ≡ read_as of_known (part.1 i)
  among_walk parts k i part h = rw h refl

  among_none : (parts : List walk.Part) (k : ℕ) (i : Index) → slice_get parts (k - 1) ≡ None → walk.element_among parts (k ∷ i) ≡ Ok Unknown
  among_none parts k i h = rw h refl

  among_element : (parts : List element.Part) (k : ℕ) (i : Index) (part : element.Part) → slice_get parts (k - 1) ≡ Some part → element.element_among parts (k ∷ i) ≡ part.1 i
  among_element parts k i part h = ap (λ (o : Option element.Part). element.element_in o i) h

  abbrev Found : List ExprAt → ℕ → Type 0
  Found ts n =
      ((t : ExprAt) × HasDims t.0 × (slice_get (map walk_part (map (λ t. t.0) ts)) n ≡ Some (walk_part t.0)) × (slice_get (map flat_part (map (λ t. t.0) ts)) n ≡ Some (flat_part t.0)))

  found : (ts : List ExprAt) (n : ℕ) → Each (λ t. HasDims t.0) ts → (slice_get (map walk_part (map (λ t. t.0) ts)) n ≡ None → ⊥) → Found ts n
  found [] n d h = absurd (h refl)
  found (t ∷ ts) zero d h = (t, d.0, refl, refl)
  found (t ∷ ts) (suc n) d h = found ts n d.1 h

  among_told : (ts : List ExprAt) → Each (λ t. HasDims t.0) ts → (i : Index) → IsTold (walk.element_among (map walk_part (map (λ t. t.0) ts)) i) (num (element.element_among (map flat_part (map (λ t. t.0) ts)) i))
  among_told ts d [] v n h k = unknown_is v (same_reckoned Unknown (Is (Whole v)) h)
  among_told ts d (m ∷ i) v n h k =
      let parts : List walk.Part = map walk_part (map (λ t. t.0) ts) in
      let elements : List element.Part = map flat_part (map (λ t. t.0) ts) in
      let f = found ts (m - 1) d (λ e. unknown_is v (same_reckoned Unknown (Is (Whole v)) (sym (among_none parts m i e) ∙ h))) in
      straight f.0 f.1 i v n (sym (among_walk parts m i (walk_part f.0.0) f.2) ∙ h) (sym (ap num (among_element elements m i (flat_part f.0.0) f.3)) ∙ k)

  constant_told : (f : ℕ) (i : Index) → IsTold (Ok (walk.constant f i)) (num (element.constant f i))
  constant_told f i = by (nat_eq f ONES) (nat_eq f IDENTITY && is_diagonal i)
    where
      by : (a b : Bool) → IsTold (Ok (if a || b then number 1 else number 0)) (num (if a then flat.Whole (pos 1) else (if b then flat.Whole (pos 1) else flat.Whole (pos 0))))
      by true true = told_number (pos 1)
      by true false = told_number (pos 1)
      by false true = told_number (pos 1)
      by false false = told_number (pos 0)

  size_told : (dims : Dims) (at : Option (Place × ℤ)) (i : Index) → IsTold (Ok (walk.size_element dims at i)) (num (element.size_element dims at i))
  size_told dims None i = told_number (pos (or_else (slice_get dims (first_number i - 1)) 0))
  size_told dims (Some at) i = told_number (pos (or_else (slice_get dims (size_of at.1 - 1)) 0))

  known_is : (k : Outcome Known) → IsKnown k (known_number k)
  known_is k v n h p = same_number v n (sym (ap known_number h) ∙ p)

  -- ---- the layers

  calls_told : (place : Place) (f : ℕ) (ts : List ExprAt) (ds : List Dims) (d : Dims) → dims_of_all (map dims_part_of (map (λ t. t.0) ts)) ≡ Ok ds → call_dims place f ds ≡ Ok d → (i : Index) →
      IsTold (walk.call f (map walk_part (map (λ t. t.0) ts)) i) (num (element.call f (map flat_part (map (λ t. t.0) ts)) i))
  calls_told place f [] ds d h e i = told_undecided [] _
  calls_told place f (a ∷ []) ds d h e i = call_one_told f a (parts_have (a ∷ []) ds h).0 i
  calls_told place f (a ∷ b ∷ []) ds d h e i =
      let one = after (dims_of a.0) (λ v. and_then (dims_of_all (dims_part_of b.0 ∷ [])) (λ vs. Ok (v ∷ vs))) ds h in
      let more = after (dims_of_all (dims_part_of b.0 ∷ [])) (λ vs. Ok (one.0 ∷ vs)) ds one.2 in
      let two = after (dims_of b.0) (λ v. Ok (v ∷ [])) more.0 more.1 in
      let is : ds ≡ one.0 ∷ two.0 ∷ [] = sym (ok_same (one.0 ∷ more.0) ds more.2) ∙ ap (λ (l : List Dims). one.0 ∷ l) (sym (ok_same (two.0 ∷ []) more.0 two.2)) in
      call_two_told place f a b one.0 two.0 d one.1 two.1 (ap (call_dims place f) (sym is) ∙ e) i
  calls_told place f (a ∷ b ∷ c ∷ ts) ds d h e i = told_undecided (map (λ (arg : walk.Part). walk.at arg i) (map walk_part (map (λ t. t.0) (a ∷ b ∷ c ∷ ts)))) _

  abbrev bare_layer : ArrayNode-F NodeAt ExprAt → ArrayNode-F ArrayNode ArrayExpr
  bare_layer node = map-ArrayNode NodeAt ExprAt ArrayNode ArrayExpr (λ t. t.0) (λ t. t.0) node

  told_other : (r : Outcome Reckoned) (e : FlatExpr) (node : FlatExpr-F FlatExpr) → out-FlatExpr e ≡ node → number_node of_variable (map-FlatExpr FlatExpr Number num node) ≡ None → IsTold r (num e)
  told_other r e node h is = told_none r (num e) (num_at e node h ∙ is)

  layer_told : (node : ArrayNode-F NodeAt ExprAt) → LayerHolds (bare_layer node)
  layer_told (ArrayNode-F.Whole m) place d e i = told_number m
  layer_told (ArrayNode-F.Decimal text) place d e i = told_never _ _ (λ (v : ℤ) h. unknown_is v (same_reckoned Unknown (Is (Whole v)) h))
  layer_told (ArrayNode-F.Str text) place d e i = told_never _ _ (λ (v : ℤ) h. unknown_is v (same_reckoned Unknown (Is (Whole v)) h))
  layer_told (ArrayNode-F.Truth b) place d e i = told_never _ _ (λ (v : ℤ) h. truth_is b v (same_reckoned (Is (Truth b)) (Is (Whole v)) h))
  layer_told (ArrayNode-F.Literal class m name) place d e i = told_never _ _ (λ (v : ℤ) h. literal_is class m v (same_reckoned (Is (Literal class m)) (Is (Whole v)) h))
  layer_told ArrayNode-F.Time place d e i = told_never _ _ (λ (v : ℤ) h. unknown_is v (same_reckoned Unknown (Is (Whole v)) h))
  layer_told (ArrayNode-F.Vars vars kind dims subs) place d e i =
      let m = variable_at vars dims (located subs i) in
      told_as (read_as of_known (variable m)) (of_variable m) (num (flat.Var m 0)) (sym (num_at (flat.Var m 0) (FlatExpr-F.Var m 0) (flat.outs-Var m 0)))
      (known_told (variable m) (of_variable m) (known_is (variable m)))
  layer_told (ArrayNode-F.Sum terms) place d e i =
      let a = after (operands_of (map dims_term (map bare terms))) (chain (added_dims place)) d e in
      told_as _ _ _ (sym (sum_number (map {A = Bool × Bool × element.Part} {B = Bool × FlatExpr} (λ t. (t.0, element.at t.2 i)) (map flat_term (map bare terms)))))
      (terms_told i terms (Ok (number 0)) (Some (pos 0)) (terms_have terms a.0 a.1) (told_same (pos 0) (Some (pos 0)) refl))
  layer_told (ArrayNode-F.Product factors) place d e i =
      let a = after (operands_of (map dims_term (map bare factors))) (chain (times_dims place)) d e in
      let is : IsChain walk.unbegun element.unbegun = record { dims = refl; told = λ j. told_same (pos 1) (Some (pos 1)) refl } in
      told_as _ _ _ (sym (product_is ((element.chain_of (map flat_term (map bare factors))).factors i)))
      ((chains_told factors walk.unbegun element.unbegun (terms_have factors a.0 a.1) is).told i)
  layer_told (ArrayNode-F.Power base dotted exponent) place d e i = told_undecided (walk.at (walk_part base.0) i ∷ walk.at (walk_part exponent.0) i ∷ []) _
  layer_told (ArrayNode-F.Relation op left right) place d e i =
      let x = element.at (flat_part left.0) i in
      let y = element.at (flat_part right.0) i in
      told_other _ (flat.Relation op x y) (FlatExpr-F.Relation op x y) (flat.outs-Relation op x y) refl
  layer_told (ArrayNode-F.Not inner) place d e i =
      let x = element.at (flat_part inner.0) i in
      told_other _ (flat.Not x) (FlatExpr-F.Not x) (flat.outs-Not x) refl
  layer_told (ArrayNode-F.All parts) place d e i =
      let xs = map {A = element.Part} {B = FlatExpr} (λ part. element.at part i) (map flat_part (map (λ t. t.0) parts)) in
      told_other _ (flat.All xs) (FlatExpr-F.All xs) (flat.outs-All xs) refl
  layer_told (ArrayNode-F.Any parts) place d e i =
      let xs = map {A = element.Part} {B = FlatExpr} (λ part. element.at part i) (map flat_part (map (λ t. t.0) parts)) in
      told_other _ (flat.Any xs) (FlatExpr-F.Any xs) (flat.outs-Any xs) refl
  layer_told (ArrayNode-F.If branches other) place d e i =
      let reads : List (walk.Part × walk.Part) = map {A = ArrayExpr × ArrayExpr} {B = walk.Part × walk.Part} (λ b. (walk_part b.0, walk_part b.1)) (map {A = ExprAt × ExprAt} {B = ArrayExpr × ArrayExpr} (λ b. (b.0.0, b.1.0)) branches) in
      told_undecided (walk.branch_reads i reads ++ walk.at (walk_part other.0) i ∷ []) _
  layer_told (ArrayNode-F.Call f args) place d e i =
      let a = after (dims_of_all (map dims_part_of (map (λ t. t.0) args))) (call_dims place f) d e in
      calls_told place f args a.0 d a.1 a.2 i
  layer_told (ArrayNode-F.Der inner) place d e i = told_undecided (walk.at (walk_part inner.0) i ∷ []) _
  layer_told (ArrayNode-F.Array parts) place d e i =
      let asked_parts : List DimsPart = map dims_part_of (map (λ t. t.0) parts) in
      let a = after (and_then (dims_of_all asked_parts) (alike place)) (λ dims. Ok (length asked_parts ∷ dims)) d e in
      let b = after (dims_of_all asked_parts) (alike place) a.0 a.1 in
      among_told parts (parts_have parts b.0 b.1) i
  layer_told (ArrayNode-F.Range first step last) place d e i = told_number (range_element first step i)
  layer_told (ArrayNode-F.Size part at) place d e i = size_told (shape_of part.0) at i
  layer_told (ArrayNode-F.Sized f None sizes) place d e i = constant_told f i
  layer_told (ArrayNode-F.Sized f (Some part) sizes) place d e i =
      let a = after (dims_of part.0) (λ dims. and_then (sizes_of sizes) (λ ns. filled place f dims ns)) d e in
      straight part (a.0, a.1) []

  expression_told : (e : ArrayExpr-F NodeAt ExprAt) → Holds (roll-ArrayExpr (map-ArrayExpr NodeAt ExprAt ArrayNode ArrayExpr (λ t. t.0) (λ t. t.0) e))
  unfolding Holds HoldsIn
  expression_told e d h i =
      let layer : ArrayExpr-F ArrayNode ArrayExpr = map-ArrayExpr NodeAt ExprAt ArrayNode ArrayExpr (λ t. t.0) (λ t. t.0) e in
      let part : DimsPart = dims_part (map-ArrayExpr ArrayNode ArrayExpr DimsAsked DimsPart dims_of_node dims_part_of layer) in
      subst (λ (f : Elements). IsKnown (known_by variable (roll-ArrayExpr layer) i) (num (f i))) (sym (para-roll-ArrayExpr Elements Elements element_node element_part layer))
      (subst (λ (f : KnownAt). IsKnown (f i) (num (element_of_node e.node.0 i))) (sym (para-roll-ArrayExpr Walked KnownAt (result_node variable) known_part layer))
      (told_known e.place (kind_or_real (kind_of_node e.node.0 e.place)) (result_of_node variable e.node.0 i) (num (element_of_node e.node.0 i))
      (e.node.1 e.place d (ap (λ (p : DimsPart). p.dims) (sym (fold-roll-ArrayExpr DimsAsked DimsPart dims_node dims_part layer)) ∙ h) i)))

  known_elements : (e : ArrayExpr) (d : Dims) → dims_of e ≡ Ok d → (i : Index) → IsKnown (known_by variable e i) (num (element_of e i))
  unfolding Holds
  known_elements = ind-ArrayExpr HoldsIn Holds
      (λ x y is. subst (λ z. HoldsIn (roll-ArrayNode z)) is (rolled (bare_layer y) (layer_told y)))
      (λ x y is. subst (λ z. Holds (roll-ArrayExpr z)) is (expression_told y))

pub elements_have_their_values : ElementsHaveTheirValues
elements_have_their_values read e dims index value number d known is =
    known_elements (numbered (known_of_virtuals read e.virtuals)) e.expression dims d index value number known is
