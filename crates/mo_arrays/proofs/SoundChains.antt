-- Sound sums and products, and the chain of a product factor by factor.
use Rattle.std.proofs.Common.{◌≡◌, ◌-◌, ℕ, pos, Bool, true, false, List, [], ◌∷◌, ◌++◌, map, length, take, drop, Some, refl, ap, sym, ◌∙◌, subst, if◌then◌else◌}
use Rattle.std.specs.Prelude.{fold, Ok, Err}
use Rattle.std.specs.List.{list_any}
use Rattle.mo_syntax.specs.Outcome.{Outcome, and_then}
use Rattle.mo_syntax.specs.declared.place.Place.{Place}
use Rattle.mo_syntax.specs.declared.meaning.Kind.{Kind}
use Rattle.mo_syntax.specs.declared.meaning.Kind.TheVariants.{Whole as Integer}
use Rattle.mo_flat.specs.declared.array.ArrayExpr.{ArrayExpr}
use Rattle.mo_flat.specs.declared.expr.FlatExpr.{FlatExpr}
use Rattle.mo_flat.specs.declared.model.FlatVar.{FlatVar}
use Rattle.mo_flat.specs.Sound.{begins_multiplied}
use Rattle.mo_flat.proofs.Good.{Each, IsGood, IsNumber, Widens, good_Whole, good_Sum, good_Product, widened}
use Rattle.mo_typing.specs.Dims.{Dims, times, matrix_product, multiplied as asked, with_operand, or_scalar as asked_scalar}
use Rattle.mo_typing.specs.Shape.{shape_of, is_matrix_factor, multiplied, or_scalar}
use Rattle.mo_typing.specs.Indices.{Index, own, numbers_to, first_number}
use Rattle.mo_typing.proofs.Agreeing.{ok_same, not_broken, times_agrees}
use Rattle.mo_arrays.specs.Elements.{Chain, Factor, element_of, at, plain, sum_of, product_of, inner_term, inner_product, extended_factors, extended}
use Rattle.mo_arrays.specs.steps.Parts.{part_of}
use Rattle.mo_arrays.proofs.SoundDims.{Suits, Beside, suits_beside, index_suits, spread_beside, broken_settles, IsUpTo, numbers_up_to, row_and_column}
use Rattle.mo_arrays.proofs.SoundParts.{Whole, Gives, the_kind, at_given}

-- ---- sums

pub good_sum_of : (vars : List FlatVar) (k : Kind) → IsNumber k → (n : ℕ) (ts : List (Bool × FlatExpr)) → Each (λ t. IsGood vars k n t.1) ts → IsGood vars k n (sum_of ts)
good_sum_of vars k number n [] e = good_Whole vars k number n (pos 0)
good_sum_of vars k number n ((false, u) ∷ []) e = e.0
good_sum_of vars k number n ((true, u) ∷ []) e = good_Sum vars k number n ((true, u) ∷ []) refl e
good_sum_of vars k number n ((false, u) ∷ t ∷ ts) e = good_Sum vars k number n ((false, u) ∷ t ∷ ts) refl e
good_sum_of vars k number n ((true, u) ∷ t ∷ ts) e = good_Sum vars k number n ((true, u) ∷ t ∷ ts) refl e

-- ---- factors

-- the factors of an element: the first is multiplied, and none divides where an Integer is wanted
pub record AreFactors (vars : List FlatVar) (k : Kind) (n : ℕ) (fs : List (Bool × FlatExpr)) : Type 0 where
  pub first : begins_multiplied fs ≡ true
  pub whole_only : k ≡ Integer → list_any (λ f. f.0) fs ≡ false
  pub each : Each (λ f. IsGood vars k n f.1) fs

pub good_product_of : (vars : List FlatVar) (k : Kind) → IsNumber k → (n : ℕ) (fs : List (Bool × FlatExpr)) → AreFactors vars k n fs → IsGood vars k n (product_of fs)
good_product_of vars k number n [] a = good_Whole vars k number n (pos 1)
good_product_of vars k number n ((false, u) ∷ []) a = a.each.0
good_product_of vars k number n ((true, u) ∷ []) a = good_Product vars k number n ((true, u) ∷ []) a.first a.whole_only a.each
good_product_of vars k number n ((false, u) ∷ t ∷ ts) a = good_Product vars k number n ((false, u) ∷ t ∷ ts) a.first a.whole_only a.each
good_product_of vars k number n ((true, u) ∷ t ∷ ts) a = good_Product vars k number n ((true, u) ∷ t ∷ ts) a.first a.whole_only a.each

pub one_factor : (vars : List FlatVar) (k : Kind) (n : ℕ) (u : FlatExpr) → IsGood vars k n u → AreFactors vars k n (plain u ∷ [])
one_factor vars k n u g = record { first = refl; whole_only = λ is. refl; each = (g, tt) }

more_factors : (vars : List FlatVar) (k : Kind) (n : ℕ) (fs : List (Bool × FlatExpr)) (flag : Bool) (u : FlatExpr) → AreFactors vars k n fs → (k ≡ Integer → flag ≡ false) → IsGood vars k n u → AreFactors vars k n (fs ++ (flag, u) ∷ [])
more_factors vars k n fs flag u a f g = record { first = begun fs a.first; whole_only = λ is. none fs (a.whole_only is) (f is); each = snoc fs a.each }
  where
    begun : (fs : List (Bool × FlatExpr)) → begins_multiplied fs ≡ true → begins_multiplied (fs ++ (flag, u) ∷ []) ≡ true
    begun [] e = let x : false ≡ true = e in cc
    begun (x ∷ fs) e = e

    none : (fs : List (Bool × FlatExpr)) → list_any (λ f. f.0) fs ≡ false → flag ≡ false → list_any (λ f. f.0) (fs ++ (flag, u) ∷ []) ≡ false
    none [] e f = rw f refl
    none ((false, x) ∷ fs) e f = none fs e f
    none ((true, x) ∷ fs) e f = let x : true ≡ false = e in cc

    snoc : (fs : List (Bool × FlatExpr)) → Each (λ f. IsGood vars k n f.1) fs → Each (λ f. IsGood vars k n f.1) (fs ++ (flag, u) ∷ [])
    snoc [] e = (g, tt)
    snoc (x ∷ fs) e = (e.0, snoc fs e.1)

-- ---- one more factor of a chain

-- a factor acts on each element, or multiplies as a matrix or a vector
data Multiplies (place : Place) (divide dotted : Bool) (a b d : Dims) : Type 0 where
  acts : is_matrix_factor (Some a) (divide, dotted, b) ≡ false → Beside d a → Beside d b → Multiplies place divide dotted a b d
  joins : is_matrix_factor (Some a) (divide, dotted, b) ≡ true → matrix_product place a b ≡ Ok d → Multiplies place divide dotted a b d

multiplies : (place : Place) (divide dotted : Bool) (a b d : Dims) → times place divide dotted a b ≡ Ok d → Multiplies place divide dotted a b d
multiplies place divide true a b d e = let two = spread_beside place true a b d e in acts refl two.0 two.1
multiplies place divide false [] [] d e = acts refl (Beside.alone refl) (Beside.alone refl)
multiplies place divide false (n ∷ a) [] d e = acts refl (Beside.same (ok_same (n ∷ a) d e)) (Beside.alone refl)
multiplies place true false a (m ∷ b) d e = absurd (not_broken _ d e)
multiplies place false false [] (m ∷ b) d e = acts refl (Beside.alone refl) (Beside.same (ok_same (m ∷ b) d e))
multiplies place false false (n ∷ a) (m ∷ b) d e = joins refl e

-- a chain with the dimensions a
pub record IsChain (vars : List FlatVar) (k : Kind) (n : ℕ) (a : Dims) (c : Chain) : Type 0 where
  pub dims_are : c.dims ≡ Some a
  pub factors : (i : Index) → Suits a i → AreFactors vars k n (c.factors i)

each_number : {A : Type 0} (size : ℕ) (f : ℕ → A) (Q : A → Type 0) → ((j : ℕ) → IsUpTo size j → Q (f j)) → (js : List ℕ) → Each (IsUpTo size) js → Each Q (map f js)
each_number size f Q h [] e = tt
each_number size f Q h (j ∷ js) e = (h j e.0, each_number size f Q h js e.1)

inner_good : (vars : List FlatVar) (k : Kind) → IsNumber k → (n : ℕ) (place : Place) (a d : Dims) (c : Chain) (e : ArrayExpr) (i : Index) → IsChain vars k n a c → Gives vars n e → Widens (the_kind e) k → matrix_product place a (shape_of e) ≡ Ok d → Suits d i →
    IsGood vars k n (inner_product c (part_of e) (own d i))
inner_good vars k number n place a d c e i chain g w m s =
    let rows : length (or_scalar c.dims) - 1 ≡ length a - 1 = ap (λ x. length (or_scalar x) - 1) chain.dims_are in
    subst (λ r. IsGood vars k n (sum_of (map (inner_term c.factors (part_of e) (take r (own d i)) (drop r (own d i))) (numbers_to (first_number (shape_of e)))))) (sym rows)
    (good_sum_of vars k number n (map (inner_term c.factors (part_of e) (take (length a - 1) (own d i)) (drop (length a - 1) (own d i))) (numbers_to (first_number (shape_of e))))
    (each_number (first_number (shape_of e)) (inner_term c.factors (part_of e) (take (length a - 1) (own d i)) (drop (length a - 1) (own d i))) (λ t. IsGood vars k n t.1) term (numbers_to (first_number (shape_of e))) (numbers_up_to (first_number (shape_of e)))))
  where
    term : (j : ℕ) → IsUpTo (first_number (shape_of e)) j → IsGood vars k n (inner_term c.factors (part_of e) (take (length a - 1) (own d i)) (drop (length a - 1) (own d i)) j).1
    term j u =
        let at_both = row_and_column place a (shape_of e) d i j m s u in
        let left = good_product_of vars k number n _ (chain.factors _ (index_suits a _ at_both.row)) in
        let right = widened vars (the_kind e) k n (element_of e (j ∷ drop (length a - 1) (own d i))) w (g _ at_both.column) in
        good_Product vars k number n _ refl (λ is. refl) (left, (right, tt))

abbrev Made : (vars : List FlatVar) (k : Kind) (n : ℕ) (c : Chain) (divide dotted : Bool) (e : ArrayExpr) → Bool → Index → Type 0
Made vars k n c divide dotted e matrix i = AreFactors vars k n (if matrix then plain (inner_product c (part_of e) (own (or_scalar (multiplied c.dims (divide, dotted, shape_of e))) i)) ∷ [] else c.factors i ++ (divide, at (part_of e) i) ∷ [])

pub chain_more : (vars : List FlatVar) (k : Kind) → IsNumber k → (n : ℕ) (place : Place) (a d : Dims) (c : Chain) (divide dotted : Bool) (e : ArrayExpr) → IsChain vars k n a c → Gives vars n e → Widens (the_kind e) k → (k ≡ Integer → divide ≡ false) →
    times place divide dotted a (shape_of e) ≡ Ok d → IsChain vars k n d (extended c (divide, dotted, part_of e))
chain_more vars k number n place a d c divide dotted e chain g w plain_flag t = record { dims_are = dims; factors = by (multiplies place divide dotted a (shape_of e) d t) }
  where
    dims : multiplied c.dims (divide, dotted, shape_of e) ≡ Some d
    dims = ap (λ x. multiplied x (divide, dotted, shape_of e)) chain.dims_are ∙ ap Some (times_agrees place divide dotted a (shape_of e) d t)

    by : Multiplies place divide dotted a (shape_of e) d → (i : Index) → Suits d i → AreFactors vars k n (extended_factors c (divide, dotted, part_of e) i)
    by (acts matrix left right) i s =
        subst (λ b. Made vars k n c divide dotted e b i) (sym (ap (λ x. is_matrix_factor x (divide, dotted, shape_of e)) chain.dims_are ∙ matrix))
        (more_factors vars k n (c.factors i) divide (at (part_of e) i) (chain.factors i (suits_beside d a i left s)) plain_flag (at_given vars n k d i e s g w right))
    by (joins matrix m) i s =
        subst (λ b. Made vars k n c divide dotted e b i) (sym (ap (λ x. is_matrix_factor x (divide, dotted, shape_of e)) chain.dims_are ∙ matrix))
        (subst (λ x. AreFactors vars k n (plain (inner_product c (part_of e) (own (or_scalar x) i)) ∷ [])) (sym dims)
        (one_factor vars k n _ (inner_good vars k number n place a d c e i chain g w m s)))

-- the factors that follow
pub chain_rest : (vars : List FlatVar) (k : Kind) → IsNumber k → (n : ℕ) (place : Place) (a d : Dims) (c : Chain) (fs : List (Bool × Bool × Whole vars)) → IsChain vars k n a c →
    Each (λ t. Gives vars n t.2.0) fs → Each (λ x. Widens x k) (map (λ t. the_kind t.2.0) fs) → Each (λ t. k ≡ Integer → t.0 ≡ false) fs →
    and_then (fold (with_operand (asked place)) (Ok (Some a)) (map (λ t. (t.0, t.1, shape_of t.2.0)) fs)) (λ dims. Ok (asked_scalar dims)) ≡ Ok d →
    IsChain vars k n d (fold extended c (map {B = Factor} (λ t. (t.0, t.1, part_of t.2)) (map {B = Bool × Bool × ArrayExpr} (λ t. (t.0, t.1, t.2.0)) fs)))
chain_rest vars k number n place a d c [] chain g w f e = subst (λ x. IsChain vars k n x c) (ok_same a d e) chain
chain_rest vars k number n place a d c (t ∷ fs) chain g w f e =
    step (times place t.0 t.1 a (shape_of t.2.0)) refl e (λ x more h. chain_rest vars k number n place x d (extended c (t.0, t.1, part_of t.2.0)) fs more g.1 w.1 f.1 h)
  where
    step : (o : Outcome Dims) → times place t.0 t.1 a (shape_of t.2.0) ≡ o →
        and_then (fold (with_operand (asked place)) (and_then o (λ dims. Ok (Some dims))) (map (λ t. (t.0, t.1, shape_of t.2.0)) fs)) (λ dims. Ok (asked_scalar dims)) ≡ Ok d →
        ((x : Dims) → IsChain vars k n x (extended c (t.0, t.1, part_of t.2.0)) → and_then (fold (with_operand (asked place)) (Ok (Some x)) (map (λ t. (t.0, t.1, shape_of t.2.0)) fs)) (λ dims. Ok (asked_scalar dims)) ≡ Ok d →
        IsChain vars k n d (fold extended (extended c (t.0, t.1, part_of t.2.0)) (map {B = Factor} (λ t. (t.0, t.1, part_of t.2)) (map {B = Bool × Bool × ArrayExpr} (λ t. (t.0, t.1, t.2.0)) fs)))) →
        IsChain vars k n d (fold extended c (map {B = Factor} (λ t. (t.0, t.1, part_of t.2)) (map {B = Bool × Bool × ArrayExpr} (λ t. (t.0, t.1, t.2.0)) (t ∷ fs))))
    step (Err b) is e more = broken_settles (asked place) b (map (λ t. (t.0, t.1, shape_of t.2.0)) fs) d e
    step (Ok x) is e more = more x (chain_more vars k number n place a x c t.0 t.1 t.2.0 chain g.0 w.0 f.0 is) e
