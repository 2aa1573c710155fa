-- Sound elements of calls, function by function.
use Rattle.std.proofs.Common.{◌≡◌, ℕ, pos, Bool, true, false, ◌&&◌, ◌||◌, List, [], ◌∷◌, map, Option, refl, ap, sym, ◌∙◌, subst, if◌then◌else◌, nat_eq, eqb-true}
use Rattle.std.specs.Prelude.{Ok}
use Rattle.std.specs.List.{list_any}
use Rattle.mo_syntax.specs.Outcome.{Outcome}
use Rattle.mo_syntax.specs.declared.place.Place.{Place}
use Rattle.mo_syntax.specs.declared.meaning.Kind.{Kind}
use Rattle.mo_syntax.specs.declared.meaning.Kind.TheVariants.{Real, Whole as Integer}
use Rattle.mo_tables.specs.declared.functions.TheConstants.{ABS, ATAN2, CROSS, MAX, MIN, NDIMS, NO_EVENT, PRODUCT, SUM, TRANSPOSE}
use Rattle.mo_flat.specs.declared.array.ArrayExpr.{ArrayExpr}
use Rattle.mo_flat.specs.declared.expr.FlatExpr.{FlatExpr}
use Rattle.mo_flat.specs.declared.expr.FlatExpr.TheVariants.{Call, Product}
use Rattle.mo_flat.specs.declared.model.FlatVar.{FlatVar}
use Rattle.mo_flat.specs.Sound.{FlatKind, real, is_among, is_numeric, kind_of as flat_kind_of, call_kind, takes, where_holds, number_kind, common_kind, kept_kind, one_argument, two_arguments}
use Rattle.mo_flat.specs.SoundArray.{fits_kind, is_called}
use Rattle.mo_flat.proofs.Good.{Each, IsGood, IsNumber, Widens, number_widens, number_fits, common_fits, kept_number, kept_truth, widened, good_Whole, good_Sum, good_Product, good_Call}
use Rattle.mo_typing.specs.Kinds.{call_of_one, call_of_two, real_of, numeric, both_numeric}
use Rattle.mo_typing.specs.Dims.{Dims, scalars, call_of_one as one_dims, call_of_two as two_dims}
use Rattle.mo_typing.specs.Shape.{shape_of}
use Rattle.mo_typing.specs.Indices.{Index, is_index, indices, first_number}
use Rattle.mo_typing.proofs.Agreeing.{ok_same, not_broken, after}
use Rattle.mo_arrays.specs.Elements.{element_of, at, plain, sum_of, product_of, all_elements, crossed, crossed_at, call_of_one as one_element, call_of_two as two_element}
use Rattle.mo_arrays.specs.steps.Parts.{part_of}
use Rattle.mo_arrays.proofs.SoundKinds.{real_kind, numeric_kind, kept_kind_of, IsKept, both_kinds}
use Rattle.mo_arrays.proofs.SoundDims.{Suits, index_suits, swapped_index, indices_are, scalars_none, crossed_dims}
use Rattle.mo_arrays.proofs.SoundParts.{Gives, the_kind}
use Rattle.mo_arrays.proofs.SoundChains.{good_sum_of, good_product_of}

-- what holds for each of some codes holds for one among them
pub among : (P : ℕ → Type 0) (codes : List ℕ) → Each P codes → (code : ℕ) → is_among codes code ≡ true → P code
among P [] e code is = let f : false ≡ true = is in cc
among P (c ∷ codes) e code is = by (nat_eq code c) refl is (λ h. among P codes e.1 code h)
  where
    by : (b : Bool) → nat_eq code c ≡ b → (b || is_among codes code) ≡ true → (is_among codes code ≡ true → P code) → P code
    by true same h more = subst P (sym (eqb-true code c same)) e.0
    by false other h more = more h

both_or : {A : Type 0} (a b c : Bool) → (a ≡ true → A) → (b ≡ true → A) → (c ≡ true → A) → (a || b || c) ≡ true → A
both_or true b c f g h e = f refl
both_or false true c f g h e = g refl
both_or false false true f g h e = h refl
both_or false false false f g h e = absurd (let x : false ≡ true = e in cc)

-- ---- one argument

unfoldable pub OneGood : List FlatVar → ℕ → ℕ → Type 0
OneGood vars n code = (place : Place) (e : ArrayExpr) (k : Kind) (d : Dims) (i : Index) → call_of_one place code (the_kind e) ≡ Ok k → one_dims place code (shape_of e) ≡ Ok d → is_index d i ≡ true → Gives vars n e → IsGood vars k n (one_element code (part_of e) i)

-- a function of Reals
of_reals : (vars : List FlatVar) (n code : ℕ) → takes code 1 ≡ true → ((o : Option FlatKind) → call_kind code (o ∷ []) ≡ where_holds (is_numeric o && true) real) →
    (place : Place) (e : ArrayExpr) (k : Kind) (d : Dims) (i : Index) → real_of place (the_kind e) ≡ Ok k → ◌≡◌ {A = Outcome Dims} (Ok (shape_of e)) (Ok d) → is_index d i ≡ true → Gives vars n e → IsGood vars k n (Call code (at (part_of e) i ∷ []))
of_reals vars n code taken called place e k d i kind dims is g =
    let r = real_kind place (the_kind e) k kind in
    let s : Suits (shape_of e) i = index_suits (shape_of e) i (subst (λ x. is_index x i ≡ true) (sym (ok_same (shape_of e) d dims)) is) in
    let a = g _ s in
    let number : is_numeric (flat_kind_of vars (at (part_of e) i)) ≡ true = number_widens (the_kind e) r.0 _ a.fits in
    subst (λ x. IsGood vars x n (Call code (at (part_of e) i ∷ []))) r.1
    (good_Call vars Real n code (at (part_of e) i ∷ []) taken (a.fine, tt) (ap is_numeric (called (flat_kind_of vars (at (part_of e) i))) ∙ ap (λ b. is_numeric (where_holds (b && true) real)) number))

of_abs : (vars : List FlatVar) (n : ℕ) → OneGood vars n ABS
unfolding OneGood
of_abs vars n place e k d i kind dims is g =
    let r = numeric_kind place (the_kind e) k kind in
    let s : Suits (shape_of e) i = index_suits (shape_of e) i (subst (λ x. is_index x i ≡ true) (sym (ok_same (shape_of e) d dims)) is) in
    let a = g _ s in
    subst (λ x. IsGood vars x n (Call ABS (at (part_of e) i ∷ []))) r.1
    (good_Call vars (the_kind e) n ABS (at (part_of e) i ∷ []) refl (a.fine, tt) (number_fits (the_kind e) r.0 (flat_kind_of vars (at (part_of e) i) ∷ []) (a.fits, tt)))

of_event : (vars : List FlatVar) (n : ℕ) → OneGood vars n NO_EVENT
unfolding OneGood
of_event vars n place e k d i kind dims is g =
    let r = kept_kind_of place (the_kind e) k kind in
    let s : Suits (shape_of e) i = index_suits (shape_of e) i (subst (λ x. is_index x i ≡ true) (sym (ok_same (shape_of e) d dims)) is) in
    let a = g _ s in
    subst (λ x. IsGood vars x n (Call NO_EVENT (at (part_of e) i ∷ []))) r.1
    (good_Call vars (the_kind e) n NO_EVENT (at (part_of e) i ∷ []) refl (a.fine, tt) (keeps (the_kind e) r.0 (common_kind (flat_kind_of vars (at (part_of e) i) ∷ [])) (common_fits (the_kind e) (flat_kind_of vars (at (part_of e) i)) [] (a.fits, tt))))
  where
    keeps : (x : Kind) → IsKept x → (o : Option FlatKind) → fits_kind x o ≡ true → fits_kind x (kept_kind o) ≡ true
    keeps x (IsKept.a_number h) o f = kept_number x h o f
    keeps x IsKept.a_truth o f = kept_truth o f

-- all elements as terms or factors
plain_elements : (vars : List FlatVar) (k : Kind) (n : ℕ) (e : ArrayExpr) → ((i : Index) → is_index (shape_of e) i ≡ true → IsGood vars k n (element_of e i)) → (is : List Index) → Each (λ i. is_index (shape_of e) i ≡ true) is → Each (λ t. IsGood vars k n t.1) (map {B = Bool × FlatExpr} (λ i. plain (element_of e i)) is)
plain_elements vars k n e g [] h = tt
plain_elements vars k n e g (i ∷ is) h = (g i h.0, plain_elements vars k n e g is h.1)

of_sum : (vars : List FlatVar) (n : ℕ) → OneGood vars n SUM
unfolding OneGood
of_sum vars n place e k d i kind dims is g =
    let r = numeric_kind place (the_kind e) k kind in
    subst (λ x. IsGood vars x n (sum_of (all_elements (part_of e)))) r.1
    (good_sum_of vars (the_kind e) r.0 n _ (plain_elements vars (the_kind e) n e g (indices (shape_of e)) (indices_are (shape_of e))))

of_product : (vars : List FlatVar) (n : ℕ) → OneGood vars n PRODUCT
unfolding OneGood
of_product vars n place e k d i kind dims is g =
    let r = numeric_kind place (the_kind e) k kind in
    subst (λ x. IsGood vars x n (product_of (all_elements (part_of e)))) r.1 (go (the_kind e) r.0 (indices (shape_of e)) (plain_elements vars (the_kind e) n e g (indices (shape_of e)) (indices_are (shape_of e))))
  where
    none : (is : List Index) → list_any (λ f. f.0) (map {B = Bool × FlatExpr} (λ i. plain (element_of e i)) is) ≡ false
    none [] = refl
    none (i ∷ is) = none is

    go : (x : Kind) → IsNumber x → (is : List Index) → Each (λ t. IsGood vars x n t.1) (map {B = Bool × FlatExpr} (λ i. plain (element_of e i)) is) → IsGood vars x n (product_of (map (λ i. plain (element_of e i)) is))
    go x number [] h = good_Whole vars x number n (pos 1)
    go x number (i ∷ is) h = good_product_of vars x number n (map (λ i. plain (element_of e i)) (i ∷ is)) (record { first = refl; whole_only = λ _. none (i ∷ is); each = h })

of_ndims : (vars : List FlatVar) (n : ℕ) → OneGood vars n NDIMS
unfolding OneGood
of_ndims vars n place e k d i kind dims is g = subst (λ x. IsGood vars x n (one_element NDIMS (part_of e) i)) (ok_same Integer k kind) (good_Whole vars Integer tt n _)

of_transpose : (vars : List FlatVar) (n : ℕ) → OneGood vars n TRANSPOSE
unfolding OneGood
of_transpose vars n place e k d i kind dims is g = subst (λ x. IsGood vars x n (one_element TRANSPOSE (part_of e) i)) (ok_same (the_kind e) k kind) (g _ (swapped_index place (shape_of e) d i dims is))

takes_two : (vars : List FlatVar) (n code : ℕ) → ((place : Place) (k x : Kind) → call_of_one place code x ≡ Ok k → ⊥) → OneGood vars n code
unfolding OneGood
takes_two vars n code broken place e k d i kind dims is g = absurd (broken place k (the_kind e) kind)

reals : (vars : List FlatVar) (n code : ℕ) → takes code 1 ≡ true → ((place : Place) (x : Kind) → call_of_one place code x ≡ real_of place x) → ((place : Place) (x : Dims) → one_dims place code x ≡ Ok x) →
    ((e : ArrayExpr) (i : Index) → Call code (at (part_of e) i ∷ []) ≡ one_element code (part_of e) i) → ((o : Option FlatKind) → call_kind code (o ∷ []) ≡ where_holds (is_numeric o && true) real) → OneGood vars n code
unfolding OneGood
reals vars n code taken kinds all made called place e k d i kind dims is g =
    subst (IsGood vars k n) (made e i)
    (of_reals vars n code taken called place e k d i (sym (kinds place (the_kind e)) ∙ kind) (sym (all place (shape_of e)) ∙ dims) is g)

pub one_good : (vars : List FlatVar) (n code : ℕ) → is_called code ≡ true → OneGood vars n code
one_good vars n code called = both_or (is_among one_argument code) (is_among two_arguments code) (is_among (CROSS ∷ NDIMS ∷ PRODUCT ∷ SUM ∷ TRANSPOSE ∷ []) code)
    (among (OneGood vars n) one_argument (of_abs vars n, (reals vars n 1 refl (λ place x. refl) (λ place x. refl) (λ e i. refl) (λ o. refl), (reals vars n 2 refl (λ place x. refl) (λ place x. refl) (λ e i. refl) (λ o. refl), (reals vars n 3 refl (λ place x. refl) (λ place x. refl) (λ e i. refl) (λ o. refl), (reals vars n 5 refl (λ place x. refl) (λ place x. refl) (λ e i. refl) (λ o. refl), (reals vars n 6 refl (λ place x. refl) (λ place x. refl) (λ e i. refl) (λ o. refl), (reals vars n 9 refl (λ place x. refl) (λ place x. refl) (λ e i. refl) (λ o. refl), (reals vars n 12 refl (λ place x. refl) (λ place x. refl) (λ e i. refl) (λ o. refl), (reals vars n 13 refl (λ place x. refl) (λ place x. refl) (λ e i. refl) (λ o. refl), (of_event vars n, (reals vars n 22 refl (λ place x. refl) (λ place x. refl) (λ e i. refl) (λ o. refl), (reals vars n 23 refl (λ place x. refl) (λ place x. refl) (λ e i. refl) (λ o. refl), (reals vars n 25 refl (λ place x. refl) (λ place x. refl) (λ e i. refl) (λ o. refl), (reals vars n 27 refl (λ place x. refl) (λ place x. refl) (λ e i. refl) (λ o. refl), (reals vars n 28 refl (λ place x. refl) (λ place x. refl) (λ e i. refl) (λ o. refl), tt))))))))))))))) code)
    (among (OneGood vars n) two_arguments (takes_two vars n ATAN2 (λ place k x e. not_broken _ k e), (takes_two vars n MAX (λ place k x e. not_broken _ k e), (takes_two vars n MIN (λ place k x e. not_broken _ k e), tt))) code)
    (among (OneGood vars n) (CROSS ∷ NDIMS ∷ PRODUCT ∷ SUM ∷ TRANSPOSE ∷ []) (takes_two vars n CROSS (λ place k x e. not_broken _ k e), (of_ndims vars n, (of_product vars n, (of_sum vars n, (of_transpose vars n, tt))))) code)
    called

-- ---- two arguments

unfoldable pub TwoGood : List FlatVar → ℕ → ℕ → Type 0
TwoGood vars n code = (place : Place) (a b : ArrayExpr) (k : Kind) (d : Dims) (i : Index) → call_of_two place code (the_kind a) (the_kind b) ≡ Ok k → two_dims place code (shape_of a) (shape_of b) ≡ Ok d → is_index d i ≡ true → Gives vars n a → Gives vars n b → IsGood vars k n (two_element code (part_of a) (part_of b) i)

takes_one : (vars : List FlatVar) (n code : ℕ) → ((place : Place) (k x y : Kind) → call_of_two place code x y ≡ Ok k → ⊥) → TwoGood vars n code
unfolding TwoGood
takes_one vars n code broken place a b k d i kind dims is g h = absurd (broken place k (the_kind a) (the_kind b) kind)

alone : (x : Dims) (i : Index) → x ≡ [] → Suits x i
alone x i none = subst (λ x. Suits x i) (sym none) refl

of_largest : (vars : List FlatVar) (n code : ℕ) → takes code 2 ≡ true → ((o p : Option FlatKind) → call_kind code (o ∷ p ∷ []) ≡ number_kind (o ∷ p ∷ [])) →
    (place : Place) (a b : ArrayExpr) (k : Kind) (d : Dims) (i : Index) → both_numeric place (the_kind a) (the_kind b) ≡ Ok k → scalars place (shape_of a ∷ shape_of b ∷ []) ≡ Ok d → is_index d i ≡ true → Gives vars n a → Gives vars n b → IsGood vars k n (Call code (at (part_of a) i ∷ at (part_of b) i ∷ []))
of_largest vars n code taken called place a b k d i kind dims is g h =
    let w = both_kinds place (the_kind a) (the_kind b) k kind in
    let none = scalars_none place (shape_of a ∷ shape_of b ∷ []) d dims in
    let x = widened vars (the_kind a) k n (at (part_of a) i) w.1 (g _ (alone (shape_of a) i none.0)) in
    let y = widened vars (the_kind b) k n (at (part_of b) i) w.2 (h _ (alone (shape_of b) i none.1.0)) in
    good_Call vars k n code (at (part_of a) i ∷ at (part_of b) i ∷ []) taken (x.fine, (y.fine, tt))
    (ap (fits_kind k) (called (flat_kind_of vars (at (part_of a) i)) (flat_kind_of vars (at (part_of b) i))) ∙ number_fits k w.0 (flat_kind_of vars (at (part_of a) i) ∷ flat_kind_of vars (at (part_of b) i) ∷ []) (x.fits, (y.fits, tt)))

largest : (vars : List FlatVar) (n code : ℕ) → takes code 2 ≡ true → ((place : Place) (x y : Kind) → call_of_two place code x y ≡ both_numeric place x y) → ((place : Place) (x y : Dims) → two_dims place code x y ≡ scalars place (x ∷ y ∷ [])) →
    ((a b : ArrayExpr) (i : Index) → Call code (at (part_of a) i ∷ at (part_of b) i ∷ []) ≡ two_element code (part_of a) (part_of b) i) → ((o p : Option FlatKind) → call_kind code (o ∷ p ∷ []) ≡ number_kind (o ∷ p ∷ [])) → TwoGood vars n code
unfolding TwoGood
largest vars n code taken kinds all made called place a b k d i kind dims is g h =
    subst (IsGood vars k n) (made a b i)
    (of_largest vars n code taken called place a b k d i (sym (kinds place (the_kind a) (the_kind b)) ∙ kind) (sym (all place (shape_of a) (shape_of b)) ∙ dims) is g h)

of_atan2 : (vars : List FlatVar) (n : ℕ) → TwoGood vars n ATAN2
unfolding TwoGood
of_atan2 vars n place a b k d i kind dims is g h =
    let one = after (numeric place (the_kind a)) (λ _. real_of place (the_kind b)) k kind in
    let p = (numeric_kind place (the_kind a) one.0 one.1).0 in
    let q = real_kind place (the_kind b) k one.2 in
    let none = scalars_none place (shape_of a ∷ shape_of b ∷ []) d dims in
    let x = g _ (alone (shape_of a) i none.0) in
    let y = h _ (alone (shape_of b) i none.1.0) in
    let u : is_numeric (flat_kind_of vars (at (part_of a) i)) ≡ true = number_widens (the_kind a) p _ x.fits in
    let v : is_numeric (flat_kind_of vars (at (part_of b) i)) ≡ true = number_widens (the_kind b) q.0 _ y.fits in
    subst (λ z. IsGood vars z n (Call ATAN2 (at (part_of a) i ∷ at (part_of b) i ∷ []))) q.1
    (good_Call vars Real n ATAN2 (at (part_of a) i ∷ at (part_of b) i ∷ []) refl (x.fine, (y.fine, tt)) (numbers _ _ u v))
  where
    numbers : (o p : Option FlatKind) → is_numeric o ≡ true → is_numeric p ≡ true → is_numeric (where_holds (is_numeric o && (is_numeric p && true)) real) ≡ true
    numbers o p u v = rw (u, v) refl

of_cross : (vars : List FlatVar) (n : ℕ) → TwoGood vars n CROSS
unfolding TwoGood
of_cross vars n place a b k d i kind dims is g h = any (first_number i)
  where
    w : IsNumber k × Widens (the_kind a) k × Widens (the_kind b) k
    w = both_kinds place (the_kind a) (the_kind b) k kind

    three : (shape_of a ≡ 3 ∷ []) × (shape_of b ≡ 3 ∷ [])
    three = crossed_dims place (shape_of a) (shape_of b) d dims

    left : (j : ℕ) → is_index (3 ∷ []) (j ∷ []) ≡ true → IsGood vars k n (element_of a (j ∷ []))
    left j e = widened vars (the_kind a) k n (element_of a (j ∷ [])) w.1 (g (j ∷ []) (subst (λ x. is_index x (j ∷ []) ≡ true) (sym three.0) e))

    right : (j : ℕ) → is_index (3 ∷ []) (j ∷ []) ≡ true → IsGood vars k n (element_of b (j ∷ []))
    right j e = widened vars (the_kind b) k n (element_of b (j ∷ [])) w.2 (h (j ∷ []) (subst (λ x. is_index x (j ∷ []) ≡ true) (sym three.1) e))

    pair : (u v : FlatExpr) → IsGood vars k n u → IsGood vars k n v → IsGood vars k n (Product (plain u ∷ plain v ∷ []))
    pair u v p q = good_Product vars k w.0 n (plain u ∷ plain v ∷ []) refl (λ is. refl) (p, (q, tt))

    one : (j l : ℕ) → is_index (3 ∷ []) (j ∷ []) ≡ true → is_index (3 ∷ []) (l ∷ []) ≡ true → IsGood vars k n (crossed_at (part_of a) (part_of b) j l)
    one j l p q = good_Sum vars k w.0 n _ refl (pair _ _ (left j p) (right l q), (pair _ _ (left l q) (right j p), tt))

    any : (m : ℕ) → IsGood vars k n (crossed (part_of a) (part_of b) m)
    any m = choose (nat_eq m 1) (nat_eq m 2)
      where
        choose : (p q : Bool) → IsGood vars k n (if p then crossed_at (part_of a) (part_of b) 2 3 else (if q then crossed_at (part_of a) (part_of b) 3 1 else crossed_at (part_of a) (part_of b) 1 2))
        choose true q = one 2 3 refl refl
        choose false true = one 3 1 refl refl
        choose false false = one 1 2 refl refl

pub two_good : (vars : List FlatVar) (n code : ℕ) → is_called code ≡ true → TwoGood vars n code
two_good vars n code called = both_or (is_among one_argument code) (is_among two_arguments code) (is_among (CROSS ∷ NDIMS ∷ PRODUCT ∷ SUM ∷ TRANSPOSE ∷ []) code)
    (among (TwoGood vars n) one_argument (takes_one vars n 0 (λ place k x y e. not_broken _ k e), (takes_one vars n 1 (λ place k x y e. not_broken _ k e), (takes_one vars n 2 (λ place k x y e. not_broken _ k e), (takes_one vars n 3 (λ place k x y e. not_broken _ k e), (takes_one vars n 5 (λ place k x y e. not_broken _ k e), (takes_one vars n 6 (λ place k x y e. not_broken _ k e), (takes_one vars n 9 (λ place k x y e. not_broken _ k e), (takes_one vars n 12 (λ place k x y e. not_broken _ k e), (takes_one vars n 13 (λ place k x y e. not_broken _ k e), (takes_one vars n 18 (λ place k x y e. not_broken _ k e), (takes_one vars n 22 (λ place k x y e. not_broken _ k e), (takes_one vars n 23 (λ place k x y e. not_broken _ k e), (takes_one vars n 25 (λ place k x y e. not_broken _ k e), (takes_one vars n 27 (λ place k x y e. not_broken _ k e), (takes_one vars n 28 (λ place k x y e. not_broken _ k e), tt))))))))))))))) code)
    (among (TwoGood vars n) two_arguments (of_atan2 vars n, (largest vars n MAX refl (λ place x y. refl) (λ place x y. refl) (λ a b i. refl) (λ o p. refl), (largest vars n MIN refl (λ place x y. refl) (λ place x y. refl) (λ a b i. refl) (λ o p. refl), tt))) code)
    (among (TwoGood vars n) (CROSS ∷ NDIMS ∷ PRODUCT ∷ SUM ∷ TRANSPOSE ∷ []) (of_cross vars n, (takes_one vars n 17 (λ place k x y e. not_broken _ k e), (takes_one vars n 20 (λ place k x y e. not_broken _ k e), (takes_one vars n 26 (λ place k x y e. not_broken _ k e), (takes_one vars n 29 (λ place k x y e. not_broken _ k e), tt))))) code)
    called
