-- Dimensions that are asked agree with those by which elements are counted, operation by operation.
use Rattle.std.proofs.Common.{◌≡◌, ℕ, ℤ, pos, negsuc, Bool, true, false, ◌&&◌, List, [], ◌∷◌, ◌++◌, map, length, Option, Some, None, refl, ap, sym, ◌∙◌, subst, if◌then◌else◌, nat_eq, nat_lt, eqb-true}
use Rattle.std.specs.Prelude.{fold, Ok, Err}
use Rattle.std.specs.Ordering.{int_eq}
use Rattle.mo_syntax.specs.Outcome.{Outcome, and_then, breaks}
use Rattle.mo_syntax.specs.declared.place.Place.{Place}
use Rattle.mo_syntax.specs.declared.place.Broken.{Broken}
use Rattle.mo_syntax.specs.declared.rules.TheConstants.{WRONG_SIZE, WRONG_TYPE}
use Rattle.mo_tables.specs.declared.functions.TheConstants.{ATAN2, CROSS, MAX, MIN, NDIMS, PRODUCT, SUM, TRANSPOSE}
use Rattle.mo_typing.specs.Outcome.{each}
use Rattle.mo_typing.specs.Kinds.{is_among, takes_sizes}
use Rattle.mo_typing.specs.Dims.{Dims, Operand, is_scalar, are_equal, matched, spread, times, matrix_product, inner_matched, added, multiplied, with_operand, or_scalar, settled, chain, with_alike, alike, scalar, with_scalar, scalars, transposed, crossed, call, size, sizes_of, shaped, filled, raised, range, range_count, largest}
use Rattle.mo_typing.specs.Shape.{joined, product_dims, is_matrix_factor, swapped, first, call_shape, power_shape, size_of, range_shape}
use Rattle.mo_typing.specs.Shape.{or_scalar as scalar_or, added as added_shape, multiplied as multiplied_shape}

-- ---- outcomes

pub ok_same : {A : Type 0} (a b : A) → ◌≡◌ {A = Outcome A} (Ok a) (Ok b) → a ≡ b
ok_same a b e = let f = e in cc

pub not_broken : {A : Type 0} (b : Broken) (a : A) → ◌≡◌ {A = Outcome A} (Err b) (Ok a) → ⊥
not_broken b a e = let f = e in cc

-- what is answered under a test
pub under : {A : Type 0} (c : Bool) (o : Outcome A) (b : Broken) (a : A) → (if c then o else Err b) ≡ Ok a → (c ≡ true) × (o ≡ Ok a)
under true o b a e = (refl, e)
under false o b a e = absurd (not_broken b a e)

-- what is answered where a test fails
pub past : {A : Type 0} (c : Bool) (o : Outcome A) (b : Broken) (a : A) → (if c then Err b else o) ≡ Ok a → (c ≡ false) × (o ≡ Ok a)
past true o b a e = absurd (not_broken b a e)
past false o b a e = (refl, e)

-- the rule that is broken, if one is
abbrev broken_of : {A : Type 0} → Outcome A → Broken
broken_of (Ok a) = record { rule = 0; place = record { file = 0; byte = 0 } }
broken_of (Err broken) = broken

pub after : {A B : Type 0} (o : Outcome A) (f : A → Outcome B) (b : B) → and_then o f ≡ Ok b → (a : A) × (o ≡ Ok a) × (f a ≡ Ok b)
after (Ok a) f b e = (a, refl, e)
after (Err broken) f b e = absurd (not_broken broken b e)

-- what each gives, where each has a value that agrees
pub each_agrees : {A B X Y : Type 0} (f : A → Outcome B) (g : Y → A) (k : Y → B) (h : X → Y) → ((x : X) (b : B) → f (g (h x)) ≡ Ok b → k (h x) ≡ b) → (xs : List X) (bs : List B) → each f (map g (map h xs)) ≡ Ok bs → map k (map h xs) ≡ bs
each_agrees f g k h same [] bs e = ok_same [] bs e
each_agrees f g k h same (x ∷ xs) bs e =
    let one = after (f (g (h x))) (λ v. and_then (each f (map g (map h xs))) (λ vs. Ok (v ∷ vs))) bs e in
    let more = after (each f (map g (map h xs))) (λ vs. Ok (one.0 ∷ vs)) bs one.2 in
    ap (λ v. v ∷ map k (map h xs)) (same x one.0 one.1) ∙ (ap (λ vs. one.0 ∷ vs) (each_agrees f g k h same xs more.0 more.1) ∙ ok_same (one.0 ∷ more.0) bs more.2)

-- ---- operands of equal dimensions

both_true : (a b : Bool) → (a && b) ≡ true → (a ≡ true) × (b ≡ true)
both_true true b e = (refl, e)
both_true false b e = let f : false ≡ true = e in cc

equals : (a b : Dims) → are_equal a b ≡ true → a ≡ b
equals [] [] e = refl
equals [] (m ∷ ms) e = let f : false ≡ true = e in cc
equals (n ∷ ns) [] e = let f : false ≡ true = e in cc
equals (n ∷ ns) (m ∷ ms) e = let both = both_true (nat_eq n m) (are_equal ns ms) e in ap (λ k. k ∷ ns) (eqb-true n m both.0) ∙ ap (λ ks. m ∷ ks) (equals ns ms both.1)

pub matched_agrees : (place : Place) (a b d : Dims) → matched place a b ≡ Ok d → (a ≡ d) × (b ≡ d)
matched_agrees place a b d e =
    let count = under (nat_eq (length a) (length b)) (if are_equal a b then Ok a else breaks WRONG_SIZE place) _ d e in
    let size = under (are_equal a b) (Ok a) _ d count.1 in
    let same = ok_same a d size.1 in (same, sym (equals a b size.0) ∙ same)

pub spread_agrees : (place : Place) (dotted : Bool) (a b d : Dims) → spread place dotted a b ≡ Ok d → (if dotted && is_scalar a then b else a) ≡ d
spread_agrees place true [] [] d e = ok_same [] d e
spread_agrees place true [] (m ∷ b) d e = ok_same (m ∷ b) d e
spread_agrees place true (n ∷ a) [] d e = ok_same (n ∷ a) d e
spread_agrees place true (n ∷ a) (m ∷ b) d e = (matched_agrees place (n ∷ a) (m ∷ b) d e).0
spread_agrees place false a b d e = (matched_agrees place a b d e).0

-- ---- products

inner_agrees : (place : Place) (n m : ℕ) (dims d : Dims) → inner_matched place n m dims ≡ Ok d → dims ≡ d
inner_agrees place n m dims d e = ok_same dims d (under (nat_eq n m) (Ok dims) _ d e).1

matrix_agrees : (place : Place) (a b d : Dims) → matrix_product place a b ≡ Ok d → product_dims a b ≡ d
matrix_agrees place (n ∷ []) (m ∷ []) d e = inner_agrees place n m [] d e
matrix_agrees place (n ∷ []) (m ∷ q ∷ []) d e = inner_agrees place n m (q ∷ []) d e
matrix_agrees place (p ∷ n ∷ []) (m ∷ []) d e = inner_agrees place n m (p ∷ []) d e
matrix_agrees place (p ∷ n ∷ []) (m ∷ q ∷ []) d e = inner_agrees place n m (p ∷ q ∷ []) d e
matrix_agrees place [] b d e = absurd (not_broken _ d e)
matrix_agrees place (n ∷ []) [] d e = absurd (not_broken _ d e)
matrix_agrees place (n ∷ []) (m ∷ q ∷ r ∷ more) d e = absurd (not_broken _ d e)
matrix_agrees place (p ∷ n ∷ []) [] d e = absurd (not_broken _ d e)
matrix_agrees place (p ∷ n ∷ []) (m ∷ q ∷ r ∷ more) d e = absurd (not_broken _ d e)
matrix_agrees place (p ∷ n ∷ r ∷ more) b d e = absurd (not_broken _ d e)

-- a chain with one more factor
abbrev Extended : Dims → Bool × Bool × Dims → Dims
Extended a factor = if is_matrix_factor (Some a) factor then product_dims a factor.2 else joined a factor.2

dotted_agrees : (place : Place) (divide : Bool) (a b d : Dims) → spread place true a b ≡ Ok d → Extended a (divide, true, b) ≡ d
dotted_agrees place divide [] [] d e = ok_same [] d e
dotted_agrees place divide [] (m ∷ b) d e = ok_same (m ∷ b) d e
dotted_agrees place divide (n ∷ a) [] d e = ok_same (n ∷ a) d e
dotted_agrees place divide (n ∷ a) (m ∷ b) d e = (matched_agrees place (n ∷ a) (m ∷ b) d e).0

pub times_agrees : (place : Place) (divide dotted : Bool) (a b d : Dims) → times place divide dotted a b ≡ Ok d → Extended a (divide, dotted, b) ≡ d
times_agrees place divide true a b d e = dotted_agrees place divide a b d e
times_agrees place divide false [] [] d e = ok_same [] d e
times_agrees place divide false (n ∷ a) [] d e = ok_same (n ∷ a) d e
times_agrees place true false a (m ∷ b) d e = absurd (not_broken _ d e)
times_agrees place false false [] (m ∷ b) d e = ok_same (m ∷ b) d e
times_agrees place false false (n ∷ a) (m ∷ b) d e = matrix_agrees place (n ∷ a) (m ∷ b) d e

-- ---- chains

-- a broken rule stays
fold_broken : {D O : Type 0} (f : Outcome D → O → Outcome D) → ((broken : Broken) (x : O) → f (Err broken) x ≡ Err broken) → (broken : Broken) (xs : List O) → fold f (Err broken) xs ≡ Err broken
fold_broken f stays broken [] = refl
fold_broken f stays broken (x ∷ xs) = ap (λ o. fold f o xs) (stays broken x) ∙ fold_broken f stays broken xs

fold_go : {D O : Type 0} (f : Outcome D → O → Outcome D) (g : D → O → D) (step : (s : D) (x : O) (r : D) → f (Ok s) x ≡ Ok r → g s x ≡ r) (s : D) (x : O) (xs : List O) (r : D) (o : Outcome D) → f (Ok s) x ≡ o → fold f o xs ≡ Ok r →
    fold f (Err (broken_of o)) xs ≡ Err (broken_of o) → ((t : D) → fold f (Ok t) xs ≡ Ok r → fold g t xs ≡ r) → fold g (g s x) xs ≡ r
fold_go f g step s x xs r (Ok t) is e stays more = ap (λ v. fold g v xs) (step s x t is) ∙ more t e
fold_go f g step s x xs r (Err broken) is e stays more = absurd (not_broken broken r (sym stays ∙ e))

-- two folds agree where their steps do
fold_agrees : {D O : Type 0} (f : Outcome D → O → Outcome D) (g : D → O → D) → ((broken : Broken) (x : O) → f (Err broken) x ≡ Err broken) → ((s : D) (x : O) (r : D) → f (Ok s) x ≡ Ok r → g s x ≡ r) → (s : D) (xs : List O) (r : D) → fold f (Ok s) xs ≡ Ok r → fold g s xs ≡ r
fold_agrees f g stays step s [] r e = ok_same s r e
fold_agrees f g stays step s (x ∷ xs) r e = fold_go f g step s x xs r (f (Ok s) x) refl e (fold_broken f stays (broken_of (f (Ok s) x)) xs) (λ t q. fold_agrees f g stays step t xs r q)

or_same : (o : Option Dims) → scalar_or o ≡ or_scalar o
or_same None = refl
or_same (Some dims) = refl

settled_agrees : (o : Outcome (Option Dims)) (d : Dims) → settled o ≡ Ok d → (so : Option Dims) × (o ≡ Ok so) × (scalar_or so ≡ d)
settled_agrees o d e = let so = after o (λ dims. Ok (or_scalar dims)) d e in (so.0, so.1, or_same so.0 ∙ ok_same (or_scalar so.0) d so.2)

operand_stays : (join : Option Dims → Operand → Outcome Dims) (broken : Broken) (x : Operand) → with_operand join (Err broken) x ≡ Err broken
operand_stays join broken x = refl

chain_agrees : (join : Option Dims → Operand → Outcome Dims) (g : Option Dims → Operand → Option Dims) → ((s : Option Dims) (x : Operand) (r : Option Dims) → with_operand join (Ok s) x ≡ Ok r → g s x ≡ r) → (xs : List Operand) (d : Dims) → chain join xs ≡ Ok d → scalar_or (fold g None xs) ≡ d
chain_agrees join g step xs d e =
    let so = settled_agrees (fold (with_operand join) (Ok None) xs) d e in
    ap scalar_or (fold_agrees (with_operand join) g (operand_stays join) step None xs so.0 so.1) ∙ so.2

some_after : (o : Outcome Dims) (a : Dims) (r : Option Dims) → and_then o (λ d. Ok (Some d)) ≡ Ok r → ((d : Dims) → o ≡ Ok d → a ≡ d) → Some a ≡ r
some_after o a r e same = let d = after o (λ d. Ok (Some d)) r e in ap Some (same d.0 d.1) ∙ ok_same (Some d.0) r d.2

pub sum_agrees : (place : Place) (xs : List Operand) (d : Dims) → chain (added place) xs ≡ Ok d → scalar_or (fold added_shape None xs) ≡ d
sum_agrees place = chain_agrees (added place) added_shape step
  where
    step : (s : Option Dims) (x : Operand) (r : Option Dims) → with_operand (added place) (Ok s) x ≡ Ok r → added_shape s x ≡ r
    step None x r e = ok_same (Some x.2) r e
    step (Some a) x r e = some_after (spread place x.1 a x.2) (if x.1 && is_scalar a then x.2 else a) r e (λ d h. spread_agrees place x.1 a x.2 d h)

pub product_agrees : (place : Place) (xs : List Operand) (d : Dims) → chain (multiplied place) xs ≡ Ok d → scalar_or (fold multiplied_shape None xs) ≡ d
product_agrees place = chain_agrees (multiplied place) multiplied_shape step
  where
    step : (s : Option Dims) (x : Operand) (r : Option Dims) → with_operand (multiplied place) (Ok s) x ≡ Ok r → multiplied_shape s x ≡ r
    step None x r e = ok_same (Some x.2) r e
    step (Some a) x r e = some_after (times place x.0 x.1 a x.2) (Extended a x) r e (λ d h. times_agrees place x.0 x.1 a x.2 d h)

-- ---- scalars

nothing_in : (a : Dims) → is_scalar a ≡ true → a ≡ []
nothing_in [] e = refl
nothing_in (n ∷ a) e = let f : false ≡ true = e in cc

pub scalar_agrees : (place : Place) (a d : Dims) → scalar place a ≡ Ok d → (a ≡ []) × ([] ≡ d)
scalar_agrees place a d e = let is = under (is_scalar a) (Ok []) _ d e in (nothing_in a is.0, ok_same [] d is.1)

still_nothing : (xs : List Dims) → fold (λ (s : Dims) (x : Dims). []) [] xs ≡ []
still_nothing [] = refl
still_nothing (x ∷ xs) = still_nothing xs

pub scalars_agree : (place : Place) (xs : List Dims) (d : Dims) → scalars place xs ≡ Ok d → [] ≡ d
scalars_agree place xs d e = sym (still_nothing xs) ∙ fold_agrees (with_scalar place) (λ s x. []) (λ broken x. refl) (λ s x r h. (scalar_agrees place x r h).1) [] xs d e

two_scalars : (place : Place) (a b d : Dims) → scalars place (a ∷ b ∷ []) ≡ Ok d → (a ≡ []) × ([] ≡ d)
two_scalars place a b d e = let one = after (scalar place a) (λ _. scalar place b) d e in ((scalar_agrees place a one.0 one.1).0, (scalar_agrees place b d one.2).1)

pub power_agrees : (place : Place) (dotted : Bool) (a b d : Dims) → raised place dotted a b ≡ Ok d → power_shape dotted a b ≡ d
power_agrees place true a b d e = spread_agrees place true a b d e
power_agrees place false a b d e = let two = two_scalars place a b d e in two.0 ∙ two.1

-- ---- arrays and choices

-- the first that is given stays
kept : Option Dims → Dims → Option Dims
kept None x = Some x
kept (Some a) x = Some a

kept_all : (a : Dims) (xs : List Dims) → fold kept (Some a) xs ≡ Some a
unfolding kept
kept_all a [] = refl
kept_all a (x ∷ xs) = kept_all a xs

kept_step : (place : Place) (s : Option Dims) (x : Dims) (r : Option Dims) → with_alike place (Ok s) x ≡ Ok r → kept s x ≡ r
unfolding kept
kept_step place None x r e = ok_same (Some x) r e
kept_step place (Some a) x r e = some_after (matched place a x) a r e (λ d h. (matched_agrees place a x d h).0)

pub alike_first : (place : Place) (xs : List Dims) (d : Dims) → alike place xs ≡ Ok d → first xs ≡ d
unfolding kept
alike_first place [] d e = ok_same [] d e
alike_first place (x ∷ xs) d e =
    let so = settled_agrees (fold (with_alike place) (Ok None) (x ∷ xs)) d e in
    ap scalar_or (sym (kept_all x xs) ∙ fold_agrees (with_alike place) kept (λ broken y. refl) (kept_step place) None (x ∷ xs) so.0 so.1) ∙ so.2

fold_last : {S X : Type 0} (f : S → X → S) (s : S) (xs : List X) (x : X) → fold f s (xs ++ x ∷ []) ≡ f (fold f s xs) x
fold_last f s [] x = refl
fold_last f s (y ∷ xs) x = fold_last f (f s y) xs x

last_agrees : (place : Place) (o : Outcome (Option Dims)) (x : Dims) (so : Option Dims) → with_alike place o x ≡ Ok so → scalar_or so ≡ x
last_agrees place (Err broken) x so e = absurd (not_broken broken so e)
last_agrees place (Ok None) x so e = ap scalar_or (sym (ok_same (Some x) so e))
last_agrees place (Ok (Some a)) x so e = ap scalar_or (sym (some_after (matched place a x) x so e (λ d h. (matched_agrees place a x d h).1)))

pub alike_last : (place : Place) (xs : List Dims) (x d : Dims) → alike place (xs ++ x ∷ []) ≡ Ok d → x ≡ d
alike_last place xs x d e =
    let so = settled_agrees (fold (with_alike place) (Ok None) (xs ++ x ∷ [])) d e in
    sym (last_agrees place (fold (with_alike place) (Ok None) xs) x so.0 (sym (fold_last (with_alike place) (Ok None) xs x) ∙ so.1)) ∙ so.2

-- ---- calls

transposed_agrees : (place : Place) (a d : Dims) → transposed place a ≡ Ok d → swapped a ≡ d
transposed_agrees place [] d e = absurd (not_broken _ d e)
transposed_agrees place (n ∷ []) d e = absurd (not_broken _ d e)
transposed_agrees place (n ∷ m ∷ more) d e = ok_same (m ∷ n ∷ more) d e

crossed_agrees : (place : Place) (a b d : Dims) → crossed place a b ≡ Ok d → 3 ∷ [] ≡ d
crossed_agrees place (n ∷ []) (m ∷ []) d e = ok_same (3 ∷ []) d (under (nat_eq n 3 && nat_eq m 3) (Ok (3 ∷ [])) _ d e).1
crossed_agrees place [] b d e = absurd (not_broken _ d e)
crossed_agrees place (n ∷ []) [] d e = absurd (not_broken _ d e)
crossed_agrees place (n ∷ []) (m ∷ k ∷ more) d e = absurd (not_broken _ d e)
crossed_agrees place (n ∷ k ∷ more) b d e = absurd (not_broken _ d e)

cross_takes_two : (function : ℕ) → nat_eq function CROSS ≡ true → is_among (ATAN2 ∷ CROSS ∷ MAX ∷ MIN ∷ []) function ≡ true
cross_takes_two function e = subst (λ f. is_among (ATAN2 ∷ CROSS ∷ MAX ∷ MIN ∷ []) f ≡ true) (sym (eqb-true function CROSS e)) refl

one_agrees : (place : Place) (scalar turned crosses two : Bool) (a d : Dims) → (crosses ≡ true → two ≡ true) → (if scalar then Ok [] else (if turned then transposed place a else (if two then breaks WRONG_TYPE place else Ok a))) ≡ Ok d →
    (if scalar then [] else (if turned then swapped a else (if crosses then 3 ∷ [] else a))) ≡ d
one_agrees place true turned crosses two a d c e = ok_same [] d e
one_agrees place false true crosses two a d c e = transposed_agrees place a d e
one_agrees place false false true two a d c e = let q = past two (Ok a) _ d e in let f : true ≡ false = sym (c refl) ∙ q.0 in cc
one_agrees place false false false two a d c e = ok_same a d (past two (Ok a) _ d e).1

two_agree : (place : Place) (function : ℕ) (crosses : Bool) → nat_eq function CROSS ≡ crosses → (a b d : Dims) → (if crosses then crossed place a b else (if is_among (ATAN2 ∷ MAX ∷ MIN ∷ []) function then scalars place (a ∷ b ∷ []) else breaks WRONG_TYPE place)) ≡ Ok d → call_shape function (a ∷ b ∷ []) ≡ d
two_agree place function true is a b d e = subst (λ f. call_shape f (a ∷ b ∷ []) ≡ d) (sym (eqb-true function CROSS is)) (crossed_agrees place a b d e)
two_agree place function false is a b d e =
    let s = under (is_among (ATAN2 ∷ MAX ∷ MIN ∷ []) function) (scalars place (a ∷ b ∷ [])) _ d e in
    let two = two_scalars place a b d s.1 in
    subst (λ v. call_shape function (v ∷ b ∷ []) ≡ d) (sym two.0) (nothing (is_among (NDIMS ∷ PRODUCT ∷ SUM ∷ []) function) (nat_eq function TRANSPOSE) (nat_eq function CROSS) is ∙ two.1)
  where
    nothing : (c t x : Bool) → x ≡ false → ◌≡◌ {A = Dims} (if c then [] else (if t then swapped [] else (if x then 3 ∷ [] else []))) []
    nothing true t x is = refl
    nothing false true x is = refl
    nothing false false false is = refl
    nothing false false true is = let f : true ≡ false = is in cc

pub call_agrees : (place : Place) (function : ℕ) (all : List Dims) (d : Dims) → call place function all ≡ Ok d → call_shape function all ≡ d
call_agrees place function (a ∷ []) d e = one_agrees place (is_among (NDIMS ∷ PRODUCT ∷ SUM ∷ []) function) (nat_eq function TRANSPOSE) (nat_eq function CROSS) (is_among (ATAN2 ∷ CROSS ∷ MAX ∷ MIN ∷ []) function) a d (cross_takes_two function) e
call_agrees place function (a ∷ b ∷ []) d e = two_agree place function (nat_eq function CROSS) refl a b d e
call_agrees place function [] d e = absurd (not_broken _ d e)
call_agrees place function (a ∷ b ∷ c ∷ more) d e = absurd (not_broken _ d e)

-- ---- sizes that are given

size_agrees : (s : Place × ℤ) (n : ℕ) → size s ≡ Ok n → size_of s.1 ≡ n
size_agrees (place, negsuc k) n e = absurd (not_broken _ n e)
size_agrees (place, pos k) n e = ok_same k n (past (nat_lt 4294967295 k) (Ok k) _ n e).1

sizes_agree : (sizes : List (Place × ℤ)) (ns : Dims) → sizes_of sizes ≡ Ok ns → map (λ s. size_of s.1) sizes ≡ ns
sizes_agree [] ns e = ok_same [] ns e
sizes_agree (s ∷ sizes) ns e =
    let one = after (size s) (λ v. and_then (each size sizes) (λ vs. Ok (v ∷ vs))) ns e in
    let more = after (each size sizes) (λ vs. Ok (one.0 ∷ vs)) ns one.2 in
    ap (λ v. v ∷ map (λ s. size_of s.1) sizes) (size_agrees s one.0 one.1) ∙ (ap (λ vs. one.0 ∷ vs) (sizes_agree sizes more.0 more.1) ∙ ok_same (one.0 ∷ more.0) ns more.2)

pub filled_agrees : (place : Place) (function : ℕ) (filling : Outcome Dims) (sizes : List (Place × ℤ)) (d : Dims) → and_then filling (λ dims. and_then (sizes_of sizes) (λ ns. filled place function dims ns)) ≡ Ok d → shaped function (map (λ s. size_of s.1) sizes) ≡ d
filled_agrees place function filling sizes d e =
    let inside = after filling (λ dims. and_then (sizes_of sizes) (λ ns. filled place function dims ns)) d e in
    let ns = after (sizes_of sizes) (λ ns. filled place function inside.0 ns) d inside.2 in
    let takes = under (takes_sizes function (length ns.0)) (and_then (scalar place inside.0) (λ _. Ok (shaped function ns.0))) _ d ns.2 in
    let fills = after (scalar place inside.0) (λ _. Ok (shaped function ns.0)) d takes.1 in
    ap (shaped function) (sizes_agree sizes ns.0 ns.1) ∙ ok_same (shaped function ns.0) d fills.2

pub range_agrees : (place : Place) (first step last : ℤ) (d : Dims) → range place first step last ≡ Ok d → range_shape first step last ≡ d
range_agrees place first step last d e = go (int_eq step (pos 0)) (range_count first step last) e
  where
    go : (still : Bool) (n : ℕ) → (if still then breaks WRONG_SIZE place else (if nat_lt largest n then breaks WRONG_SIZE place else Ok (n ∷ []))) ≡ Ok d → (if still then [] else n ∷ []) ≡ d
    go true n e = absurd (not_broken _ d e)
    go false n e = ok_same (n ∷ []) d (past (nat_lt largest n) (Ok (n ∷ [])) _ d e).1
