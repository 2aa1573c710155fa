-- Indices of operands by those of their operation.
use Rattle.std.proofs.Common.{◌≡◌, ◌≤◌, ◌<◌, ◌+◌, ◌-◌, ◌*◌, ℕ, suc, zero, ℤ, pos, negsuc, Bool, true, false, ◌&&◌, List, [], ◌∷◌, ◌++◌, map, flat_map, length, take, drop, Option, Some, refl, ap, sym, ◌∙◌, subst, arith, nat_eq, eqb-true}
use Rattle.std.specs.Prelude.{fold, Ok, Err, nat_le, slice_get}
use Rattle.std.specs.List.{list_all}
use Rattle.std.proofs.lemmas.Bool.{leb-true, le-leb}
use Rattle.std.proofs.Math.Nat.{mul-le-mul_right, mul_assoc}
use Rattle.mo_syntax.specs.Outcome.{Outcome, and_then}
use Rattle.mo_syntax.specs.declared.place.Place.{Place}
use Rattle.mo_syntax.specs.declared.place.Broken.{Broken}
use Rattle.mo_flat.specs.declared.array.Subscript.{Subscript}
use Rattle.mo_flat.specs.declared.array.Subscript.TheVariants.{All, One, Many}
use Rattle.mo_flat.specs.SoundArray.{element_count, are_for_each}
use Rattle.mo_flat.proofs.Good.{Each}
use Rattle.mo_typing.specs.Dims.{Dims, Operand, matched, spread, added, with_operand, or_scalar, chain, with_alike, alike, scalar, with_scalar, scalars, matrix_product, inner_matched, transposed, crossed, subscripted}
use Rattle.mo_typing.specs.Shape.{size_of, swapped}
use Rattle.mo_typing.specs.Subscripts.{Checked, fine, both, within, is_within, subscripts}
use Rattle.mo_typing.specs.Indices.{Index, is_index, numbers_to, indices, own, or_else, first_number, number_at, located, offset}
use Rattle.mo_typing.proofs.Agreeing.{ok_same, not_broken, under, matched_agrees, scalar_agrees}

pub and_three : (a b c : Bool) → (a && b && c) ≡ true → (a ≡ true) × (b ≡ true) × (c ≡ true)
and_three true true true e = (refl, refl, refl)
and_three true true false e = let f : false ≡ true = e in cc
and_three true false c e = let f : false ≡ true = e in cc
and_three false b c e = let f : false ≡ true = e in cc

pub three_and : (a b c : Bool) → a ≡ true → b ≡ true → c ≡ true → (a && b && c) ≡ true
three_and a b c p q r = rw (p, q, r) refl

pub and_two : (a b : Bool) → (a && b) ≡ true → (a ≡ true) × (b ≡ true)
and_two true b e = (refl, e)
and_two false b e = let f : false ≡ true = e in cc

-- ---- operands beside one another

-- a number of an index suits an operand: that of a scalar is left out
abbrev pub Suits : Dims → Index → Type 0
Suits dims index = is_index dims (own dims index) ≡ true

-- an operand is a scalar, or has the dimensions of the operation
pub data Beside (d a : Dims) : Type 0 where
  alone : a ≡ [] → Beside d a
  same : a ≡ d → Beside d a

pub suits_beside : (d a : Dims) (i : Index) → Beside d a → Suits d i → Suits a i
suits_beside d a i (alone is) s = subst (λ x. Suits x i) (sym is) refl
suits_beside d a i (same is) s = subst (λ x. Suits x i) (sym is) s

pub index_suits : (d : Dims) (i : Index) → is_index d i ≡ true → Suits d i
index_suits [] i e = refl
index_suits (n ∷ d) i e = e

through : (a c d : Dims) → Beside c a → Beside d c → Beside d a
through a c d (alone is) b = alone is
through a c d (same is) (alone none) = alone (is ∙ none)
through a c d (same is) (same too) = same (is ∙ too)

pub spread_beside : (place : Place) (dotted : Bool) (a b d : Dims) → spread place dotted a b ≡ Ok d → Beside d a × Beside d b
spread_beside place true [] [] d e = (alone refl, alone refl)
spread_beside place true [] (m ∷ b) d e = (alone refl, same (ok_same (m ∷ b) d e))
spread_beside place true (n ∷ a) [] d e = (same (ok_same (n ∷ a) d e), alone refl)
spread_beside place true (n ∷ a) (m ∷ b) d e = let is = matched_agrees place (n ∷ a) (m ∷ b) d e in (same is.0, same is.1)
spread_beside place false a b d e = let is = matched_agrees place a b d e in (same is.0, same is.1)

operands_stay : (join : Option Dims → Operand → Outcome Dims) (b : Broken) (ops : List Operand) → fold (with_operand join) (Err b) ops ≡ Err b
operands_stay join b [] = refl
operands_stay join b (x ∷ ops) = operands_stay join b ops

pub broken_settles : {A : Type 0} (join : Option Dims → Operand → Outcome Dims) (b : Broken) (ops : List Operand) (d : Dims) → and_then (fold (with_operand join) (Err b) ops) (λ dims. Ok (or_scalar dims)) ≡ Ok d → A
broken_settles join b ops d e = absurd (not_broken b d (sym (ap (λ (o : Outcome (Option Dims)). and_then o (λ dims. Ok (or_scalar dims))) (operands_stay join b ops)) ∙ e))

spread_from : (place : Place) (a : Dims) (ops : List Operand) (d : Dims) → and_then (fold (with_operand (added place)) (Ok (Some a)) ops) (λ dims. Ok (or_scalar dims)) ≡ Ok d → Beside d a × Each (λ op. Beside d op.2) ops
spread_from place a [] d e = (same (ok_same a d e), tt)
spread_from place a (op ∷ ops) d e = step (spread place op.1 a op.2) refl e (λ c h. spread_from place c ops d h)
  where
    step : (o : Outcome Dims) → spread place op.1 a op.2 ≡ o → and_then (fold (with_operand (added place)) (and_then o (λ dims. Ok (Some dims))) ops) (λ dims. Ok (or_scalar dims)) ≡ Ok d →
        ((c : Dims) → and_then (fold (with_operand (added place)) (Ok (Some c)) ops) (λ dims. Ok (or_scalar dims)) ≡ Ok d → Beside d c × Each (λ op. Beside d op.2) ops) → Beside d a × Each (λ op. Beside d op.2) (op ∷ ops)
    step (Err b) is e more = broken_settles (added place) b ops d e
    step (Ok c) is e more =
        let r = more c e in
        let two = spread_beside place op.1 a op.2 c is in
        (through a c d two.0 r.0, (through op.2 c d two.1 r.0, r.1))

pub sum_beside : (place : Place) (ops : List Operand) (d : Dims) → chain (added place) ops ≡ Ok d → Each (λ op. Beside d op.2) ops
sum_beside place [] d e = tt
sum_beside place (op ∷ ops) d e = let r = spread_from place op.2 ops d e in (r.0, r.1)

alike_stay : (place : Place) (b : Broken) (xs : List Dims) → fold (with_alike place) (Err b) xs ≡ Err b
alike_stay place b [] = refl
alike_stay place b (x ∷ xs) = alike_stay place b xs

alike_from : (place : Place) (a : Dims) (xs : List Dims) (d : Dims) → and_then (fold (with_alike place) (Ok (Some a)) xs) (λ dims. Ok (or_scalar dims)) ≡ Ok d → (a ≡ d) × Each (λ x. x ≡ d) xs
alike_from place a [] d e = (ok_same a d e, tt)
alike_from place a (x ∷ xs) d e = step (matched place a x) refl e (λ c h. alike_from place c xs d h)
  where
    step : (o : Outcome Dims) → matched place a x ≡ o → and_then (fold (with_alike place) (and_then o (λ dims. Ok (Some dims))) xs) (λ dims. Ok (or_scalar dims)) ≡ Ok d →
        ((c : Dims) → and_then (fold (with_alike place) (Ok (Some c)) xs) (λ dims. Ok (or_scalar dims)) ≡ Ok d → (c ≡ d) × Each (λ x. x ≡ d) xs) → (a ≡ d) × Each (λ x. x ≡ d) (x ∷ xs)
    step (Err b) is e more = absurd (not_broken b d (sym (ap (λ (o : Outcome (Option Dims)). and_then o (λ dims. Ok (or_scalar dims))) (alike_stay place b xs)) ∙ e))
    step (Ok c) is e more =
        let r = more c e in
        let two = matched_agrees place a x c is in
        (two.0 ∙ r.0, (two.1 ∙ r.0, r.1))

-- values beside one another have equal dimensions
pub alike_same : (place : Place) (xs : List Dims) (d : Dims) → alike place xs ≡ Ok d → Each (λ x. x ≡ d) xs
alike_same place [] d e = tt
alike_same place (x ∷ xs) d e = let r = alike_from place x xs d e in (r.0, r.1)

scalars_stay : (place : Place) (b : Broken) (xs : List Dims) → fold (with_scalar place) (Err b) xs ≡ Err b
scalars_stay place b [] = refl
scalars_stay place b (x ∷ xs) = scalars_stay place b xs

scalars_from : (place : Place) (s : Dims) (xs : List Dims) (d : Dims) → fold (with_scalar place) (Ok s) xs ≡ Ok d → Each (λ x. x ≡ []) xs
scalars_from place s [] d e = tt
scalars_from place s (x ∷ xs) d e = step (scalar place x) refl e (λ c h. scalars_from place c xs d h)
  where
    step : (o : Outcome Dims) → scalar place x ≡ o → fold (with_scalar place) o xs ≡ Ok d → ((c : Dims) → fold (with_scalar place) (Ok c) xs ≡ Ok d → Each (λ x. x ≡ []) xs) → Each (λ x. x ≡ []) (x ∷ xs)
    step (Err b) is e more = absurd (not_broken b d (sym (scalars_stay place b xs) ∙ e))
    step (Ok c) is e more = ((scalar_agrees place x c is).0, more c e)

pub scalars_none : (place : Place) (xs : List Dims) (d : Dims) → scalars place xs ≡ Ok d → Each (λ x. x ≡ []) xs
scalars_none place xs d e = scalars_from place [] xs d e

-- ---- all indices

each_append : {A : Type 0} (P : A → Type 0) (xs ys : List A) → Each P xs → Each P ys → Each P (xs ++ ys)
each_append P [] ys e h = h
each_append P (x ∷ xs) ys e h = (e.0, each_append P xs ys e.1 h)

each_flat : {A B : Type 0} (P : A → Type 0) (Q : B → Type 0) (f : A → List B) → ((a : A) → P a → Each Q (f a)) → (xs : List A) → Each P xs → Each Q (flat_map f xs)
each_flat P Q f h [] e = tt
each_flat P Q f h (x ∷ xs) e = each_append Q (f x) (flat_map f xs) (h x e.0) (each_flat P Q f h xs e.1)

each_map : {A B : Type 0} (P : A → Type 0) (Q : B → Type 0) (f : A → B) → ((a : A) → P a → Q (f a)) → (xs : List A) → Each P xs → Each Q (map f xs)
each_map P Q f h [] e = tt
each_map P Q f h (x ∷ xs) e = (h x e.0, each_map P Q f h xs e.1)

each_imply : {A : Type 0} (P Q : A → Type 0) → ((a : A) → P a → Q a) → (xs : List A) → Each P xs → Each Q xs
each_imply P Q h [] e = tt
each_imply P Q h (x ∷ xs) e = (h x e.0, each_imply P Q h xs e.1)

-- a number from 1 to a size
pub record IsUpTo (size k : ℕ) : Type 0 where
  pub low : nat_le 1 k ≡ true
  pub high : nat_le k size ≡ true

pub numbers_up_to : (n : ℕ) → Each (IsUpTo n) (numbers_to n)
numbers_up_to zero = tt
numbers_up_to (suc n) = each_append (IsUpTo (suc n)) (numbers_to n) (suc n ∷ [])
    (each_imply (IsUpTo n) (IsUpTo (suc n)) (λ k h. record { low = h.low; high = le-leb k (suc n) (let l = leb-true k n h.high in omega (arith, l)) }) (numbers_to n) (numbers_up_to n))
    (record { low = le-leb 1 (suc n) (omega arith); high = le-leb (suc n) (suc n) (omega arith) }, tt)

pub indices_are : (dims : Dims) → Each (λ i. is_index dims i ≡ true) (indices dims)
indices_are [] = (refl, tt)
indices_are (n ∷ dims) = each_flat (IsUpTo n) (λ i. is_index (n ∷ dims) i ≡ true) (λ k. map (λ i. k ∷ i) (indices dims))
    (λ k h. each_map (λ i. is_index dims i ≡ true) (λ i. is_index (n ∷ dims) i ≡ true) (λ i. k ∷ i) (λ i e. three_and _ _ _ h.low h.high e) (indices dims) (indices_are dims))
    (numbers_to n) (numbers_up_to n)

-- ---- subscripts

none_kept : (dims : Dims) → subscripted [] dims ≡ dims
none_kept [] = refl
none_kept (n ∷ dims) = ap (λ ns. n ∷ ns) (none_kept dims)

size_within : (n : ℕ) (m : ℤ) → is_within n m ≡ true → IsUpTo n (size_of m)
size_within n (pos k) e = let two = and_two (nat_le 1 k) (nat_le k n) e in record { low = two.0; high = two.1 }
size_within n (negsuc k) e = let f : false ≡ true = e in cc

all_at : {A : Type 0} (test : A → Bool) (xs : List A) (k : ℕ) (d : A) → list_all test xs ≡ true → k < length xs → test (or_else (slice_get xs k) d) ≡ true
all_at test [] k d e l = absurd (omega (arith, l))
all_at test (x ∷ xs) zero d e l = (and_two (test x) (list_all test xs) e).0
all_at test (x ∷ xs) (suc k) d e l = all_at test xs k d (and_two (test x) (list_all test xs) e).1 (omega (arith, l))

pub before : (size k : ℕ) → IsUpTo size k → k - 1 < size
before size k u = let low = leb-true 1 k u.low in let high = leb-true k size u.high in omega (arith, low, high)

listed_within : (n : ℕ) (ns : List ℤ) (k : ℕ) → list_all (is_within n) ns ≡ true → IsUpTo (length ns) k → IsUpTo n (number_at ns k)
listed_within n ns k all u = size_within n (or_else (slice_get ns (k - 1)) (pos 0)) (all_at (is_within n) ns (k - 1) (pos 0) all (before (length ns) k u))

fine_same : (a b : Checked) → both a b ≡ fine → (a ≡ fine) × (b ≡ fine)
fine_same (Ok u) b e = (refl, e)
fine_same (Err broken) b e = absurd (not_broken broken (tt {0}) e)

within_true : (place : Place) (b : Bool) → within place b ≡ fine → b ≡ true
within_true place b e = (under b fine _ (tt {0}) e).0

not_empty : {A : Type 0} (n : ℕ) → zero ≡ suc n → A
not_empty n e = absurd (omega (arith, e))

no_index : {A : Type 0} → false ≡ true → A
no_index e = absurd (let f = e in cc)

located_from : (dims : Dims) (subs : List Subscript) (i : Index) → length subs ≡ length dims → subscripts dims subs ≡ fine → is_index (subscripted subs dims) i ≡ true → is_index dims (located subs i) ≡ true
located_from [] [] i l s e = e
located_from [] (x ∷ subs) i l s e = not_empty (length subs) (sym l)
located_from (n ∷ dims) [] i l s e = not_empty (length dims) l
located_from (n ∷ dims) (All ∷ subs) [] l s e = no_index e
located_from (n ∷ dims) (All ∷ subs) (k ∷ i) l s e =
    let three = and_three (nat_le 1 k) (nat_le k n) (is_index (subscripted subs dims) i) e in
    three_and _ _ _ three.0 three.1 (located_from dims subs i (omega (arith, l)) (fine_same fine (subscripts dims subs) s).1 three.2)
located_from (n ∷ dims) (One place m ∷ subs) i l s e =
    let two = fine_same (within place (is_within n m)) (subscripts dims subs) s in
    let u = size_within n m (within_true place (is_within n m) two.0) in
    three_and _ _ _ u.low u.high (located_from dims subs i (omega (arith, l)) two.1 e)
located_from (n ∷ dims) (Many place ns ∷ subs) [] l s e = no_index e
located_from (n ∷ dims) (Many place ns ∷ subs) (k ∷ i) l s e =
    let three = and_three (nat_le 1 k) (nat_le k (length ns)) (is_index (subscripted subs dims) i) e in
    let two = fine_same (within place (list_all (is_within n) ns)) (subscripts dims subs) s in
    let u = listed_within n ns k (within_true place (list_all (is_within n) ns) two.0) (record { low = three.0; high = three.1 }) in
    three_and _ _ _ u.low u.high (located_from dims subs i (omega (arith, l)) two.1 three.2)

-- the element of a variable that an index means exists
pub located_index : (dims : Dims) (subs : List Subscript) (i : Index) → are_for_each subs dims ≡ true → subscripts dims subs ≡ fine → is_index (subscripted subs dims) i ≡ true → is_index dims (located subs i) ≡ true
located_index dims [] i each s e = subst (λ ds. is_index ds i ≡ true) (none_kept dims) e
located_index dims (x ∷ subs) i each s e = located_from dims (x ∷ subs) i (eqb-true (length (x ∷ subs)) (length dims) each) s e

rows : (before n k : ℕ) → 1 ≤ k → k ≤ n → before * n + (k - 1) + 1 ≤ (before + 1) * n
rows before n k low high =
    let e : (before + 1) * n ≡ before * n + n = distributes before n in
    rw e (omega (arith, low, high))
  where
    distributes : (a b : ℕ) → (a + 1) * b ≡ a * b + b
    distributes a b = grind arith

pub offset_within : (dims : Dims) (i : Index) (rows_before : ℕ) → is_index dims i ≡ true → offset rows_before dims i < (rows_before + 1) * element_count dims
offset_within [] [] b e = omega arith
offset_within [] (k ∷ i) b e = no_index e
offset_within (n ∷ dims) [] b e = no_index e
offset_within (n ∷ dims) (k ∷ i) b e =
    let three = and_three (nat_le 1 k) (nat_le k n) (is_index dims i) e in
    let inner = offset_within dims i (b * n + (k - 1)) three.2 in
    let more = mul-le-mul_right (element_count dims) (rows b n k (leb-true 1 k three.0) (leb-true k n three.1)) in
    let same : (b + 1) * n * element_count dims ≡ (b + 1) * (n * element_count dims) = mul_assoc (b + 1) n (element_count dims) in
    rw (sym same) (omega (arith, inner, more))

-- what holds of all numbers holds of that at an index
pub element_holds : (test : ℕ → Bool) (vars : List ℕ) (dims : Dims) (i : Index) → nat_eq (length vars) (element_count dims) ≡ true → list_all test vars ≡ true → is_index dims i ≡ true → test (or_else (slice_get vars (offset 0 dims i)) 0) ≡ true
element_holds test vars dims i count all e =
    let is = eqb-true (length vars) (element_count dims) count in
    let l = offset_within dims i 0 e in
    all_at test vars (offset 0 dims i) 0 all (rw is (omega (arith, l)))

-- ---- products

-- the row of the left operand and the column of the right one, each with the number that they share
pub record AreRowAndColumn (a b : Dims) (i : Index) (k : ℕ) : Type 0 where
  pub row : is_index a (take (length a - 1) i ++ k ∷ []) ≡ true
  pub column : is_index b (k ∷ drop (length a - 1) i) ≡ true

shared : (place : Place) (n m k : ℕ) (dims d : Dims) → inner_matched place n m dims ≡ Ok d → IsUpTo m k → (dims ≡ d) × IsUpTo n k
shared place n m k dims d e u =
    let t = under (nat_eq n m) (Ok dims) _ d e in
    (ok_same dims d t.1, subst (λ x. IsUpTo x k) (sym (eqb-true n m t.0)) u)

one_number : (size k : ℕ) → IsUpTo size k → is_index (size ∷ []) (k ∷ []) ≡ true
one_number size k u = three_and _ _ true u.low u.high refl

pub row_and_column : (place : Place) (a b d : Dims) (i : Index) (k : ℕ) → matrix_product place a b ≡ Ok d → Suits d i → IsUpTo (first_number b) k → AreRowAndColumn a b (own d i) k
row_and_column place (n ∷ []) (m ∷ []) d i k e s u =
    let h = shared place n m k [] d e u in
    subst (λ x. AreRowAndColumn (n ∷ []) (m ∷ []) (own x i) k) h.0 (record { row = one_number n k h.1; column = one_number m k u })
row_and_column place (n ∷ []) (m ∷ q ∷ []) d i k e s u =
    let h = shared place n m k (q ∷ []) d e u in
    let j = subst (λ x. Suits x i) (sym h.0) s in
    subst (λ x. AreRowAndColumn (n ∷ []) (m ∷ q ∷ []) (own x i) k) h.0 (record { row = one_number n k h.1; column = three_and _ _ _ u.low u.high j })
row_and_column place (p ∷ n ∷ []) (m ∷ []) d i k e s u =
    let h = shared place n m k (p ∷ []) d e u in
    subst (λ x. AreRowAndColumn (p ∷ n ∷ []) (m ∷ []) (own x i) k) h.0 (one i (subst (λ x. Suits x i) (sym h.0) s) h.1)
  where
    one : (i : Index) → is_index (p ∷ []) i ≡ true → IsUpTo n k → AreRowAndColumn (p ∷ n ∷ []) (m ∷ []) i k
    one [] e h = no_index e
    one (j ∷ []) e h = let t = and_three (nat_le 1 j) (nat_le j p) true e in record { row = three_and _ _ _ t.0 t.1 (one_number n k h); column = one_number m k u }
    one (j ∷ l ∷ i) e h = no_index (and_three (nat_le 1 j) (nat_le j p) false e).2
row_and_column place (p ∷ n ∷ []) (m ∷ q ∷ []) d i k e s u =
    let h = shared place n m k (p ∷ q ∷ []) d e u in
    subst (λ x. AreRowAndColumn (p ∷ n ∷ []) (m ∷ q ∷ []) (own x i) k) h.0 (one i (subst (λ x. Suits x i) (sym h.0) s) h.1)
  where
    one : (i : Index) → is_index (p ∷ q ∷ []) i ≡ true → IsUpTo n k → AreRowAndColumn (p ∷ n ∷ []) (m ∷ q ∷ []) i k
    one [] e h = no_index e
    one (j ∷ i) e h = let t = and_three (nat_le 1 j) (nat_le j p) (is_index (q ∷ []) i) e in record { row = three_and _ _ _ t.0 t.1 (one_number n k h); column = three_and _ _ _ u.low u.high t.2 }
row_and_column place [] b d i k e s u = absurd (not_broken _ d e)
row_and_column place (n ∷ []) [] d i k e s u = absurd (not_broken _ d e)
row_and_column place (n ∷ []) (m ∷ q ∷ r ∷ more) d i k e s u = absurd (not_broken _ d e)
row_and_column place (p ∷ n ∷ []) [] d i k e s u = absurd (not_broken _ d e)
row_and_column place (p ∷ n ∷ []) (m ∷ q ∷ r ∷ more) d i k e s u = absurd (not_broken _ d e)
row_and_column place (p ∷ n ∷ r ∷ more) b d i k e s u = absurd (not_broken _ d e)

pub swapped_index : (place : Place) (a d : Dims) (i : Index) → transposed place a ≡ Ok d → is_index d i ≡ true → is_index a (swapped i) ≡ true
swapped_index place [] d i t e = absurd (not_broken _ d t)
swapped_index place (n ∷ []) d i t e = absurd (not_broken _ d t)
swapped_index place (n ∷ m ∷ more) d i t e = turned i (subst (λ x. is_index x i ≡ true) (sym (ok_same (m ∷ n ∷ more) d t)) e)
  where
    turned : (i : Index) → is_index (m ∷ n ∷ more) i ≡ true → is_index (n ∷ m ∷ more) (swapped i) ≡ true
    turned [] e = no_index e
    turned (j ∷ []) e = no_index (and_three (nat_le 1 j) (nat_le j m) false e).2
    turned (j ∷ k ∷ rest) e =
        let one = and_three (nat_le 1 j) (nat_le j m) (is_index (n ∷ more) (k ∷ rest)) e in
        let two = and_three (nat_le 1 k) (nat_le k n) (is_index more rest) one.2 in
        three_and _ _ _ two.0 two.1 (three_and _ _ _ one.0 one.1 two.2)

-- both operands of `cross` have three elements
pub crossed_dims : (place : Place) (a b d : Dims) → crossed place a b ≡ Ok d → (a ≡ 3 ∷ []) × (b ≡ 3 ∷ [])
crossed_dims place (n ∷ []) (m ∷ []) d e =
    let t = under (nat_eq n 3 && nat_eq m 3) (Ok (3 ∷ [])) _ d e in
    let two = and_two (nat_eq n 3) (nat_eq m 3) t.0 in
    (ap (λ x. x ∷ []) (eqb-true n 3 two.0), ap (λ x. x ∷ []) (eqb-true m 3 two.1))
crossed_dims place [] b d e = absurd (not_broken _ d e)
crossed_dims place (n ∷ []) [] d e = absurd (not_broken _ d e)
crossed_dims place (n ∷ []) (m ∷ k ∷ more) d e = absurd (not_broken _ d e)
crossed_dims place (n ∷ k ∷ more) b d e = absurd (not_broken _ d e)
