-- Of sorted entries the last of each unknown: the row of the unknowns' highest orders.
use Rattle.std.proofs.Common.{◌≡◌, ℕ, suc, ◌+◌, ◌<◌, ◌≤◌, Bool, true, false, cond, List, [], ◌∷◌, ◌++◌, Option, Some, None, length, get_or, refl, ap, ◌∙◌, sym, subst, arith, is_lt, nat_cmp, Less, Equal, Greater, IsPermutation}
use Rattle.std.specs.Prelude.{nat_eq, nat_lt, ◌==◌, if◌then◌else◌}
use Rattle.std.specs.List.{All}
use Rattle.std.specs.Ordering.{ordering_then}
use Rattle.std.proofs.lemmas.Bool.Decides.{nat_tests}
use Rattle.std.proofs.lemmas.List.Elements.{All-cons, All-head, All-nil, All-tail}
use Rattle.std.proofs.lemmas.List.Sorted.{All-permutation, IsPermutation-sym}
use Rattle.mo_symdiff.proofs.SigmaGather.{greatest_by}
use Rattle.mo_symdiff.proofs.SigmaOrders.{rank}
use Rattle.mo_incidence.specs.steps.Gathered.{last_of_each}
use Rattle.mo_incidence.specs.Model.{entries_from, entry_of}

each_below : {X : Type 0} (f : X → ℕ) (xs : List X) (n : ℕ) → greatest_by f xs ≤ n → All (λ x. f x ≤ n) xs
each_below f [] n h = All-nil (λ x. f x ≤ n)
each_below f (x ∷ xs) n h = All-cons (λ x. f x ≤ n) x xs (omega arith) (each_below f xs n (omega arith))

most_below : {X : Type 0} (f : X → ℕ) (xs : List X) (n : ℕ) → All (λ x. f x ≤ n) xs → greatest_by f xs ≤ n
most_below f [] n h = omega arith
most_below f (x ∷ xs) n h = let a = All-head (λ x. f x ≤ n) x xs h in let b = most_below f xs n (All-tail (λ x. f x ≤ n) x xs h) in omega arith

below_permutation : {X : Type 0} (f : X → ℕ) (xs ys : List X) → IsPermutation xs ys → greatest_by f ys ≤ greatest_by f xs
below_permutation f xs ys h = most_below f ys (greatest_by f xs) (All-permutation (λ x. f x ≤ greatest_by f xs) xs ys h (each_below f xs (greatest_by f xs) (omega arith)))

pub greatest_permutation : {X : Type 0} (f : X → ℕ) (xs ys : List X) → IsPermutation xs ys → greatest_by f ys ≡ greatest_by f xs
greatest_permutation f xs ys h = let a = below_permutation f xs ys h in let b = below_permutation f ys xs (IsPermutation-sym xs ys h) in omega arith

-- x may stand before y
pub record Before (x y : ℕ × ℕ) : Type 0 where
  pub unknown : x.0 ≤ y.0
  pub order : x.0 ≡ y.0 → x.1 ≤ y.1

abbrev pub Ascends : List (ℕ × ℕ) → Type 0
Ascends [] = Unit {0}
Ascends (x ∷ []) = Unit {0}
Ascends (x ∷ y ∷ es) = Before x y × Ascends (y ∷ es)

abbrev pub Below : ℕ × ℕ → ℕ × ℕ → Bool
Below y x = is_lt (ordering_then (nat_cmp y.0 x.0) (nat_cmp y.1 x.1))

tells : (x y : ℕ × ℕ) (p q r s : Bool) → nat_lt y.0 x.0 ≡ p → (y.0 == x.0) ≡ q → nat_lt y.1 x.1 ≡ r →
    is_lt (ordering_then (cond p Less (cond q Equal Greater)) (cond r Less (cond s Equal Greater))) ≡ false → Before x y
tells x y true q r s e f g h = absurd cc
tells x y false true true s e f g h = absurd cc
tells x y false true false s e f g h = record { unknown = grind (arith, nat_tests); order = λ _. grind (arith, nat_tests) }
tells x y false false r s e f g h = record { unknown = grind (arith, nat_tests); order = λ same. absurd (grind (arith, nat_tests)) }

pub ascends : (xs : List (ℕ × ℕ)) → ((k : ℕ) (d : ℕ × ℕ) → 0 ≤ k → k + 1 < length xs → Below (get_or xs (k + 1) d) (get_or xs k d) ≡ false) → Ascends xs
ascends [] h = tt
ascends (x ∷ []) h = tt
ascends (x ∷ y ∷ es) h = (
  tells x y (nat_lt y.0 x.0) (y.0 == x.0) (nat_lt y.1 x.1) (y.1 == x.1) refl refl refl (h 0 x (omega arith) (omega arith)),
  ascends (y ∷ es) (λ k d l m.
      let next : k + 1 ≡ suc k = omega arith in
      let further : k + 1 + 1 ≡ suc (k + 1) = omega arith in
      let there = h (k + 1) d (omega arith) (omega arith) in
      let at = subst (λ n. Below (get_or (x ∷ y ∷ es) n d) (get_or (x ∷ y ∷ es) (k + 1) d) ≡ false) further there in
      subst (λ n. Below (get_or (y ∷ es) (k + 1) d) (get_or (x ∷ y ∷ es) n d) ≡ false) next at),
)

-- the order of an entry where it is one of unknown j, and one more
abbrev pub entry_rank : ℕ → ℕ × ℕ → ℕ
entry_rank j x = if nat_eq x.0 j then x.1 + 1 else 0

by_test : (j n m : ℕ) (b : Bool) → nat_eq n j ≡ b → (n ≡ j → ⊥) → (if b then m + 1 else 0) ≡ 0
by_test j n m true e h = absurd (h (grind (arith, nat_tests)))
by_test j n m false e h = refl

pub other_rank : (j : ℕ) (x : ℕ × ℕ) → (x.0 ≡ j → ⊥) → entry_rank j x ≡ 0
other_rank j x h = by_test j x.0 x.1 (nat_eq x.0 j) refl h

by_same : (j n m : ℕ) (b : Bool) → nat_eq n j ≡ b → n ≡ j → (if b then m + 1 else 0) ≡ m + 1
by_same j n m true e h = refl
by_same j n m false e h = absurd (grind (arith, nat_tests))

pub own_rank : (j : ℕ) (x : ℕ × ℕ) → x.0 ≡ j → entry_rank j x ≡ x.1 + 1
own_rank j x h = by_same j x.0 x.1 (nat_eq x.0 j) refl h

absent : (j : ℕ) (x : ℕ × ℕ) (es : List (ℕ × ℕ)) → Ascends (x ∷ es) → j < x.0 → greatest_by (entry_rank j) (x ∷ es) ≡ 0
absent j x [] s h = let e = other_rank j x (λ same. omega arith) in omega arith
absent j x (y ∷ es) s h =
    let u = s.0.unknown in let e = other_rank j x (λ same. omega arith) in let d = absent j y es s.1 (omega arith) in omega arith

-- the first entry is of unknown j or a later one
abbrev pub StartsAt : ℕ → List (ℕ × ℕ) → Type 0
StartsAt j [] = Unit {0}
StartsAt j (x ∷ es) = j ≤ x.0

-- the entries have the orders of the unknowns that are numbered from j on
abbrev pub Matches : (ℕ → Option ℕ) → ℕ → List ℕ → List (ℕ × ℕ) → Type 0
Matches order j [] es = Unit {0}
Matches order j (v ∷ vs) es = (rank (order v) ≡ greatest_by (entry_rank j) es) × Matches order (j + 1) vs es

matches_tail : (order : ℕ → Option ℕ) (j : ℕ) (vs : List ℕ) (x : ℕ × ℕ) (es : List (ℕ × ℕ)) → x.0 < j → Matches order j vs (x ∷ es) → Matches order j vs es
matches_tail order j [] x es h m = tt
matches_tail order j (v ∷ vs) x es h m =
    let e = other_rank j x (λ same. omega arith) in let first = m.0 in
    ((omega arith), matches_tail order (j + 1) vs x es (omega arith) m.1)

skipped : (j : ℕ) (o : Option ℕ) (l : List (ℕ × ℕ)) → rank o ≡ 0 → entry_of j o ++ l ≡ l
skipped j None l h = refl
skipped j (Some k) l h = absurd (omega arith)

taken : (j : ℕ) (x : ℕ × ℕ) (o : Option ℕ) (l : List (ℕ × ℕ)) → x.0 ≡ j → rank o ≡ x.1 + 1 → entry_of j o ++ l ≡ x ∷ l
taken j x None l e h = absurd (omega arith)
taken j x (Some k) l e h = let same : k ≡ x.1 = omega arith in ap (λ n. (n, k) ∷ l) (sym e) ∙ ap (λ n. (x.0, n) ∷ l) same

-- the rest of the row
abbrev Rest : (ℕ → Option ℕ) → ℕ → List ℕ → Type 0
Rest order j vs = (es : List (ℕ × ℕ)) → Ascends es → StartsAt j es → greatest_by (λ x. x.0 + 1) es ≤ j + length vs → Matches order j vs es → last_of_each es ≡ entries_from j order vs

pass_over : (order : ℕ → Option ℕ) (j v : ℕ) (vs : List ℕ) → Rest order (j + 1) vs → (x : ℕ × ℕ) (es : List (ℕ × ℕ)) → Ascends (x ∷ es) → j < x.0 →
    greatest_by (λ x. x.0 + 1) (x ∷ es) ≤ j + length (v ∷ vs) → Matches order j (v ∷ vs) (x ∷ es) → last_of_each (x ∷ es) ≡ entries_from j order (v ∷ vs)
pass_over order j v vs rest x es s l u m =
    let none = absent j x es s l in let first = m.0 in
    rest (x ∷ es) s (omega arith) (omega arith) m.1 ∙ sym (skipped j (order v) (entries_from (j + 1) order vs) (omega arith))

take_one : (order : ℕ → Option ℕ) (j v : ℕ) (vs : List ℕ) → Rest order (j + 1) vs → (x : ℕ × ℕ) → x.0 ≡ j → Matches order j (v ∷ vs) (x ∷ []) → x ∷ [] ≡ entries_from j order (v ∷ vs)
take_one order j v vs rest x e m =
    let own = own_rank j x e in let first = m.0 in
    ap (λ l. x ∷ l) (rest [] tt tt (omega arith) (matches_tail order (j + 1) vs x [] (omega arith) m.1)) ∙ sym (taken j x (order v) (entries_from (j + 1) order vs) e (omega arith))

one_step : (order : ℕ → Option ℕ) (j v : ℕ) (vs : List ℕ) → Rest order (j + 1) vs → (x : ℕ × ℕ) → j ≤ x.0 → greatest_by (λ x. x.0 + 1) (x ∷ []) ≤ j + length (v ∷ vs) →
    Matches order j (v ∷ vs) (x ∷ []) → (b : Bool) → nat_eq x.0 j ≡ b → x ∷ [] ≡ entries_from j order (v ∷ vs)
one_step order j v vs rest x l u m true e = take_one order j v vs rest x (grind (arith, nat_tests)) m
one_step order j v vs rest x l u m false e = pass_over order j v vs rest x [] tt (grind (arith, nat_tests)) u m

two_step : (order : ℕ → Option ℕ) (j v : ℕ) (vs : List ℕ) → Rest order (j + 1) vs → (x y : ℕ × ℕ) (es : List (ℕ × ℕ)) → Ascends (x ∷ y ∷ es) → j ≤ x.0 →
    greatest_by (λ x. x.0 + 1) (x ∷ y ∷ es) ≤ j + length (v ∷ vs) → Matches order j (v ∷ vs) (x ∷ y ∷ es) →
    (Ascends (y ∷ es) → j ≤ y.0 → greatest_by (λ x. x.0 + 1) (y ∷ es) ≤ j + length (v ∷ vs) → Matches order j (v ∷ vs) (y ∷ es) → last_of_each (y ∷ es) ≡ entries_from j order (v ∷ vs)) →
    (b c : Bool) → nat_eq x.0 j ≡ b → nat_eq x.0 y.0 ≡ c → (if c then last_of_each (y ∷ es) else x ∷ last_of_each (y ∷ es)) ≡ entries_from j order (v ∷ vs)
two_step order j v vs rest x y es s l u m inner false c e d =
    let later : j < x.0 = grind (arith, nat_tests) in
    subst (λ c. (if c then last_of_each (y ∷ es) else x ∷ last_of_each (y ∷ es)) ≡ entries_from j order (v ∷ vs)) d (pass_over order j v vs rest x (y ∷ es) s later u m)
two_step order j v vs rest x y es s l u m inner true true e d =
    let here : x.0 ≡ j = grind (arith, nat_tests) in let same : x.0 ≡ y.0 = grind (arith, nat_tests) in
    let first = m.0 in let above = s.0.order same in
    let own = own_rank j x here in let own' = own_rank j y (sym same ∙ here) in
    inner s.1 (omega arith) (omega arith) ((omega arith), matches_tail order (j + 1) vs x (y ∷ es) (omega arith) m.1)
two_step order j v vs rest x y es s l u m inner true false e d =
    let here : x.0 ≡ j = grind (arith, nat_tests) in let other : x.0 ≡ y.0 → ⊥ = λ same. absurd (grind (arith, nat_tests)) in
    let up = s.0.unknown in let later : j < y.0 = grind (arith, other) in
    let none = absent j y es s.1 later in let own = own_rank j x here in let first = m.0 in
    ap (λ l. x ∷ l) (rest (y ∷ es) s.1 (omega arith) (omega arith) (matches_tail order (j + 1) vs x (y ∷ es) (omega arith) m.1))
    ∙ sym (taken j x (order v) (entries_from (j + 1) order vs) here (omega arith))

row_of_sorted : (order : ℕ → Option ℕ) (j v : ℕ) (vs : List ℕ) → Rest order (j + 1) vs → Rest order j (v ∷ vs)
row_of_sorted order j v vs rest [] s l u m = rest [] tt tt (omega arith) m.1 ∙ sym (skipped j (order v) (entries_from (j + 1) order vs) m.0)
row_of_sorted order j v vs rest (x ∷ []) s l u m = one_step order j v vs rest x l u m (nat_eq x.0 j) refl
row_of_sorted order j v vs rest (x ∷ y ∷ es) s l u m =
    two_step order j v vs rest x y es s l u m (row_of_sorted order j v vs rest (y ∷ es)) (nat_eq x.0 j) (nat_eq x.0 y.0) refl refl

no_entries : (order : ℕ → Option ℕ) (j : ℕ) (es : List (ℕ × ℕ)) → StartsAt j es → greatest_by (λ x. x.0 + 1) es ≤ j + 0 → last_of_each es ≡ []
no_entries order j [] l u = refl
no_entries order j (x ∷ es) l u = absurd (omega arith)

-- the last entries of sorted ones are those of the orders that they match
pub row_from_sorted : (order : ℕ → Option ℕ) (j : ℕ) (vs : List ℕ) (es : List (ℕ × ℕ)) → Ascends es → StartsAt j es → greatest_by (λ x. x.0 + 1) es ≤ j + length vs → Matches order j vs es →
    last_of_each es ≡ entries_from j order vs
row_from_sorted order j [] es s l u m = no_entries order j es l u
row_from_sorted order j (v ∷ vs) es s l u m = row_of_sorted order j v vs (row_from_sorted order (j + 1) vs) es s l u m
