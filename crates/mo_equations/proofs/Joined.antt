-- The branches of an if-equation, joined equation by equation.
use Rattle.std.proofs.Common.{◌≡◌, ◌≢◌, ◌⊎◌, inl, inr, ℕ, zero, suc, pos, ◌+◌, ◌-◌, ◌*◌, ◌<◌, ◌≤◌, ◌^◌, Bool, true, false, ◌&&◌, List, [], ◌∷◌, ◌++◌, length, map, take, Option, Some, None, Ok, Err, nat_eq, refl, ap, sym, ◌∙◌, subst, arith}
use Rattle.std.specs.Prelude.{sum_by, slice_get}
use Rattle.std.proofs.Math.Nat.{add-mul, mul-suc}
use Rattle.std.proofs.lemmas.Bool.{cases_lt, eq-eqb, eqb-true, false≢true, le-ltb}
use Rattle.std.proofs.lemmas.Bool.Decides.{eqb_tells}
use Rattle.std.proofs.lemmas.List.Sums.{sum_by-cons}
use Rattle.mo_syntax.specs.Outcome.{Outcome, and_then, breaks}
use Rattle.mo_syntax.specs.declared.place.Place.{Place}
use Rattle.mo_flat.specs.declared.expr.FlatExpr.{FlatExpr, fold_out-FlatExpr, map-FlatExpr}
use Rattle.mo_flat.specs.declared.expr.FlatExpr.TheVariants.{outs-Whole}
use Rattle.mo_flat.specs.declared.expr.FlatExpr as flat
use Rattle.mo_flat.specs.declared.model.FlatEquation.{FlatEquation}
use Rattle.mo_flat.specs.Nodes.{count_node, node_count}
use Rattle.mo_flat.proofs.Counting as count
use Rattle.mo_scope.specs.Places.{Every}
use Rattle.mo_syntax.specs.declared.rules.TheConstants.{BRANCH_COUNTS_DIFFER}
use Rattle.mo_typing.specs.Indices.{numbers_to}
use Rattle.mo_typing.specs.Outcome.{each}
use Rattle.mo_equations.specs.declared.flat.Flat.{Flat}
use Rattle.mo_equations.specs.declared.joining.Choice.{Choice as ChoiceAt}
use Rattle.mo_equations.specs.declared.made.Made.{Made as MadeAt}
use Rattle.mo_equations.specs.Gathering.{Made, made_equations}
use Rattle.mo_equations.specs.Joining.{Choice, Joined, difference, have_equal_counts, joined_branches, joined_equation, made_if, with_branch}
use Rattle.mo_equations.specs.Size.{most_nodes, nodes_of_assert, nodes_of_equation}
use Rattle.mo_equations.specs.steps.Choices.{AreBranches, IsBare, IsChoice, all_joined, branch_at, counts_are_equal, difference_at, joined_at, nodes_joined, what_is}
use Rattle.mo_equations.specs.steps.Flats.{Answers, IsFlat, capped, is_past_nodes}
use Rattle.mo_equations.specs.steps.Makings.{IsMade, nodes_of_made}
use Rattle.mo_equations.proofs.Eaching.{each_both}

-- ---- one after another

pub next_of : {A B : Type 0} (f : A → Outcome B) (xs : List A) (i : ℕ) (made : List B) (x : A) (y : B) → take (i + 1) xs ≡ take i xs ++ x ∷ [] → each f (take i xs) ≡ Ok made →
    f x ≡ Ok y → each f (take (i + 1) xs) ≡ Ok (made ++ y ∷ [])
next_of f xs i made x y more so_far is = ap (each f) more ∙ each_both f (take i xs) (x ∷ []) made (y ∷ []) so_far (rw is refl)

pub next_number : (n : ℕ) → numbers_to (n + 1) ≡ numbers_to n ++ (n + 1) ∷ []
next_number n = rw (plus_one n) refl
  where
    plus_one : (m : ℕ) → m + 1 ≡ suc m
    plus_one m = omega arith

pub next_joined : (place : Place) (held : ChoiceAt) (n : ℕ) (made : List FlatEquation) (q : FlatEquation) → all_joined place held n ≡ Ok made → joined_at place held n ≡ Ok q →
    all_joined place held (n + 1) ≡ Ok (made ++ q ∷ [])
next_joined place held n made q so_far is =
    ap (each (λ m. joined_at place held (m - 1))) (next_number n)
    ∙ each_both (λ m. joined_at place held (m - 1)) (numbers_to n) ((n + 1) ∷ []) made (q ∷ []) so_far (rw (minus n, is) refl)
  where
    minus : (m : ℕ) → (m + 1) - 1 ≡ m
    minus m = omega arith

-- ---- capped numbers

capped_within : (x : ℕ) → x < 2 ^ 64 - 1 → capped x ≡ x
capped_within x h = omega (arith, h)

capped_above : (x : ℕ) → 2 ^ 64 - 1 ≤ x → capped x ≡ 2 ^ 64 - 1
capped_above x h = omega (arith, h)

product_above : (x c : ℕ) → x ≤ x * suc c
product_above x c = subst (λ n. x ≤ n) (sym (product x c)) (more x (x * c))
  where
    product : (a b : ℕ) → a * suc b ≡ a * b + a
    product a b = mul-suc a b

    more : (a b : ℕ) → a ≤ b + a
    more a b = omega arith

pub capped_product : (x c : ℕ) → capped (capped x * c) ≡ capped (x * c)
capped_product x c = at c (cases_lt x (2 ^ 64 - 1))
  where
    above : (a b : ℕ) → 2 ^ 64 - 1 ≤ a → a ≤ b → 2 ^ 64 - 1 ≤ b
    above a b p q = omega (arith, p, q)

    nought : (a : ℕ) → a * 0 ≡ 0
    nought a = omega arith

    at : (c : ℕ) → (x < 2 ^ 64 - 1) ⊎ (2 ^ 64 - 1 ≤ x) → capped (capped x * c) ≡ capped (x * c)
    at c (inl low) = ap (λ y. capped (y * c)) (capped_within x low)
    at zero (inr high) = ap capped (nought (capped x) ∙ sym (nought x))
    at (suc c) (inr high) =
        let top : capped x ≡ 2 ^ 64 - 1 = capped_above x high in
        let first : 2 ^ 64 - 1 ≤ capped x * suc c = above (capped x) (capped x * suc c) (subst (λ n. 2 ^ 64 - 1 ≤ n) (sym top) (omega arith)) (product_above (capped x) c) in
        capped_above (capped x * suc c) first ∙ sym (capped_above (x * suc c) (above x (x * suc c) high (product_above x c)))

capped_plus : (a b c d : ℕ) → capped a ≡ capped b → capped c ≡ capped d → capped (a + c) ≡ capped (b + d)
capped_plus a b c d p q = omega (arith, p, q)

capped_times : (a b c : ℕ) → capped a ≡ capped b → capped (a * c) ≡ capped (b * c)
capped_times a b c p = sym (capped_product a c) ∙ ap (λ x. capped (x * c)) p ∙ capped_product b c

capped_twice : (a b : ℕ) → a ≡ capped b → capped a ≡ capped b
capped_twice a b p = omega (arith, p)

-- what the code adds and multiplies, each result capped
pub joined_capped : (s n c b o first second third fourth last : ℕ) → first ≡ capped (capped s + n) → second ≡ capped (first + 3) → third ≡ capped (second * c) → fourth ≡ capped (third + capped b) →
    last ≡ capped (fourth + o) → last ≡ capped ((s + n + 3) * c + b + o)
joined_capped s n c b o first second third fourth last p q r u v =
    v ∙ capped_plus fourth ((s + n + 3) * c + b) o o
    (capped_twice fourth (third + capped b) u ∙ capped_plus third ((s + n + 3) * c) (capped b) b
    (capped_twice third (second * c) r ∙ capped_times second (s + n + 3) c (capped_twice second (first + 3) q ∙ capped_plus first (s + n) 3 3 (capped_twice first (capped s + n) p ∙ capped_plus (capped s) s n n (capped_again s) refl) refl))
    (capped_again b)) refl
  where
    capped_again : (a : ℕ) → capped (capped a) ≡ capped a
    capped_again a = omega arith

-- ---- lists by their places

length_numbers : (n : ℕ) → length (numbers_to n) ≡ n
length_numbers zero = refl
length_numbers (suc n) = more (numbers_to n) ∙ ap suc (length_numbers n)
  where
    more : (xs : List ℕ) → length (xs ++ suc n ∷ []) ≡ suc (length xs)
    more [] = refl
    more (x ∷ xs) = ap suc (more xs)

taken : {A : Type 0} (xs : List A) (n : ℕ) (x : A) → slice_get xs n ≡ Some x → take (suc n) xs ≡ take n xs ++ x ∷ []
taken [] n x h = absurd (no h)
  where
    no : None ≡ Some x → ⊥
    no e = cc
taken {A = A} (y ∷ ys) zero x h = rw (one y x h) refl
  where
    one : (a b : A) → Some a ≡ Some b → a ≡ b
    one a b e = cc
taken (y ∷ ys) (suc n) x h = ap (λ zs. y ∷ zs) (taken ys n x h)

taken_all : {A : Type 0} (xs : List A) → take (length xs) xs ≡ xs
taken_all [] = refl
taken_all (x ∷ xs) = ap (λ ys. x ∷ ys) (taken_all xs)

mapped_more : {A B : Type 0} (g : A → B) (xs : List A) (x : A) → map g (xs ++ x ∷ []) ≡ map g xs ++ g x ∷ []
mapped_more g [] x = refl
mapped_more g (y ∷ ys) x = ap (λ zs. g y ∷ zs) (mapped_more g ys x)

found : {A : Type 0} (xs : List A) (n : ℕ) → n < length xs → (x : A) × (slice_get xs n ≡ Some x)
found [] n small = let h : n < 0 = small in absurd (omega arith)
found (x ∷ xs) zero small = (x, refl)
found (x ∷ xs) (suc n) small = found xs n (omega arith)

-- what each number gives is what is at its place
by_numbers : {A B : Type 0} (f : ℕ → Outcome B) (g : A → B) (xs : List A) → ((k : ℕ) (x : A) → slice_get xs k ≡ Some x → f k ≡ Ok (g x)) → (n : ℕ) → n ≤ length xs →
    each (λ m. f (m - 1)) (numbers_to n) ≡ Ok (map g (take n xs))
by_numbers f g xs is zero small = refl
by_numbers {A} {B} f g xs is (suc n) small =
    let at = found xs n (omega (arith, small)) in
    each_both (λ m. f (m - 1)) (numbers_to n) (suc n ∷ []) (map g (take n xs)) (g at.0 ∷ []) (by_numbers f g xs is n (omega (arith, small))) (one at.0 (is n at.0 at.1))
    ∙ ap Ok (sym (ap (map g) (taken xs n at.0 at.1) ∙ mapped_more g (take n xs) at.0))
  where
    minus : (m : ℕ) → suc m - 1 ≡ m
    minus m = omega arith

    one : (x : A) → f n ≡ Ok (g x) → each (λ m. f (m - 1)) (suc n ∷ []) ≡ Ok (g x ∷ [])
    one x h = ap (λ k. each f (k ∷ [])) (minus n) ∙ ap (λ (o : Outcome B). and_then o (λ value. Ok (value ∷ []))) h

-- ---- columns

-- what stands in the joined equation with so many before it
abbrev column : ℕ → FlatExpr × Made → Outcome (FlatExpr × FlatExpr)
column k branch = and_then (what_is (slice_get branch.1.equations k)) (λ q. Ok (branch.0, difference q))

at_with : (condition : FlatExpr) (qs : List FlatEquation) (joined : List Joined) (k : ℕ) (j : Joined) → slice_get (with_branch condition qs joined) k ≡ Some j →
    (q : FlatEquation) × (one : Joined) × (slice_get qs k ≡ Some q) × (slice_get joined k ≡ Some one) × (j ≡ ((condition, difference q) ∷ one.0, one.1))
at_with condition [] joined k j h = absurd (no h)
  where
    no : None ≡ Some j → ⊥
    no e = cc
at_with condition (q ∷ qs) [] k j h = absurd (no h)
  where
    no : None ≡ Some j → ⊥
    no e = cc
at_with condition (q ∷ qs) (one ∷ joined) zero j h = (q, one, refl, refl, same j _ h)
  where
    same : (a b : Joined) → Some b ≡ Some a → a ≡ b
    same a b e = cc
at_with condition (q ∷ qs) (one ∷ joined) (suc k) j h = at_with condition qs joined k j h

mapped_at : {A B : Type 0} (g : A → B) (xs : List A) (k : ℕ) (y : B) → slice_get (map g xs) k ≡ Some y → (x : A) × (slice_get xs k ≡ Some x) × (y ≡ g x)
mapped_at g [] k y h = absurd (no h)
  where
    no : None ≡ Some y → ⊥
    no e = cc
mapped_at g (x ∷ xs) zero y h = (x, refl, same y (g x) h)
  where
    same : {C : Type 0} (a b : C) → Some b ≡ Some a → a ≡ b
    same a b e = cc
mapped_at g (x ∷ xs) (suc k) y h = mapped_at g xs k y h

columns : (branches : List (FlatExpr × Made)) (other : Made) (k : ℕ) (j : Joined) → slice_get (joined_branches branches other) k ≡ Some j →
    (each (column k) branches ≡ Ok j.0) × ((q : FlatEquation) × (slice_get other.equations k ≡ Some q) × (j.1 ≡ difference q))
columns [] other k j h =
    let m = mapped_at (λ q. ([], difference q)) other.equations k j h in
    (ap (λ x. Ok x.0) (sym m.2), (m.0, m.1, ap (λ x. x.1) m.2))
columns (branch ∷ branches) other k j h =
    let m = at_with branch.0 branch.1.equations (joined_branches branches other) k j h in
    let rest = columns branches other k m.1 m.3 in
    (both m.0 m.1 (each (column k) branches) m.2 rest.0 ∙ ap (λ x. Ok x.0) (sym m.4), (rest.1.0, rest.1.1, ap (λ x. x.1) m.4 ∙ rest.1.2))
  where
    both : (q : FlatEquation) (one : Joined) (o : Outcome (List (FlatExpr × FlatExpr))) → slice_get branch.1.equations k ≡ Some q → o ≡ Ok one.0 →
        and_then (and_then (what_is (slice_get branch.1.equations k)) (λ q. Ok (branch.0, difference q))) (λ value. and_then o (λ values. Ok (value ∷ values))) ≡ Ok ((branch.0, difference q) ∷ one.0)
    both q one o at is = rw (at, is) refl

-- ---- how many

length_with : (condition : FlatExpr) (qs : List FlatEquation) (joined : List Joined) → length qs ≡ length joined → length (with_branch condition qs joined) ≡ length joined
length_with condition [] [] h = refl
length_with condition [] (one ∷ joined) h = let e : 0 ≡ suc (length joined) = h in absurd (omega arith)
length_with condition (q ∷ qs) [] h = refl
length_with condition (q ∷ qs) (one ∷ joined) h = ap suc (length_with condition qs joined (omega (arith, h)))

abbrev Equal : List (FlatExpr × Made) → Made → Type 0
Equal branches other = Every (λ (branch : FlatExpr × Made). length branch.1.equations ≡ length other.equations) branches

length_mapped : {A B : Type 0} (g : A → B) (xs : List A) → length (map g xs) ≡ length xs
length_mapped g [] = refl
length_mapped g (x ∷ xs) = ap suc (length_mapped g xs)

length_joined : (branches : List (FlatExpr × Made)) (other : Made) → Equal branches other → length (joined_branches branches other) ≡ length other.equations
length_joined [] other h = length_mapped (λ q. ([], difference q)) other.equations
length_joined (branch ∷ branches) other h =
    let rest = length_joined branches other h.1 in
    length_with branch.0 branch.1.equations (joined_branches branches other) (h.0 ∙ sym rest) ∙ rest

-- ---- nodes

nodes_of_difference : (q : FlatEquation) → node_count (difference q) ≡ 1 + nodes_of_equation q
nodes_of_difference q = count.at_Sum ((false, q.left) ∷ (true, q.right) ∷ [])
    ∙ rw (sum_by-cons (λ (t : Bool × FlatExpr). node_count t.1) (false, q.left) ((true, q.right) ∷ []), sum_by-cons (λ (t : Bool × FlatExpr). node_count t.1) (true, q.right) []) (omega arith)

abbrev nodes_in : Joined → ℕ
nodes_in j = 2 + (sum_by (λ b. node_count b.0 + node_count b.1) j.0 + node_count j.1)

one_node : node_count (flat.Whole (pos 0)) ≡ 1
one_node = fold_out-FlatExpr ℕ count_node (flat.Whole (pos 0)) ∙ ap (λ n. count_node (map-FlatExpr FlatExpr ℕ node_count n)) (outs-Whole (pos 0))

nodes_of_joined : (place : Place) (j : Joined) → nodes_of_equation (joined_equation place j) ≡ nodes_in j
nodes_of_joined place j = rw (one_node, count.at_If j.0 j.1) (grouped (sum_by (λ b. node_count b.0 + node_count b.1) j.0 + node_count j.1))
  where
    grouped : (n : ℕ) → 1 + (1 + n) ≡ 2 + n
    grouped n = omega arith

summed : {A B : Type 0} (f : B → ℕ) (g : A → ℕ) (h : A → B) → ((x : A) → f (h x) ≡ g x) → (xs : List A) → sum_by f (map h xs) ≡ sum_by g xs
summed f g h same [] = refl
summed f g h same (x ∷ xs) = sum_by-cons f (h x) (map h xs) ∙ rw (same x, summed f g h same xs) (sym (sum_by-cons g x xs))

nodes_alone : (qs : List FlatEquation) → sum_by nodes_in (map (λ q. ([], difference q)) qs) ≡ 3 * length qs + sum_by nodes_of_equation qs
nodes_alone [] = refl
nodes_alone (q ∷ qs) =
    sum_by-cons nodes_in ([], difference q) (map (λ q. ([], difference q)) qs)
    ∙ rw (nodes_of_difference q, nodes_alone qs, sum_by-cons nodes_of_equation q qs) (grouped (nodes_of_equation q) (length qs) (sum_by nodes_of_equation qs))
  where
    grouped : (a n s : ℕ) → 2 + (0 + (1 + a)) + (3 * n + s) ≡ 3 * suc n + (a + s)
    grouped a n s = omega arith

nodes_with : (condition : FlatExpr) (qs : List FlatEquation) (joined : List Joined) → length qs ≡ length joined →
    sum_by nodes_in (with_branch condition qs joined) ≡ sum_by nodes_in joined + (node_count condition + 1) * length joined + sum_by nodes_of_equation qs
nodes_with condition [] [] h = nought (node_count condition + 1)
  where
    nought : (a : ℕ) → 0 ≡ 0 + a * 0 + 0
    nought a = omega arith
nodes_with condition [] (one ∷ joined) h = let e : 0 ≡ suc (length joined) = h in absurd (omega (arith, e))
nodes_with condition (q ∷ qs) [] h = let e : suc (length qs) ≡ 0 = h in absurd (omega (arith, e))
nodes_with condition (q ∷ qs) (one ∷ joined) h =
    sum_by-cons nodes_in ((condition, difference q) ∷ one.0, one.1) (with_branch condition qs joined)
    ∙ rw (
      sum_by-cons (λ (b : FlatExpr × FlatExpr). node_count b.0 + node_count b.1) (condition, difference q) one.0,
      nodes_of_difference q,
      nodes_with condition qs joined (omega (arith, h)),
      sum_by-cons nodes_in one joined,
      sum_by-cons nodes_of_equation q qs,
    )
    (grouped (node_count condition) (nodes_of_equation q) (sum_by (λ b. node_count b.0 + node_count b.1) one.0) (node_count one.1) (sum_by nodes_in joined) (length joined) (sum_by nodes_of_equation qs))
  where
    times : (a n : ℕ) → a * suc n ≡ a * n + a
    times a n = mul-suc a n

    sums : (c a s o j p e : ℕ) → 2 + (((c + (1 + a)) + s) + o) + (j + p + e) ≡ (2 + (s + o)) + j + (p + (c + 1)) + (a + e)
    sums c a s o j p e = omega arith

    grouped : (c a s o j n e : ℕ) → 2 + (((c + (1 + a)) + s) + o) + (j + (c + 1) * n + e) ≡ (2 + (s + o)) + j + (c + 1) * suc n + (a + e)
    grouped c a s o j n e = sums c a s o j ((c + 1) * n) e ∙ ap (λ p. (2 + (s + o)) + j + p + (a + e)) (sym (times (c + 1) n))

abbrev conditions_of : List (FlatExpr × Made) → ℕ
conditions_of branches = sum_by (λ branch. node_count branch.0) branches

abbrev parts_of : List (FlatExpr × Made) → ℕ
parts_of branches = sum_by (λ branch. sum_by nodes_of_equation branch.1.equations) branches

nodes_of_all : (branches : List (FlatExpr × Made)) (other : Made) → Equal branches other →
    sum_by nodes_in (joined_branches branches other)
    ≡ (conditions_of branches + length branches + 3) * length other.equations + parts_of branches + sum_by nodes_of_equation other.equations
nodes_of_all [] other h = nodes_alone other.equations ∙ plain (length other.equations) (sum_by nodes_of_equation other.equations)
  where
    plain : (n s : ℕ) → 3 * n + s ≡ (0 + 0 + 3) * n + 0 + s
    plain n s = omega arith
nodes_of_all (branch ∷ branches) other h =
    let count : length (joined_branches branches other) ≡ length other.equations = length_joined branches other h.1 in
    nodes_with branch.0 branch.1.equations (joined_branches branches other) (h.0 ∙ sym count)
    ∙ rw (
      count,
      nodes_of_all branches other h.1,
      sum_by-cons (λ (b : FlatExpr × Made). node_count b.0) branch branches,
      sum_by-cons (λ (b : FlatExpr × Made). sum_by nodes_of_equation b.1.equations) branch branches,
    )
    (grouped (node_count branch.0) (conditions_of branches) (length branches) (length other.equations) (sum_by nodes_of_equation branch.1.equations) (parts_of branches) (sum_by nodes_of_equation other.equations))
  where
    sums : (c s n l x y p b o : ℕ) → (c + s + suc n + 3) * l ≡ x + y → x ≡ (s + n + 3) * l → y ≡ (c + 1) * l → (x + b + o) + y + p ≡ (c + s + suc n + 3) * l + (p + b) + o
    sums c s n l x y p b o h i j = rw h (omega arith)

    split : (c s n l : ℕ) → (c + s + suc n + 3) * l ≡ (s + n + 3) * l + (c + 1) * l
    split c s n l = ap (λ m. m * l) (turned c s n) ∙ add-mul (s + n + 3) (c + 1) l
      where
        turned : (c s n : ℕ) → c + s + suc n + 3 ≡ (s + n + 3) + (c + 1)
        turned c s n = omega arith

    grouped : (c s n l p b o : ℕ) → ((s + n + 3) * l + b + o) + (c + 1) * l + p ≡ ((c + s) + suc n + 3) * l + (p + b) + o
    grouped c s n l p b o = sums c s n l ((s + n + 3) * l) ((c + 1) * l) p b o (split c s n l) refl refl

-- ---- what is held

held_conditions : (held : List (Flat × MadeAt)) (branches : List (FlatExpr × Made)) → AreBranches held branches → capped (sum_by (λ b. b.0.nodes) held) ≡ capped (conditions_of branches)
held_conditions [] [] are = refl
held_conditions [] (b ∷ bs) are = absurd are
held_conditions (h ∷ hs) [] are = absurd are
held_conditions (h ∷ hs) (b ∷ bs) are =
    rw (sum_by-cons (λ (x : Flat × MadeAt). x.0.nodes) h hs, sum_by-cons (λ (x : FlatExpr × Made). node_count x.0) b bs)
    (capped_plus h.0.nodes (node_count b.0) (sum_by (λ x. x.0.nodes) hs) (conditions_of bs) (capped_twice h.0.nodes (node_count b.0) are.0.nodes) (held_conditions hs bs are.2))

bare_nodes : (made : Made) → made.asserts ≡ [] → nodes_of_made made ≡ sum_by nodes_of_equation made.equations
bare_nodes made bare = ap (λ a. sum_by nodes_of_equation made.equations + sum_by nodes_of_assert a) bare ∙ plain (sum_by nodes_of_equation made.equations)
  where
    plain : (n : ℕ) → n + 0 ≡ n
    plain n = omega arith

abbrev Bare : List (FlatExpr × Made) → Type 0
Bare branches = Every (λ (one : FlatExpr × Made). one.1.asserts ≡ []) branches

held_parts : (held : List (Flat × MadeAt)) (branches : List (FlatExpr × Made)) → AreBranches held branches → Bare branches → capped (sum_by (λ b. b.1.nodes) held) ≡ capped (parts_of branches)
held_parts [] [] are bare = refl
held_parts [] (b ∷ bs) are bare = absurd are
held_parts (h ∷ hs) [] are bare = absurd are
held_parts (h ∷ hs) (b ∷ bs) are bare =
    rw (sum_by-cons (λ (x : Flat × MadeAt). x.1.nodes) h hs, sum_by-cons (λ (x : FlatExpr × Made). sum_by nodes_of_equation x.1.equations) b bs)
    (capped_plus h.1.nodes (sum_by nodes_of_equation b.1.equations) (sum_by (λ x. x.1.nodes) hs) (parts_of bs)
    (capped_twice h.1.nodes (nodes_of_made b.1) are.1.nodes ∙ ap capped (bare_nodes b.1 bare.0)) (held_parts hs bs are.2 bare.1))

held_length : (held : List (Flat × MadeAt)) (branches : List (FlatExpr × Made)) → AreBranches held branches → length held ≡ length branches
held_length [] [] are = refl
held_length [] (b ∷ bs) are = absurd are
held_length (h ∷ hs) [] are = absurd are
held_length (h ∷ hs) (b ∷ bs) are = ap suc (held_length hs bs are.2)

-- counts that are equal and not capped are those of the equations
counted : (a b c : ℕ) → a ≡ capped c → b < 2 ^ 64 - 1 → nat_eq a b ≡ true → c ≡ b
counted a b c is small same = let e : a ≡ b = nat_same a b same in omega (arith, is, small, e)
  where
    nat_same : (m n : ℕ) → nat_eq m n ≡ true → m ≡ n
    nat_same m n h = eqb-true m n h

uncounted : (a b c : ℕ) → a ≡ capped c → b < 2 ^ 64 - 1 → nat_eq a b ≡ false → nat_eq c b ≡ false
uncounted a b c is small apart = at (eqb_tells c b)
  where
    at : ((nat_eq c b ≡ true) × (c ≡ b)) ⊎ ((nat_eq c b ≡ false) × (c ≢ b)) → nat_eq c b ≡ false
    at (inl same) = absurd (false≢true (sym apart ∙ eq-eqb a b (capped_so a b c is small same.1)))
      where
        capped_so : (x y z : ℕ) → x ≡ capped z → y < 2 ^ 64 - 1 → z ≡ y → x ≡ y
        capped_so x y z p q r = omega (arith, p, q, r)
    at (inr differ) = differ.0

equal_counts : (held : List (Flat × MadeAt)) (branches : List (FlatExpr × Made)) (count : MadeAt) (other : Made) → AreBranches held branches → count.count ≡ length other.equations →
    count.count < 2 ^ 64 - 1 → counts_are_equal held count ≡ have_equal_counts branches other
equal_counts [] [] count other are is small = refl
equal_counts [] (b ∷ bs) count other are is small = absurd are
equal_counts (h ∷ hs) [] count other are is small = absurd are
equal_counts (h ∷ hs) (b ∷ bs) count other are is small =
    at (equal_counts hs bs count other are.2 is small) (nat_eq h.1.count count.count) refl
  where
    at : counts_are_equal hs count ≡ have_equal_counts bs other → (t : Bool) → nat_eq h.1.count count.count ≡ t → (nat_eq h.1.count count.count && counts_are_equal hs count) ≡ (nat_eq (length b.1.equations) (length other.equations) && have_equal_counts bs other)
    at rest true e =
        let same : length b.1.equations ≡ count.count = counted h.1.count count.count (length b.1.equations) are.1.count small e in
        rw (e, same ∙ is, nat_itself (length other.equations), rest) refl
      where
        nat_itself : (n : ℕ) → nat_eq n n ≡ true
        nat_itself n = eq-eqb n n refl
    at rest false e = rw (e, subst (λ n. nat_eq (length b.1.equations) n ≡ false) is (uncounted h.1.count count.count (length b.1.equations) are.1.count small e)) refl

are_equal : (branches : List (FlatExpr × Made)) (other : Made) → have_equal_counts branches other ≡ true → Equal branches other
are_equal [] other h = tt
are_equal (b ∷ bs) other h =
    let parts = both_true (nat_eq (length b.1.equations) (length other.equations)) (have_equal_counts bs other) h in
    (nat_same (length b.1.equations) (length other.equations) parts.0, are_equal bs other parts.1)
  where
    both_true : (x y : Bool) → (x && y) ≡ true → (x ≡ true) × (y ≡ true)
    both_true true y e = (refl, e)
    both_true false y e = absurd (false≢true e)

    nat_same : (m n : ℕ) → nat_eq m n ≡ true → m ≡ n
    nat_same m n e = eqb-true m n e

-- ---- columns of what is held

built_is : (flat : Flat) (e : FlatExpr) → IsFlat flat e → node_count e ≤ most_nodes → what_is flat.built ≡ Ok e
built_is flat e is small = at flat.built refl
  where
    at : (b : Option FlatExpr) → flat.built ≡ b → what_is flat.built ≡ Ok e
    at (Some u) h = rw (h, is.built u h) refl
    at None h = let above : most_nodes < node_count e = is.past h in absurd (omega (arith, small, above))

kept_is : (held : MadeAt) (made : Made) (k : ℕ) → IsMade held made → nodes_of_made made ≤ most_nodes → difference_at held k ≡ and_then (what_is (slice_get made.equations k)) (λ q. Ok (difference q))
kept_is held made k is small = ap (λ qs. and_then (what_is (slice_get qs k)) (λ q. Ok (difference q))) (is.equations small)

held_columns : (k : ℕ) (held : List (Flat × MadeAt)) (branches : List (FlatExpr × Made)) → AreBranches held branches → Bare branches → conditions_of branches ≤ most_nodes → parts_of branches ≤ most_nodes →
    each (branch_at k) held ≡ each (column k) branches
held_columns k [] [] are bare few small = refl
held_columns k [] (b ∷ bs) are bare few small = absurd are
held_columns k (h ∷ hs) [] are bare few small = absurd are
held_columns k (h ∷ hs) (b ∷ bs) are bare few small =
    let conditions = subst (λ n. n ≤ most_nodes) (sum_by-cons (λ (x : FlatExpr × Made). node_count x.0) b bs) few in
    let parts = subst (λ n. n ≤ most_nodes) (sum_by-cons (λ (x : FlatExpr × Made). sum_by nodes_of_equation x.1.equations) b bs) small in
    let condition : node_count b.0 ≤ most_nodes = first_of (node_count b.0) (conditions_of bs) conditions in
    let first : nodes_of_made b.1 ≤ most_nodes = subst (λ n. n ≤ most_nodes) (sym (bare_nodes b.1 bare.0)) (first_of (sum_by nodes_of_equation b.1.equations) (parts_of bs) parts) in
    let here : branch_at k h ≡ column k b = rw (built_is h.0 b.0 are.0 condition) (ap (λ (o : Outcome FlatExpr). and_then {B = FlatExpr × FlatExpr} o (λ value. Ok (b.0, value))) (kept_is h.1 b.1 k are.1 first) ∙ flat (slice_get b.1.equations k)) in
    ap (λ (o : Outcome (FlatExpr × FlatExpr)). and_then o (λ value. and_then (each (branch_at k) hs) (λ values. Ok (value ∷ values)))) here
    ∙ ap (λ (o : Outcome (List (FlatExpr × FlatExpr))). and_then (column k b) (λ value. and_then o (λ values. Ok (value ∷ values))))
    (held_columns k hs bs are.2 bare.1 (last_of (node_count b.0) (conditions_of bs) conditions) (last_of (sum_by nodes_of_equation b.1.equations) (parts_of bs) parts))
  where
    flat : (o : Option FlatEquation) → and_then {B = FlatExpr × FlatExpr} (and_then (what_is o) (λ q. Ok (difference q))) (λ value. Ok (b.0, value)) ≡ and_then (what_is o) (λ q. Ok (b.0, difference q))
    flat (Some q) = refl
    flat None = refl

    first_of : (x y : ℕ) → x + y ≤ most_nodes → x ≤ most_nodes
    first_of x y h = omega (arith, h)

    last_of : (x y : ℕ) → x + y ≤ most_nodes → y ≤ most_nodes
    last_of x y h = omega (arith, h)

-- ---- the whole

-- What is held, of an if-equation with branches that have equally many equations.
pub record Joins (place : Place) (held : ChoiceAt) (branches : List (FlatExpr × Made)) (other : Made) : Type 0 where
  pub are : AreBranches held.branches branches
  pub others : IsMade held.other other
  pub bare : Bare branches
  pub bare_other : other.asserts ≡ []
  pub small : held.other.count < 2 ^ 64 - 1
  pub equal : counts_are_equal held.branches held.other ≡ true

module _ (place : Place) (held : ChoiceAt) (branches : List (FlatExpr × Made)) (other : Made) (joins : Joins place held branches other) where
  abbrev joined : List Joined
  joined = joined_branches branches other

  count_is : held.other.count ≡ length other.equations
  count_is = exactly held.other.count (length other.equations) joins.others.count joins.small
    where
      exactly : (a c : ℕ) → a ≡ capped c → a < 2 ^ 64 - 1 → a ≡ c
      exactly a c h small = omega (arith, h, small)

  have_equal : have_equal_counts branches other ≡ true
  have_equal = sym (equal_counts held.branches branches held.other other joins.are count_is joins.small) ∙ joins.equal

  how_many : length joined ≡ length other.equations
  how_many = length_joined branches other (are_equal branches other have_equal)

  total : sum_by nodes_of_equation (map (joined_equation place) joined)
      ≡ (conditions_of branches + length branches + 3) * length other.equations + parts_of branches + sum_by nodes_of_equation other.equations
  total = summed nodes_of_equation nodes_in (joined_equation place) (nodes_of_joined place) joined ∙ nodes_of_all branches other (are_equal branches other have_equal)

  nodes_are : capped (nodes_joined held.branches held.other) ≡ capped (nodes_of_made (made_equations (map (joined_equation place) joined)))
  nodes_are =
      capped_plus ((sum_by (λ b. b.0.nodes) held.branches + length held.branches + 3) * held.other.count + sum_by (λ b. b.1.nodes) held.branches)
      ((conditions_of branches + length branches + 3) * length other.equations + parts_of branches) held.other.nodes (sum_by nodes_of_equation other.equations)
      (capped_plus ((sum_by (λ b. b.0.nodes) held.branches + length held.branches + 3) * held.other.count) ((conditions_of branches + length branches + 3) * length other.equations)
      (sum_by (λ b. b.1.nodes) held.branches) (parts_of branches)
      (ap (λ c. capped ((sum_by (λ b. b.0.nodes) held.branches + length held.branches + 3) * c)) count_is
      ∙ capped_times (sum_by (λ b. b.0.nodes) held.branches + length held.branches + 3) (conditions_of branches + length branches + 3) (length other.equations)
      (capped_plus (sum_by (λ b. b.0.nodes) held.branches + length held.branches) (conditions_of branches + length branches) 3 3
      (capped_plus (sum_by (λ b. b.0.nodes) held.branches) (conditions_of branches) (length held.branches) (length branches) (held_conditions held.branches branches joins.are)
      (ap capped (held_length held.branches branches joins.are))) refl))
      (held_parts held.branches branches joins.are joins.bare))
      (capped_twice held.other.nodes (nodes_of_made other) joins.others.nodes ∙ ap capped (bare_nodes other joins.bare_other))
      ∙ sym (ap capped (ap (λ n. n + 0) total ∙ plain _))
    where
      plain : (n : ℕ) → n + 0 ≡ n
      plain n = omega arith

  kept : nodes_of_made (made_equations (map (joined_equation place) joined)) ≤ most_nodes → (count : ℕ) → count ≡ length held.other.equations →
      all_joined place held count ≡ Ok (map (joined_equation place) joined)
  kept small count is = at (length other.equations) refl
    where
      within : (conditions_of branches + length branches + 3) * length other.equations + parts_of branches + sum_by nodes_of_equation other.equations ≤ most_nodes
      within = subst (λ n. n ≤ most_nodes) (plain _ ∙ total) small
        where
          plain : (n : ℕ) → n + 0 ≡ n
          plain n = omega arith

      other_small : nodes_of_made other ≤ most_nodes
      other_small = subst (λ n. n ≤ most_nodes) (sym (bare_nodes other joins.bare_other)) (last _ _ within)
        where
          last : (x y : ℕ) → x + y ≤ most_nodes → y ≤ most_nodes
          last x y h = omega (arith, h)

      count_of : count ≡ length other.equations
      count_of = is ∙ ap length (joins.others.equations other_small)

      at : (n : ℕ) → length other.equations ≡ n → all_joined place held count ≡ Ok (map (joined_equation place) joined)
      at zero none =
          ap (all_joined place held) (count_of ∙ none) ∙ ap (λ js. Ok (map (joined_equation place) js)) (sym (empty joined (how_many ∙ none)))
        where
          empty : {A : Type 0} (xs : List A) → length xs ≡ 0 → xs ≡ []
          empty [] h = refl
          empty (x ∷ xs) h = let e : suc (length xs) ≡ 0 = h in absurd (omega (arith, e))
      at (suc n) some =
          ap (all_joined place held) (count_of ∙ sym how_many)
          ∙ by_numbers (joined_at place held) (joined_equation place) joined each_is (length joined) (omega arith)
          ∙ ap (λ js. Ok (map (joined_equation place) js)) (taken_all joined)
        where
          conditions : conditions_of branches ≤ most_nodes
          conditions =
              low (conditions_of branches) (conditions_of branches + length branches + 3) ((conditions_of branches + length branches + 3) * suc n) (parts_of branches) (sum_by nodes_of_equation other.equations)
              (omega arith) (product_above (conditions_of branches + length branches + 3) n)
              (subst (λ m. (conditions_of branches + length branches + 3) * m + parts_of branches + sum_by nodes_of_equation other.equations ≤ most_nodes) some within)
            where
              low : (s x y p q : ℕ) → s ≤ x → x ≤ y → y + p + q ≤ most_nodes → s ≤ most_nodes
              low s x y p q a b c = omega (arith, a, b, c)

          parts : parts_of branches ≤ most_nodes
          parts = middle _ _ _ within
            where
              middle : (x y z : ℕ) → x + y + z ≤ most_nodes → y ≤ most_nodes
              middle x y z h = omega (arith, h)

          each_is : (k : ℕ) (j : Joined) → slice_get joined k ≡ Some j → joined_at place held k ≡ Ok (joined_equation place j)
          each_is k j there =
              let of = columns branches other k j there in
              whole k j (held_columns k held.branches branches joins.are joins.bare conditions parts ∙ of.0) (kept_is held.other other k joins.others other_small ∙ differ of.1.0 of.1.1 of.1.2)
            where
              differ : (q : FlatEquation) → slice_get other.equations k ≡ Some q → j.1 ≡ difference q → and_then (what_is (slice_get other.equations k)) (λ q. Ok (difference q)) ≡ Ok j.1
              differ q at is = rw (at, is) refl

              whole : (k : ℕ) (j : Joined) → each (branch_at k) held.branches ≡ Ok j.0 → difference_at held.other k ≡ Ok j.1 → joined_at place held k ≡ Ok (joined_equation place j)
              whole k j a b = rw (a, b) refl

-- ---- answers

pub joined_made : (place : Place) (held : ChoiceAt) (made : MadeAt) (choice : Choice) → IsChoice held choice → IsBare choice → held.branches ≢ [] → held.other.count < 2 ^ 64 - 1 →
    counts_are_equal held.branches held.other ≡ true → made.count ≡ held.other.count → made.nodes ≡ capped (nodes_joined held.branches held.other) →
    (is_past_nodes made.nodes ≡ false → all_joined place held (length held.other.equations) ≡ Ok made.equations) → made.asserts ≡ [] → made.connects ≡ [] →
    Answers IsMade (Ok made) (made_if place choice)
joined_made place held made ([], other) is bare some small equal count nodes equations asserts connects = absurd (some (none held.branches is.branches))
  where
    none : (hs : List (Flat × MadeAt)) → AreBranches hs [] → hs ≡ []
    none [] are = refl
    none (h ∷ hs) are = absurd are
joined_made place held made (branch ∷ branches, other) is bare some small equal count nodes equations asserts connects =
    let joins : Joins place held (branch ∷ branches) other = record { are = is.branches; others = is.other; bare = bare.0; bare_other = bare.1; small = small; equal = equal } in
    let joined = joined_branches (branch ∷ branches) other in
    let all = map (joined_equation place) joined in
    let nodes_is : made.nodes ≡ capped (nodes_of_made (made_equations all)) = nodes ∙ nodes_are place held (branch ∷ branches) other joins in (
      made_equations all,
      rw (have_equal place held (branch ∷ branches) other joins) refl,
      record {
        count = count ∙ is.other.count ∙ ap capped (sym (length_mapped (joined_equation place) joined ∙ how_many place held (branch ∷ branches) other joins));
        nodes = nodes_is;
        equations = λ few. same_ok _ _ (sym (equations (not_past (low made.nodes (nodes_of_made (made_equations all)) nodes_is few))) ∙ kept place held (branch ∷ branches) other joins few (length held.other.equations) refl);
        asserts = λ few. asserts;
        connects = connects;
      },
    )
  where
    low : (a b : ℕ) → a ≡ capped b → b ≤ most_nodes → a ≤ most_nodes
    low a b h few = omega (arith, h, few)

    not_past : made.nodes ≤ most_nodes → is_past_nodes made.nodes ≡ false
    not_past few = le-ltb most_nodes made.nodes few

    same_ok : (a b : List FlatEquation) → ◌≡◌ {A = Outcome (List FlatEquation)} (Ok a) (Ok b) → a ≡ b
    same_ok a b e = ap held_in e
      where
        held_in : Outcome (List FlatEquation) → List FlatEquation
        held_in (Ok x) = x
        held_in (Err broken) = a

pub joined_unequal : (place : Place) (held : ChoiceAt) (choice : Choice) → IsChoice held choice → held.branches ≢ [] → held.other.count < 2 ^ 64 - 1 → counts_are_equal held.branches held.other ≡ false →
    made_if place choice ≡ breaks BRANCH_COUNTS_DIFFER place
joined_unequal place held ([], other) is some small apart = absurd (some (none held.branches is.branches))
  where
    none : (hs : List (Flat × MadeAt)) → AreBranches hs [] → hs ≡ []
    none [] are = refl
    none (h ∷ hs) are = absurd are
joined_unequal place held (branch ∷ branches, other) is some small apart =
    rw (sym (equal_counts held.branches (branch ∷ branches) held.other other is.branches (exactly held.other.count (length other.equations) is.other.count small) small) ∙ apart) refl
  where
    exactly : (a c : ℕ) → a ≡ capped c → a < 2 ^ 64 - 1 → a ≡ c
    exactly a c h low = omega (arith, h, low)

pub joined_alone : (place : Place) (held : ChoiceAt) (choice : Choice) → IsChoice held choice → held.branches ≡ [] → Answers IsMade (Ok held.other) (made_if place choice)
joined_alone place held ([], other) is none = (other, refl, is.other)
joined_alone place held (branch ∷ branches, other) is none = absurd (subst (λ hs. AreBranches hs (branch ∷ branches)) none is.branches)

pub uncapped : (a n : ℕ) → a ≡ capped n → (a ≡ 18446744073709551615 → ⊥) → a < 2 ^ 64 - 1
uncapped a n is not_greatest = omega (arith, is, not_greatest)
