-- Dummies and states.
use Rattle.std.proofs.Common.{◌≡◌, ℕ, zero, suc, ◌+◌, ◌-◌, ◌<◌, ◌≤◌, inl, inr, Bool, true, false, nat_lt, List, [], ◌∷◌, ◌++◌, length, get_or, map, Contains, refl, ap, ◌∙◌, arith}
use Rattle.std.proofs.lemmas.List.{append-nil}
use Rattle.std.proofs.lemmas.List.Elements.{Contains-append_left, Contains-append_right, Contains-append_cases}
use Rattle.std.proofs.lemmas.Bool.{cases_lt, false≢true}
use Rattle.std.proofs.lemmas.Bool.Decides.{eqb_tells, nat_tests}
use Rattle.mo_incidence.specs.Signature.{Signature, equations, IsSound}
use Rattle.mo_incidence.specs.Assignment.{Assigns, CoversAll}
use Rattle.mo_incidence.specs.Offsets.{IsTight, by_place, by_number}
use Rattle.mo_incidence.proofs.Counting.{onto}
use Rattle.mo_incidence.specs.Dummies.{differentiated, dummy, dummies_to, greatest, dummies_of, is_dummy, states_below, states_to, states_of}
use Rattle.mo_blocks.specs.Stages.{derivatives_below, derivatives_to, kept}
use Rattle.mo_graph.proofs.Members.{at_contains}
use Rattle.mo_incidence.proofs.Owning.{tight_known}

lt_yes : (a b : ℕ) → a < b → nat_lt a b ≡ true
lt_yes a b l = grind (arith, nat_tests)

lt_no : (a b : ℕ) → b ≤ a → nat_lt a b ≡ false
lt_no a b l = grind (arith, nat_tests)

pub kept_append : (c : ℕ → ℕ) (s : ℕ) (xs ys : List ℕ) → kept c s (xs ++ ys) ≡ kept c s xs ++ kept c s ys
kept_append c s [] ys = refl
kept_append c s (x ∷ xs) ys = elim (cases_lt (c x) s) [
  | inl l ↦ rw (lt_yes (c x) s l) (kept_append c s xs ys)
  | inr l ↦ rw (lt_no (c x) s l) (ap (λ (z : List ℕ). x ∷ z) (kept_append c s xs ys))
]

diff_skip : (c : ℕ → ℕ) (s n : ℕ) → c n < s → differentiated c s (suc n) ≡ differentiated c s n
diff_skip c s n l = rw (lt_yes (c n) s l) refl

diff_take : (c : ℕ → ℕ) (s n : ℕ) → s ≤ c n → differentiated c s (suc n) ≡ differentiated c s n ++ n ∷ []
diff_take c s n l = rw (lt_no (c n) s l) refl

kept_one : (c : ℕ → ℕ) (s n : ℕ) → s ≤ c n → kept c s (n ∷ []) ≡ n ∷ []
kept_one c s n l = rw (lt_no (c n) s l) refl

kept_other : (c : ℕ → ℕ) (s n : ℕ) → c n < s → kept c s (n ∷ []) ≡ []
kept_other c s n l = rw (lt_yes (c n) s l) refl

pub kept_differentiated : (c : ℕ → ℕ) (s m : ℕ) → kept c (s + 1) (differentiated c s m) ≡ differentiated c (s + 1) m
kept_differentiated c s zero = refl
kept_differentiated c s (suc n) = elim (cases_lt (c n) s) [
  | inl l ↦ rw (diff_skip c s n l, diff_skip c (s + 1) n (omega arith)) (kept_differentiated c s n)
  | inr l ↦
      let rest = kept_differentiated c s n in
      rw (diff_take c s n l, kept_append c (s + 1) (differentiated c s n) (n ∷ []), rest) (elim (cases_lt (c n) (s + 1)) [
        | inl h ↦ rw (diff_skip c (s + 1) n h, kept_other c (s + 1) n h) (append-nil (differentiated c (s + 1) n))
        | inr h ↦ rw (diff_take c (s + 1) n h, kept_one c (s + 1) n h) refl
      ])
]

one_only : (n x : ℕ) → Contains (n ∷ []) x → n ≡ x
one_only n x (zero, l, e) = e
one_only n x (suc k, l, e) = absurd (omega arith)

pub diff_only : (c : ℕ → ℕ) (s m x : ℕ) → Contains (differentiated c s m) x → (x < m) × (s ≤ c x)
diff_only c s zero x = λ h. absurd (omega (arith, h.1))
diff_only c s (suc n) x = elim (cases_lt (c n) s) [
  | inl l ↦ rw (diff_skip c s n l) (λ h. let there = diff_only c s n x h in (omega (arith, there.0), there.1))
  | inr l ↦ rw (diff_take c s n l) (λ h. elim (Contains-append_cases (differentiated c s n) (n ∷ []) x h) [
    | inl old ↦ let there = diff_only c s n x old in (omega (arith, there.0), there.1)
    | inr new ↦ let same : n ≡ x = one_only n x new in rw (← same) (omega arith, l)
  ])
]

pub diff_all : (c : ℕ → ℕ) (s m x : ℕ) → x < m → s ≤ c x → Contains (differentiated c s m) x
diff_all c s zero x l = λ high. absurd (omega arith)
diff_all c s (suc n) x l = λ high. elim (eqb_tells x n) [
  | inl e ↦
      let here : s ≤ c n = rw (← e.1) high in
      rw (diff_take c s n here, e.1) (Contains-append_right (differentiated c s n) (n ∷ []) n (0, omega arith, refl))
  | inr e ↦
      let there = diff_all c s n x (omega (arith, e.1)) high in
      elim (cases_lt (c n) s) [
        | inl h ↦ rw (diff_skip c s n h) there
        | inr h ↦ rw (diff_take c s n h) (Contains-append_left (differentiated c s n) (n ∷ []) x there)
      ]
]

-- the greatest number
pub greatest_above : (c : ℕ → ℕ) (n i : ℕ) → i < n → c i ≤ greatest c n
greatest_above c zero i l = absurd (omega arith)
greatest_above c (suc n) i l = elim (cases_lt (greatest c n) (c n)) [
  | inl h ↦ rw (lt_yes (greatest c n) (c n) h) (elim (eqb_tells i n) [
    | inl e ↦ rw e.1 (omega arith)
    | inr e ↦ let there = greatest_above c n i (omega (arith, e.1)) in omega arith
  ])
  | inr h ↦ rw (lt_no (greatest c n) (c n) h) (elim (eqb_tells i n) [
    | inl e ↦ rw e.1 (omega arith)
    | inr e ↦ greatest_above c n i (omega (arith, e.1))
  ])
]

pub greatest_there : (c : ℕ → ℕ) (n : ℕ) → 0 < greatest c n → (i : ℕ) × (i < n) × (c i ≡ greatest c n)
greatest_there c zero = λ some. absurd (omega arith)
greatest_there c (suc n) = elim (cases_lt (greatest c n) (c n)) [
  | inl h ↦ rw (lt_yes (greatest c n) (c n) h) (λ some. (n, omega arith, refl))
  | inr h ↦ rw (lt_no (greatest c n) (c n) h) (λ some. let there = greatest_there c n some in (there.0, omega (arith, there.1), there.2))
]

first_contained : (xs : List ℕ) → 0 < length xs → Contains xs (get_or xs 0 0)
first_contained [] l = absurd (omega arith)
first_contained (x ∷ xs) l = (0, omega arith, refl)

-- a list of the equations that are differentiated at least s times is empty exactly where s is too high
pub stage_low : (c : ℕ → ℕ) (s m : ℕ) → 0 < length (differentiated c s m) → s ≤ greatest c m
stage_low c s m some =
    let first : Contains (differentiated c s m) (get_or (differentiated c s m) 0 0) = first_contained (differentiated c s m) some in
    let known = diff_only c s m (get_or (differentiated c s m) 0 0) first in
    let above = greatest_above c m (get_or (differentiated c s m) 0 0) known.0 in
    omega arith

pub stage_over : (c : ℕ → ℕ) (done m : ℕ) → length (differentiated c (done + 1) m) ≡ 0 → greatest c m ≤ done
stage_over c done m none = elim (cases_lt done (greatest c m)) [
  | inr l ↦ l
  | inl l ↦
      let at = greatest_there c m (omega arith) in
      let there = diff_all c (done + 1) m at.0 at.1 (omega (arith, at.2)) in
      absurd (omega (arith, there.1))
]

diff_empty : (c : ℕ → ℕ) (s m : ℕ) → greatest c m < s → differentiated c s m ≡ []
diff_empty c s zero l = refl
diff_empty c s (suc n) l =
    let here = greatest_above c (suc n) n (omega arith) in
    let below : greatest c n ≤ greatest c (suc n) = elim (cases_lt 0 (greatest c n)) [
      | inl h ↦ let at = greatest_there c n h in omega (arith, at.2, greatest_above c (suc n) at.0 (omega (arith, at.1)))
      | inr h ↦ omega arith
    ] in
    diff_skip c s n (omega arith) ∙ diff_empty c s n (omega arith)

-- past the greatest stage there are no more dummies
pub dummies_over : (c d t : ℕ → ℕ) (m s : ℕ) → greatest c m ≤ s → dummies_to c d t m s ≡ dummies_of c d t m
dummies_over c d t m zero l = let same : 0 ≡ greatest c m = omega arith in ap (dummies_to c d t m) same
dummies_over c d t m (suc s) l = elim (eqb_tells (suc s) (greatest c m)) [
  | inl e ↦ ap (dummies_to c d t m) e.1
  | inr e ↦
      let low : greatest c m ≤ s = omega (arith, e.1) in
      let none = diff_empty c (suc s) m (omega arith) in
      let step : dummies_to c d t m (suc s) ≡ dummies_to c d t m s = rw none (append-nil (dummies_to c d t m s)) in
      step ∙ dummies_over c d t m s low
]

contains_map : {X Y : Type 0} (f : X → Y) (xs : List X) (x : X) → Contains xs x → Contains (map f xs) (f x)
contains_map f [] x (k, l, e) = absurd (omega arith)
contains_map f (y ∷ ys) x (zero, l, e) = (0, omega arith, ap f e)
contains_map f (y ∷ ys) x (suc k, l, e) = let there = contains_map f ys x (k, omega arith, e) in (suc there.0, omega (arith, there.1), there.2)

map_contains : {X Y : Type 0} (f : X → Y) (xs : List X) (y : Y) → Contains (map f xs) y → (x : X) × Contains xs x × (f x ≡ y)
map_contains f [] y (k, l, e) = absurd (omega arith)
map_contains f (x ∷ xs) y (zero, l, e) = (x, (0, omega arith, refl), e)
map_contains f (x ∷ xs) y (suc k, l, e) = let there = map_contains f xs y (k, omega arith, e) in (there.0, (suc there.1.0, omega (arith, there.1.1), there.1.2), there.2)

pub dummies_only : (c d t : ℕ → ℕ) (m s : ℕ) (x : ℕ × ℕ × ℕ × ℕ) → Contains (dummies_to c d t m s) x
    → (i : ℕ) × (r : ℕ) × (i < m) × (0 < r) × (r ≤ s) × (r ≤ c i) × (dummy d t r i ≡ x)
dummies_only c d t m zero x h = absurd (omega (arith, h.1))
dummies_only c d t m (suc s) x h = elim (Contains-append_cases (dummies_to c d t m s) (map (dummy d t (suc s)) (differentiated c (suc s) m)) x h) [
  | inl old ↦ let there = dummies_only c d t m s x old in (there.0, there.1, there.2, there.3, omega (arith, there.4), there.5, there.6)
  | inr new ↦
      let there = map_contains (dummy d t (suc s)) (differentiated c (suc s) m) x new in
      let known = diff_only c (suc s) m there.0 there.1 in
      (there.0, suc s, known.0, omega arith, omega arith, known.1, there.2)
]

pub dummies_all : (c d t : ℕ → ℕ) (m s i r : ℕ) → i < m → 0 < r → r ≤ s → r ≤ c i → Contains (dummies_to c d t m s) (dummy d t r i)
dummies_all c d t m zero i r l some le high = absurd (omega arith)
dummies_all c d t m (suc s) i r l some le high = elim (eqb_tells r (suc s)) [
  | inl e ↦ rw e.1 (Contains-append_right (dummies_to c d t m s) (map (dummy d t (suc s)) (differentiated c (suc s) m)) (dummy d t (suc s) i)
      (contains_map (dummy d t (suc s)) (differentiated c (suc s) m) i (diff_all c (suc s) m i l (rw (← e.1) high))))
  | inr e ↦ Contains-append_left (dummies_to c d t m s) (map (dummy d t (suc s)) (differentiated c (suc s) m)) (dummy d t r i)
      (dummies_all c d t m s i r l some (omega (arith, e.1)) high)
]

is_dummy_from : (xs : List (ℕ × ℕ × ℕ × ℕ)) (j k : ℕ) (x : ℕ × ℕ × ℕ × ℕ) → Contains xs x → x.0 ≡ j → x.1 ≡ k → is_dummy xs j k ≡ true
is_dummy_from [] j k x (n, l, e) a b = absurd (omega arith)
is_dummy_from (y ∷ ys) j k x (zero, l, e) a b =
    let first : y.0 ≡ j = ap (λ (z : ℕ × ℕ × ℕ × ℕ). z.0) e ∙ a in
    let second : y.1 ≡ k = ap (λ (z : ℕ × ℕ × ℕ × ℕ). z.1) e ∙ b in
    grind (arith, nat_tests, first, second)
is_dummy_from (y ∷ ys) j k x (suc n, l, e) a b =
    let rest = is_dummy_from ys j k x (n, omega arith, e) a b in
    grind (arith, nat_tests, rest)

from_is_dummy : (xs : List (ℕ × ℕ × ℕ × ℕ)) (j k : ℕ) → is_dummy xs j k ≡ true → (x : ℕ × ℕ × ℕ × ℕ) × Contains xs x × (x.0 ≡ j) × (x.1 ≡ k)
from_is_dummy [] j k = λ e. absurd (false≢true e)
from_is_dummy (y ∷ ys) j k = elim (eqb_tells y.0 j) [
  | inl a ↦ elim (eqb_tells y.1 k) [
    | inl b ↦ λ e. (y, (0, omega arith, refl), a.1, b.1)
    | inr b ↦ rw (a.0, b.0) (λ e. let there = from_is_dummy ys j k e in (there.0, (suc there.1.0, omega (arith, there.1.1), there.1.2), there.2, there.3))
  ]
  | inr a ↦ rw a.0 (λ e. let there = from_is_dummy ys j k e in (there.0, (suc there.1.0, omega (arith, there.1.1), there.1.2), there.2, there.3))
]

not_true : (b : Bool) → (b ≡ true → ⊥) → b ≡ false
not_true true h = absurd (h refl)
not_true false h = refl

-- of one unknown, the derivatives from d - h + 1 to d are dummies
module _ (c d t : ℕ → ℕ) (m j i : ℕ) (il : i < m) (is : t i ≡ j) (only : (x : ℕ) → x < m → t x ≡ j → x ≡ i) (low : c i ≤ d j) where
  dummy_yes : (k : ℕ) → d j - c i ≤ k → k < d j → is_dummy (dummies_of c d t m) j (suc k) ≡ true
  dummy_yes k le l =
      let high : d j - k ≤ c i = omega arith in
      let above = greatest_above c m i il in
      let there = dummies_all c d t m (greatest c m) i (d j - k) il (omega arith) (omega arith) high in
      let order : d (t i) - (d j - k) + 1 ≡ suc k = rw is (omega arith) in
      is_dummy_from (dummies_of c d t m) j (suc k) (dummy d t (d j - k) i) there is order

  dummy_no : (k : ℕ) → k < d j - c i → is_dummy (dummies_of c d t m) j (suc k) ≡ false
  dummy_no k l = not_true (is_dummy (dummies_of c d t m) j (suc k)) (λ e.
      let x = from_is_dummy (dummies_of c d t m) j (suc k) e in
      let at = dummies_only c d t m (greatest c m) x.0 x.1 in
      let unknown : t at.0 ≡ j = ap (λ (z : ℕ × ℕ × ℕ × ℕ). z.0) at.6 ∙ x.2 in
      let order : d (t at.0) - at.1 + 1 ≡ suc k = ap (λ (z : ℕ × ℕ × ℕ × ℕ). z.1) at.6 ∙ x.3 in
      let order' : d j - at.1 + 1 ≡ suc k = rw unknown at order in
      let same : at.0 ≡ i = only at.0 at.2 unknown in
      let high : at.1 ≤ c i = rw same at at.5 in
      omega arith)

  below_free : (k : ℕ) → k ≤ d j - c i → states_below (dummies_of c d t m) j k ≡ derivatives_below j k
  below_free zero l = refl
  below_free (suc k) l = rw (dummy_no k (omega arith)) (ap (λ (z : List (ℕ × ℕ)). z ++ (j, k) ∷ []) (below_free k (omega arith)))

  below_rest : (n : ℕ) → d j - c i + n ≤ d j → states_below (dummies_of c d t m) j (d j - c i + n) ≡ derivatives_below j (d j - c i)
  below_rest zero l = let none : d j - c i + 0 ≡ d j - c i = omega arith in rw none (below_free (d j - c i) (omega arith))
  below_rest (suc n) l =
      let next : d j - c i + suc n ≡ suc (d j - c i + n) = omega arith in
      rw (next, dummy_yes (d j - c i + n) (omega arith) (omega arith)) (below_rest n (omega arith))

  pub states_of_one : states_below (dummies_of c d t m) j (d j) ≡ derivatives_below j (d j - c i)
  states_of_one = let all : d j - c i + c i ≡ d j = omega arith in let there = below_rest (c i) (omega arith) in rw all at there

-- the states of all unknowns
pub states_are : (c d t : ℕ → ℕ) (m : ℕ) (count : ℕ → ℕ) (n : ℕ)
    → ((u : ℕ) → u < n → (i : ℕ) × (i < m) × (t i ≡ suc u) × ((x : ℕ) → x < m → t x ≡ suc u → x ≡ i) × (c i ≤ d (suc u)) × (count u ≡ d (suc u) - c i))
    → derivatives_to count n ≡ states_to (dummies_of c d t m) d n
states_are c d t m count zero each = refl
states_are c d t m count (suc n) each =
    let rest = states_are c d t m count n (λ u l. each u (omega arith)) in
    let at = each n (omega arith) in
    let here = states_of_one c d t m (suc n) at.0 at.1 at.2 at.3 at.4 in
    rw (rest, at.5, here) refl

-- a listed place is that of an equation that is differentiated so often
pub at_diff : (c : ℕ → ℕ) (s m : ℕ) (xs : List ℕ) → xs ≡ differentiated c s m → (k : ℕ) → k < length xs → (get_or xs k 0 < m) × (s ≤ c (get_or xs k 0))
at_diff c s m xs e k l = diff_only c s m (get_or xs k 0) (rw (← e) (at_contains xs (get_or xs k 0) k l refl))

-- the unknown of an equation that is differentiated r times has derivative r
pub tight_low : (g : Signature) (c d : ℕ → ℕ) (i j : ℕ) → IsTight g c d i j → c i ≤ d j
unfolding IsTight
tight_low g c d i j tight = omega (arith, tight.3)

pub stage_next : (c d t : ℕ → ℕ) (m s : ℕ) (chosen new : List (ℕ × ℕ × ℕ × ℕ)) (xs : List ℕ) → chosen ≡ dummies_to c d t m s → xs ≡ differentiated c (s + 1) m
    → new ≡ chosen ++ map (dummy d t (s + 1)) xs → new ≡ dummies_to c d t m (s + 1)
stage_next c d t m s chosen new xs e f step = let next : s + 1 ≡ suc s = omega arith in rw (step, e, f, next) refl

pub keep_next : (c : ℕ → ℕ) (s m : ℕ) (xs ys : List ℕ) → xs ≡ differentiated c s m → ys ≡ kept c (s + 1) xs → ys ≡ differentiated c (s + 1) m
keep_next c s m xs ys e f = rw (f, e) (kept_differentiated c s m)

-- in a square system each unknown has its equation
pub has_equation : (g : Signature) (c d t : ℕ → ℕ) → IsSound g → equations g ≡ g.unknowns → Assigns (IsTight g c d) (equations g) t → CoversAll g t
    → (u : ℕ) → u < g.unknowns → (i : ℕ) × (i < equations g) × (t i ≡ suc u) × ((x : ℕ) → x < equations g → t x ≡ suc u → x ≡ i) × (c i ≤ d (suc u))
has_equation g c d t sound square assigns all u l =
    let known : (i : ℕ) → i < equations g → (0 < t i) × (t i ≤ g.unknowns) = λ i il. tight_known g c d i (t i) sound il (assigns.allowed i il (all i il)) in
    let there = onto (λ _. 1) (λ i. t i - 1) (equations g)
    (λ i il some. let at = known i il in (omega arith, omega arith))
    (λ i k il kl some some' same. let at = known i il in let at' = known k kl in assigns.apart i k il kl (all i il) (omega arith))
    u (omega arith) (omega arith) in
    let at = known there.0 there.1 in
    let is : t there.0 ≡ suc u = omega (arith, there.3) in (
      there.0,
      there.1,
      is,
      λ x xl same. assigns.apart x there.0 xl there.1 (all x xl) (omega (arith, same, is)),
      rw is at (tight_low g c d there.0 (t there.0) (assigns.allowed there.0 there.1 (all there.0 there.1))),
    )

pub falls_below : (top done : ℕ) → done + 1 ≤ top → top - (done + 1) < top - done
falls_below top done l = omega arith

-- how many derivatives of each unknown are states, by its depth
pub states_by_depth : (g : Signature) (c d t : ℕ → ℕ) (depth : ℕ → ℕ) → IsSound g → equations g ≡ g.unknowns → Assigns (IsTight g c d) (equations g) t → CoversAll g t
    → ((i : ℕ) → i < equations g → depth (t i) ≡ c i)
    → ((u : ℕ) → u < g.unknowns → depth (suc u) ≤ d (suc u)) × (derivatives_to (λ u. d (suc u) - depth (suc u)) g.unknowns ≡ states_of c d t (equations g) g.unknowns)
states_by_depth g c d t depth sound square assigns all depths = (
  λ u l.
      let at = has_equation g c d t sound square assigns all u l in
      let is : depth (suc u) ≡ c at.0 = rw at.2 at (depths at.0 at.1) in
      omega (arith, at.4),
  states_are c d t (equations g) (λ u. d (suc u) - depth (suc u)) g.unknowns (λ u l.
      let at = has_equation g c d t sound square assigns all u l in
      let is : depth (suc u) ≡ c at.0 = rw at.2 at (depths at.0 at.1) in
      (at.0, at.1, at.2, at.3, at.4, ap (λ (z : ℕ). d (suc u) - z) is)),
)

derivatives_same : (f h : ℕ → ℕ) (n : ℕ) → ((u : ℕ) → f u ≡ h u) → derivatives_to f n ≡ derivatives_to h n
derivatives_same f h zero same = refl
derivatives_same f h (suc n) same = rw (derivatives_same f h n same, same n) refl

-- the same through lists
module _ (g : Signature) (c d pairs depth c' pairs' d' depth' : List ℕ) (sound : IsSound g) (square : equations g ≡ g.unknowns) (size : length d ≡ g.unknowns)
    (assigns : Assigns (IsTight g (by_place c) (by_number d)) (equations g) (by_place pairs)) (all : CoversAll g (by_place pairs))
    (depths : (i : ℕ) → i < equations g → by_number depth (get_or pairs' i 0) ≡ get_or c' i 0)
    (c_is : c' ≡ c) (p_is : pairs' ≡ pairs) (d_is : d' ≡ d) (e_is : depth' ≡ depth) where
  both : ((u : ℕ) → u < g.unknowns → by_number depth (suc u) ≤ by_number d (suc u))
      × (derivatives_to (λ u. by_number d (suc u) - by_number depth (suc u)) g.unknowns ≡ states_of (by_place c) (by_number d) (by_place pairs) (equations g) g.unknowns)
  both = states_by_depth g (by_place c) (by_number d) (by_place pairs) (by_number depth) sound square assigns all (λ i l. rw (← c_is, ← p_is) (depths i l))

  pub depth_low : (u : ℕ) → u < length d' → get_or depth' u 0 ≤ get_or d' u 0
  depth_low u l =
      let inside : u < g.unknowns = rw (d_is, size) at l in
      let back : suc u - 1 ≡ u = omega arith in
      let low : get_or depth u 0 ≤ get_or d u 0 = rw back at (both.0 u inside) in
      rw (d_is, e_is) low

  pub states_there : (states : List (ℕ × ℕ)) → states ≡ derivatives_to (λ u. get_or d' u 0 - get_or depth' u 0) (length d') → states ≡ states_of (by_place c) (by_number d) (by_place pairs) (equations g) g.unknowns
  states_there states is =
      let same : derivatives_to (λ u. get_or d u 0 - get_or depth u 0) g.unknowns ≡ derivatives_to (λ u. by_number d (suc u) - by_number depth (suc u)) g.unknowns =
      derivatives_same (λ (u : ℕ). get_or d u 0 - get_or depth u 0) (λ (u : ℕ). by_number d (suc u) - by_number depth (suc u)) g.unknowns (λ u. let back : suc u - 1 ≡ u = omega arith in rw back refl) in
      let here : states ≡ derivatives_to (λ u. get_or d u 0 - get_or depth u 0) g.unknowns = rw (d_is, e_is, size) at is in
      here ∙ same ∙ both.1
