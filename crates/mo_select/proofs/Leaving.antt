-- The states that nested stages leave.
use Rattle.std.proofs.Common.{◌≡◌, ℕ, zero, suc, ◌+◌, ◌-◌, ◌<◌, ◌≤◌, inl, inr, Bool, true, false, List, [], ◌∷◌, ◌++◌, Contains, length, get_or, map, refl, ap, ◌∙◌, arith}
use Rattle.std.proofs.lemmas.List.Elements.{Contains-append_left, Contains-append_right, Contains-append_cases}
use Rattle.std.proofs.lemmas.Bool.{false≢true}
use Rattle.std.proofs.lemmas.Bool.Decides.{eqb_tells, nat_tests}
use Rattle.mo_incidence.specs.Offsets.{by_number}
use Rattle.mo_incidence.specs.Dummies.{is_dummy, states_below, states_to}
use Rattle.mo_blocks.specs.Stages.{derivatives_below, derivatives_to}
use Rattle.mo_select.specs.declared.selection.Stage.{Stage}
use Rattle.mo_select.specs.Selection.{no_stage, dummies_from}
use Rattle.mo_select.specs.steps.Depths.{unknowns_in, AreDepths}

is_dummy_from : (xs : List (ℕ × ℕ × ℕ × ℕ)) (j k : ℕ) (x : ℕ × ℕ × ℕ × ℕ) → Contains xs x → x.0 ≡ j → x.1 ≡ k → is_dummy xs j k ≡ true
is_dummy_from [] j k x (n, l, e) a b = absurd (omega arith)
is_dummy_from (y ∷ ys) j k x (zero, l, e) a b =
    let first : y.0 ≡ j = ap (λ (z : ℕ × ℕ × ℕ × ℕ). z.0) e ∙ a in
    let second : y.1 ≡ k = ap (λ (z : ℕ × ℕ × ℕ × ℕ). z.1) e ∙ b in
    grind (arith, nat_tests, first, second)
is_dummy_from (y ∷ ys) j k x (suc n, l, e) a b =
    let rest = is_dummy_from ys j k x (n, omega arith, e) a b in
    grind (arith, nat_tests, rest)

from_is_dummy : (xs : List (ℕ × ℕ × ℕ × ℕ)) (j k : ℕ) → is_dummy xs j k ≡ true → (x : ℕ × ℕ × ℕ × ℕ) × Contains xs x × (x.0 ≡ j) × (x.1 ≡ k)
from_is_dummy [] j k = λ e. absurd (false≢true e)
from_is_dummy (y ∷ ys) j k = elim (eqb_tells y.0 j) [
  | inl a ↦ elim (eqb_tells y.1 k) [
    | inl b ↦ λ e. (y, (0, omega arith, refl), a.1, b.1)
    | inr b ↦ rw (a.0, b.0) (λ e. let there = from_is_dummy ys j k e in (there.0, (suc there.1.0, omega (arith, there.1.1), there.1.2), there.2, there.3))
  ]
  | inr a ↦ rw a.0 (λ e. let there = from_is_dummy ys j k e in (there.0, (suc there.1.0, omega (arith, there.1.1), there.1.2), there.2, there.3))
]

not_true : (b : Bool) → (b ≡ true → ⊥) → b ≡ false
not_true true h = absurd (h refl)
not_true false h = refl

contains_map : {X Y : Type 0} (f : X → Y) (xs : List X) (x : X) → Contains xs x → Contains (map f xs) (f x)
contains_map f [] x (k, l, e) = absurd (omega arith)
contains_map f (y ∷ ys) x (zero, l, e) = (0, omega arith, ap f e)
contains_map f (y ∷ ys) x (suc k, l, e) = let there = contains_map f ys x (k, omega arith, e) in (suc there.0, omega (arith, there.1), there.2)

map_contains : {X Y : Type 0} (f : X → Y) (xs : List X) (y : Y) → Contains (map f xs) y → (x : X) × Contains xs x × (f x ≡ y)
map_contains f [] y (k, l, e) = absurd (omega arith)
map_contains f (x ∷ xs) y (zero, l, e) = (x, (0, omega arith, refl), e)
map_contains f (x ∷ xs) y (suc k, l, e) = let there = map_contains f xs y (k, omega arith, e) in (there.0, (suc there.1.0, omega (arith, there.1.1), there.1.2), there.2)

-- the dummy of a chosen unknown at stage s
abbrev pub made_at : (ℕ → ℕ) → ℕ → ℕ × ℕ → ℕ × ℕ × ℕ × ℕ
made_at d s x = (x.0, d x.0 - s + 1, s, x.1)

dummies_has : (d : ℕ → ℕ) (s : ℕ) (stages : List Stage) (k : ℕ) (x : ℕ × ℕ) → k < length stages → Contains (get_or stages k no_stage).chosen x → Contains (dummies_from d s stages) (made_at d (s + k) x)
dummies_has d s [] k x l = absurd (omega arith)
dummies_has d s (stage ∷ stages) zero x l = λ there.
    let same : s + zero ≡ s = omega arith in
    rw same (Contains-append_left (map (made_at d s) stage.chosen) (dummies_from d (suc s) stages) (made_at d s x) (contains_map (made_at d s) stage.chosen x there))
dummies_has d s (stage ∷ stages) (suc k) x l = λ there.
    let next : s + suc k ≡ suc s + k = omega arith in
    rw next (Contains-append_right (map (made_at d s) stage.chosen) (dummies_from d (suc s) stages) (made_at d (suc s + k) x) (dummies_has d (suc s) stages k x (omega arith) there))

dummies_only : (d : ℕ → ℕ) (s : ℕ) (stages : List Stage) (y : ℕ × ℕ × ℕ × ℕ) → Contains (dummies_from d s stages) y
    → (k : ℕ) × (x : ℕ × ℕ) × (k < length stages) × Contains (get_or stages k no_stage).chosen x × (made_at d (s + k) x ≡ y)
dummies_only d s [] y = λ there. absurd (omega (arith, there.1))
dummies_only d s (stage ∷ stages) y = λ there. elim (Contains-append_cases (map (made_at d s) stage.chosen) (dummies_from d (suc s) stages) y there) [
  | inl here ↦
      let at = map_contains (made_at d s) stage.chosen y here in
      let same : s + 0 ≡ s = omega arith in
      (0, at.0, omega arith, at.1, rw same at.2)
  | inr later ↦
      let at = dummies_only d (suc s) stages y later in
      let next : s + suc at.0 ≡ suc s + at.0 = omega arith in
      (suc at.0, at.1, omega (arith, at.2), at.3, rw next at.4)
]

module _ (d : ℕ → ℕ) (stages : List Stage) (n : ℕ) (depth : List ℕ) (depths : AreDepths stages n (length stages) depth)
    (known : (k j : ℕ) → k < length stages → Contains (unknowns_in (get_or stages k no_stage).chosen) j → (0 < j) × (j ≤ n) × (k < d j)) where
  pub depth_low : (u : ℕ) → u < n → get_or depth u 0 ≤ d (suc u)
  depth_low u l = elim (eqb_tells (get_or depth u 0) 0) [
    | inl e ↦ omega (arith, e.1)
    | inr e ↦
        let top = depths.low u in
        let there = depths.chosen (get_or depth u 0 - 1) u (omega (arith, e.1)) l (omega (arith, e.1)) in
        let at = known (get_or depth u 0 - 1) (suc u) (omega (arith, e.1)) there in
        omega (arith, at.2, e.1)
  ]

  module _ (u : ℕ) (l : u < n) where
    dummy_yes : (k : ℕ) → d (suc u) - get_or depth u 0 ≤ k → k < d (suc u) → is_dummy (dummies_from d 1 stages) (suc u) (suc k) ≡ true
    dummy_yes k le kl =
        let low = depth_low u l in
        let top = depths.low u in
        let high : d (suc u) - suc k < get_or depth u 0 = omega arith in
        let there = depths.chosen (d (suc u) - suc k) u (omega arith) l high in
        let at = map_contains (λ (x : ℕ × ℕ). x.0) (get_or stages (d (suc u) - suc k) no_stage).chosen (suc u) there in
        let has = dummies_has d 1 stages (d (suc u) - suc k) at.0 (omega arith) at.1 in
        let order : d at.0.0 - (1 + (d (suc u) - suc k)) + 1 ≡ suc k = rw at.2 (omega arith) in
        is_dummy_from (dummies_from d 1 stages) (suc u) (suc k) (made_at d (1 + (d (suc u) - suc k)) at.0) has at.2 order

    dummy_no : (k : ℕ) → k < d (suc u) - get_or depth u 0 → is_dummy (dummies_from d 1 stages) (suc u) (suc k) ≡ false
    dummy_no k kl = not_true (is_dummy (dummies_from d 1 stages) (suc u) (suc k)) (λ e.
        let y = from_is_dummy (dummies_from d 1 stages) (suc u) (suc k) e in
        let at = dummies_only d 1 stages y.0 y.1 in
        let unknown : at.1.0 ≡ suc u = ap (λ (z : ℕ × ℕ × ℕ × ℕ). z.0) at.4 ∙ y.2 in
        let order : d at.1.0 - (1 + at.0) + 1 ≡ suc k = ap (λ (z : ℕ × ℕ × ℕ × ℕ). z.1) at.4 ∙ y.3 in
        let order' : d (suc u) - (1 + at.0) + 1 ≡ suc k = rw unknown at order in
        let chosen : Contains (unknowns_in (get_or stages at.0 no_stage).chosen) (suc u) = rw unknown at (contains_map (λ (x : ℕ × ℕ). x.0) (get_or stages at.0 no_stage).chosen at.1 at.3) in
        let deep = depths.unchosen at.0 u at.2 l chosen in
        let high = known at.0 (suc u) at.2 chosen in
        omega (arith, deep, high.2))

    below_free : (k : ℕ) → k ≤ d (suc u) - get_or depth u 0 → states_below (dummies_from d 1 stages) (suc u) k ≡ derivatives_below (suc u) k
    below_free zero le = refl
    below_free (suc k) le = rw (dummy_no k (omega arith)) (ap (λ (z : List (ℕ × ℕ)). z ++ (suc u, k) ∷ []) (below_free k (omega arith)))

    below_rest : (more : ℕ) → d (suc u) - get_or depth u 0 + more ≤ d (suc u)
        → states_below (dummies_from d 1 stages) (suc u) (d (suc u) - get_or depth u 0 + more) ≡ derivatives_below (suc u) (d (suc u) - get_or depth u 0)
    below_rest zero le = let none : d (suc u) - get_or depth u 0 + 0 ≡ d (suc u) - get_or depth u 0 = omega arith in rw none (below_free (d (suc u) - get_or depth u 0) (omega arith))
    below_rest (suc more) le =
        let next : d (suc u) - get_or depth u 0 + suc more ≡ suc (d (suc u) - get_or depth u 0 + more) = omega arith in
        rw (next, dummy_yes (d (suc u) - get_or depth u 0 + more) (omega arith) (omega arith)) (below_rest more (omega arith))

    states_of_one : states_below (dummies_from d 1 stages) (suc u) (d (suc u)) ≡ derivatives_below (suc u) (d (suc u) - get_or depth u 0)
    states_of_one =
        let low = depth_low u l in
        let all : d (suc u) - get_or depth u 0 + get_or depth u 0 ≡ d (suc u) = omega arith in
        let there = below_rest (get_or depth u 0) (omega arith) in
        rw all at there

  pub states_are : (upto : ℕ) → upto ≤ n → derivatives_to (λ u. d (suc u) - get_or depth u 0) upto ≡ states_to (dummies_from d 1 stages) d upto
  states_are zero le = refl
  states_are (suc upto) le = rw (states_are upto (omega arith), states_of_one upto (omega arith)) refl

derivatives_same : (f h : ℕ → ℕ) (n : ℕ) → ((u : ℕ) → f u ≡ h u) → derivatives_to f n ≡ derivatives_to h n
derivatives_same f h zero same = refl
derivatives_same f h (suc n) same = rw (derivatives_same f h n same, same n) refl

-- the same through lists
module _ (ds depth : List ℕ) (stages : List Stage) (depths : AreDepths stages (length ds) (length stages) depth)
    (known : (k j : ℕ) → k < length stages → Contains (unknowns_in (get_or stages k no_stage).chosen) j → (0 < j) × (j ≤ length ds) × (k < get_or ds (j - 1) 0)) where
  pub listed_low : (u : ℕ) → u < length ds → get_or depth u 0 ≤ get_or ds u 0
  listed_low u l =
      let back : suc u - 1 ≡ u = omega arith in
      let low : get_or depth u 0 ≤ get_or ds (suc u - 1) 0 = depth_low (by_number ds) stages (length ds) depth depths known u l in
      rw back at low

  pub listed_states : (states : List (ℕ × ℕ)) → states ≡ derivatives_to (λ u. get_or ds u 0 - get_or depth u 0) (length ds)
      → states ≡ states_to (dummies_from (by_number ds) 1 stages) (by_number ds) (length ds)
  listed_states states is =
      is ∙ derivatives_same (λ (u : ℕ). get_or ds u 0 - get_or depth u 0) (λ (u : ℕ). by_number ds (suc u) - get_or depth u 0) (length ds) (λ u. let back : suc u - 1 ≡ u = omega arith in rw back refl)
      ∙ states_are (by_number ds) stages (length ds) depth depths known (length ds) (omega arith)
