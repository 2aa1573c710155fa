-- How many dummies and states there are.
use Rattle.std.proofs.Common.{◌≡◌, ◌≢◌, ℕ, zero, suc, ◌+◌, ◌-◌, ◌<◌, ◌≤◌, inl, inr, true, false, nat_lt, if◌then◌else◌, List, [], ◌∷◌, length, get_or, map, refl, sym, ap, ◌∙◌, arith, length-append}
use Rattle.std.proofs.lemmas.List.{length-map}
use Rattle.std.proofs.lemmas.Bool.{cases_lt}
use Rattle.std.proofs.lemmas.Bool.Decides.{nat_tests}
use Rattle.mo_graph.specs.Counting.{sum_below, sign, count_below}
use Rattle.mo_graph.proofs.Counting.{sum_same, sum_add, count_injection, count_ones}
use Rattle.mo_incidence.specs.Signature.{Signature, equations, IsSound}
use Rattle.mo_incidence.specs.Offsets.{by_place, sum_unknowns}
use Rattle.mo_incidence.specs.Dummies.{differentiated, dummy, dummies_to, states_to}
use Rattle.mo_blocks.specs.Stages.{derivatives_below, derivatives_to}
use Rattle.mo_blocks.proofs.Counts.{count_dummies}
use Rattle.mo_match.proofs.ListLemmas.{contains_at, at_contains}
use Rattle.mo_select.specs.declared.selection.Stage.{Stage}
use Rattle.mo_select.specs.Selection.{levels, no_stage, candidates_at, dummies_from}
use Rattle.mo_select.specs.steps.Staging.{AreUnknowns, AreWhole}
use Rattle.mo_select.specs.steps.Depths.{unknowns_in, AreDepths}
use Rattle.mo_select.proofs.Holders.{holder, holder_is, holder_some}
use Rattle.mo_select.proofs.Staging.{next_unknowns}
use Rattle.mo_select.proofs.Stages.{stage_size, chosen_known}
use Rattle.mo_select.proofs.Leaving.{made_at, depth_low, states_are}

-- how many unknowns are chosen at the stage with k stages before it
abbrev pub chosen_size : List Stage → ℕ → ℕ
chosen_size stages k = length (get_or stages k no_stage).chosen

sum_cons : (f : ℕ → ℕ) (n : ℕ) → sum_below f (suc n) ≡ f 0 + sum_below (λ i. f (suc i)) n
sum_cons f zero = refl
sum_cons f (suc n) = let rest : sum_below f (suc n) ≡ f 0 + sum_below (λ i. f (suc i)) n = sum_cons f n in omega arith

length_dummies_from : (d : ℕ → ℕ) (s : ℕ) (stages : List Stage) → length (dummies_from d s stages) ≡ sum_below (chosen_size stages) (length stages)
length_dummies_from d s [] = refl
length_dummies_from d s (stage ∷ stages) =
    let rest = length_dummies_from d (suc s) stages in
    let size = length-append (map (made_at d s) stage.chosen) (dummies_from d (suc s) stages) in
    let mapped = length-map stage.chosen (made_at d s) in
    let whole : sum_below (chosen_size (stage ∷ stages)) (suc (length stages)) ≡ length stage.chosen + sum_below (chosen_size stages) (length stages) = sum_cons (chosen_size (stage ∷ stages)) (length stages) in
    omega arith

length_dummies_to : (c d t : ℕ → ℕ) (m s : ℕ) → length (dummies_to c d t m s) ≡ sum_below (λ k. length (differentiated c (suc k) m)) s
length_dummies_to c d t m zero = refl
length_dummies_to c d t m (suc s) =
    let rest : length (dummies_to c d t m s) ≡ sum_below (λ k. length (differentiated c (suc k) m)) s = length_dummies_to c d t m s in
    let size = length-append (dummies_to c d t m s) (map (dummy d t (suc s)) (differentiated c (suc s) m)) in
    let mapped = length-map (differentiated c (suc s) m) (dummy d t (suc s)) in
    omega arith

length_below : (j k : ℕ) → length (derivatives_below j k) ≡ k
length_below j zero = refl
length_below j (suc k) =
    let rest = length_below j k in
    let size = length-append (derivatives_below j k) ((j, k) ∷ []) in
    omega arith

length_to : (count : ℕ → ℕ) (n : ℕ) → length (derivatives_to count n) ≡ sum_below count n
length_to count zero = refl
length_to count (suc n) =
    let rest = length_to count n in
    let here = length_below (suc n) (count n) in
    let size = length-append (derivatives_to count n) (derivatives_below (suc n) (count n)) in
    omega arith

-- the smaller of two numbers, and 1 where the second is greater
at_most : ℕ → ℕ → ℕ
at_most s x = if nat_lt s x then s else x

over : ℕ → ℕ → ℕ
over s x = if nat_lt s x then 1 else 0

over_cases : (s x : ℕ) → at_most (suc s) x ≡ at_most s x + sign (over s x)
unfolding at_most over
over_cases s x = elim (cases_lt s x) [
  | inl l ↦
      let yes : nat_lt s x ≡ true = grind (arith, nat_tests) in
      elim (cases_lt (suc s) x) [
        | inl h ↦ let yes' : nat_lt (suc s) x ≡ true = grind (arith, nat_tests) in rw (yes, yes') (omega arith)
        | inr h ↦ let past : nat_lt (suc s) x ≡ false = grind (arith, nat_tests) in rw (yes, past) (omega arith)
      ]
  | inr l ↦
      let past : nat_lt s x ≡ false = grind (arith, nat_tests) in
      let past' : nat_lt (suc s) x ≡ false = grind (arith, nat_tests) in
      rw (past, past') (omega arith)
]

at_none : (x : ℕ) → at_most 0 x ≡ 0
unfolding at_most
at_none x = elim (cases_lt 0 x) [
  | inl l ↦ let yes : nat_lt 0 x ≡ true = grind (arith, nat_tests) in rw yes refl
  | inr l ↦ let past : nat_lt 0 x ≡ false = grind (arith, nat_tests) in rw past (omega arith)
]

at_all : (s x : ℕ) → x ≤ s → at_most s x ≡ x
unfolding at_most
at_all s x l = let past : nat_lt s x ≡ false = grind (arith, nat_tests) in rw past refl

over_some : (s x : ℕ) → s < x → over s x ≢ 0
unfolding over
over_some s x l = let yes : nat_lt s x ≡ true = grind (arith, nat_tests) in rw yes (omega arith)

over_less : (s x : ℕ) → over s x ≢ 0 → s < x
unfolding over
over_less s x some = elim (cases_lt s x) [
  | inl l ↦ l
  | inr l ↦ let past : nat_lt s x ≡ false = grind (arith, nat_tests) in absurd (some (rw past refl))
]

sum_zero : (f : ℕ → ℕ) (n : ℕ) → ((i : ℕ) → f i ≡ 0) → sum_below f n ≡ 0
sum_zero f zero none = refl
sum_zero f (suc n) none = let rest = sum_zero f n none in let here = none n in omega arith

module _ (g : Signature) (c d level : ℕ → ℕ) (stages : List Stage) (sound : IsSound g) (low : (j : ℕ) → level j < levels) (whole : AreWhole g c d level stages) where
  sizes : sum_below (chosen_size stages) (length stages) ≡ sum_below (λ k. length (differentiated c (suc k) (equations g))) (length stages)
  sizes = sum_same (chosen_size stages) (λ k. length (differentiated c (suc k) (equations g))) (length stages) (λ k l. stage_size g c d level stages sound low whole k l)

  chosen_sum : sum_below (chosen_size stages) (length stages) ≡ sum_below c (equations g)
  chosen_sum =
      let all = whole.stages_are.all in
      let to : length (dummies_to c d (λ _. 0) (equations g) (length stages)) ≡ sum_below (λ k. length (differentiated c (suc k) (equations g))) (length stages) = length_dummies_to c d (λ _. 0) (equations g) (length stages) in
      let count = count_dummies c d (λ _. 0) (equations g) in
      let same : length (dummies_to c d (λ _. 0) (equations g) (length stages)) ≡ sum_below c (equations g) = rw all count in
      omega (arith, sizes)

  pub dummies_count : length (dummies_from d 1 stages) ≡ sum_below c (equations g)
  dummies_count = length_dummies_from d 1 stages ∙ chosen_sum

  module _ (depth : List ℕ) (depths : AreDepths stages g.unknowns (length stages) depth) where
    level_count : (k : ℕ) → k < length stages → count_below (λ u. over k (get_or depth u 0)) g.unknowns ≡ chosen_size stages k
    level_count k l =
        let xs = unknowns_in (get_or stages k no_stage).chosen in
        let size : length (unknowns_in (get_or stages k no_stage).chosen) ≡ chosen_size stages k = length-map (get_or stages k no_stage).chosen (λ (x : ℕ × ℕ). x.0) in
        let unknowns : AreUnknowns g.unknowns (unknowns_in (get_or stages k no_stage).chosen) =
        next_unknowns g c d level (differentiated c (suc k) (equations g)) (candidates_at g.unknowns stages k) (whole.known k l) (get_or stages k no_stage) (whole.stages_are.stage k l) in
        let at : (u : ℕ) → u < g.unknowns → over k (get_or depth u 0) ≢ 0 → (holder (by_place xs) (length xs) (suc u) - 1 < length xs) × (get_or xs (holder (by_place xs) (length xs) (suc u) - 1) 0 ≡ suc u) =
        λ u ul some.
        let there = contains_at xs (suc u) (depths.chosen k u l ul (over_less k (get_or depth u 0) some)) in
        holder_is (by_place xs) (length xs) (suc u) (holder_some (by_place xs) (length xs) (suc u) there.0 there.1 there.2) in
        let few : count_below (λ u. over k (get_or depth u 0)) g.unknowns ≤ count_below (λ _. 1) (length xs) =
        count_injection (λ u. over k (get_or depth u 0)) (λ _. 1) (λ u. holder (by_place xs) (length xs) (suc u) - 1) g.unknowns (length xs)
        (λ u ul some. ((at u ul some).0, omega arith))
        (λ u v ul vl su sv same. let e : suc u ≡ suc v = sym (at u ul su).1 ∙ ap (by_place xs) same ∙ (at v vl sv).1 in omega arith) in
        let many : count_below (λ _. 1) (length xs) ≤ count_below (λ u. over k (get_or depth u 0)) g.unknowns =
        count_injection (λ _. 1) (λ u. over k (get_or depth u 0)) (λ t. get_or xs t 0 - 1) (length xs) g.unknowns
        (λ t tl some.
        let known = unknowns.known t tl in
        let is : suc (get_or xs t 0 - 1) ≡ get_or xs t 0 = omega (arith, known.0) in
        (omega (arith, known.0, known.1), over_some k (get_or depth (get_or xs t 0 - 1) 0) (depths.unchosen k (get_or xs t 0 - 1) l (omega (arith, known.0, known.1)) (rw is (at_contains xs (get_or xs t 0) t tl refl)))))
        (λ t u tl ul st su same.
        let known = unknowns.known t tl in
        let known' = unknowns.known u ul in
        unknowns.apart t u tl ul (omega (arith, known.0, known'.0))) in
        omega (arith, count_ones (length xs))

    level_sum : (k : ℕ) → k ≤ length stages → sum_below (λ u. at_most k (get_or depth u 0)) g.unknowns ≡ sum_below (chosen_size stages) k
    level_sum zero le = sum_zero (λ u. at_most 0 (get_or depth u 0)) g.unknowns (λ u. at_none (get_or depth u 0))
    level_sum (suc k) le =
        let rest : sum_below (λ u. at_most k (get_or depth u 0)) g.unknowns ≡ sum_below (chosen_size stages) k = level_sum k (omega arith) in
        let split : sum_below (λ u. at_most (suc k) (get_or depth u 0)) g.unknowns ≡ sum_below (λ u. at_most k (get_or depth u 0) + sign (over k (get_or depth u 0))) g.unknowns =
        sum_same (λ u. at_most (suc k) (get_or depth u 0)) (λ u. at_most k (get_or depth u 0) + sign (over k (get_or depth u 0))) g.unknowns (λ u ul. over_cases k (get_or depth u 0)) in
        let both : sum_below (λ u. at_most k (get_or depth u 0) + sign (over k (get_or depth u 0))) g.unknowns ≡ sum_below (λ u. at_most k (get_or depth u 0)) g.unknowns + count_below (λ u. over k (get_or depth u 0)) g.unknowns =
        sum_add (λ u. at_most k (get_or depth u 0)) (λ u. sign (over k (get_or depth u 0))) g.unknowns in
        omega (arith, level_count k (omega arith))

    depth_sum : sum_below (λ u. get_or depth u 0) g.unknowns ≡ sum_below c (equations g)
    depth_sum =
        let same : sum_below (λ u. at_most (length stages) (get_or depth u 0)) g.unknowns ≡ sum_below (λ u. get_or depth u 0) g.unknowns =
        sum_same (λ u. at_most (length stages) (get_or depth u 0)) (λ u. get_or depth u 0) g.unknowns (λ u ul. at_all (length stages) (get_or depth u 0) (depths.low u)) in
        omega (arith, level_sum (length stages) (omega arith), chosen_sum)

    sum_over : sum_unknowns g d ≡ sum_below (λ u. d (u + 1)) g.unknowns
    unfolding sum_unknowns
    sum_over = refl

    pub states_count : length (derivatives_to (λ u. d (suc u) - get_or depth u 0) g.unknowns) + sum_below c (equations g) ≡ sum_unknowns g d
    states_count =
        let size : length (derivatives_to (λ u. d (suc u) - get_or depth u 0) g.unknowns) ≡ sum_below (λ u. d (suc u) - get_or depth u 0) g.unknowns = length_to (λ u. d (suc u) - get_or depth u 0) g.unknowns in
        let added : sum_below (λ u. d (suc u) - get_or depth u 0 + get_or depth u 0) g.unknowns ≡ sum_below (λ u. d (suc u) - get_or depth u 0) g.unknowns + sum_below (λ u. get_or depth u 0) g.unknowns =
        sum_add (λ u. d (suc u) - get_or depth u 0) (λ u. get_or depth u 0) g.unknowns in
        let whole_sum : sum_below (λ u. d (suc u) - get_or depth u 0 + get_or depth u 0) g.unknowns ≡ sum_below (λ u. d (u + 1)) g.unknowns =
        sum_same (λ u. d (suc u) - get_or depth u 0 + get_or depth u 0) (λ u. d (u + 1)) g.unknowns
        (λ u ul.
        let next : u + 1 ≡ suc u = omega arith in
        let deep = depth_low d stages g.unknowns depth depths (chosen_known g c d level stages sound low whole) u ul in
        rw next (omega arith)) in
        omega (arith, depth_sum, sum_over)

    pub states_whole : length (states_to (dummies_from d 1 stages) d g.unknowns) + sum_below c (equations g) ≡ sum_unknowns g d
    states_whole = rw (← states_are d stages g.unknowns depth depths (chosen_known g c d level stages sound low whole) g.unknowns (omega arith)) states_count
