-- Two selections of one system say the same, whatever equations the chosen unknowns get.
use Rattle.std.proofs.Common.{◌≡◌, ℕ, zero, suc, ◌+◌, ◌-◌, ◌<◌, ◌≤◌, ◌==◌, ◌&&◌, ◌||◌, inl, inr, Bool, false, List, [], ◌∷◌, ◌++◌, length, get_or, map, refl, sym, ap, ◌∙◌, arith}
use Rattle.std.proofs.lemmas.List.{map-append}
use Rattle.std.proofs.lemmas.Bool.Decides.{eqb_tells}
use Rattle.mo_graph.specs.Counting.{sign}
use Rattle.mo_graph.specs.Lists.{ListsWhere}
use Rattle.mo_graph.proofs.Counting.{sign_zero, sign_some, sum_same}
use Rattle.mo_graph.proofs.Unique.{same_ascending}
use Rattle.mo_incidence.specs.Signature.{Signature, equations}
use Rattle.mo_incidence.specs.Dummies.{differentiated, is_dummy, states_below, states_to}
use Rattle.mo_select.specs.declared.selection.Stage.{Stage}
use Rattle.mo_select.specs.declared.selection.Selection.{Selection}
use Rattle.mo_select.specs.Selection.{below_level, levels, members, chosen_of, IsStage, no_stage, candidates_at, AreStages, dummies_from, IsSelection, SelectSame}
use Rattle.mo_select.specs.steps.Staging.{StandsAt}
use Rattle.mo_select.proofs.Orders.{below_level_at, below_level_all, stands_later}

-- ---- lists

same_listed : (P : ℕ → Type 0) (n : ℕ) (xs ys : List ℕ) → ListsWhere P n xs → ListsWhere P n ys → xs ≡ ys
same_listed P n xs ys a b = same_ascending xs ys a.ascending b.ascending
    (λ z has. let known = a.only z has in b.all z known.0 known.1 known.2)
    (λ z has. let known = b.only z has in a.all z known.0 known.1 known.2)

-- lists of one length with the same items
items_same : {A : Type 0} (d : A) (xs ys : List A) → length xs ≡ length ys → ((n : ℕ) → n < length xs → get_or xs n d ≡ get_or ys n d) → xs ≡ ys
items_same d [] [] size same = refl
items_same d [] (y ∷ ys) size same = absurd (omega arith)
items_same d (x ∷ xs) [] size same = absurd (omega arith)
items_same d (x ∷ xs) (y ∷ ys) size same =
    let first : x ≡ y = same 0 (omega arith) in
    let rest = items_same d xs ys (omega arith) (λ n l. same (suc n) (omega arith)) in
    rw (first, rest) refl

-- ---- the chosen unknowns

chosen_same : (active : List ℕ) (r q : ℕ → ℕ) (js : List ℕ) → ((j : ℕ) → StandsAt js j → sign (r j) ≡ sign (q j)) → map (λ x. x.0) (chosen_of active r js) ≡ map (λ x. x.0) (chosen_of active q js)
chosen_same active r q [] agree = refl
chosen_same active r q (j ∷ js) agree =
    let here : sign (r j) ≡ sign (q j) = agree j (0, omega arith, refl) in
    let rest = chosen_same active r q js (λ i there. agree i (stands_later j i js there)) in
    elim (eqb_tells (r j) 0) [
      | inl e ↦ elim (eqb_tells (q j) 0) [
        | inl f ↦ rw (e.0, f.0) rest
        | inr f ↦ absurd (let x = sign_zero (r j) e.1 in let y = sign_some (q j) f.1 in omega arith)
      ]
      | inr e ↦ elim (eqb_tells (q j) 0) [
        | inl f ↦ absurd (let x = sign_some (r j) e.1 in let y = sign_zero (q j) f.1 in omega arith)
        | inr f ↦ rw (e.0, f.0) (ap (λ (z : List ℕ). j ∷ z) rest)
      ]
    ]

module _ (g : Signature) (c d level : ℕ → ℕ) (active candidates : List ℕ) (low : (j : ℕ) → level j < levels) (s t : Stage)
    (a : IsStage g c d level active candidates s) (b : IsStage g c d level active candidates t) where
  abbrev order : List ℕ
  order = below_level level levels candidates

  members_same : (n : ℕ) → n ≤ length order → members order a.by n ≡ members order b.by n
  members_same n l =
      let le = a.preferred.most n l b.by b.preferred.choice.assigns in
      let ge = b.preferred.most n l a.by a.preferred.choice.assigns in
      omega arith

  placed_same : (k : ℕ) → k < length order → sign (a.by (get_or order k 0)) ≡ sign (b.by (get_or order k 0))
  placed_same k l =
      let here = members_same k (omega arith) in
      let next : sign (a.by (get_or order k 0)) + members order a.by k ≡ sign (b.by (get_or order k 0)) + members order b.by k = members_same (suc k) (omega arith) in
      omega arith

  agree : (j : ℕ) → StandsAt candidates j → sign (a.by j) ≡ sign (b.by j)
  agree j there =
      let at = below_level_all level levels candidates there.0 there.1 (low (get_or candidates there.0 0)) in
      let same = placed_same at.0 at.1 in
      rw (at.2, there.2) at same

  unknowns_same : map (λ x. x.0) s.chosen ≡ map (λ x. x.0) t.chosen
  unknowns_same = rw (a.chosen, b.chosen) (chosen_same active a.by b.by candidates agree)

  count_same : (n : ℕ) → n < levels → get_or s.counts n 0 ≡ get_or t.counts n 0
  count_same n l =
      let within = below_level level (suc n) candidates in
      let same : members within a.by (length within) ≡ members within b.by (length within) =
      sum_same (λ i. sign (a.by (get_or within i 0))) (λ i. sign (b.by (get_or within i 0))) (length within)
      (λ i il. let at = below_level_at level (suc n) candidates i il in agree (get_or within i 0) (at.2.0, at.2.1, at.2.2)) in
      (a.each n l).chosen ∙ same ∙ sym (b.each n l).chosen

  left_same : (n : ℕ) → n < levels → get_or s.without n [] ≡ get_or t.without n []
  left_same n l =
      let x = (a.each n l).without in
      let y = (b.each n l).without in
      x.numbers ∙ ap (map (λ (x : ℕ). suc (get_or active (x - 1) 0))) (same_listed _ _ _ _ x.left_out y.left_out) ∙ sym y.numbers

  counts_same : s.counts ≡ t.counts
  counts_same = items_same 0 s.counts t.counts (a.counts_all ∙ sym b.counts_all) (λ n l. count_same n (omega (arith, a.counts_all)))

  without_same : s.without ≡ t.without
  without_same = items_same [] s.without t.without (a.without_all ∙ sym b.without_all) (λ n l. left_same n (omega (arith, a.without_all)))

-- ---- the states

abbrev heads : List (ℕ × ℕ × ℕ × ℕ) → List (ℕ × ℕ)
heads xs = map (λ x. (x.0, x.1)) xs

abbrev is_head : List (ℕ × ℕ) → ℕ → ℕ → Bool
is_head [] j k = false
is_head (x ∷ xs) j k = (x.0 == j && x.1 == k) || is_head xs j k

by_heads : (xs : List (ℕ × ℕ × ℕ × ℕ)) (j k : ℕ) → is_dummy xs j k ≡ is_head (heads xs) j k
by_heads [] j k = refl
by_heads (x ∷ xs) j k = ap (λ (b : Bool). (x.0 == j && x.1 == k) || b) (by_heads xs j k)

heads_at : (d : ℕ → ℕ) (s : ℕ) (chosen : List (ℕ × ℕ)) → heads (map (λ x. (x.0, d x.0 - s + 1, s, x.1)) chosen) ≡ map (λ j. (j, d j - s + 1)) (map (λ x. x.0) chosen)
heads_at d s [] = refl
heads_at d s (x ∷ xs) = ap (λ (z : List (ℕ × ℕ)). (x.0, d x.0 - s + 1) ∷ z) (heads_at d s xs)

appended : (a b x y : List (ℕ × ℕ)) → a ≡ b → x ≡ y → a ++ x ≡ b ++ y
appended a b x y e f = rw (e, f) refl

heads_of : (d : ℕ → ℕ) (s : ℕ) (x : Stage) (xs : List Stage)
    → heads (dummies_from d s (x ∷ xs)) ≡ map (λ j. (j, d j - s + 1)) (map (λ z. z.0) x.chosen) ++ heads (dummies_from d (suc s) xs)
heads_of d s x xs =
    map-append (λ (z : ℕ × ℕ × ℕ × ℕ). (z.0, z.1)) (map (λ z. (z.0, d z.0 - s + 1, s, z.1)) x.chosen) (dummies_from d (suc s) xs) ∙
    ap (λ (z : List (ℕ × ℕ)). z ++ heads (dummies_from d (suc s) xs)) (heads_at d s x.chosen)

heads_same : (d : ℕ → ℕ) (s : ℕ) (a b : List Stage) → length a ≡ length b
    → ((k : ℕ) → k < length a → map (λ x. x.0) (get_or a k no_stage).chosen ≡ map (λ x. x.0) (get_or b k no_stage).chosen)
    → heads (dummies_from d s a) ≡ heads (dummies_from d s b)
heads_same d s [] [] size same = refl
heads_same d s [] (y ∷ ys) size same = absurd (omega arith)
heads_same d s (x ∷ xs) [] size same = absurd (omega arith)
heads_same d s (x ∷ xs) (y ∷ ys) size same =
    heads_of d s x xs ∙
    appended _ _ _ _ (ap (map (λ (j : ℕ). (j, d j - s + 1))) (same 0 (omega arith))) (heads_same d (suc s) xs ys (omega arith) (λ k l. same (suc k) (omega arith))) ∙
    sym (heads_of d s y ys)

below_same : (xs ys : List (ℕ × ℕ × ℕ × ℕ)) (j : ℕ) → ((k : ℕ) → is_dummy xs j k ≡ is_dummy ys j k) → (n : ℕ) → states_below xs j n ≡ states_below ys j n
below_same xs ys j same zero = refl
below_same xs ys j same (suc n) = rw (same (suc n), below_same xs ys j same n) refl

states_same : (xs ys : List (ℕ × ℕ × ℕ × ℕ)) (d : ℕ → ℕ) → ((j k : ℕ) → is_dummy xs j k ≡ is_dummy ys j k) → (n : ℕ) → states_to xs d n ≡ states_to ys d n
states_same xs ys d same zero = refl
states_same xs ys d same (suc n) = rw (states_same xs ys d same n, below_same xs ys (suc n) (same (suc n)) (d (suc n))) refl

-- ---- the whole

module _ (g : Signature) (c d level : ℕ → ℕ) (low : (j : ℕ) → level j < levels) (a b : List Stage) (x : AreStages g c d level a) (y : AreStages g c d level b) where
  length_same : length a ≡ length b
  length_same = x.all ∙ sym y.all

  candidates_same : (k : ℕ) → k ≤ length a → candidates_at g.unknowns a k ≡ candidates_at g.unknowns b k
  candidates_same zero l = refl
  candidates_same (suc k) l =
      let before = candidates_same k (omega arith) in
      let other : IsStage g c d level (differentiated c (suc k) (equations g)) (candidates_at g.unknowns a k) (get_or b k no_stage) = rw before (y.stage k (omega (arith, length_same))) in
      unknowns_same g c d level (differentiated c (suc k) (equations g)) (candidates_at g.unknowns a k) low (get_or a k no_stage) (get_or b k no_stage) (x.stage k (omega arith)) other

  other_stage : (k : ℕ) → k < length a → IsStage g c d level (differentiated c (suc k) (equations g)) (candidates_at g.unknowns a k) (get_or b k no_stage)
  other_stage k l = rw (candidates_same k (omega arith)) (y.stage k (omega (arith, length_same)))

  dummy_same : (j k : ℕ) → is_dummy (dummies_from d 1 a) j k ≡ is_dummy (dummies_from d 1 b) j k
  dummy_same j k =
      by_heads (dummies_from d 1 a) j k ∙
      ap (λ (z : List (ℕ × ℕ)). is_head z j k) (heads_same d 1 a b length_same (λ k l. candidates_same (suc k) (omega arith))) ∙
      sym (by_heads (dummies_from d 1 b) j k)

pub one_selection_holds : (g : Signature) (c d level : ℕ → ℕ) (a b : Selection) → ((j : ℕ) → level j < levels) → IsSelection g c d level a → IsSelection g c d level b → SelectSame a b
one_selection_holds g c d level a b low x y = record {
  count = length_same g c d level low a.stages b.stages x.stages y.stages;
  chosen = λ k l. candidates_same g c d level low a.stages b.stages x.stages y.stages (suc k) (omega arith);
  counts = λ k l. counts_same g c d level (differentiated c (suc k) (equations g)) (candidates_at g.unknowns a.stages k) low (get_or a.stages k no_stage) (get_or b.stages k no_stage)
      (x.stages.stage k l) (other_stage g c d level low a.stages b.stages x.stages y.stages k l);
  without = λ k l. without_same g c d level (differentiated c (suc k) (equations g)) (candidates_at g.unknowns a.stages k) low (get_or a.stages k no_stage) (get_or b.stages k no_stage)
      (x.stages.stage k l) (other_stage g c d level low a.stages b.stages x.stages y.stages k l);
  states = x.states ∙ states_same (dummies_from d 1 a.stages) (dummies_from d 1 b.stages) d (dummy_same g c d level low a.stages b.stages x.stages y.stages) g.unknowns ∙ sym y.states;
}
