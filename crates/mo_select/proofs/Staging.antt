-- A stage, and what it leaves to the next one.
use Rattle.std.proofs.Common.{◌≡◌, ◌≢◌, ℕ, zero, suc, ◌+◌, ◌-◌, ◌<◌, ◌≤◌, inl, inr, List, [], ◌∷◌, ◌++◌, length, get_or, take, map, refl, sym, ap, ◌∙◌, arith, length-append}
use Rattle.std.proofs.Math.ListN.{get_or-append}
use Rattle.std.proofs.Math.Seq.{get_or-append_seam}
use Rattle.std.proofs.lemmas.Bool.Decides.{eqb_tells}
use Rattle.mo_graph.specs.Counting.{sign, count_below}
use Rattle.mo_graph.proofs.Counting.{sign_zero, sign_some, count_injection, count_ones}
use Rattle.mo_graph.proofs.Chains.{below_next}
use Rattle.mo_incidence.specs.Signature.{Signature}
use Rattle.mo_incidence.specs.Assignment.{Assigns}
use Rattle.mo_incidence.specs.Offsets.{by_place, IsTight}
use Rattle.mo_incidence.specs.steps.Needing.{AreOwners}
use Rattle.mo_select.specs.declared.selection.Stage.{Stage}
use Rattle.mo_select.specs.Selection.{IsChoice, below_level, levels, chosen_of, IsStage}
use Rattle.mo_select.specs.steps.Staging.{taken, AreApart, StandsAt, AreUnknowns, CanAssign, IsGreedyChoice, IsLeft, AreEvidence, IsMade}
use Rattle.mo_select.proofs.Holders.{holder, holder_is, holder_some, name_before, name_some}
use Rattle.mo_select.proofs.Orders.{below_level_at, below_level_apart, below_level_all, below_level_take, below_level_length, apart_cons, apart_rest, stands_later}
use Rattle.mo_select.proofs.Choosing.{by_preferred, by_level}

-- ---- the evidence of one level more

pub evidence_none : (g : Signature) (c d : ℕ → ℕ) (active order ends pairs : List ℕ) → AreEvidence g c d active order ends pairs 0 [] []
evidence_none g c d active order ends pairs = record {
  counts_all = refl;
  without_all = refl;
  count = λ n l. absurd (omega arith);
  left = λ n l. absurd (omega arith);
}

pub evidence_next : (g : Signature) (c d : ℕ → ℕ) (active order ends pairs : List ℕ) (upto : ℕ) (counts : List ℕ) (without : List (List ℕ)) (count : ℕ) (left : List ℕ)
    → AreEvidence g c d active order ends pairs upto counts without → count ≡ count_below (by_place pairs) (get_or ends upto 0)
    → IsLeft g c d active (take (get_or ends upto 0) order) left → AreEvidence g c d active order ends pairs (upto + 1) (counts ++ count ∷ []) (without ++ left ∷ [])
evidence_next g c d active order ends pairs upto counts without count left to is here =
    let size = length-append counts (count ∷ []) in
    let size' = length-append without (left ∷ []) in
    record {
      counts_all = omega (arith, to.counts_all);
      without_all = omega (arith, to.without_all);
      count = λ n l. elim (below_next n upto l) [
        | inl h ↦ get_or-append counts (count ∷ []) 0 n (omega (arith, to.counts_all)) ∙ to.count n h
        | inr e ↦ rw (e, ← to.counts_all) (get_or-append_seam counts count [] 0 ∙ rw to.counts_all is)
      ];
      left = λ n l. elim (below_next n upto l) [
        | inl h ↦ rw (get_or-append without (left ∷ []) [] n (omega (arith, to.without_all))) (to.left n h)
        | inr e ↦
            let there : get_or (without ++ left ∷ []) upto [] ≡ left = rw (← to.without_all) (get_or-append_seam without left [] []) in
            rw (e, there) here
      ];
    }

-- ---- a stage

module _ (g : Signature) (c d level : ℕ → ℕ) (active candidates : List ℕ) (unknowns : AreUnknowns g.unknowns candidates) where
  abbrev pub ordered : List ℕ
  ordered = below_level level levels candidates

  pub ordered_known : (t : ℕ) → t < length ordered → (0 < get_or ordered t 0) × (get_or ordered t 0 ≤ g.unknowns)
  ordered_known t l =
      let there = below_level_at level levels candidates t l in
      let at = unknowns.known there.2.0 there.2.1 in
      rw there.2.2 at at

  pub ordered_some : (t : ℕ) → t < length ordered → get_or ordered t 0 ≢ 0
  ordered_some t l = let at = ordered_known t l in omega (arith, at.0)

  pub ordered_apart : AreApart ordered
  ordered_apart = below_level_apart level levels candidates unknowns.apart

  pub order_known : (order : List ℕ) → order ≡ below_level level levels candidates → (t : ℕ) → t < length order → (0 < get_or order t 0) × (get_or order t 0 ≤ g.unknowns)
  order_known order is = rw is ordered_known

  pub order_apart : (order : List ℕ) → order ≡ below_level level levels candidates → AreApart order
  order_apart order is = rw is ordered_apart

  pub ends_low : (order ends : List ℕ) → order ≡ below_level level levels candidates → length ends ≡ levels
      → ((n : ℕ) → n < levels → get_or ends n 0 ≡ length (below_level level (suc n) candidates)) → (n : ℕ) → n < length ends → get_or ends n 0 ≤ length order
  ends_low order ends is count ends_are n l =
      let at = ends_are n (omega arith) in
      let shorter = below_level_length level candidates (suc n) levels (omega arith) in
      rw is (omega arith)

  pub ordered_all : ((j : ℕ) → level j < levels) → (j : ℕ) → StandsAt candidates j → StandsAt ordered j
  ordered_all low j there = let at = below_level_all level levels candidates there.0 there.1 (low (get_or candidates there.0 0)) in rw there.2 at at

  module _ (order ends rank : List ℕ) (stage : Stage) (order_is : order ≡ ordered) (ranks : AreOwners (length order) (by_place order) rank)
      (count : length ends ≡ levels) (ends_are : (n : ℕ) → n < levels → get_or ends n 0 ≡ length (below_level level (suc n) candidates))
      (low : (j : ℕ) → level j < levels) (can : CanAssign g c d active candidates) (made : IsMade g c d active candidates order ends rank stage) where
    pub stage_made : IsStage g c d level active candidates stage
    stage_made =
        let ranks' : AreOwners (length ordered) (by_place ordered) rank = rw order_is at ranks in
        let greedy : IsGreedyChoice g c d active ordered made.pairs = rw order_is at made.greedy in
        let evidence : AreEvidence g c d active ordered ends made.pairs (length ends) stage.counts stage.without = rw order_is at made.evidence in
        let full : Assigns (λ e j. StandsAt ordered j × IsTight g c d (get_or active e 0) j) (length active) can.by = record {
          allowed = λ e l some. let at = can.assigns.allowed e l some in (ordered_all low (can.by e) at.0, at.1);
          apart = can.assigns.apart;
        } in
        record {
          by = taken rank made.pairs;
          preferred = by_preferred g c d active ordered rank made.pairs ranks' greedy can.by full can.covers ordered_some ordered_apart;
          chosen = made.chosen;
          counts_all = evidence.counts_all ∙ count;
          without_all = evidence.without_all ∙ count;
          each = λ n l.
              let inside : n < length ends = omega arith in
              let end = ends_are n l in
              let within = below_level level (suc n) candidates in
              let shorter = below_level_length level candidates (suc n) levels (omega arith) in
              let first = below_level_take level candidates (suc n) levels (omega arith) in
              let counted : get_or stage.counts n 0 ≡ count_below (by_place made.pairs) (length within) = rw end at (evidence.count n inside) in
              let left' : IsLeft g c d active (take (length within) ordered) (get_or stage.without n []) = rw end at (evidence.left n inside) in
              let left : IsLeft g c d active within (get_or stage.without n []) = rw first at left' in
              by_level g c d active ordered rank made.pairs ranks' greedy within shorter first ordered_some ordered_apart (get_or stage.counts n 0) (get_or stage.without n []) counted left;
        }

-- ---- the chosen unknowns

pub chosen_has : (active : List ℕ) (r : ℕ → ℕ) (js : List ℕ) (j : ℕ) → StandsAt js j → r j ≢ 0 → StandsAt (map (λ x. x.0) (chosen_of active r js)) j
chosen_has active r [] j there some = absurd (omega (arith, there.1))
chosen_has active r (i ∷ js) j (zero, l, is) some = elim (eqb_tells (r i) 0) [
  | inl e ↦ absurd (some (ap r (sym is) ∙ e.1))
  | inr e ↦ rw e.0 (0, omega arith, is)
]
chosen_has active r (i ∷ js) j (suc k, l, is) some =
    let there = chosen_has active r js j (k, omega arith, is) some in
    elim (eqb_tells (r i) 0) [
      | inl e ↦ rw e.0 there
      | inr e ↦ rw e.0 (suc there.0, omega (arith, there.1), there.2)
    ]

chosen_first : (active : List ℕ) (r : ℕ → ℕ) (i : ℕ) (js : List ℕ) (j : ℕ) → r i ≢ 0 → (StandsAt (map (λ x. x.0) (chosen_of active r js)) j → StandsAt js j × (r j ≢ 0))
    → StandsAt (i ∷ map (λ x. x.0) (chosen_of active r js)) j → StandsAt (i ∷ js) j × (r j ≢ 0)
chosen_first active r i js j some rest (zero, l, is) = ((0, omega arith, is), rw is at some)
chosen_first active r i js j some rest (suc k, l, is) = let at = rest (k, omega arith, is) in (stands_later i j js at.0, at.1)

pub chosen_only : (active : List ℕ) (r : ℕ → ℕ) (js : List ℕ) (j : ℕ) → StandsAt (map (λ x. x.0) (chosen_of active r js)) j → StandsAt js j × (r j ≢ 0)
chosen_only active r [] j = λ there. absurd (omega (arith, there.1))
chosen_only active r (i ∷ js) j = elim (eqb_tells (r i) 0) [
  | inl e ↦ rw e.0 (λ there. let at = chosen_only active r js j there in (stands_later i j js at.0, at.1))
  | inr e ↦ rw e.0 (chosen_first active r i js j e.1 (chosen_only active r js j))
]

pub chosen_apart : (active : List ℕ) (r : ℕ → ℕ) (js : List ℕ) → AreApart js → AreApart (map (λ x. x.0) (chosen_of active r js))
chosen_apart active r [] apart = λ t u tl ul same. absurd (omega arith)
chosen_apart active r (i ∷ js) apart = elim (eqb_tells (r i) 0) [
  | inl e ↦ rw e.0 (chosen_apart active r js (apart_rest i js apart))
  | inr e ↦ rw e.0 (apart_cons i (map (λ x. x.0) (chosen_of active r js)) (chosen_apart active r js (apart_rest i js apart))
      (λ k l same.
      let there = chosen_only active r js i (k, l, same) in
      let first = apart 0 (suc there.0.0) (omega arith) (omega (arith, there.0.1)) (sym there.0.2) in
      absurd (omega arith)))
]

pub count_cons : (f : ℕ → ℕ) (n : ℕ) → count_below f (suc n) ≡ sign (f 0) + count_below (λ i. f (suc i)) n
count_cons f zero = refl
count_cons f (suc n) = let rest : count_below f (suc n) ≡ sign (f 0) + count_below (λ i. f (suc i)) n = count_cons f n in omega arith

pub length_chosen : (active : List ℕ) (r : ℕ → ℕ) (js : List ℕ) → length (chosen_of active r js) ≡ count_below (λ a. r (get_or js a 0)) (length js)
length_chosen active r [] = refl
length_chosen active r (i ∷ js) =
    let rest = length_chosen active r js in
    let whole : count_below (λ a. r (get_or (i ∷ js) a 0)) (suc (length js)) ≡ sign (r i) + count_below (λ a. r (get_or js a 0)) (length js) = count_cons (λ a. r (get_or (i ∷ js) a 0)) (length js) in
    elim (eqb_tells (r i) 0) [
      | inl e ↦ let here = sign_zero (r i) e.1 in rw e.0 (omega arith)
      | inr e ↦ let here = sign_some (r i) e.1 in rw e.0 (omega arith)
    ]

module _ (g : Signature) (c d level : ℕ → ℕ) (active candidates : List ℕ) (unknowns : AreUnknowns g.unknowns candidates) (stage : Stage)
    (is_stage : IsStage g c d level active candidates stage) where
  abbrev order : List ℕ
  order = below_level level levels candidates

  abbrev at_place : ℕ → ℕ
  at_place t = is_stage.by (get_or order t 0)

  choice : IsChoice g c d active order is_stage.by
  choice = is_stage.preferred.choice

  held : (x : ℕ) → 0 < x → x ≤ length active → holder at_place (length order) x ≢ 0
  held x above below = let at = choice.all x above below in holder_some at_place (length order) x at.0 at.1 at.2

  pub stage_count : count_below at_place (length order) ≡ length active
  stage_count =
      let few : count_below at_place (length order) ≤ count_below (λ _. 1) (length active) = count_injection at_place (λ _. 1) (λ t. at_place t - 1) (length order) (length active)
      (λ t l some. let at = choice.assigns.allowed t l some in (omega (arith, at.0, at.1), omega arith))
      (λ t u tl ul st su same. choice.assigns.apart t u tl ul st (omega (arith, st, su))) in
      let many : count_below (λ _. 1) (length active) ≤ count_below at_place (length order) = count_injection (λ _. 1) at_place (λ e. holder at_place (length order) (suc e) - 1) (length active) (length order)
      (λ e l some.
      let at = holder_is at_place (length order) (suc e) (held (suc e) (omega arith) (omega arith)) in
      (at.0, rw at.1 (omega arith)))
      (λ e f el fl se sf same.
      let at = holder_is at_place (length order) (suc e) (held (suc e) (omega arith) (omega arith)) in
      let at' = holder_is at_place (length order) (suc f) (held (suc f) (omega arith) (omega arith)) in
      let numbers : suc e ≡ suc f = sym at.1 ∙ ap at_place same ∙ at'.1 in
      omega arith) in
      omega (arith, count_ones (length active))

  pub stage_length : ((j : ℕ) → level j < levels) → length stage.chosen ≡ length active
  stage_length low =
      let size : length stage.chosen ≡ count_below (λ a. is_stage.by (get_or candidates a 0)) (length candidates) = ap length is_stage.chosen ∙ length_chosen active is_stage.by candidates in
      let into : (a : ℕ) → a < length candidates → (holder (by_place order) (length order) (get_or candidates a 0) - 1 < length order)
      × (get_or order (holder (by_place order) (length order) (get_or candidates a 0) - 1) 0 ≡ get_or candidates a 0) =
      λ a l.
      let at = ordered_all g c d level active candidates unknowns low (get_or candidates a 0) (a, l, refl) in
      holder_is (by_place order) (length order) (get_or candidates a 0) (holder_some (by_place order) (length order) (get_or candidates a 0) at.0 at.1 at.2) in
      let onto : (t : ℕ) → t < length order → (holder (by_place candidates) (length candidates) (get_or order t 0) - 1 < length candidates)
      × (get_or candidates (holder (by_place candidates) (length candidates) (get_or order t 0) - 1) 0 ≡ get_or order t 0) =
      λ t l.
      let at = below_level_at level levels candidates t l in
      holder_is (by_place candidates) (length candidates) (get_or order t 0) (holder_some (by_place candidates) (length candidates) (get_or order t 0) at.2.0 at.2.1 at.2.2) in
      let few : count_below (λ a. is_stage.by (get_or candidates a 0)) (length candidates) ≤ count_below at_place (length order) =
      count_injection (λ a. is_stage.by (get_or candidates a 0)) at_place (λ a. holder (by_place order) (length order) (get_or candidates a 0) - 1) (length candidates) (length order)
      (λ a l some.
      let at = into a l in
      let is : at_place (holder (by_place order) (length order) (get_or candidates a 0) - 1) ≡ is_stage.by (get_or candidates a 0) = ap is_stage.by at.1 in
      (at.0, rw is some))
      (λ a b al bl sa sb same. unknowns.apart a b al bl (sym (into a al).1 ∙ ap (by_place order) same ∙ (into b bl).1)) in
      let many : count_below at_place (length order) ≤ count_below (λ a. is_stage.by (get_or candidates a 0)) (length candidates) =
      count_injection at_place (λ a. is_stage.by (get_or candidates a 0)) (λ t. holder (by_place candidates) (length candidates) (get_or order t 0) - 1) (length order) (length candidates)
      (λ t l some.
      let at = onto t l in
      let is : is_stage.by (get_or candidates (holder (by_place candidates) (length candidates) (get_or order t 0) - 1) 0) ≡ at_place t = ap is_stage.by at.1 in
      (at.0, rw is some))
      (λ t u tl ul st su same. ordered_apart g c d level active candidates unknowns t u tl ul (sym (onto t tl).1 ∙ ap (by_place candidates) same ∙ (onto u ul).1)) in
      omega (arith, stage_count)

  pub next_unknowns : AreUnknowns g.unknowns (map (λ x. x.0) stage.chosen)
  next_unknowns = rw is_stage.chosen (record {
    known = λ k l.
        let at = chosen_only active is_stage.by candidates (get_or (map (λ x. x.0) (chosen_of active is_stage.by candidates)) k 0) (k, l, refl) in
        rw at.0.2 at (unknowns.known at.0.0 at.0.1);
    apart = chosen_apart active is_stage.by candidates unknowns.apart;
  })

  -- a chosen unknown has a tight entry in an equation of the stage
  pub chosen_tight : (j : ℕ) → StandsAt (map (λ x. x.0) stage.chosen) j → ((j : ℕ) → level j < levels) → (e : ℕ) × (e < length active) × IsTight g c d (get_or active e 0) j
  chosen_tight j there low =
      let at = chosen_only active is_stage.by candidates j (rw is_stage.chosen at there) in
      let place = ordered_all g c d level active candidates unknowns low j at.0 in
      let is : at_place place.0 ≡ is_stage.by j = ap is_stage.by place.2 in
      let some : at_place place.0 ≢ 0 = rw is at.1 in
      let can = rw place.2 at (choice.assigns.allowed place.0 place.1 some) in
      (is_stage.by j - 1, omega (arith, can.0, can.1), can.2)

  -- the equations that go on to the next stage have each a chosen unknown
  module _ (next : List ℕ) (among : (e : ℕ) → e < length next → StandsAt active (get_or next e 0)) (apart : AreApart next) where
    abbrev number : ℕ → ℕ
    number e = holder (by_place active) (length active) (get_or next e 0)

    number_is : (e : ℕ) → e < length next → (0 < number e) × (number e ≤ length active) × (get_or active (number e - 1) 0 ≡ get_or next e 0)
    number_is e l =
        let at = among e l in
        let some = holder_some (by_place active) (length active) (get_or next e 0) at.0 at.1 at.2 in
        let is = holder_is (by_place active) (length active) (get_or next e 0) some in
        (omega (arith, some), omega (arith, is.0), is.1)

    abbrev place : ℕ → ℕ
    place e = holder at_place (length order) (number e)

    place_is : (e : ℕ) → e < length next → (place e ≢ 0) × (place e - 1 < length order) × (at_place (place e - 1) ≡ number e)
    place_is e l =
        let at = number_is e l in
        let some = held (number e) at.0 at.1 in
        let is = holder_is at_place (length order) (number e) some in
        (some, is.0, is.1)

    abbrev name : ℕ → ℕ
    name e = name_before (by_place order) (place e)

    name_is : (e : ℕ) → e < length next → name e ≡ get_or order (place e - 1) 0
    name_is e l = name_some (by_place order) (place e) (place_is e l).0

    pub can_next : CanAssign g c d next (map (λ x. x.0) stage.chosen)
    can_next = rw is_stage.chosen (record {
      by = name;
      assigns = record {
        allowed = λ e l some.
            let at = number_is e l in
            let is = place_is e l in
            let full : at_place (place e - 1) ≢ 0 = rw is.2 (omega (arith, at.0)) in
            let can = choice.assigns.allowed (place e - 1) is.1 full in
            let tight : IsTight g c d (get_or next e 0) (get_or order (place e - 1) 0) = rw (is.2, at.2) at can.2 in
            let there = below_level_at level levels candidates (place e - 1) is.1 in
            rw (name_is e l) (chosen_has active is_stage.by candidates (get_or order (place e - 1) 0) (there.2.0, there.2.1, there.2.2) full, tight);
        apart = λ e f el fl some same.
            let is = place_is e el in
            let is' = place_is f fl in
            let names : get_or order (place e - 1) 0 ≡ get_or order (place f - 1) 0 = sym (name_is e el) ∙ same ∙ name_is f fl in
            let numbers : number e ≡ number f = sym is.2 ∙ ap is_stage.by names ∙ is'.2 in
            let at = number_is e el in
            let at' = number_is f fl in
            apart e f el fl (sym at.2 ∙ ap (λ (x : ℕ). get_or active (x - 1) 0) numbers ∙ at'.2);
      };
      covers = λ e l.
          let is = place_is e l in
          rw (name_is e l) (ordered_some g c d level active candidates unknowns (place e - 1) is.1);
    })
