-- The two lists of the deficit, and how many more equations it has than unknowns.
use Rattle.std.proofs.Common.{◌≡◌, ◌≢◌, ℕ, suc, ◌+◌, ◌-◌, ◌<◌, ◌≤◌, ◌==◌, inl, inr, if◌then◌else◌, false, List, get_or, refl, ap, arith, subst}
use Rattle.std.proofs.lemmas.Bool.Decides.{nat_tests, eqb_tells}
use Rattle.mo_incidence.specs.Counting.{sign, sum_below, count_below}
use Rattle.mo_incidence.specs.Signature.{equations, IsSound}
use Rattle.mo_incidence.specs.Assignment.{Mentions, IsLargest, IsDeficit}
use Rattle.mo_incidence.specs.Offsets.{by_place}
use Rattle.mo_incidence.proofs.Counting.{sign_some, sum_same, sum_add, count_ones, count_injection}
use Rattle.mo_match.specs.Searching.{Bipartite, Uses, IsMatching, IsAssignedTo}
use Rattle.mo_match.specs.steps.Lists.{numbers_where, reached}
use Rattle.mo_match.proofs.Covering.{matching_apart}
use Rattle.mo_match.proofs.Deficit.{largest, in_deficit, deficit_only, marks_closed, uses_mentions, mentions_uses}
use Rattle.mo_match.proofs.ListLemmas.{lists_where, length_numbers}

pub reached_some : (owner mk : List ℕ) (j : ℕ) → reached owner mk j ≢ 0 → (get_or owner j 0 ≢ 0) × (get_or mk (get_or owner j 0 - 1) 0 ≢ 0)
reached_some owner mk j some = elim (eqb_tells (get_or owner j 0) 0) [
  | inl e ↦ absurd (some (grind (arith, nat_tests, e.1)))
  | inr e ↦ (e.1, λ none. some (grind (arith, nat_tests, e.1, none)))
]

pub reached_by : (owner mk : List ℕ) (j : ℕ) → get_or owner j 0 ≢ 0 → get_or mk (get_or owner j 0 - 1) 0 ≢ 0 → reached owner mk j ≢ 0
reached_by owner mk j owned marked none = grind (arith, nat_tests, owned, marked, none)

-- the mark of an equation that has an unknown, and 1 for one that has none
abbrev held_mark : (x mark : ℕ) → ℕ
held_mark x mark = if x == 0 then 0 else mark

abbrev bare_mark : ℕ → ℕ
bare_mark x = if x == 0 then 1 else 0

split_mark : (x mark : ℕ) → (x ≡ 0 → mark ≢ 0) → sign mark ≡ sign (held_mark x mark) + sign (bare_mark x)
split_mark x mark settled = elim (eqb_tells x 0) [
  | inl e ↦ let one : sign mark ≡ 1 = sign_some mark (settled e.1) in rw (e.1, one) refl
  | inr e ↦ grind (arith, nat_tests, e.1)
]

bare_or_held : (x : ℕ) → sign (bare_mark x) + sign x ≡ 1
bare_or_held x = grind (arith, nat_tests)

held_some : (x mark : ℕ) → held_mark x mark ≢ 0 → (x ≢ 0) × (mark ≢ 0)
held_some x mark some = elim (eqb_tells x 0) [
  | inl e ↦ absurd (some (grind (arith, nat_tests, e.1)))
  | inr e ↦ (e.1, λ none. some (grind (arith, nat_tests, e.1, none)))
]

held_by : (x mark : ℕ) → x ≢ 0 → mark ≢ 0 → held_mark x mark ≢ 0
held_by x mark some marked none = grind (arith, nat_tests, some, marked, none)

module _ (E : ℕ → ℕ → Type 0) (m n : ℕ) (p owner mk : List ℕ) (match : IsMatching E m n p owner)
    (settled : (i : ℕ) → i < m → get_or p i 0 ≡ 0 → get_or mk i 0 ≢ 0) where
  abbrev held : ℕ → ℕ
  held i = held_mark (get_or p i 0) (get_or mk i 0)

  abbrev mentioned : ℕ → ℕ
  mentioned u = reached owner mk (u + 1)

  held_few : count_below held m ≤ count_below mentioned n
  held_few = count_injection held mentioned (λ i. get_or p i 0 - 1) m n
      (λ i l some.
      let has = held_some (get_or p i 0) (get_or mk i 0) some in
      let there = match.owned i l has.0 in
      let back : get_or p i 0 - 1 + 1 ≡ get_or p i 0 = omega (arith, has.0) in
      let self_back : get_or owner (get_or p i 0) 0 - 1 ≡ i = omega (arith, there.1) in
      (omega (arith, has.0, there.0), rw back (reached_by owner mk (get_or p i 0) (omega (arith, there.1)) (rw self_back has.1))))
      (λ i k il kl si sk same.
      let one = held_some (get_or p i 0) (get_or mk i 0) si in
      let two = held_some (get_or p k 0) (get_or mk k 0) sk in
      matching_apart match i k il kl one.0 (omega (arith, one.0, two.0)))

  mentioned_few : count_below mentioned n ≤ count_below held m
  mentioned_few = count_injection mentioned held (λ u. get_or owner (u + 1) 0 - 1) n m
      (λ u l some.
      let has = reached_some owner mk (u + 1) some in
      let there = match.owns (get_or owner (u + 1) 0 - 1) (u + 1) (omega arith) (omega arith) (omega (arith, has.0)) in
      (there.0, held_by (get_or p (get_or owner (u + 1) 0 - 1) 0) (get_or mk (get_or owner (u + 1) 0 - 1) 0) (omega (arith, there.1)) has.1))
      (λ u v ul vl su sv same.
      let one = reached_some owner mk (u + 1) su in
      let two = reached_some owner mk (v + 1) sv in
      let here = match.owns (get_or owner (u + 1) 0 - 1) (u + 1) (omega arith) (omega arith) (omega (arith, one.0)) in
      let there = match.owns (get_or owner (v + 1) 0 - 1) (v + 1) (omega arith) (omega arith) (omega (arith, two.0)) in
      let is : get_or p (get_or owner (u + 1) 0 - 1) 0 ≡ get_or p (get_or owner (v + 1) 0 - 1) 0 = ap (λ (x : ℕ). get_or p x 0) same in
      omega (arith, here.1, there.1))

  pub excess : (k : ℕ) → count_below (λ i. get_or p i 0) m + k ≡ m → count_below (λ i. get_or mk i 0) m ≡ count_below mentioned n + k
  excess k missing =
      let bare : ℕ → ℕ = λ i. bare_mark (get_or p i 0) in
      let parts : count_below (λ i. get_or mk i 0) m ≡ sum_below (λ i. sign (held i) + sign (bare i)) m =
      sum_same (λ i. sign (get_or mk i 0)) (λ i. sign (held i) + sign (bare i)) m (λ i l. split_mark (get_or p i 0) (get_or mk i 0) (settled i l)) in
      let two : sum_below (λ i. sign (held i) + sign (bare i)) m ≡ count_below held m + count_below bare m = sum_add (λ i. sign (held i)) (λ i. sign (bare i)) m in
      let each : sum_below (λ i. sign (bare i) + sign (get_or p i 0)) m ≡ count_below (λ _. 1) m =
      sum_same (λ i. sign (bare i) + sign (get_or p i 0)) (λ i. sign 1) m (λ i l. bare_or_held (get_or p i 0)) in
      let all : sum_below (λ i. sign (bare i) + sign (get_or p i 0)) m ≡ count_below bare m + count_below (λ i. get_or p i 0) m = sum_add (λ i. sign (bare i)) (λ i. sign (get_or p i 0)) m in
      omega (arith, count_ones m, held_few, mentioned_few)

module _ (b : Bipartite) (p owner q par mk : List ℕ) (t : ℕ) (loose : b.tight ≡ false) (sound : IsSound b.signature)
    (to : IsAssignedTo b p owner q par mk t (equations b.signature)) where
  pub assigned_largest : IsLargest b.signature (by_place p)
  assigned_largest = largest b p owner q par mk t loose sound to.matching to.tree to.closed to.settled

  pub assigned_deficit : (k : ℕ) → count_below (by_place p) (equations b.signature) + k ≡ equations b.signature
      → IsDeficit b.signature (numbers_where (by_place mk) (equations b.signature)) (numbers_where (λ u. reached owner mk (u + 1)) b.signature.unknowns) k
  assigned_deficit k missing = record {
    equations = lists_where (by_place mk) (equations b.signature)
        (λ x l marked. (x, refl, in_deficit b p owner q par mk t loose sound to.matching to.tree to.closed to.settled x l marked))
        (λ x l deficient.
        let is : x ≡ deficient.0 = omega (arith, deficient.1) in
        rw is (deficit_only b p owner q par mk t loose sound to.matching to.tree to.closed to.settled deficient.0 (omega (arith, deficient.1)) deficient.2));
    unknowns = lists_where (λ u. reached owner mk (u + 1)) b.signature.unknowns
        (λ u l some.
        let has = reached_some owner mk (u + 1) some in
        let i = get_or owner (u + 1) 0 - 1 in
        let there = to.matching.owns i (u + 1) (omega arith) (omega arith) (omega (arith, has.0)) in
        let edge = to.matching.edge i there.0 (omega (arith, there.1)) in
        let next : u + 1 ≡ suc u = omega arith in
        let mentions : Mentions b.signature i (suc u) = subst (λ (j : ℕ). Mentions b.signature i j) next (uses_mentions b i (u + 1) (rw there.1 at edge)) in
        (i, there.0, in_deficit b p owner q par mk t loose sound to.matching to.tree to.closed to.settled i there.0 has.1, mentions))
        (λ u l mentioned_in.
        let i = mentioned_in.0 in
        let marked = deficit_only b p owner q par mk t loose sound to.matching to.tree to.closed to.settled i mentioned_in.1 mentioned_in.2 in
        let there = marks_closed b p owner q par mk t loose sound to.matching to.tree to.closed to.settled i (suc u) mentioned_in.1 marked (mentions_uses b loose i (suc u) mentioned_in.3) in
        let next : u + 1 ≡ suc u = omega arith in
        rw next (reached_by owner mk (suc u) there.2 there.3));
    excess =
        let count = excess (Uses b) (equations b.signature) b.signature.unknowns p owner mk to.matching to.settled k missing in
        omega (arith, length_numbers (by_place mk) (equations b.signature), length_numbers (λ u. reached owner mk (u + 1)) b.signature.unknowns);
  }
