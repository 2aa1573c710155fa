-- Steps of the check of reasons.
use Rattle.std.proofs.Common.{◌≡◌, ◌≢◌, ℕ, zero, suc, ◌+◌, ◌-◌, ◌<◌, ◌≤◌, ◌⊎◌, inl, inr, List, [], ◌∷◌, drop, length, get_or, set, refl, sym, ap, ◌∙◌, arith, length-set, get_or-set_other, get_or-set_same}
use Rattle.std.proofs.lemmas.Bool.Decides.{nat_tests, eqb_tells}
use Rattle.mo_incidence.specs.declared.findings.Reason.{Reason}
use Rattle.mo_incidence.specs.Counting.{count_below}
use Rattle.mo_incidence.specs.Signature.{Signature, equations, row_len, unknown_at, order_at}
use Rattle.mo_incidence.specs.Offsets.{IsTight, after_reasons, by_place, by_number}
use Rattle.mo_incidence.proofs.Counting.{without, without_same, without_other, count_without, count_same, count_ones, count_injection}
use Rattle.mo_certify.specs.Offsets.{AreOffsets}
use Rattle.mo_certify.specs.Reasons.{first_reason, reason_of, named, LeadsToZero, IsReasonAt, AreReasonsBy, LeadToZeroBy, AreShownLeast}

pub below_next : (s t : ℕ) → s < t + 1 → (s < t) ⊎ (s ≡ t)
below_next s t l = elim (eqb_tells s t) [ inl e ↦ inr e.1 | inr e ↦ inl (omega (arith, e.1)) ]

-- ---- an equation's reason

module _ (g : Signature) (c d : List ℕ) (row from unknown : ℕ) where
  here_tight : (k : ℕ) × (k < row_len g (from - 1)) × (unknown_at g (from - 1) k ≡ unknown) × (get_or d (unknown_at g (from - 1) k - 1) 0 ≡ get_or c (from - 1) 0 + order_at g (from - 1) k)
      → IsTight g (by_place c) (by_number d) (from - 1) unknown
  unfolding IsTight
  here_tight h = (h.0, h.1, h.2, rw h.2 at h.3)

  tight_here : IsTight g (by_place c) (by_number d) (from - 1) unknown
      → (k : ℕ) × (k < row_len g (from - 1)) × (unknown_at g (from - 1) k ≡ unknown) × (get_or d (unknown - 1) 0 ≡ get_or c (from - 1) 0 + order_at g (from - 1) k)
  unfolding IsTight
  tight_here h = h

  pub reason_yes : from ≢ 0 → from ≤ equations g → from ≢ row
      → (k : ℕ) × (k < row_len g (from - 1)) × (unknown_at g (from - 1) k ≡ unknown) × (get_or d (unknown_at g (from - 1) k - 1) 0 ≡ get_or c (from - 1) 0 + order_at g (from - 1) k)
      → IsReasonAt g c d row from unknown
  reason_yes some within other h = record { known = (omega arith, within); other = other; tight = here_tight h }

  pub reason_no : ((k : ℕ) → k < row_len g (from - 1) → unknown_at g (from - 1) k ≡ unknown → get_or d (unknown_at g (from - 1) k - 1) 0 ≡ get_or c (from - 1) 0 + order_at g (from - 1) k → ⊥)
      → IsReasonAt g c d row from unknown → ⊥
  reason_no none reason = let there = tight_here reason.tight in none there.0 there.1 there.2 (rw there.2 there.3)

pub reasons_next : (g : Signature) (c d pairs from : List ℕ) (i : ℕ) → AreReasonsBy g c d pairs from i
    → (get_or c i 0 ≢ 0 → IsReasonAt g c d (i + 1) (get_or from (i + 1) 0) (get_or pairs i 0)) → AreReasonsBy g c d pairs from (i + 1)
reasons_next g c d pairs from i before here = λ k l some. elim (below_next k i l) [
  | inl h ↦ before k h some
  | inr e ↦ rw e (here (rw e at some))
]

-- ---- the first reasons of a list

drop_at : {A : Type 0} (xs : List A) (n : ℕ) (default : A) → n < length xs → drop n xs ≡ get_or xs n default ∷ drop (suc n) xs
drop_at [] n default l = absurd (omega arith)
drop_at (x ∷ xs) zero default l = refl
drop_at (x ∷ xs) (suc n) default l = drop_at xs n default (omega arith)

abbrev pub nothing : Reason
nothing = record { equation = 0; from = 0 }

-- one reason more, from the last to the first
module _ (why : List Reason) (left : ℕ) (some : 0 < left) (inside : left ≤ length why) where
  front : drop (left - 1) why ≡ get_or why (left - 1) nothing ∷ drop left why
  front = let up : suc (left - 1) ≡ left = omega arith in rw up at (drop_at why (left - 1) nothing (omega arith))

  pub first_same : (x : ℕ) → (get_or why (left - 1) nothing).equation ≡ x → first_reason (drop (left - 1) why) x ≡ (get_or why (left - 1) nothing).from
  first_same x e = rw front (grind (arith, nat_tests, e))

  pub first_other : (x : ℕ) → (get_or why (left - 1) nothing).equation ≢ x → first_reason (drop (left - 1) why) x ≡ first_reason (drop left why) x
  first_other x ne = rw front (grind (arith, nat_tests, ne))

-- ---- following reasons

-- one step more
after_next : (r : ℕ → ℕ) (n i : ℕ) → after_reasons r (suc n) i ≡ r (after_reasons r n i)
after_next r zero i = refl
after_next r (suc n) i = after_next r n (r i)

after_sum : (r : ℕ → ℕ) (n k i : ℕ) → after_reasons r (n + k) i ≡ after_reasons r k (after_reasons r n i)
after_sum r zero k i = let same : 0 + k ≡ k = omega arith in rw same refl
after_sum r (suc n) k i = let same : suc n + k ≡ suc (n + k) = omega arith in rw same (after_sum r n k (r i))

leads_on : (c r : ℕ → ℕ) (n i : ℕ) → LeadsToZero c r (after_reasons r n i) → LeadsToZero c r i
leads_on c r n i there = (n + there.0, rw (after_sum r n there.0 i) there.1)

-- offsets above 0 that lead to one another never lead to 0
leads_nowhere : (c r : ℕ → ℕ) (In : ℕ → Type 0) → ((v : ℕ) → In v → (c v ≢ 0) × In (r v)) → (n v : ℕ) → In v → c (after_reasons r n v) ≢ 0
leads_nowhere c r In closed zero v here = (closed v here).0
leads_nowhere c r In closed (suc n) v here = leads_nowhere c r In closed n (r v) (closed v here).1

-- how many equations are not marked
pub unmarked : List ℕ → ℕ
unmarked marks = length marks - count_below (by_place marks) (length marks)

count_room : (f : ℕ → ℕ) (n : ℕ) → count_below f n ≤ n
count_room f n = let few : count_below f n ≤ count_below (λ _. 1) n = count_injection f (λ _. 1) (λ k. k) n n (λ k l some. (l, omega arith)) (λ k k' _ _ _ _ same. same) in omega (arith, count_ones n)

pub marked_fewer : (marks : List ℕ) (place mark : ℕ) → place < length marks → get_or marks place 0 ≡ 0 → mark ≢ 0 → unmarked (set marks place mark) < unmarked marks
unfolding unmarked
marked_fewer marks place mark inside none some =
    let n = length marks in
    let after = set marks place mark in
    let size : length after ≡ n = length-set marks place mark in
    let at : get_or after place 0 ≡ mark = get_or-set_same marks place mark 0 inside in
    let more : count_below (by_place after) n ≡ suc (count_below (without (by_place after) place) n) = count_without (by_place after) place n inside (rw at some) in
    let same : count_below (without (by_place after) place) n ≡ count_below (by_place marks) n =
    count_same (without (by_place after) place) (by_place marks) n (λ i l. elim (eqb_tells i place) [
      | inl e ↦ rw (e.1, without_same (by_place after) place) (sym none)
      | inr e ↦ rw (without_other (by_place after) place i e.1) (get_or-set_other marks place i mark 0 e.1)
    ]) in
    let room : count_below (by_place after) n ≤ n = count_room (by_place after) n in
    rw size (omega arith)

-- the search from `start` stands at `place`
pub record IsFollowing (c r : ℕ → ℕ) (m : ℕ) (marks : List ℕ) (start mark place : ℕ) : Type 0 where
  pub size : length marks ≡ m
  pub within : place < m
  pub low : (i : ℕ) → get_or marks i 0 ≤ mark
  pub settled : (i : ℕ) → get_or marks i 0 ≢ 0 → get_or marks i 0 ≢ mark → LeadsToZero c r i
  pub from_start : (n : ℕ) × (after_reasons r n start ≡ place)
  pub leads : (i : ℕ) → get_or marks i 0 ≡ mark → (n : ℕ) × (after_reasons r n i ≡ place)
  pub onward : (i : ℕ) → get_or marks i 0 ≡ mark → (c i ≢ 0) × ((get_or marks (r i) 0 ≡ mark) ⊎ (r i ≡ place))
  pub start_in : (get_or marks start 0 ≡ mark) ⊎ (place ≡ start)

pub following_start : (c r : ℕ → ℕ) (marks : List ℕ) (start mark : ℕ) → mark ≡ start + 1 → start < length marks → ((i : ℕ) → get_or marks i 0 ≤ start)
    → ((i : ℕ) → get_or marks i 0 ≢ 0 → LeadsToZero c r i) → IsFollowing c r (length marks) marks start mark start
following_start c r marks start mark is inside low settled = record {
  size = refl;
  within = inside;
  low = λ i. let h = low i in omega arith;
  settled = λ i some other. settled i some;
  from_start = (0, refl);
  leads = λ i e. absurd (let h = low i in omega arith);
  onward = λ i e. absurd (let h = low i in omega arith);
  start_in = inr refl;
}

module _ (c r : ℕ → ℕ) (m : ℕ) (marks : List ℕ) (start mark place : ℕ) (following : IsFollowing c r m marks start mark place) where
  module _ (some : mark ≢ 0) (above : c place ≢ 0) (new : get_or marks place 0 ≡ 0) (inside : r place < m) where
    at : get_or (set marks place mark) place 0 ≡ mark
    at = get_or-set_same marks place mark 0 (omega (arith, following.within, following.size))

    off : (i : ℕ) → i ≢ place → get_or (set marks place mark) i 0 ≡ get_or marks i 0
    off i ne = get_or-set_other marks place i mark 0 ne

    marked_on : (i : ℕ) → get_or marks i 0 ≡ mark → get_or (set marks place mark) i 0 ≡ mark
    marked_on i e = elim (eqb_tells i place) [ inl p ↦ rw p.1 at | inr p ↦ off i p.1 ∙ e ]

    marked_before : (i : ℕ) → get_or (set marks place mark) i 0 ≡ mark → (get_or marks i 0 ≡ mark) ⊎ (i ≡ place)
    marked_before i e = elim (eqb_tells i place) [ inl p ↦ inr p.1 | inr p ↦ inl (sym (off i p.1) ∙ e) ]

    one_more : (i n : ℕ) → after_reasons r n i ≡ place → after_reasons r (suc n) i ≡ r place
    one_more i n e = after_next r n i ∙ ap r e

    pub following_next : IsFollowing c r m (set marks place mark) start mark (r place)
    following_next = record {
      size = length-set marks place mark ∙ following.size;
      within = inside;
      low = λ i. elim (eqb_tells i place) [ inl p ↦ rw (p.1, at) (omega arith) | inr p ↦ rw (off i p.1) (following.low i) ];
      settled = λ i one other. elim (eqb_tells i place) [
        | inl p ↦ absurd (other (rw p.1 at))
        | inr p ↦ following.settled i (rw (off i p.1) at one) (rw (off i p.1) at other)
      ];
      from_start = (suc following.from_start.0, one_more start following.from_start.0 following.from_start.1);
      leads = λ i e. elim (marked_before i e) [
        | inl h ↦ let there = following.leads i h in (suc there.0, one_more i there.0 there.1)
        | inr h ↦ (1, ap r h)
      ];
      onward = λ i e. elim (marked_before i e) [
        | inl h ↦
            let there = following.onward i h in (
              there.0,
              elim there.1 [
                | inl on ↦ inl (marked_on (r i) on)
                | inr on ↦ inl (rw on at)
              ],
            )
        | inr h ↦ (rw h above, inr (ap r h))
      ];
      start_in = elim following.start_in [
        | inl h ↦ inl (marked_on start h)
        | inr h ↦ inl (rw (← h) at)
      ];
    }

  place_settles : LeadsToZero c r place → (i : ℕ) → get_or marks i 0 ≢ 0 → LeadsToZero c r i
  place_settles ends i one = elim (eqb_tells (get_or marks i 0) mark) [
    | inl e ↦ let there = following.leads i e.1 in leads_on c r there.0 i (rw there.1 ends)
    | inr e ↦ following.settled i one e.1
  ]

  place_leads : LeadsToZero c r place → LeadsToZero c r start
  place_leads ends = leads_on c r following.from_start.0 start (rw following.from_start.1 ends)

  pub zero_settles : c place ≡ 0 → (i : ℕ) → get_or marks i 0 ≢ 0 → LeadsToZero c r i
  zero_settles none = place_settles (0, none)

  pub zero_leads : c place ≡ 0 → LeadsToZero c r start
  zero_leads none = place_leads (0, none)

  pub other_settles : get_or marks place 0 ≢ 0 → get_or marks place 0 ≢ mark → (i : ℕ) → get_or marks i 0 ≢ 0 → LeadsToZero c r i
  other_settles one other = place_settles (following.settled place one other)

  pub other_leads : get_or marks place 0 ≢ 0 → get_or marks place 0 ≢ mark → LeadsToZero c r start
  other_leads one other = place_leads (following.settled place one other)

  -- a chain that comes back to itself
  pub circle_leads_nowhere : get_or marks place 0 ≡ mark → LeadsToZero c r start → ⊥
  circle_leads_nowhere back ends =
      let In : ℕ → Type 0 = λ i. get_or marks i 0 ≡ mark in
      let start_marked : get_or marks start 0 ≡ mark = elim following.start_in [ inl h ↦ h | inr h ↦ rw h at back ] in
      leads_nowhere c r In
      (λ i e. let there = following.onward i e in (there.0, elim there.1 [ inl on ↦ on | inr on ↦ rw on back ]))
      ends.0 start start_marked ends.1

-- ---- the first reasons of a list as a list by numbers

leads_at : (c r : ℕ → ℕ) (x y : ℕ) → x ≡ y → LeadsToZero c r x → LeadsToZero c r y
leads_at c r x y e there = rw e at there

chain_by : (c r r' : ℕ → ℕ) (m : ℕ) → ((i : ℕ) → i < m → c i ≢ 0 → (r i ≡ r' i) × (r i < m)) → (n i : ℕ) → i < m → c (after_reasons r n i) ≡ 0 → LeadsToZero c r' i
chain_by c r r' m agree zero i l none = (0, none)
chain_by c r r' m agree (suc n) i l none = elim (eqb_tells (c i) 0) [
  | inl e ↦ (0, e.1)
  | inr e ↦
      let same = agree i l e.1 in
      let there = leads_at c r' (r i) (r' i) same.0 (chain_by c r r' m agree n (r i) same.1 none) in
      (suc there.0, there.1)
]

module _ (g : Signature) (c d pairs from : List ℕ) (why : List Reason) (size : length from ≡ suc (equations g))
    (first : (x : ℕ) → x < length from → get_or from x 0 ≡ first_reason why x) where
  same_number : (i : ℕ) → i < equations g → get_or from (i + 1) 0 ≡ first_reason why (i + 1)
  same_number i l = first (i + 1) (omega (arith, size))

  same_place : (i : ℕ) → i < equations g → named from i ≡ reason_of why i
  same_place i l = ap (λ (x : ℕ). x - 1) (same_number i l)

  pub shown_by : AreOffsets g c d pairs → equations g ≡ g.unknowns → LeadToZeroBy g c d pairs from → AreShownLeast g c d pairs why
  shown_by offsets square to = record {
    offsets = offsets;
    square = square;
    given = λ i l some none. let known = (to.reasons i l some).known in omega (arith, known.0, same_number i l, none);
    lead_to_zero = record {
      tight = λ i l some.
          let reason = to.reasons i l some in
          let place : named from i ≡ reason_of why i = same_place i l in
          rw (← place) ((omega (arith, reason.known.0, reason.known.1), (λ same. reason.other (omega (arith, reason.known.0, same))), reason.tight));
      ends = λ i l.
          let there = to.ends i l in
          chain_by (by_place c) (named from) (reason_of why) (equations g)
          (λ k kl some. (same_place k kl, let known = (to.reasons k kl some).known in omega (arith, known.0, known.1)))
          there.0 i l there.1;
    };
  }

  pub by_shown : AreShownLeast g c d pairs why → LeadToZeroBy g c d pairs from
  by_shown shown = record {
    reasons = λ i l some.
        let tight = shown.lead_to_zero.tight i l some in
        let given = shown.given i l some in
        rw (same_number i l) (record {
          known = (omega (arith, given), omega (arith, given, tight.0));
          other = λ same. tight.1 (omega (arith, given, same));
          tight = tight.2;
        });
    ends = λ i l.
        let there = shown.lead_to_zero.ends i l in
        chain_by (by_place c) (reason_of why) (named from) (equations g)
        (λ k kl some. (sym (same_place k kl), (shown.lead_to_zero.tight k kl some).0))
        there.0 i l there.1;
  }

pub to_zero : (g : Signature) (c d pairs from : List ℕ) → AreReasonsBy g c d pairs from (equations g) → ((i : ℕ) → i < equations g → LeadsToZero (by_place c) (named from) i) → LeadToZeroBy g c d pairs from
to_zero g c d pairs from reasons ends = record { reasons = reasons; ends = ends }

-- what the check of rows says is enough for the search
pub reasons_known : (g : Signature) (c d pairs from : List ℕ) → AreReasonsBy g c d pairs from (equations g) → (i : ℕ) → i < equations g → get_or c i 0 ≢ 0
    → (0 < get_or from (i + 1) 0) × (get_or from (i + 1) 0 ≤ equations g)
reasons_known g c d pairs from reasons i l some = (reasons i l some).known
