-- The best candidate of each equation.
use Rattle.std.proofs.Common.{◌≡◌, ◌≢◌, ℕ, zero, suc, ◌+◌, ◌-◌, ◌<◌, ◌≤◌, ◌⊎◌, inl, inr, List, [], ◌∷◌, ◌++◌, length, get_or, set, refl, ◌∙◌, arith, subst, length-set, get_or-set_other, get_or-set_same, length-append}
use Rattle.std.proofs.lemmas.Bool.Decides.{eqb_tells, leb_tells}
use Rattle.mo_incidence.specs.declared.findings.Reason.{Reason}
use Rattle.mo_incidence.specs.Signature.{Signature, equations, row_len}
use Rattle.mo_incidence.specs.Assignment.{Assigns, IsAssignment, Mentions}
use Rattle.mo_incidence.specs.Offsets.{after_reasons, IsTight}
use Rattle.mo_incidence.specs.Reasons.{IsCandidate, LeadsTo, IsWithin, IsRank, IsReason, listed_reasons, AreReasonsOf}
use Rattle.mo_pantelides.specs.steps.Ranks.{IsBetter, IsChosenTo, Considers}
use Rattle.mo_pantelides.proofs.Ranking.{leads_candidate, candidate_leads}

below_next : (s t : ℕ) → s < t + 1 → (s < t) ⊎ (s ≡ t)
below_next s t l = elim (eqb_tells s t) [ inl e ↦ inr e.1 | inr e ↦ inl (omega (arith, e.1)) ]

pub chosen_none : (g : Signature) (c d t : ℕ → ℕ) (mk best : List ℕ) → length best ≡ equations g → ((i : ℕ) → get_or best i 0 ≡ 0) → IsChosenTo g c d t mk best 0 0
chosen_none g c d t mk best size none = record {
  best_all = size;
  sound = λ i l some. absurd (some (none i));
  rows = λ i k l kl. absurd (omega arith);
  here = λ i n l nl. absurd (omega arith);
}

module _ (g : Signature) (c d t : ℕ → ℕ) (mk best : List ℕ) (k n : ℕ) (to : IsChosenTo g c d t mk best k n) where
  pub chosen_skip : ((x : ℕ) → x < equations g → LeadsTo g c d t k n x → ⊥) → IsChosenTo g c d t mk best k (n + 1)
  chosen_skip none = record {
    best_all = to.best_all;
    sound = to.sound;
    rows = to.rows;
    here = λ i n' l nl leads. elim (below_next n' n nl) [
      | inl h ↦ to.here i n' l h leads
      | inr e ↦ absurd (none i l (subst (λ (z : ℕ). LeadsTo g c d t k z i) e leads))
    ];
  }

  module _ (kl : k < equations g) (nl : n < row_len g k) (x : ℕ) (xl : x < equations g) (leads : LeadsTo g c d t k n x) (only : (i : ℕ) → i < equations g → LeadsTo g c d t k n i → i ≡ x) where
    b_at : get_or (set best x (k + 1)) x 0 ≡ k + 1
    b_at = let l : x < length best = omega (arith, xl, to.best_all) in get_or-set_same best x (k + 1) 0 l

    b_off : (i : ℕ) → i ≢ x → get_or (set best x (k + 1)) i 0 ≡ get_or best i 0
    b_off i ne = get_or-set_other best x i (k + 1) 0 ne

    back : k + 1 - 1 ≡ k
    back = omega arith

    chosen_take : ((k' : ℕ) → k' < k → IsCandidate g c d t x k' → get_or mk k 0 < get_or mk k' 0) → IsChosenTo g c d t mk (set best x (k + 1)) k (n + 1)
    chosen_take lower = record {
      best_all = length-set best x (k + 1) ∙ to.best_all;
      sound = λ i l. elim (eqb_tells i x) [
        | inl e ↦ rw (e.1, b_at, back) (λ _. (leads_candidate g c d t k n x kl nl leads, omega arith))
        | inr e ↦ rw (b_off i e.1) (to.sound i l)
      ];
      rows = λ i k' l kl'. elim (eqb_tells i x) [
        | inl e ↦ rw (e.1, b_at, back) (λ cand. (omega arith, inl (lower k' kl' cand)))
        | inr e ↦ rw (b_off i e.1) (to.rows i k' l kl')
      ];
      here = λ i n' l nl' leads'. elim (eqb_tells i x) [
        | inl e ↦ rw (e.1, b_at, back) (omega arith, inr (refl, omega arith))
        | inr e ↦ rw (b_off i e.1) (elim (below_next n' n nl') [
          | inl h ↦ to.here i n' l h leads'
          | inr z ↦ absurd (e.1 (only i l (subst (λ (y : ℕ). LeadsTo g c d t k y i) z leads')))
        ])
      ];
    }

    chosen_leave : get_or best x 0 ≢ 0 → get_or mk (get_or best x 0 - 1) 0 ≤ get_or mk k 0 → IsChosenTo g c d t mk best k (n + 1)
    chosen_leave some low =
        let better : IsBetter mk (get_or best x 0 - 1) k = elim (eqb_tells (get_or mk (get_or best x 0 - 1) 0) (get_or mk k 0)) [
          | inl e ↦ inr (e.1, (to.sound x xl some).1)
          | inr e ↦ inl (omega (arith, e.1))
        ] in
        record {
          best_all = to.best_all;
          sound = to.sound;
          rows = to.rows;
          here = λ i n' l nl' leads'. elim (below_next n' n nl') [
            | inl h ↦ to.here i n' l h leads'
            | inr z ↦
                let same : i ≡ x = only i l (subst (λ (y : ℕ). LeadsTo g c d t k y i) z leads') in
                rw same (some, better)
          ];
        }

    pub chosen_next : (best' : List ℕ) → Considers mk best k x best' → IsChosenTo g c d t mk best' k (n + 1)
    chosen_next best' considers = elim (eqb_tells (get_or best x 0) 0) [
      | inl e ↦ rw (considers.free e.1) (chosen_take (λ k' kl' cand. absurd ((to.rows x k' xl kl' cand).0 e.1)))
      | inr e ↦ elim (leb_tells (get_or mk (get_or best x 0 - 1) 0) (get_or mk k 0)) [
        | inl h ↦ rw (considers.left e.1 h.1) (chosen_leave e.1 h.1)
        | inr h ↦ rw (considers.less e.1 h.1) (chosen_take (λ k' kl' cand. elim (to.rows x k' xl kl' cand).1 [
          | inl z ↦ omega (arith, h.1)
          | inr z ↦ omega (arith, h.1, z.0)
        ]))
      ]
    ]

pub chosen_row : (g : Signature) (c d t : ℕ → ℕ) (mk best : List ℕ) (k n : ℕ) → n ≡ row_len g k → IsChosenTo g c d t mk best k n → IsChosenTo g c d t mk best (k + 1) 0
chosen_row g c d t mk best k n all to = record {
  best_all = to.best_all;
  sound = λ i l some. let was = to.sound i l some in (was.0, omega (arith, was.1));
  rows = λ i k' l kl'. elim (below_next k' k kl') [
    | inl h ↦ to.rows i k' l h
    | inr e ↦ rw e (λ cand. let leads = candidate_leads g c d t i k cand in to.here i leads.0 l (omega (arith, leads.1)) leads.2)
  ];
  here = λ i n' l nl. absurd (omega arith);
}

module _ (g : Signature) (c d t : ℕ → ℕ) (mk best : List ℕ) (k : ℕ) (all : k ≡ equations g) (to : IsChosenTo g c d t mk best k 0)
    (ranked : (i : ℕ) → i < equations g → (get_or mk i 0 ≢ 0) × IsRank g c d t i (get_or mk i 0 - 1)) where
  step : (n i : ℕ) → IsWithin g c d t n i → c i ≢ 0 → (k' : ℕ) × IsCandidate g c d t i k' × (m : ℕ) × (suc m ≡ n) × IsWithin g c d t m k'
  step zero i w some = absurd (some w)
  step (suc n) i w some = elim w [
    | inl z ↦ absurd (some z)
    | inr h ↦ (h.0, h.1, n, refl, h.2)
  ]

  better_low : (a b : ℕ) → IsBetter mk a b → get_or mk a 0 ≤ get_or mk b 0
  better_low a b h = elim h [ inl z ↦ omega arith | inr z ↦ omega (arith, z.0) ]

  pub best_some : (i : ℕ) → i < equations g → c i ≢ 0 → get_or best i 0 ≢ 0
  best_some i l some =
      let there = step (get_or mk i 0 - 1) i (ranked i l).1.within some in
      (to.rows i there.0 l (omega (arith, there.1.known)) there.1).0

  best_low : (i : ℕ) → i < equations g → c i ≢ 0 → get_or mk (get_or best i 0 - 1) 0 < get_or mk i 0
  best_low i l some =
      let there = step (get_or mk i 0 - 1) i (ranked i l).1.within some in
      let best_is = to.rows i there.0 l (omega (arith, there.1.known)) there.1 in
      let low = better_low (get_or best i 0 - 1) there.0 best_is.1 in
      let rank = (ranked there.0 there.1.known).1.least there.2 there.4 in
      omega (arith, (ranked i l).0, there.3, low, rank)

  pub reason_is : (i : ℕ) → i < equations g → c i ≢ 0 → IsReason g c d t i (get_or best i 0 - 1)
  reason_is i l some =
      let b = get_or best i 0 - 1 in
      let cand = (to.sound i l (best_some i l some)).0 in
      record {
        candidate = cand;
        rank = get_or mk (get_or best i 0 - 1) 0 - 1;
        is_rank = (ranked (get_or best i 0 - 1) cand.known).1;
        first = λ k' n' cand' rank'.
            let other = ranked k' cand'.known in
            let one = other.1.least n' rank'.within in
            let two = rank'.least (get_or mk k' 0 - 1) other.1.within in
            let best_is = to.rows i k' l (omega (arith, cand'.known)) cand' in
            elim best_is.1 [
              | inl z ↦ inl (omega (arith, (ranked (get_or best i 0 - 1) cand.known).0, other.0))
              | inr z ↦ inr (omega (arith, z.0), z.1)
            ];
      }

  ends_within : (n i : ℕ) → i < equations g → get_or mk i 0 ≤ n → (e : ℕ) × (c (after_reasons (λ x. get_or best x 0 - 1) e i) ≡ 0)
  ends_within zero i l low = absurd (omega (arith, (ranked i l).0))
  ends_within (suc n) i l low = elim (eqb_tells (c i) 0) [
    | inl z ↦ (0, z.1)
    | inr z ↦
        let cand = (to.sound i l (best_some i l z.1)).0 in
        let rest = ends_within n (get_or best i 0 - 1) cand.known (omega (arith, best_low i l z.1)) in
        (suc rest.0, rest.1)
  ]

  pub all_reasons : (reasons : List Reason) → reasons ≡ listed_reasons c (λ i. get_or best i 0 - 1) (equations g) → AreReasonsOf g c d t reasons
  all_reasons reasons listed = record {
    by = λ i. get_or best i 0 - 1;
    reason = reason_is;
    listed = listed;
    ends = λ i l. ends_within (get_or mk i 0) i l (omega arith);
  }

pub listed_none : (c r : ℕ → ℕ) (n : ℕ) → c n ≡ 0 → listed_reasons c r (n + 1) ≡ listed_reasons c r n
listed_none c r n e = let next : n + 1 ≡ suc n = omega arith in rw (next, e) refl

pub listed_some : (c r : ℕ → ℕ) (n from : ℕ) → c n ≢ 0 → from ≡ suc (r n) → listed_reasons c r (n + 1) ≡ listed_reasons c r n ++ record { equation = n + 1; from = from } ∷ []
listed_some c r n from ne e =
    let next : n + 1 ≡ suc n = omega arith in
    elim (eqb_tells (c n) 0) [ inl z ↦ absurd (ne z.1) | inr z ↦ rw (next, e, z.0) refl ]

pub length_listed : (c r : ℕ → ℕ) (n : ℕ) → length (listed_reasons c r n) ≤ n
length_listed c r zero = omega arith
length_listed c r (suc n) = elim (eqb_tells (c n) 0) [
  | inl z ↦ rw z.0 (omega (arith, length_listed c r n))
  | inr z ↦ rw (z.0, length-append (listed_reasons c r n) (record { equation = suc n; from = suc (r n) } ∷ [])) (omega (arith, length_listed c r n))
]

pub tight_mentions : (g : Signature) (c d q : ℕ → ℕ) → Assigns (IsTight g c d) (equations g) q → IsAssignment g q
unfolding IsTight Mentions
tight_mentions g c d q tight = record { allowed = λ i l some. let t = tight.allowed i l some in (t.0, t.1, t.2); apart = tight.apart }
