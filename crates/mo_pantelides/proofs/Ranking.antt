-- The search from the equations with an offset of 0 finds the ranks.
use Rattle.std.proofs.Common.{◌≡◌, ◌≢◌, ℕ, zero, suc, ◌+◌, ◌-◌, ◌<◌, ◌≤◌, ◌⊎◌, inl, inr, List, length, get_or, set, refl, sym, ap, ◌∙◌, arith, subst, length-set, get_or-set_other, get_or-set_same}
use Rattle.std.proofs.lemmas.Bool.Decides.{eqb_tells}
use Rattle.mo_incidence.specs.Signature.{Signature, equations, row_len, unknown_at, order_at, IsSound}
use Rattle.mo_incidence.proofs.Counting.{changed, changed_same, changed_other, distinct_room}
use Rattle.mo_incidence.specs.Assignment.{Assigns, CoversAll, Mentions}
use Rattle.mo_incidence.specs.Offsets.{IsTight, IsLeast, by_place, by_number}
use Rattle.mo_match.specs.Searching.{IsMatching}
use Rattle.mo_incidence.specs.Reasons.{IsCandidate, LeadsTo, IsWithin, IsRank}
use Rattle.mo_pantelides.specs.steps.Ranks.{IsRanking, RanksOn, IsNear, IsClosedTo, AreZerosMarked, IsStarting, IsRankingTo}
use Rattle.mo_pantelides.proofs.Lowered.{none_closed}

below_next : (s t : ℕ) → s < t + 1 → (s < t) ⊎ (s ≡ t)
below_next s t l = elim (eqb_tells s t) [ inl e ↦ inr e.1 | inr e ↦ inl (omega (arith, e.1)) ]

pub ranking_none : (g : Signature) (c d t : ℕ → ℕ) (q mk : List ℕ) → length q ≡ equations g → length mk ≡ equations g → ((i : ℕ) → get_or mk i 0 ≡ 0) → IsRanking g c d t q mk 0
ranking_none g c d t q mk size_q size_mk none = record {
  queue_all = size_q;
  mark_all = size_mk;
  room = omega arith;
  in_range = λ s l. absurd (omega arith);
  apart = λ s u l. absurd (omega arith);
  marked = λ s l. absurd (omega arith);
  listed = λ i some. absurd (some (none i));
  within = λ s l. absurd (omega arith);
  low = λ s l. absurd (omega arith);
  ascending = λ s u a l. absurd (omega arith);
}

module _ (g : Signature) (c d t : ℕ → ℕ) (q mk : List ℕ) (tail : ℕ) (ranking : IsRanking g c d t q mk tail) (x : ℕ) (xm : x < equations g) (unmarked : get_or mk x 0 ≡ 0) where
  other : (s : ℕ) → s < tail → get_or q s 0 ≢ x
  other s l e = ranking.marked s l (rw e unmarked)

  pub rank_room : tail < equations g
  rank_room =
      let f : ℕ → ℕ = changed (λ s. get_or q s 0) tail x in
      let at : f tail ≡ x = changed_same (λ s. get_or q s 0) tail x in
      let off : (s : ℕ) → s < tail → f s ≡ get_or q s 0 = λ s l. changed_other (λ s. get_or q s 0) tail x s (omega arith) in
      let room : tail + 1 ≤ equations g = distinct_room f (tail + 1) (equations g)
      (λ s l. elim (below_next s tail l) [ inl h ↦ rw (off s h) (ranking.in_range s h) | inr e ↦ rw (e, at) xm ])
      (λ s u sl ul same. elim (below_next s tail sl) [
        | inl h ↦ elim (below_next u tail ul) [
          | inl k ↦ ranking.apart s u h k (sym (off s h) ∙ same ∙ off u k)
          | inr e ↦ absurd (other s h (sym (off s h) ∙ same ∙ ap f e ∙ at))
        ]
        | inr e ↦ elim (below_next u tail ul) [
          | inl k ↦ absurd (other u k (sym (off u k) ∙ sym same ∙ ap f e ∙ at))
          | inr e' ↦ e ∙ sym e'
        ]
      ]) in
      omega arith

  q_at_holds : get_or (set q tail x) tail 0 ≡ x
  q_at_holds = let l : tail < length q = omega (arith, rank_room, ranking.queue_all) in get_or-set_same q tail x 0 l

  q_off_holds : (s : ℕ) → s < tail → get_or (set q tail x) s 0 ≡ get_or q s 0
  q_off_holds s l = let ne : s ≢ tail = omega arith in get_or-set_other q tail s x 0 ne

  module _ (v : ℕ) (some : v ≢ 0) (few : v ≤ tail + 1) (enough : IsWithin g c d t (v - 1) x) (last : (s : ℕ) → s < tail → get_or mk (get_or q s 0) 0 ≤ v) where
    m_at : get_or (set mk x v) x 0 ≡ v
    m_at = let l : x < length mk = omega (arith, xm, ranking.mark_all) in get_or-set_same mk x v 0 l

    pub m_off : (y : ℕ) → y ≢ x → get_or (set mk x v) y 0 ≡ get_or mk y 0
    m_off y ne = get_or-set_other mk x y v 0 ne

    pub rank_kept : (y : ℕ) → get_or mk y 0 ≢ 0 → get_or (set mk x v) y 0 ≡ get_or mk y 0
    rank_kept y marked = m_off y (λ e. marked (rw e unmarked))

    pub rank_here : get_or (set mk x v) x 0 ≡ v
    rank_here = m_at

    pub rank_push : IsRanking g c d t (set q tail x) (set mk x v) (tail + 1)
    rank_push = record {
      queue_all = length-set q tail x ∙ ranking.queue_all;
      mark_all = length-set mk x v ∙ ranking.mark_all;
      room = omega (arith, rank_room);
      in_range = λ s l. elim (below_next s tail l) [ inl h ↦ rw (q_off_holds s h) (ranking.in_range s h) | inr e ↦ rw (e, q_at_holds) xm ];
      apart = λ s u sl ul same. elim (below_next s tail sl) [
        | inl h ↦ elim (below_next u tail ul) [
          | inl k ↦ ranking.apart s u h k (sym (q_off_holds s h) ∙ same ∙ q_off_holds u k)
          | inr e ↦ absurd (other s h (sym (q_off_holds s h) ∙ same ∙ rw e q_at_holds))
        ]
        | inr e ↦ elim (below_next u tail ul) [
          | inl k ↦ absurd (other u k (sym (q_off_holds u k) ∙ sym same ∙ rw e q_at_holds))
          | inr e' ↦ e ∙ sym e'
        ]
      ];
      marked = λ s l. elim (below_next s tail l) [
        | inl h ↦ rw (q_off_holds s h, m_off (get_or q s 0) (other s h)) (ranking.marked s h)
        | inr e ↦ rw (e, q_at_holds, m_at) some
      ];
      listed = λ i marked. elim (eqb_tells i x) [
        | inl e ↦ (tail, omega arith, rw (e.1, q_at_holds) refl)
        | inr e ↦ let there = ranking.listed i (rw (m_off i e.1) at marked) in (there.0, omega (arith, there.1), q_off_holds there.0 there.1 ∙ there.2)
      ];
      within = λ s l. elim (below_next s tail l) [
        | inl h ↦ rw (q_off_holds s h, m_off (get_or q s 0) (other s h)) (ranking.within s h)
        | inr e ↦ rw (e, q_at_holds, m_at) enough
      ];
      low = λ s l. elim (below_next s tail l) [
        | inl h ↦ rw (q_off_holds s h, m_off (get_or q s 0) (other s h)) (ranking.low s h)
        | inr e ↦ rw (e, q_at_holds, m_at) few
      ];
      ascending = λ s u su ul. elim (below_next u tail ul) [
        | inl k ↦
            let h : s < tail = omega arith in
            rw (q_off_holds u k, m_off (get_or q u 0) (other u k), q_off_holds s h, m_off (get_or q s 0) (other s h)) (ranking.ascending s u su k)
        | inr e ↦ rw (e, q_at_holds, m_at) (elim (below_next s tail (omega arith)) [
          | inl h ↦ rw (q_off_holds s h, m_off (get_or q s 0) (other s h)) (last s h)
          | inr e' ↦ rw (e', q_at_holds, m_at) (omega arith)
        ])
      ];
    }

pub ranks_none : (q mk : List ℕ) (t : ℕ) → RanksOn q mk q mk t t
ranks_none q mk t = record { more = omega arith; before = λ s l. refl; kept = λ i some. refl }

pub ranks_on : {q mk q1 mk1 q2 mk2 : List ℕ} {t t1 t2 : ℕ} → RanksOn q mk q1 mk1 t t1 → RanksOn q1 mk1 q2 mk2 t1 t2 → RanksOn q mk q2 mk2 t t2
ranks_on one two = record {
  more = omega (arith, one.more, two.more);
  before = λ s l. two.before s (omega (arith, one.more)) ∙ one.before s l;
  kept = λ i some. two.kept i (rw (one.kept i some) some) ∙ one.kept i some;
}

module _ (g : Signature) (c d t : ℕ → ℕ) (q mk : List ℕ) (tail : ℕ) (ranking : IsRanking g c d t q mk tail) (head : ℕ) (hl : head < tail) (near : IsNear q mk head tail)
    (x : ℕ) (xm : x < equations g) (unmarked : get_or mk x 0 ≡ 0) (candidate : IsCandidate g c d t x (get_or q head 0)) where
  abbrev value : ℕ
  value = get_or mk (get_or q head 0) 0 + 1

  value_few : get_or mk (get_or q head 0) 0 + 1 ≤ tail + 1
  value_few = omega (arith, ranking.low head hl)

  enough : IsWithin g c d t (get_or mk (get_or q head 0) 0 + 1 - 1) x
  enough =
      let some = ranking.marked head hl in
      let next : suc (get_or mk (get_or q head 0) 0 - 1) ≡ get_or mk (get_or q head 0) 0 + 1 - 1 = omega arith in
      subst (λ (n : ℕ). IsWithin g c d t n x) next (inr (get_or q head 0, candidate, ranking.within head hl))

  pub enter_ranking : IsRanking g c d t (set q tail x) (set mk x (get_or mk (get_or q head 0) 0 + 1)) (tail + 1)
  enter_ranking = rank_push g c d t q mk tail ranking x xm unmarked (get_or mk (get_or q head 0) 0 + 1) (omega arith) value_few enough near.near

  pub enter_on : RanksOn q mk (set q tail x) (set mk x (get_or mk (get_or q head 0) 0 + 1)) tail (tail + 1)
  enter_on = record {
    more = omega arith;
    before = λ s l. let ne : s ≢ tail = omega arith in get_or-set_other q tail s x 0 ne;
    kept = rank_kept g c d t q mk tail ranking x xm unmarked (get_or mk (get_or q head 0) 0 + 1) (omega arith) value_few enough near.near;
  }

  pub enter_here : get_or (set mk x (get_or mk (get_or q head 0) 0 + 1)) x 0 ≢ 0
  enter_here = rw (rank_here g c d t q mk tail ranking x xm unmarked (get_or mk (get_or q head 0) 0 + 1) (omega arith) value_few enough near.near) (omega arith)

  pub enter_near : IsNear (set q tail x) (set mk x (get_or mk (get_or q head 0) 0 + 1)) head (tail + 1)
  enter_near =
      let here = enter_on.before head hl in
      let kept = enter_on.kept (get_or q head 0) (ranking.marked head hl) in
      record {
        near = λ s l. rw (here, kept) (elim (below_next s tail l) [
          | inl h ↦ rw (enter_on.before s h, enter_on.kept (get_or q s 0) (ranking.marked s h)) (near.near s h)
          | inr e ↦
              let place : tail < length q = omega (arith, rank_room g c d t q mk tail ranking x xm unmarked, ranking.queue_all) in
              rw (e, get_or-set_same q tail x 0 place, rank_here g c d t q mk tail ranking x xm unmarked (get_or mk (get_or q head 0) 0 + 1) (omega arith) value_few enough near.near) (omega arith)
        ]);
      }

pub leads_candidate : (g : Signature) (c d t : ℕ → ℕ) (k n i : ℕ) → k < equations g → n < row_len g k → LeadsTo g c d t k n i → IsCandidate g c d t i k
unfolding IsTight
leads_candidate g c d t k n i kl nl leads = record { known = kl; other = leads.apart; tight = (n, nl, leads.unknown, leads.tight) }

pub candidate_leads : (g : Signature) (c d t : ℕ → ℕ) (i k : ℕ) → IsCandidate g c d t i k → (n : ℕ) × (n < row_len g k) × LeadsTo g c d t k n i
unfolding IsTight
candidate_leads g c d t i k cand = (cand.tight.0, cand.tight.1, record { apart = cand.other; unknown = cand.tight.2; tight = cand.tight.3 })

pub closed_on : (g : Signature) (c d t : ℕ → ℕ) (q mk q' mk' : List ℕ) (head tail tail' : ℕ) → IsRanking g c d t q mk tail → head < tail → RanksOn q mk q' mk' tail tail'
    → IsRanking g c d t q' mk' tail' → IsNear q' mk' head tail'
    → ((i n : ℕ) → i < equations g → n < row_len g (get_or q head 0) → LeadsTo g c d t (get_or q head 0) n i → get_or mk' i 0 ≢ 0)
    → IsClosedTo g c d t q mk head → IsClosedTo g c d t q' mk' (head + 1)
closed_on g c d t q mk q' mk' head tail tail' ranking hl on ranking' near done to = record {
  closed = λ s i l il. elim (below_next s head l) [
    | inl h ↦ rw (on.before s (omega arith)) (λ cand.
        let was = to.closed s i h il cand in
        let mark_i = on.kept i was.0 in
        let mark_s = on.kept (get_or q s 0) (ranking.marked s (omega arith)) in
        (rw mark_i was.0, rw (mark_i, mark_s) was.1))
    | inr e ↦ rw (e, on.before head hl) (λ cand.
        let leads = candidate_leads g c d t i (get_or q head 0) cand in
        let some = done i leads.0 il leads.1 leads.2 in
        let there = ranking'.listed i some in
        let bound = near.near there.0 there.1 in
        let bound' : get_or mk' i 0 ≤ get_or mk' (get_or q' head 0) 0 + 1 = rw there.2 at bound in
        (some, rw (on.before head hl) at bound'))
  ];
}

pub near_next : (g : Signature) (c d t : ℕ → ℕ) (q mk : List ℕ) (head tail : ℕ) → IsRanking g c d t q mk tail → head + 1 < tail → IsNear q mk head tail → IsNear q mk (head + 1) tail
near_next g c d t q mk head tail ranking l near = record {
  near = λ s sl.
      let rises = ranking.ascending head (head + 1) (omega arith) l in
      let was = near.near s sl in
      omega arith;
}

pub zeros_kept : (g : Signature) (c : ℕ → ℕ) (q mk q' mk' : List ℕ) (t t' n : ℕ) → RanksOn q mk q' mk' t t' → AreZerosMarked g c mk n → AreZerosMarked g c mk' n
zeros_kept g c q mk q' mk' t t' n on zeros = record { one = λ i l z. let was = zeros.one i l z in on.kept i (omega arith) ∙ was }

module _ (g : Signature) (c d : List ℕ) (pairs owner q mk : List ℕ) (tail : ℕ) (sound : IsSound g) (least : IsLeast g (by_place c) (by_number d))
    (tight : Assigns (IsTight g (by_place c) (by_number d)) (equations g) (by_place pairs)) (full : CoversAll g (by_place pairs))
    (match : IsMatching (Mentions g) (equations g) g.unknowns pairs owner)
    (ranking : IsRanking g (by_place c) (by_number d) (by_place pairs) q mk tail)
    (closed : IsClosedTo g (by_place c) (by_number d) (by_place pairs) q mk tail)
    (zeros : AreZerosMarked g (by_place c) mk (equations g)) where
  pub all_ranked : (i : ℕ) → i < equations g → get_or mk i 0 ≢ 0
  all_ranked = none_closed g (by_place c) (by_number d) pairs owner (λ i. get_or mk i 0) sound least tight full match
      (λ i k il kl none t. elim (eqb_tells k i) [
        | inl e ↦ rw e.1 none
        | inr e ↦ elim (eqb_tells (get_or mk k 0) 0) [
          | inl z ↦ z.1
          | inr z ↦
              let there = ranking.listed k z.1 in
              let cand : IsCandidate g (by_place c) (by_number d) (by_place pairs) i (get_or q there.0 0) = rw there.2 (record { known = kl; other = e.1; tight = t }) in
              absurd ((closed.closed there.0 i there.1 il cand).0 none)
        ]
      ])
      (λ i il none z. let one = zeros.one i il z in omega arith)

  ranked_least : (n i : ℕ) → i < equations g → IsWithin g (by_place c) (by_number d) (by_place pairs) n i → get_or mk i 0 ≤ n + 1
  ranked_least zero i il z = let one = zeros.one i il z in omega arith
  ranked_least (suc n) i il w = elim w [
    | inl z ↦ let one = zeros.one i il z in omega arith
    | inr h ↦
        let before = ranked_least n h.0 h.1.known h.2 in
        let there = ranking.listed h.0 (all_ranked h.0 h.1.known) in
        let cand : IsCandidate g (by_place c) (by_number d) (by_place pairs) i (get_or q there.0 0) = rw there.2 h.1 in
        let after : get_or mk i 0 ≤ get_or mk h.0 0 + 1 = rw there.2 at (closed.closed there.0 i there.1 il cand).1 in
        omega arith
  ]

  pub ranked : (i : ℕ) → i < equations g → IsRank g (by_place c) (by_number d) (by_place pairs) i (get_or mk i 0 - 1)
  ranked i il =
      let some = all_ranked i il in
      let there = ranking.listed i some in
      record {
        within = rw there.2 at (ranking.within there.0 there.1);
        least = λ n w. omega (arith, ranked_least n i il w);
      }

pub leads_by : (g : Signature) (c d pairs : List ℕ) (k n x j s : ℕ) → j ≡ unknown_at g (k + 1 - 1) n → s ≡ order_at g (k + 1 - 1) n → get_or pairs x 0 ≡ j → k ≢ x → get_or d (j - 1) 0 ≡ get_or c k 0 + s
    → LeadsTo g (by_place c) (by_number d) (by_place pairs) k n x
leads_by g c d pairs k n x j s unknown order pair apart tight =
    let back : k + 1 - 1 ≡ k = omega arith in
    let unknown_is : j ≡ unknown_at g k n = rw back at unknown in
    let order_is : s ≡ order_at g k n = rw back at order in
    record {
      apart = apart;
      unknown = sym unknown_is ∙ sym pair;
      tight = rw (pair, ← order_is) tight;
    }

pub zeros_next : (g : Signature) (c : ℕ → ℕ) (mk mk' : List ℕ) (n : ℕ) → ((i : ℕ) → get_or mk i 0 ≢ 0 → get_or mk' i 0 ≡ get_or mk i 0) → (c n ≡ 0 → get_or mk' n 0 ≡ 1) → AreZerosMarked g c mk n → AreZerosMarked g c mk' (n + 1)
zeros_next g c mk mk' n kept here zeros = record {
  one = λ i l z. elim (below_next i n l) [
    | inl h ↦ let was = zeros.one i h z in kept i (omega arith) ∙ was
    | inr e ↦ rw e (here (rw e at z))
  ];
}

module _ (g : Signature) (c d t : ℕ → ℕ) (q mk : List ℕ) (tail n : ℕ) (start : IsStarting g c d t q mk tail n) where
  start_unmarked : get_or mk n 0 ≡ 0
  start_unmarked = elim (eqb_tells (get_or mk n 0) 0) [
    | inl e ↦ e.1
    | inr e ↦
        let there = start.ranking.listed n e.1 in
        let low = start.low there.0 there.1 in
        absurd (omega (arith, there.2))
  ]

  pub start_room : n < equations g → tail < equations g
  start_room l = rank_room g c d t q mk tail start.ranking n l start_unmarked

  pub start_skip : c n ≢ 0 → IsStarting g c d t q mk tail (n + 1)
  start_skip some = record {
    ranking = start.ranking;
    ones = start.ones;
    low = λ s l. omega (arith, start.low s l);
    zeros = zeros_next g c mk mk n (λ i m. refl) (λ z. absurd (some z)) start.zeros;
  }

  pub start_next : n < equations g → c n ≡ 0 → IsStarting g c d t (set q tail n) (set mk n 1) (tail + 1) (n + 1)
  start_next l z =
      let last : (s : ℕ) → s < tail → get_or mk (get_or q s 0) 0 ≤ 1 = λ s sl. omega (arith, start.ones s sl) in
      let enough : IsWithin g c d t (1 - 1) n = z in
      let one : ◌≢◌ {A = ℕ} 1 0 = omega arith in
      let few : 1 ≤ tail + 1 = omega arith in
      let off = rank_kept g c d t q mk tail start.ranking n l start_unmarked 1 one few enough last in
      let here = rank_here g c d t q mk tail start.ranking n l start_unmarked 1 one few enough last in
      let place : tail < length q = omega (arith, start_room l, start.ranking.queue_all) in
      let q_at = get_or-set_same q tail n 0 place in
      let q_off : (s : ℕ) → s < tail → get_or (set q tail n) s 0 ≡ get_or q s 0 = λ s sl. let ne : s ≢ tail = omega arith in get_or-set_other q tail s n 0 ne in
      record {
        ranking = rank_push g c d t q mk tail start.ranking n l start_unmarked 1 one few enough last;
        ones = λ s sl. elim (below_next s tail sl) [
          | inl h ↦ rw (q_off s h, off (get_or q s 0) (start.ranking.marked s h)) (start.ones s h)
          | inr e ↦ rw (e, q_at) here
        ];
        low = λ s sl. elim (below_next s tail sl) [
          | inl h ↦ rw (q_off s h) (omega (arith, start.low s h))
          | inr e ↦ rw (e, q_at) (omega arith)
        ];
        zeros = zeros_next g c mk (set mk n 1) n off (λ _. here) start.zeros;
      }

  pub start_near : (head : ℕ) → head < tail → IsNear q mk head tail
  start_near head hl = record { near = λ s l. omega (arith, start.ones s l, start.ones head hl) }

pub ranking_begins : (g : Signature) (c d t : ℕ → ℕ) (q mk : List ℕ) (tail n : ℕ) → n ≡ equations g → IsStarting g c d t q mk tail n → IsRankingTo g c d t q mk 0 tail
ranking_begins g c d t q mk tail n all start = record {
  ranking = start.ranking;
  closed = record { closed = λ s i l. absurd (omega arith) };
  near = λ l. start_near g c d t q mk tail n start 0 l;
  zeros = rw all at start.zeros;
  within = omega arith;
}

pub ranking_next : (g : Signature) (c d t : ℕ → ℕ) (q mk q' mk' : List ℕ) (head tail tail' : ℕ) → IsRankingTo g c d t q mk head tail → head < tail → RanksOn q mk q' mk' tail tail'
    → IsRanking g c d t q' mk' tail' → IsNear q' mk' head tail'
    → ((i n : ℕ) → i < equations g → n < row_len g (get_or q head 0) → LeadsTo g c d t (get_or q head 0) n i → get_or mk' i 0 ≢ 0)
    → IsRankingTo g c d t q' mk' (head + 1) tail'
ranking_next g c d t q mk q' mk' head tail tail' to hl on ranking' near done = record {
  ranking = ranking';
  closed = closed_on g c d t q mk q' mk' head tail tail' to.ranking hl on ranking' near done to.closed;
  near = λ l. near_next g c d t q' mk' head tail' ranking' l near;
  zeros = zeros_kept g c q mk q' mk' tail tail' (equations g) on to.zeros;
  within = omega (arith, on.more);
}
