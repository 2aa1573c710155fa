-- One unknown more is marked; a thread is walked.
use Rattle.std.proofs.Common.{◌≡◌, ◌≢◌, ℕ, suc, ◌+◌, ◌-◌, ◌<◌, ◌≤◌, ◌⊎◌, inl, inr, List, length, get_or, set, refl, sym, ap, ◌∙◌, arith, length-set, get_or-set_other, get_or-set_same}
use Rattle.std.proofs.lemmas.Bool.Decides.{eqb_tells}
use Rattle.mo_incidence.specs.Signature.{Signature, equations, row_len, unknown_at, entries, IsSound}
use Rattle.mo_incidence.specs.Assignment.{Mentions, IsAssignment, CoversAll}
use Rattle.mo_incidence.specs.Offsets.{by_place}
use Rattle.mo_incidence.proofs.Counting.{changed, changed_same, changed_other, distinct_room}
use Rattle.mo_match.specs.Searching.{IsMatching}
use Rattle.mo_match.specs.steps.Threads.{IsThreadedTo}
use Rattle.mo_match.specs.steps.Spreading.{IsSpread, Spreads, AreFreeMarked, IsSpreadFrom, IsSpreadTo, Marks}

below_next : (s t : ℕ) → s < t + 1 → (s < t) ⊎ (s ≡ t)
below_next s t l = elim (eqb_tells s t) [ inl e ↦ inr e.1 | inr e ↦ inl (omega (arith, e.1)) ]

pub spread_none : (g : Signature) (owner reached order : List ℕ) → length reached ≡ suc g.unknowns → length order ≡ g.unknowns
    → ((j : ℕ) → get_or reached j 0 ≡ 0) → IsSpread g owner reached order 0
spread_none g owner reached order size_reached size_order none = record {
  reached_all = size_reached;
  order_all = size_order;
  room = omega arith;
  in_range = λ s l. absurd (omega arith);
  apart = λ s t l. absurd (omega arith);
  marked = λ s l. absurd (omega arith);
  listed = λ j some. absurd (some (none j));
  linked = λ s l. absurd (omega arith);
}

module _ (g : Signature) (owner reached order : List ℕ) (t : ℕ) (spread : IsSpread g owner reached order t) (j : ℕ) (j_in : (0 < j) × (j ≤ g.unknowns)) (unmarked : get_or reached j 0 ≡ 0) where
  other : (s : ℕ) → s < t → get_or order s 0 ≢ j
  other s l e = spread.marked s l (rw e unmarked)

  pub spread_room : t < g.unknowns
  spread_room =
      let f : ℕ → ℕ = changed (λ s. get_or order s 0) t j in
      let at : f t ≡ j = changed_same (λ s. get_or order s 0) t j in
      let off : (s : ℕ) → s < t → f s ≡ get_or order s 0 = λ s l. changed_other (λ s. get_or order s 0) t j s (omega arith) in
      let above : (s : ℕ) → s < t + 1 → (0 < f s) × (f s ≤ g.unknowns) = λ s l. elim (below_next s t l) [ inl h ↦ rw (off s h) (spread.in_range s h) | inr e ↦ rw (e, at) j_in ] in
      let room : t + 1 ≤ g.unknowns = distinct_room (λ s. f s - 1) (t + 1) g.unknowns
      (λ s l. omega (arith, above s l))
      (λ s u sl ul same.
      let equal : f s ≡ f u = omega (arith, above s sl, above u ul) in
      elim (below_next s t sl) [
        | inl h ↦ elim (below_next u t ul) [
          | inl k ↦ spread.apart s u h k (sym (off s h) ∙ equal ∙ off u k)
          | inr e ↦ absurd (other s h (sym (off s h) ∙ equal ∙ ap f e ∙ at))
        ]
        | inr e ↦ elim (below_next u t ul) [
          | inl k ↦ absurd (other u k (sym (off u k) ∙ sym equal ∙ ap f e ∙ at))
          | inr e' ↦ e ∙ sym e'
        ]
      ]) in
      omega arith

  o_at : get_or (set order t j) t 0 ≡ j
  o_at = let l : t < length order = omega (arith, spread_room, spread.order_all) in get_or-set_same order t j 0 l

  o_off : (s : ℕ) → s < t → get_or (set order t j) s 0 ≡ get_or order s 0
  o_off s l = let ne : s ≢ t = omega arith in get_or-set_other order t s j 0 ne

  m_at : get_or (set reached j 1) j 0 ≡ 1
  m_at = let l : j < length reached = omega (arith, j_in, spread.reached_all) in get_or-set_same reached j 1 0 l

  m_off : (u : ℕ) → u ≢ j → get_or (set reached j 1) u 0 ≡ get_or reached u 0
  m_off u ne = get_or-set_other reached j u 1 0 ne

  pub spread_push : (get_or owner j 0 ≢ 0 → (s : ℕ) × (s < t) × Mentions g (get_or owner j 0 - 1) (get_or order s 0)) → IsSpread g owner (set reached j 1) (set order t j) (t + 1)
  spread_push link = record {
    reached_all = length-set reached j 1 ∙ spread.reached_all;
    order_all = length-set order t j ∙ spread.order_all;
    room = omega (arith, spread_room);
    in_range = λ s l. elim (below_next s t l) [ inl h ↦ rw (o_off s h) (spread.in_range s h) | inr e ↦ rw (e, o_at) j_in ];
    apart = λ s u sl ul same. elim (below_next s t sl) [
      | inl h ↦ elim (below_next u t ul) [
        | inl k ↦ spread.apart s u h k (sym (o_off s h) ∙ same ∙ o_off u k)
        | inr e ↦ absurd (other s h (sym (o_off s h) ∙ same ∙ rw e o_at))
      ]
      | inr e ↦ elim (below_next u t ul) [
        | inl k ↦ absurd (other u k (sym (o_off u k) ∙ sym same ∙ rw e o_at))
        | inr e' ↦ e ∙ sym e'
      ]
    ];
    marked = λ s l. elim (below_next s t l) [
      | inl h ↦ rw (o_off s h, m_off (get_or order s 0) (other s h)) (spread.marked s h)
      | inr e ↦ rw (e, o_at, m_at) (omega arith)
    ];
    listed = λ u some. elim (eqb_tells u j) [
      | inl e ↦ (t, omega arith, rw (e.1, o_at) refl)
      | inr e ↦
          let there = spread.listed u (rw (m_off u e.1) at some) in
          (there.0, omega (arith, there.1), o_off there.0 there.1 ∙ there.2)
    ];
    linked = λ s l. elim (below_next s t l) [
      | inl h ↦ rw (o_off s h) (λ some.
          let there = spread.linked s h some in
          (there.0, there.1, rw (o_off there.0 (omega (arith, there.1))) there.2))
      | inr e ↦ rw (e, o_at) (λ some.
          let there = link some in
          (there.0, there.1, rw (o_off there.0 there.1) there.2))
    ];
  }

pub mark_spread : (g : Signature) (owner reached order : List ℕ) (t j : ℕ) (reached' order' : List ℕ) (t' : ℕ) → IsSpread g owner reached order t → Marks reached order t j reached' order' t'
    → (0 < j) × (j ≤ g.unknowns) → (get_or owner j 0 ≢ 0 → (s : ℕ) × (s < t) × Mentions g (get_or owner j 0 - 1) (get_or order s 0)) → IsSpread g owner reached' order' t'
mark_spread g owner reached order t j reached' order' t' spread marks j_in link = elim (eqb_tells (get_or reached j 0) 0) [
  | inl e ↦ let is = marks.new e.1 in rw (is.0, is.1, is.2) (spread_push g owner reached order t spread j j_in e.1 link)
  | inr e ↦ let is = marks.old e.1 in rw (is.0, is.1, is.2) spread
]

pub mark_kept : (reached order : List ℕ) (t j : ℕ) (reached' order' : List ℕ) (t' : ℕ) → Marks reached order t j reached' order' t' → Spreads reached order reached' order' t t'
mark_kept reached order t j reached' order' t' marks = elim (eqb_tells (get_or reached j 0) 0) [
  | inl e ↦
      let is = marks.new e.1 in
      record {
        more = omega (arith, is.2);
        before = λ s l. let ne : s ≢ t = omega arith in rw (is.1, get_or-set_other order t s j 0 ne) refl;
        kept = λ u some. let ne : u ≢ j = λ same. some (rw same e.1) in rw (is.0, get_or-set_other reached j u 1 0 ne) some;
      }
  | inr e ↦
      let is = marks.old e.1 in
      record {
        more = omega (arith, is.2);
        before = λ s l. rw is.1 refl;
        kept = λ u some. rw is.0 some;
      }
]

pub mark_here : (reached order : List ℕ) (t j : ℕ) (reached' order' : List ℕ) (t' : ℕ) → Marks reached order t j reached' order' t' → j < length reached → get_or reached' j 0 ≢ 0
mark_here reached order t j reached' order' t' marks l = elim (eqb_tells (get_or reached j 0) 0) [
  | inl e ↦ rw ((marks.new e.1).0, get_or-set_same reached j 1 0 l) (omega arith)
  | inr e ↦ rw (marks.old e.1).0 e.1
]

pub spreads_none : (reached order : List ℕ) (t : ℕ) → Spreads reached order reached order t t
spreads_none reached order t = record { more = omega arith; before = λ s l. refl; kept = λ j some. some }

pub spreads_on : {r o r1 o1 r2 o2 : List ℕ} {t t1 t2 : ℕ} → Spreads r o r1 o1 t t1 → Spreads r1 o1 r2 o2 t1 t2 → Spreads r o r2 o2 t t2
spreads_on one two = record {
  more = omega (arith, one.more, two.more);
  before = λ s l. two.before s (omega (arith, one.more)) ∙ one.before s l;
  kept = λ j some. two.kept j (one.kept j some);
}

pub free_kept : {g : Signature} {owner reached : List ℕ} {n : ℕ} (reached' : List ℕ) → ((j : ℕ) → get_or reached j 0 ≢ 0 → get_or reached' j 0 ≢ 0)
    → AreFreeMarked g owner reached n → AreFreeMarked g owner reached' n
free_kept reached' kept free = record { free = λ j a b none. kept j (free.free j a b none) }

pub from_kept : {g : Signature} {pairs reached : List ℕ} {j : ℕ} (reached' : List ℕ) → ((u : ℕ) → get_or reached u 0 ≢ 0 → get_or reached' u 0 ≢ 0)
    → IsSpreadFrom g pairs reached j → IsSpreadFrom g pairs reached' j
from_kept reached' kept from = record { inner = λ i l mentions. kept _ (from.inner i l mentions) }

pub spread_next : {g : Signature} {pairs r o r' o' : List ℕ} {t t' : ℕ} (h : ℕ) → h < t → Spreads r o r' o' t t' → IsSpreadTo g pairs r o h → IsSpreadFrom g pairs r' (get_or o h 0) → IsSpreadTo g pairs r' o' (h + 1)
spread_next {r' = r'} h l spreads to from = record {
  inner = λ s sl. elim (below_next s h sl) [
    | inl k ↦ rw (spreads.before s (omega arith)) (from_kept r' spreads.kept (to.inner s k))
    | inr e ↦ rw (e, spreads.before h l) from
  ];
}

pub mentions_in : (g : Signature) (i j : ℕ) → IsSound g → i < equations g → Mentions g i j → (0 < j) × (j ≤ g.unknowns)
unfolding Mentions
mentions_in g i j sound l mentions = rw mentions.2 at (sound.known i mentions.0 l mentions.1)

pub threaded_mentions : (g : Signature) (i j : ℕ) → (k : ℕ) × (k < row_len g i) × (unknown_at g i k ≡ j) → Mentions g i j
unfolding Mentions
threaded_mentions g i j h = h

-- where the walk along the thread of unknown j stands: entries at `cursor` and past it are done
pub record IsWalkingTo (g : Signature) (pairs owner last before row_of target reached0 order0 : List ℕ) (tail0 : ℕ) (reached order : List ℕ) (tail j cursor : ℕ) : Type 0 where
  pub spread : IsSpread g owner reached order tail
  pub spreads : Spreads reached0 order0 reached order tail0 tail
  pub within : cursor ≤ entries g
  pub thread : 0 < cursor → get_or target (cursor - 1) 0 ≡ j
  pub done : (y : ℕ) → cursor ≤ y → y < entries g → get_or target y 0 ≡ j → get_or reached (get_or pairs (get_or row_of y 0) 0) 0 ≢ 0

module _ (g : Signature) (pairs owner last before row_of target : List ℕ) (to : IsThreadedTo g last before row_of target (entries g) (equations g) 0)
    (match : IsMatching (Mentions g) (equations g) g.unknowns pairs owner) (full : CoversAll g (by_place pairs))
    (reached0 order0 : List ℕ) (tail0 head : ℕ) (hl : head < tail0) where
  pub walk_begins : IsSpread g owner reached0 order0 tail0
      → IsWalkingTo g pairs owner last before row_of target reached0 order0 tail0 reached0 order0 tail0 (get_or order0 head 0) (get_or last (get_or order0 head 0) 0)
  walk_begins spread =
      let known = spread.in_range head hl in
      record {
        spread = spread;
        spreads = spreads_none reached0 order0 tail0;
        within = to.last_in (get_or order0 head 0) known.1;
        thread = to.at_last (get_or order0 head 0) known.1;
        done = λ y above l is.
            let past = to.past_last y l in
            let here : y < get_or last (get_or order0 head 0) 0 = rw is at past in
            absurd (omega arith);
      }

  module _ (reached order : List ℕ) (tail cursor : ℕ) (walk : IsWalkingTo g pairs owner last before row_of target reached0 order0 tail0 reached order tail (get_or order0 head 0) cursor) where
    pub walk_row : 0 < cursor → get_or row_of (cursor - 1) 0 < equations g
    walk_row some = to.row_in (cursor - 1) (omega (arith, walk.within))

    pub walk_unknown : 0 < cursor → (0 < get_or pairs (get_or row_of (cursor - 1) 0) 0) × (get_or pairs (get_or row_of (cursor - 1) 0) 0 ≤ g.unknowns)
    walk_unknown some =
        let i = get_or row_of (cursor - 1) 0 in
        let l = walk_row some in
        (omega (arith, full i l), (match.owned i l (full i l)).0)

    pub walk_falls : 0 < cursor → get_or before (cursor - 1) 0 < cursor
    walk_falls some = omega (arith, to.falls (cursor - 1) (omega (arith, walk.within)))

    pub walk_on : 0 < cursor → (reached' order' : List ℕ) (tail' : ℕ) → Marks reached order tail (get_or pairs (get_or row_of (cursor - 1) 0) 0) reached' order' tail'
        → IsWalkingTo g pairs owner last before row_of target reached0 order0 tail0 reached' order' tail' (get_or order0 head 0) (get_or before (cursor - 1) 0)
    walk_on some reached' order' tail' marks =
        let y = cursor - 1 in
        let yl : y < entries g = omega (arith, walk.within) in
        let i = get_or row_of y 0 in
        let il = walk_row some in
        let u = get_or pairs i 0 in
        let u_in = walk_unknown some in
        let owner_is : get_or owner u 0 ≡ suc i = (match.owned i il (full i il)).1 in
        let here = walk.thread some in
        let mentions : Mentions g i (get_or order0 head 0) = threaded_mentions g i (get_or order0 head 0) (rw here at (to.entry y yl)) in
        let kept = mark_kept reached order tail u reached' order' tail' marks in
        let marked = mark_here reached order tail u reached' order' tail' marks (omega (arith, u_in, walk.spread.reached_all)) in
        record {
          spread = mark_spread g owner reached order tail u reached' order' tail' walk.spread marks u_in
              (λ _.
              let back : get_or owner u 0 - 1 ≡ i = omega arith in
              (head, omega (arith, walk.spreads.more), rw (back, walk.spreads.before head hl) mentions));
          spreads = spreads_on walk.spreads kept;
          within = omega (arith, to.falls y yl);
          thread = λ more. to.at_before y yl more ∙ here;
          done = λ z above zl is. elim (eqb_tells z y) [
            | inl e ↦ rw e.1 marked
            | inr e ↦ kept.kept (get_or pairs (get_or row_of z 0) 0) (walk.done z (past z above zl is e.1) zl is)
          ];
        }
      where
        past : (z : ℕ) → get_or before (cursor - 1) 0 ≤ z → z < entries g → get_or target z 0 ≡ get_or order0 head 0 → z ≢ cursor - 1 → cursor ≤ z
        past z above zl is ne = elim (eqb_tells (suc z - cursor) 0) [
          | inl e ↦
              let small : z < cursor - 1 = omega (arith, e.1, ne) in
              let early = to.none_between (cursor - 1) z (omega (arith, walk.within)) small (is ∙ sym (walk.thread some)) in
              absurd (omega arith)
          | inr e ↦ omega (arith, e.1)
        ]

    pub walk_ends : cursor ≡ 0 → IsSpreadFrom g pairs reached (get_or order0 head 0)
    unfolding Mentions
    walk_ends none = record {
      inner = λ i il mentions.
          let there = to.rows i mentions.0 il mentions.1 in
          let marked = walk.done there.0 (omega arith) there.1 (there.3 ∙ mentions.2) in
          rw there.2 at marked;
    }

-- the owners of the unknowns of the equations before t are noted, and no others
pub record IsNotedTo (pairs owner : List ℕ) (t : ℕ) : Type 0 where
  pub noted : (i : ℕ) → i < t → get_or owner (get_or pairs i 0) 0 ≡ suc i
  pub back : (i j : ℕ) → get_or owner j 0 ≡ suc i → (i < t) × (get_or pairs i 0 ≡ j)

pub noted_none : (pairs owner : List ℕ) → ((j : ℕ) → get_or owner j 0 ≡ 0) → IsNotedTo pairs owner 0
noted_none pairs owner none = record { noted = λ i l. absurd (omega arith); back = λ i j e. absurd (omega (arith, none j)) }

module _ (g : Signature) (pairs owner : List ℕ) (t : ℕ) (sound : IsSound g) (assigned : IsAssignment g (by_place pairs)) (full : CoversAll g (by_place pairs))
    (size : length owner ≡ suc g.unknowns) (to : IsNotedTo pairs owner t) where
  pub pair_in : (i : ℕ) → i < equations g → (0 < get_or pairs i 0) × (get_or pairs i 0 ≤ g.unknowns)
  pair_in i l = mentions_in g i (get_or pairs i 0) sound l (assigned.allowed i l (full i l))

  pub noted_next : t < equations g → IsNotedTo pairs (set owner (get_or pairs t 0) (t + 1)) (t + 1)
  noted_next tl =
      let j = get_or pairs t 0 in
      let inside : get_or pairs t 0 < length owner = omega (arith, pair_in t tl) in
      let at : get_or (set owner (get_or pairs t 0) (t + 1)) (get_or pairs t 0) 0 ≡ t + 1 = get_or-set_same owner (get_or pairs t 0) (t + 1) 0 inside in
      let off : (u : ℕ) → u ≢ get_or pairs t 0 → get_or (set owner (get_or pairs t 0) (t + 1)) u 0 ≡ get_or owner u 0 = λ u ne. get_or-set_other owner (get_or pairs t 0) u (t + 1) 0 ne in
      record {
        noted = λ i l. elim (below_next i t l) [
          | inl h ↦
              let ne : get_or pairs i 0 ≢ get_or pairs t 0 = λ same. let is : i ≡ t = assigned.apart i t (omega arith) tl (full i (omega arith)) same in omega arith in
              off (get_or pairs i 0) ne ∙ to.noted i h
          | inr e ↦ rw e (at ∙ omega arith)
        ];
        back = λ i u. elim (eqb_tells u (get_or pairs t 0)) [
          | inl e ↦ rw (e.1, at) (λ is. let same : i ≡ t = omega arith in rw same (omega arith, refl))
          | inr e ↦ rw (off u e.1) (λ is. let there = to.back i u is in (omega (arith, there.0), there.1))
        ];
      }

  pub noted_done : length pairs ≡ equations g → t ≡ equations g → IsMatching (Mentions g) (equations g) g.unknowns pairs owner
  noted_done size_pairs all = record {
    equations_all = size_pairs;
    unknowns_all = size;
    edge = assigned.allowed;
    owned = λ i l some. ((pair_in i l).1, to.noted i (omega arith));
    owns = λ i j above below is. let there = to.back i j is in (omega (arith, there.0), there.1);
  }

-- one unknown more is looked at, which no equation has
pub free_next : (g : Signature) (owner reached order : List ℕ) (t j : ℕ) (reached' order' : List ℕ) (t' : ℕ) → AreFreeMarked g owner reached j → Marks reached order t j reached' order' t'
    → j < length reached → AreFreeMarked g owner reached' (j + 1)
free_next g owner reached order t j reached' order' t' free marks l = record {
  free = λ u a b none. elim (below_next u j b) [
    | inl h ↦ (mark_kept reached order t j reached' order' t' marks).kept u (free.free u a h none)
    | inr e ↦ rw e (mark_here reached order t j reached' order' t' marks l)
  ];
}

pub free_skip : (g : Signature) (owner reached : List ℕ) (j : ℕ) → AreFreeMarked g owner reached j → get_or owner j 0 ≢ 0 → AreFreeMarked g owner reached (j + 1)
free_skip g owner reached j free owned = record {
  free = λ u a b none. elim (below_next u j b) [
    | inl h ↦ free.free u a h none
    | inr e ↦ absurd (owned (rw e at none))
  ];
}

pub mark_room : (g : Signature) (owner reached order : List ℕ) (t j : ℕ) → IsSpread g owner reached order t → (0 < j) × (j ≤ g.unknowns) → get_or reached j 0 ≡ 0 → t < length order
mark_room g owner reached order t j spread j_in unmarked = omega (arith, spread_room g owner reached order t spread j j_in unmarked, spread.order_all)
