-- Steps that gather classes.
use Rattle.std.proofs.Common.{◌≡◌, ◌≢◌, ℕ, ◌+◌, ◌-◌, ◌<◌, ◌≤◌, inl, inr, List, length, get_or, set, refl, sym, ◌∙◌, arith, length-set, get_or-set_other, get_or-set_same}
use Rattle.std.proofs.lemmas.Bool.{cases_lt}
use Rattle.std.proofs.lemmas.Bool.Decides.{eqb_tells}
use Rattle.mo_graph.specs.Order.{Leads}
use Rattle.mo_graph.specs.Edges.{Edge, IsGraph, AreThreaded}
use Rattle.mo_graph.specs.steps.Finishing.{unmarked, IsFinished}
use Rattle.mo_graph.specs.steps.Gathering.{IsGathered, AreClasses}
use Rattle.mo_graph.proofs.Chains.{below_next, leads_on, edge_at, edge_where, unmarked_set, unmarked_all}

pub gather_begin : (m : ℕ) (sources targets order : List ℕ) (count : ℕ) (class queue : List ℕ) → length class ≡ m → length queue ≡ m → ((v : ℕ) → get_or class v 0 ≡ 0)
    → IsGathered m sources targets order count class queue 0 0 0 1 count
gather_begin m sources targets order count class queue sc sq clear = record {
  class_all = sc;
  queue_all = sq;
  room = omega (arith, unmarked_all m class (λ v l. clear v));
  queue_in = λ s l. absurd (omega arith);
  listed = λ v some. absurd (some (clear v));
  bounds = (omega arith, omega arith);
  few = (omega arith, omega arith);
  early = λ s l. absurd (omega arith);
  late = λ s l l'. absurd (omega arith);
  shut = λ s u l. absurd (omega arith);
  falls = λ u v e some. absurd (some (clear u));
  together = λ u v some. absurd (some (clear u));
  home = λ s l l'. absurd (omega arith);
  near = λ s l l'. absurd (omega arith);
  done = λ a l l'. absurd (omega arith);
}

module _ (m : ℕ) (sources targets order : List ℕ) (count : ℕ) (finished : IsFinished m sources targets order count)
    (class queue : List ℕ) (base head tail number t : ℕ) (to : IsGathered m sources targets order count class queue base head tail number t) where
  -- no number is above the last
  number_top : (v : ℕ) → get_or class v 0 ≤ number
  number_top v = elim (eqb_tells (get_or class v 0) 0) [
    | inl e ↦ omega (arith, e.1)
    | inr e ↦
        let there = to.listed v e.1 in
        elim (cases_lt there.0 base) [
          | inl l ↦ let low : get_or class v 0 < number = rw there.2 at (to.early there.0 l) in omega arith
          | inr l ↦ let same : get_or class v 0 ≡ number = rw there.2 at (to.late there.0 l there.1) in omega arith
        ]
  ]

  -- who has the last number stands from base on
  last_listed : (v : ℕ) → get_or class v 0 ≡ number → (s : ℕ) × (base ≤ s) × (s < tail) × (get_or queue s 0 ≡ v)
  last_listed v e =
      let some : get_or class v 0 ≢ 0 = omega (arith, to.few) in
      let there = to.listed v some in
      elim (cases_lt there.0 base) [
        | inl l ↦ let low : get_or class v 0 < number = rw there.2 at (to.early there.0 l) in absurd (omega arith)
        | inr l ↦ (there.0, l, there.1, there.2)
      ]

  module _ (u : ℕ) (um : u < m) (free : get_or class u 0 ≡ 0) where
    pub gather_room : tail < m
    gather_room = omega (arith, to.room, unmarked_set m class u number um to.class_all free (omega (arith, to.few)))

    q_at : get_or (set queue tail u) tail 0 ≡ u
    q_at = get_or-set_same queue tail u 0 (omega (arith, to.queue_all, gather_room))

    q_off : (s : ℕ) → s < tail → get_or (set queue tail u) s 0 ≡ get_or queue s 0
    q_off s l = let ne : s ≢ tail = omega arith in get_or-set_other queue tail s u 0 ne

    c_at : get_or (set class u number) u 0 ≡ number
    c_at = get_or-set_same class u number 0 (omega (arith, to.class_all))

    c_off : (v : ℕ) → v ≢ u → get_or (set class u number) v 0 ≡ get_or class v 0
    c_off v ne = get_or-set_other class u v number 0 ne

    c_some : (v : ℕ) → get_or class v 0 ≢ 0 → get_or (set class u number) v 0 ≡ get_or class v 0
    c_some v some = c_off v (λ e. some (rw e free))

    c_kept : (v : ℕ) → get_or class v 0 ≢ 0 → get_or (set class u number) v 0 ≢ 0
    c_kept v some = rw (c_some v some) some

    more : unmarked m (set class u number) + 1 ≡ unmarked m class
    more = unmarked_set m class u number um to.class_all free (omega (arith, to.few))

    module _ (inside : head < tail) (edge : Edge sources targets u (get_or queue head 0)) where
      near_new : (b : ℕ) × (b ≤ t) × (b < count) × (get_or order b 0 ≡ u) × ((c : ℕ) → b ≤ c → c ≤ t → Leads (Edge sources targets) (get_or order t 0) (get_or order c 0))
      near_new =
          let at = finished.all u um in
          let low : at.0 < t = elim (cases_lt at.0 t) [
            | inl l ↦ l
            | inr l ↦ absurd (let marked : get_or class u 0 ≢ 0 = rw at.2 at (to.done at.0 l at.1) in marked free)
          ] in
          let by = to.near head to.bounds.0 inside in (
            at.0,
            omega (arith, low),
            at.1,
            at.2,
            λ c ac ct. elim (cases_lt c by.0) [
              | inr l ↦ by.4 c l ct
              | inl l ↦
                  let there : Edge sources targets (get_or order at.0 0) (get_or order by.0 0) = rw (at.2, by.3) edge in
                  let first : at.0 < by.0 = omega (arith, ac, l) in
                  leads_on (by.4 by.0 (omega arith) by.1) (finished.back at.0 by.0 c first by.2 there ac (omega (arith, l)))
            ],
          )

      from_root : (s : ℕ) → base ≤ s → s < tail → Leads (Edge sources targets) (get_or order t 0) (get_or queue s 0)
      from_root s bs l = let by = to.near s bs l in rw (← by.3) (by.4 by.0 (omega arith) by.1)

      home_new : Leads (Edge sources targets) u (get_or order t 0)
      home_new = Leads.step edge (to.home head to.bounds.0 inside)

      root_new : Leads (Edge sources targets) (get_or order t 0) u
      root_new = rw (← near_new.3) (near_new.4 near_new.0 (omega arith) near_new.1)

      pub gather_take : IsGathered m sources targets order count (set class u number) (set queue tail u) base head (tail + 1) number t
      gather_take = record {
        class_all = length-set class u number ∙ to.class_all;
        queue_all = length-set queue tail u ∙ to.queue_all;
        room = omega (arith, to.room, more);
        queue_in = λ s l. elim (below_next s tail l) [
          | inl h ↦ let was = to.queue_in s h in rw (q_off s h) (was.0, c_kept (get_or queue s 0) was.1)
          | inr e ↦ rw (e, q_at, c_at) (um, omega (arith, to.few))
        ];
        listed = λ v some. elim (eqb_tells v u) [
          | inl e ↦ (tail, omega arith, q_at ∙ sym e.1)
          | inr e ↦ let there = to.listed v (rw (c_off v e.1) at some) in (there.0, omega (arith, there.1), q_off there.0 there.1 ∙ there.2)
        ];
        bounds = (to.bounds.0, omega (arith, to.bounds.1));
        few = to.few;
        early = λ s l.
            let sl : s < tail = omega (arith, to.bounds) in
            rw (q_off s sl, c_some (get_or queue s 0) (to.queue_in s sl).1) (to.early s l);
        late = λ s bs l. elim (below_next s tail l) [
          | inl h ↦ rw (q_off s h, c_some (get_or queue s 0) (to.queue_in s h).1) (to.late s bs h)
          | inr e ↦ rw (e, q_at, c_at) refl
        ];
        shut = λ s v l. rw (q_off s (omega (arith, to.bounds))) (λ there. c_kept v (to.shut s v l there));
        falls = λ a b there. elim (eqb_tells b u) [
          | inl e ↦ rw (e.1, c_at) (λ some other. elim (eqb_tells a u) [
            | inl z ↦ rw (z.1, c_at) (omega arith)
            | inr z ↦ rw (c_off a z.1) (number_top a)
          ])
          | inr e ↦ rw (c_off b e.1) (elim (eqb_tells a u) [
            | inl z ↦ rw (z.1, c_at) (λ some other.
                let place = to.listed b other in
                elim (cases_lt place.0 head) [
                  | inl l ↦ absurd (to.shut place.0 u l (rw (place.2, ← z.1) there) free)
                  | inr l ↦ let same : get_or class b 0 ≡ number = rw place.2 at (to.late place.0 (omega (arith, to.bounds)) place.1) in omega arith
                ])
            | inr z ↦ rw (c_off a z.1) (λ some other. to.falls a b there some other)
          ])
        ];
        together = λ a b. elim (eqb_tells a u) [
          | inl e ↦ rw (e.1, c_at) (elim (eqb_tells b u) [
            | inl z ↦ rw (z.1) (λ some same. Leads.none)
            | inr z ↦ rw (c_off b z.1) (λ some same.
                let place = last_listed b (sym same) in
                rw (← place.3) (leads_on home_new (from_root place.0 place.1 place.2)))
          ])
          | inr e ↦ rw (c_off a e.1) (elim (eqb_tells b u) [
            | inl z ↦ rw (z.1, c_at) (λ some same.
                let place = last_listed a same in
                rw (← place.3) (leads_on (to.home place.0 place.1 place.2) root_new))
            | inr z ↦ rw (c_off b z.1) (to.together a b)
          ])
        ];
        home = λ s bs l. elim (below_next s tail l) [
          | inl h ↦ rw (q_off s h) (to.home s bs h)
          | inr e ↦ rw (e, q_at) home_new
        ];
        near = λ s bs l. elim (below_next s tail l) [
          | inl h ↦ rw (q_off s h) (to.near s bs h)
          | inr e ↦ rw (e, q_at) near_new
        ];
        done = λ a ta l. c_kept (get_or order a 0) (to.done a ta l);
      }

      pub take_kept : (v : ℕ) → get_or class v 0 ≢ 0 → get_or (set class u number) v 0 ≢ 0
      take_kept = c_kept

      pub take_same : get_or (set class u number) u 0 ≢ 0
      take_same = rw c_at (omega (arith, to.few))

      pub take_head : get_or (set queue tail u) head 0 ≡ get_or queue head 0
      take_head = q_off head inside

  -- all that leads to the head of the queue has a number
  pub gather_next : head < tail → ((u : ℕ) → Edge sources targets u (get_or queue head 0) → get_or class u 0 ≢ 0)
      → IsGathered m sources targets order count class queue base (head + 1) tail number t
  gather_next inside all = record {
    class_all = to.class_all;
    queue_all = to.queue_all;
    room = to.room;
    queue_in = to.queue_in;
    listed = to.listed;
    bounds = (omega (arith, to.bounds), omega arith);
    few = to.few;
    early = to.early;
    late = to.late;
    shut = λ s u l. elim (below_next s head l) [
      | inl h ↦ to.shut s u h
      | inr e ↦ rw e (all u)
    ];
    falls = to.falls;
    together = to.together;
    home = to.home;
    near = to.near;
    done = to.done;
  }

  -- between two classes, the next vertex of the order begins one
  module _ (left : ℕ) (next : t ≡ left + 1) (inside : left < count) (between : base ≡ tail) (free : get_or class (get_or order left 0) 0 ≡ 0) where
    pub gather_root : IsGathered m sources targets order count (set class (get_or order left 0) number) (set queue tail (get_or order left 0)) tail tail (tail + 1) number left
    gather_root =
        let um = finished.in_range left inside in
        let u = get_or order left 0 in
        let at : get_or (set queue tail u) tail 0 ≡ u = q_at u um free in
        let here : get_or (set class u number) u 0 ≡ number = c_at u um free in
        let below : (v : ℕ) → get_or class v 0 ≢ number = λ v e. (let there = last_listed v e in omega (arith, there.1, there.2)) in
        record {
          class_all = length-set class u number ∙ to.class_all;
          queue_all = length-set queue tail u ∙ to.queue_all;
          room = omega (arith, to.room, more u um free);
          queue_in = λ s l. elim (below_next s tail l) [
            | inl h ↦ let was = to.queue_in s h in rw (q_off u um free s h) (was.0, c_kept u um free (get_or queue s 0) was.1)
            | inr e ↦ rw (e, at, here) (um, omega (arith, to.few))
          ];
          listed = λ v some. elim (eqb_tells v u) [
            | inl e ↦ (tail, omega arith, at ∙ sym e.1)
            | inr e ↦ let there = to.listed v (rw (c_off u um free v e.1) at some) in (there.0, omega (arith, there.1), q_off u um free there.0 there.1 ∙ there.2)
          ];
          bounds = (omega arith, omega arith);
          few = (omega (arith, to.few), omega (arith, to.few));
          early = λ s l. rw (q_off u um free s l, c_some u um free (get_or queue s 0) (to.queue_in s l).1) (to.early s (omega arith));
          late = λ s bs l. elim (below_next s tail l) [
            | inl h ↦ absurd (omega arith)
            | inr e ↦ rw (e, at, here) refl
          ];
          shut = λ s v l. rw (q_off u um free s l) (λ there. c_kept u um free v (to.shut s v (omega (arith, to.bounds)) there));
          falls = λ a b there. elim (eqb_tells b u) [
            | inl e ↦ rw (e.1, here) (λ some other. elim (eqb_tells a u) [
              | inl z ↦ rw (z.1, here) (omega arith)
              | inr z ↦ rw (c_off u um free a z.1) (number_top a)
            ])
            | inr e ↦ rw (c_off u um free b e.1) (elim (eqb_tells a u) [
              | inl z ↦ rw (z.1, here) (λ some other.
                  let place = to.listed b other in
                  absurd (to.shut place.0 u (omega (arith, place.1, to.bounds)) (rw (place.2, ← z.1) there) free))
              | inr z ↦ rw (c_off u um free a z.1) (λ some other. to.falls a b there some other)
            ])
          ];
          together = λ a b. elim (eqb_tells a u) [
            | inl e ↦ rw (e.1, here) (elim (eqb_tells b u) [
              | inl z ↦ rw (z.1) (λ some same. Leads.none)
              | inr z ↦ rw (c_off u um free b z.1) (λ some same. absurd (below b (sym same)))
            ])
            | inr e ↦ rw (c_off u um free a e.1) (elim (eqb_tells b u) [
              | inl z ↦ rw (z.1, here) (λ some same. absurd (below a same))
              | inr z ↦ rw (c_off u um free b z.1) (to.together a b)
            ])
          ];
          home = λ s bs l. elim (below_next s tail l) [
            | inl h ↦ absurd (omega arith)
            | inr e ↦ rw (e, at) Leads.none
          ];
          near = λ s bs l. elim (below_next s tail l) [
            | inl h ↦ absurd (omega arith)
            | inr e ↦ rw (e, at) (left, omega arith, inside, refl, λ c lc cl. let same : c ≡ left = omega arith in rw same Leads.none)
          ];
          done = λ a la l. elim (eqb_tells a left) [
            | inl e ↦ rw (e.1, here) (omega (arith, to.few))
            | inr e ↦ c_kept u um free (get_or order a 0) (to.done a (omega (arith, e.1)) l)
          ];
        }

  pub gather_over : IsGraph m sources targets → t ≡ 0 → base ≡ tail → AreClasses m sources targets class
  gather_over graph over between =
      let marked : (v : ℕ) → v < m → get_or class v 0 ≢ 0 = λ v vm. (let at = finished.all v vm in rw at.2 at (to.done at.0 (omega arith) at.1)) in
      record {
        size = to.class_all;
        some = λ v vm.
            let kept = marked v vm in
            let there = to.listed v kept in
            let low : get_or class v 0 < number = rw there.2 at (to.early there.0 (omega (arith, there.1))) in
            (omega arith, omega (arith, to.few, to.room));
        falls = λ u v there.
            let e = edge_where sources targets u v there in
            let um : u < m = rw e.2 at (graph.source e.0 e.1) in
            let vm : v < m = rw e.3 at (graph.target e.0 e.1) in
            to.falls u v there (marked u um) (marked v vm);
        together = λ u v um. to.together u v (marked u um);
      }

-- one edge that leads to the head of the queue was looked at: those with its key at or above the cursor come from vertices with numbers
module _ (sources targets last before class class' : List ℕ) (threads : AreThreaded targets last before) (v x : ℕ) (inside : x < length targets) (key : get_or targets x 0 ≡ v)
    (seen : (y : ℕ) → y < length targets → get_or targets y 0 ≡ v → x + 1 ≤ y → get_or class (get_or sources y 0) 0 ≢ 0)
    (kept : (u : ℕ) → get_or class u 0 ≢ 0 → get_or class' u 0 ≢ 0) (now : get_or class' (get_or sources x 0) 0 ≢ 0) where
  pub seen_next : (y : ℕ) → y < length targets → get_or targets y 0 ≡ v → get_or before x 0 ≤ y → get_or class' (get_or sources y 0) 0 ≢ 0
  seen_next y l same le = elim (eqb_tells y x) [
    | inl e ↦ rw e.1 now
    | inr e ↦ elim (cases_lt y x) [
      | inl low ↦ let between = threads.none_between x y inside low (same ∙ sym key) in absurd (omega arith)
      | inr high ↦ kept (get_or sources y 0) (seen y l same (omega (arith, e.1)))
    ]
  ]

pub seen_all : (sources targets class : List ℕ) (v u : ℕ) → length targets ≡ length sources → ((y : ℕ) → y < length targets → get_or targets y 0 ≡ v → 0 ≤ y → get_or class (get_or sources y 0) 0 ≢ 0)
    → Edge sources targets u v → get_or class u 0 ≢ 0
seen_all sources targets class v u size seen edge = let e = edge_where sources targets u v edge in rw e.2 at (seen e.0 (omega (arith, e.1)) e.3 (omega arith))

-- the step of the loop over the edges that lead to the head of the queue
module _ (sources targets last before order : List ℕ) (count : ℕ) (class queue : List ℕ) (base head tail number t v cursor : ℕ)
    (graph : IsGraph (length class) sources targets) (threads : AreThreaded targets last before)
    (finished : IsFinished (length class) sources targets order count)
    (to : IsGathered (length class) sources targets order count class queue base head tail number t)
    (head_in : head < tail) (head_is : get_or queue head 0 ≡ v) (more : 0 < cursor) (in_list : cursor ≤ length targets) (key : get_or targets (cursor - 1) 0 ≡ v) where
  place_in : cursor - 1 < length targets
  place_in = omega arith

  in_sources : cursor - 1 < length sources
  in_sources = omega (arith, graph.same)

  pub source_in : get_or sources (cursor - 1) 0 < length class
  source_in = graph.source (cursor - 1) in_sources

  leads_here : Edge sources targets (get_or sources (cursor - 1) 0) (get_or queue head 0)
  leads_here = rw (head_is, ← key) (edge_at sources targets (cursor - 1) in_sources)

  pub row_room : get_or class (get_or sources (cursor - 1) 0) 0 ≡ 0 → tail < length class
  row_room free = gather_room (length class) sources targets order count finished class queue base head tail number t to (get_or sources (cursor - 1) 0) source_in free

  pub row_take : get_or class (get_or sources (cursor - 1) 0) 0 ≡ 0
      → IsGathered (length (set class (get_or sources (cursor - 1) 0) number)) sources targets order count (set class (get_or sources (cursor - 1) 0) number) (set queue tail (get_or sources (cursor - 1) 0)) base head (tail + 1) number t
  row_take free = rw (length-set class (get_or sources (cursor - 1) 0) number)
      (gather_take (length class) sources targets order count finished class queue base head tail number t to (get_or sources (cursor - 1) 0) source_in free head_in leads_here)

  pub row_head : get_or class (get_or sources (cursor - 1) 0) 0 ≡ 0 → get_or (set queue tail (get_or sources (cursor - 1) 0)) head 0 ≡ v
  row_head free = take_head (length class) sources targets order count finished class queue base head tail number t to (get_or sources (cursor - 1) 0) source_in free head_in leads_here ∙ head_is

  pub cursor_next : (get_or before (cursor - 1) 0 ≤ length targets) × (0 < get_or before (cursor - 1) 0 → get_or targets (get_or before (cursor - 1) 0 - 1) 0 ≡ v)
  cursor_next = (omega (arith, threads.falls (cursor - 1) place_in), λ some. threads.at_before (cursor - 1) place_in some ∙ key)

  module _ (seen : (y : ℕ) → y < length targets → get_or targets y 0 ≡ v → cursor ≤ y → get_or class (get_or sources y 0) 0 ≢ 0) where
    seen_from : (y : ℕ) → y < length targets → get_or targets y 0 ≡ v → cursor - 1 + 1 ≤ y → get_or class (get_or sources y 0) 0 ≢ 0
    seen_from y l same le = seen y l same (omega arith)

    pub row_taken : get_or class (get_or sources (cursor - 1) 0) 0 ≡ 0
        → (y : ℕ) → y < length targets → get_or targets y 0 ≡ v → get_or before (cursor - 1) 0 ≤ y → get_or (set class (get_or sources (cursor - 1) 0) number) (get_or sources y 0) 0 ≢ 0
    row_taken free = seen_next sources targets last before class (set class (get_or sources (cursor - 1) 0) number) threads v (cursor - 1) place_in key seen_from
        (take_kept (length class) sources targets order count finished class queue base head tail number t to (get_or sources (cursor - 1) 0) source_in free head_in leads_here)
        (take_same (length class) sources targets order count finished class queue base head tail number t to (get_or sources (cursor - 1) 0) source_in free head_in leads_here)

pub root_gathered : (sources targets order : List ℕ) (count : ℕ) (class queue : List ℕ) (base number left : ℕ) → IsFinished (length class) sources targets order count
    → IsGathered (length class) sources targets order count class queue base base base number (left + 1) → left < count → get_or class (get_or order left 0) 0 ≡ 0
    → IsGathered (length (set class (get_or order left 0) number)) sources targets order count (set class (get_or order left 0) number) (set queue base (get_or order left 0)) base base (base + 1) number left
root_gathered sources targets order count class queue base number left finished to inside free = rw (length-set class (get_or order left 0) number)
    (gather_root (length class) sources targets order count finished class queue base base base number (left + 1) to left refl inside refl free)

pub root_room : (sources targets order : List ℕ) (count : ℕ) (class queue : List ℕ) (base number left : ℕ) → IsFinished (length class) sources targets order count
    → IsGathered (length class) sources targets order count class queue base base base number (left + 1) → left < count → get_or class (get_or order left 0) 0 ≡ 0
    → base < length class
root_room sources targets order count class queue base number left finished to inside free =
    gather_room (length class) sources targets order count finished class queue base base base number (left + 1) to (get_or order left 0) (finished.in_range left inside) free
