-- Steps that place vertices.
use Rattle.std.proofs.Common.{◌≡◌, ◌≢◌, ℕ, zero, suc, ◌+◌, ◌-◌, ◌<◌, ◌≤◌, ◌⊎◌, inl, inr, ◌==◌, if◌then◌else◌, List, length, get_or, set, refl, sym, ap, ◌∙◌, arith, length-set, get_or-set_other, get_or-set_same}
use Rattle.std.proofs.lemmas.Bool.Decides.{eqb_tells}
use Rattle.mo_graph.specs.Counting.{sum_below}
use Rattle.mo_graph.proofs.Counting.{without, without_same, without_other, sum_same, distinct_room}
use Rattle.mo_graph.specs.Edges.{IsGraph, AreThreaded}
use Rattle.mo_graph.specs.steps.Placing.{where_same, waiting, leads_away, IsOrdered, AreOrdered, IsPlacing, Places}
use Rattle.mo_graph.proofs.Chains.{below_next, sum_change}

where_same_holds : (k b y : ℕ) → k ≡ b → where_same k b y ≡ y
where_same_holds k b y e = elim (eqb_tells k b) [ inl h ↦ rw h.0 refl | inr h ↦ absurd (h.1 e) ]

where_other : (k b y : ℕ) → k ≢ b → where_same k b y ≡ 0
where_other k b y ne = elim (eqb_tells k b) [ inl h ↦ absurd (ne h.1) | inr h ↦ rw h.0 refl ]

pub waiting_none : (sources : List ℕ) (open_at : ℕ → ℕ) (n b : ℕ) → ((x : ℕ) → x < n → get_or sources x 0 ≡ b → open_at x ≡ 0) → waiting sources open_at n b ≡ 0
unfolding waiting
waiting_none sources open_at zero b none = refl
waiting_none sources open_at (suc n) b none =
    let rest : sum_below (λ x. where_same (get_or sources x 0) b (open_at x)) n ≡ 0 = waiting_none sources open_at n b (λ x l. none x (omega arith)) in
    elim (eqb_tells (get_or sources n 0) b) [
      | inl e ↦ omega (arith, where_same_holds (get_or sources n 0) b (open_at n) e.1, none n (omega arith) e.1)
      | inr e ↦ omega (arith, where_other (get_or sources n 0) b (open_at n) e.1)
    ]

pub waiting_zero : (sources : List ℕ) (open_at : ℕ → ℕ) (n b : ℕ) → waiting sources open_at n b ≡ 0 → (x : ℕ) → x < n → get_or sources x 0 ≡ b → open_at x ≡ 0
unfolding waiting
waiting_zero sources open_at zero b none x l e = absurd (omega arith)
waiting_zero sources open_at (suc n) b none x l e = elim (eqb_tells x n) [
  | inl z ↦
      let here : get_or sources n 0 ≡ b = rw (← z.1) e in
      rw z.1 (omega (arith, where_same_holds (get_or sources n 0) b (open_at n) here))
  | inr z ↦ waiting_zero sources open_at n b (omega arith) x (omega (arith, z.1)) e
]

-- one edge is no more open
module _ (sources : List ℕ) (open_at : ℕ → ℕ) (n x b : ℕ) (l : x < n) (from : get_or sources x 0 ≡ b) (one : open_at x ≡ 1) where
  pub waiting_less : waiting sources (without open_at x) n b + 1 ≡ waiting sources open_at n b
  unfolding waiting
  waiting_less =
      let change = sum_change (λ (y : ℕ). where_same (get_or sources y 0) b (without open_at x y)) (λ (y : ℕ). where_same (get_or sources y 0) b (open_at y)) x n l
      (λ y yl ne. ap (where_same (get_or sources y 0) b) (without_other open_at x y ne)) in
      let was : where_same (get_or sources x 0) b (open_at x) ≡ 1 = where_same_holds (get_or sources x 0) b (open_at x) from ∙ one in
      let is : where_same (get_or sources x 0) b (without open_at x x) ≡ 0 = where_same_holds (get_or sources x 0) b (without open_at x x) from ∙ without_same open_at x in
      omega (arith, change, was, is)

  pub waiting_kept : (u : ℕ) → u ≢ b → waiting sources (without open_at x) n u ≡ waiting sources open_at n u
  unfolding waiting
  waiting_kept u ne = sum_same (λ (y : ℕ). where_same (get_or sources y 0) u (without open_at x y)) (λ (y : ℕ). where_same (get_or sources y 0) u (open_at y)) n (λ y yl. elim (eqb_tells y x) [
    | inl e ↦
        let other : get_or sources y 0 ≢ u = λ same. ne (sym same ∙ ap (λ (z : ℕ). get_or sources z 0) e.1 ∙ from) in
        where_other (get_or sources y 0) u (without open_at x y) other ∙ sym (where_other (get_or sources y 0) u (open_at y) other)
    | inr e ↦ ap (where_same (get_or sources y 0) u) (without_other open_at x y e.1)
  ])

pub away_none : (sources targets : List ℕ) (x : ℕ) → get_or sources x 0 ≡ get_or targets x 0 → leads_away sources targets x ≡ 0
away_none sources targets x e = elim (eqb_tells (get_or sources x 0) (get_or targets x 0)) [ inl h ↦ rw h.0 refl | inr h ↦ absurd (h.1 e) ]

pub away_one : (sources targets : List ℕ) (x : ℕ) → get_or sources x 0 ≢ get_or targets x 0 → leads_away sources targets x ≡ 1
away_one sources targets x ne = elim (eqb_tells (get_or sources x 0) (get_or targets x 0)) [ inl h ↦ absurd (ne h.1) | inr h ↦ rw h.0 refl ]

pub waiting_next : (sources targets : List ℕ) (n b : ℕ) → waiting sources (leads_away sources targets) (n + 1) b ≡ where_same (get_or sources n 0) b (leads_away sources targets n) + waiting sources (leads_away sources targets) n b
unfolding waiting
waiting_next sources targets n b = let next : n + 1 ≡ suc n = omega arith in rw next refl

-- counting the edges that lead away: one more was looked at
module _ (sources targets waits : List ℕ) (n : ℕ) (known : get_or sources n 0 < length waits)
    (to : (b : ℕ) → b < length waits → get_or waits b 0 ≡ waiting sources (leads_away sources targets) n b) where
  pub count_pass : get_or sources n 0 ≡ get_or targets n 0 → (b : ℕ) → b < length waits → get_or waits b 0 ≡ waiting sources (leads_away sources targets) (n + 1) b
  count_pass same b l =
      let none = away_none sources targets n same in
      let next = waiting_next sources targets n b in
      elim (eqb_tells (get_or sources n 0) b) [
        | inl e ↦ omega (arith, to b l, where_same_holds (get_or sources n 0) b (leads_away sources targets n) e.1)
        | inr e ↦ omega (arith, to b l, where_other (get_or sources n 0) b (leads_away sources targets n) e.1)
      ]

  pub count_one : get_or sources n 0 ≢ get_or targets n 0 → (b : ℕ) → b < length (set waits (get_or sources n 0) (get_or waits (get_or sources n 0) 0 + 1))
      → get_or (set waits (get_or sources n 0) (get_or waits (get_or sources n 0) 0 + 1)) b 0 ≡ waiting sources (leads_away sources targets) (n + 1) b
  count_one differ b l =
      let one = away_one sources targets n differ in
      let next = waiting_next sources targets n b in
      let size = length-set waits (get_or sources n 0) (get_or waits (get_or sources n 0) 0 + 1) in
      let inside : b < length waits = omega arith in
      elim (eqb_tells (get_or sources n 0) b) [
        | inl e ↦
            let at : get_or (set waits (get_or sources n 0) (get_or waits (get_or sources n 0) 0 + 1)) b 0 ≡ get_or waits b 0 + 1 = rw e.1 (get_or-set_same waits b (get_or waits b 0 + 1) 0 inside) in
            omega (arith, to b inside, at, where_same_holds (get_or sources n 0) b (leads_away sources targets n) e.1)
        | inr e ↦
            let ne : b ≢ get_or sources n 0 = λ same. e.1 (sym same) in
            let at = get_or-set_other waits (get_or sources n 0) b (get_or waits (get_or sources n 0) 0 + 1) 0 ne in
            omega (arith, to b inside, at, where_other (get_or sources n 0) b (leads_away sources targets n) e.1)
      ]

  waiting_small : (k b : ℕ) → waiting sources (leads_away sources targets) k b ≤ k
  unfolding waiting
  waiting_small zero b = omega arith
  waiting_small (suc k) b =
      let rest : sum_below (λ x. where_same (get_or sources x 0) b (leads_away sources targets x)) k ≤ k = waiting_small k b in
      elim (eqb_tells (get_or sources k 0) b) [
        | inr e ↦ omega (arith, where_other (get_or sources k 0) b (leads_away sources targets k) e.1)
        | inl e ↦ elim (eqb_tells (get_or sources k 0) (get_or targets k 0)) [
          | inl z ↦ omega (arith, where_same_holds (get_or sources k 0) b (leads_away sources targets k) e.1, away_none sources targets k z.1)
          | inr z ↦ omega (arith, where_same_holds (get_or sources k 0) b (leads_away sources targets k) e.1, away_one sources targets k z.1)
        ]
      ]

  pub count_small : (b : ℕ) → waiting sources (leads_away sources targets) n b ≤ n
  count_small b = waiting_small n b

-- nothing is placed yet
pub placing_begin : (m : ℕ) (sources targets leader order placed waits : List ℕ) (Ready : ℕ → Type 0) (awake : ℕ)
    → length order ≡ m → length placed ≡ m → length waits ≡ m → ((v : ℕ) → get_or placed v 0 ≡ 0)
    → ((b : ℕ) → b < length waits → get_or waits b 0 ≡ waiting sources (leads_away sources targets) (length sources) b)
    → ((v : ℕ) → Ready v → (v < m) × (get_or leader v 0 ≡ v) × (get_or waits v 0 ≡ 0))
    → ((v : ℕ) → v < m → get_or leader v 0 ≡ v → get_or waits v 0 ≡ 0 → Ready v)
    → Places m sources targets leader order placed waits 0 Ready awake 0
placing_begin m sources targets leader order placed waits Ready awake so sp sw clear waits_are only all = (
  leads_away sources targets,
  record {
    order_all = so;
    placed_all = sp;
    waits_all = sw;
    ordered = record {
      order_in = λ s l. absurd (omega arith);
      placed_in = λ v some. absurd (some (clear v));
      met = λ s x l. absurd (omega arith);
      least = λ s v l. absurd (omega arith);
    };
    waits_are = λ b l. waits_are b (omega arith);
    open_one = λ x l some. elim (eqb_tells (get_or sources x 0) (get_or targets x 0)) [
      | inl e ↦ absurd (some (away_none sources targets x e.1))
      | inr e ↦ (away_one sources targets x e.1, e.1, inl (clear (get_or targets x 0)))
    ];
    open_none = λ x l none differ. absurd (omega (arith, away_one sources targets x differ));
    ready_in = λ v r. let at = only v r in (at.0, at.1, clear v, at.2);
    ready_all = λ v l led unplaced none. all v l led none;
  },
)

module _ (m : ℕ) (sources targets leader order placed waits : List ℕ) (count : ℕ) (Ready : ℕ → Type 0) (open_at : ℕ → ℕ) where
  -- the least of the ready vertices is placed
  module _ (awake : ℕ) (to : IsPlacing m sources targets leader order placed waits count Ready awake 0 open_at)
      (last before : List ℕ) (graph : IsGraph m sources targets) (threads : AreThreaded targets last before)
      (v : ℕ) (is_ready : Ready v) (first : (u : ℕ) → Ready u → v ≤ u) (Ready' : ℕ → Type 0)
      (was : (u : ℕ) → Ready' u → Ready u × (u ≢ v)) (still : (u : ℕ) → Ready u → u ≢ v → Ready' u) where
    at_v : (v < m) × (get_or leader v 0 ≡ v) × (get_or placed v 0 ≡ 0) × (get_or waits v 0 ≡ 0)
    at_v = to.ready_in v is_ready

    all_then : ℕ → ℕ
    all_then s = if s == count then v else get_or order s 0

    all_at : all_then count ≡ v
    unfolding all_then
    all_at = elim (eqb_tells count count) [ inl e ↦ rw e.0 refl | inr e ↦ absurd (e.1 refl) ]

    all_off : (s : ℕ) → s < count → all_then s ≡ get_or order s 0
    unfolding all_then
    all_off s l = elim (eqb_tells s count) [ inl e ↦ absurd (omega (arith, e.1)) | inr e ↦ rw e.0 refl ]

    placed_not : (s : ℕ) → s < count → get_or order s 0 ≢ v
    placed_not s l e = (let there : get_or placed v 0 ≡ suc s = rw e at (to.ordered.order_in s l).2 in omega (arith, at_v.2))

    pub place_room : count < m
    place_room =
        let room : count + 1 ≤ m = distinct_room all_then (count + 1) m
        (λ s l. elim (below_next s count l) [
          | inl h ↦ rw (all_off s h) (to.ordered.order_in s h).0
          | inr e ↦ rw (e, all_at) at_v.0
        ])
        (λ s r sl rl. elim (below_next s count sl) [
          | inl h ↦ elim (below_next r count rl) [
            | inl h' ↦ rw (all_off s h, all_off r h') (λ same.
                let both : suc s ≡ suc r = sym (to.ordered.order_in s h).2 ∙ ap (λ (z : ℕ). get_or placed z 0) same ∙ (to.ordered.order_in r h').2 in
                omega arith)
            | inr e' ↦ rw (e', all_at, all_off s h) (λ same. absurd (placed_not s h same))
          ]
          | inr e ↦ elim (below_next r count rl) [
            | inl h' ↦ rw (e, all_at, all_off r h') (λ same. absurd (placed_not r h' (sym same)))
            | inr e' ↦ λ same. e ∙ sym e'
          ]
        ]) in
        omega arith

    o_at : get_or (set order count v) count 0 ≡ v
    o_at = get_or-set_same order count v 0 (omega (arith, to.order_all, place_room))

    o_off : (s : ℕ) → s < count → get_or (set order count v) s 0 ≡ get_or order s 0
    o_off s l = let ne : s ≢ count = omega arith in get_or-set_other order count s v 0 ne

    p_at : get_or (set placed v (count + 1)) v 0 ≡ count + 1
    p_at = get_or-set_same placed v (count + 1) 0 (omega (arith, to.placed_all, at_v.0))

    p_off : (u : ℕ) → u ≢ v → get_or (set placed v (count + 1)) u 0 ≡ get_or placed u 0
    p_off u ne = get_or-set_other placed v u (count + 1) 0 ne

    p_some : (u : ℕ) → get_or placed u 0 ≢ 0 → get_or (set placed v (count + 1)) u 0 ≡ get_or placed u 0
    p_some u some = p_off u (λ e. some (rw e at_v.2))

    -- what was placed up to `count` was placed before
    p_low : (u s : ℕ) → s ≤ count → get_or (set placed v (count + 1)) u 0 ≢ 0 → get_or (set placed v (count + 1)) u 0 ≤ s → (get_or placed u 0 ≢ 0) × (get_or placed u 0 ≤ s)
    p_low u s sc = elim (eqb_tells u v) [
      | inl e ↦ rw (e.1, p_at) (λ some le. absurd (omega arith))
      | inr e ↦ rw (p_off u e.1) (λ some le. (some, le))
    ]

    ordered_then : IsOrdered m sources targets leader (set order count v) (set placed v (count + 1)) (count + 1)
    ordered_then = record {
      order_in = λ s l. elim (below_next s count l) [
        | inl h ↦ let old = to.ordered.order_in s h in rw (o_off s h, p_off (get_or order s 0) (placed_not s h)) old
        | inr e ↦ rw (e, o_at, p_at) (at_v.0, at_v.1, omega arith)
      ];
      placed_in = λ u. elim (eqb_tells u v) [
        | inl e ↦ rw (e.1, p_at) (λ some. let back : count + 1 - 1 ≡ count = omega arith in (omega arith, rw back o_at))
        | inr e ↦ rw (p_off u e.1) (λ some. let there = to.ordered.placed_in u some in (omega (arith, there.0), o_off (get_or placed u 0 - 1) (omega (arith, there.0)) ∙ there.1))
      ];
      met = λ s x l xl. elim (below_next s count l) [
        | inl h ↦ rw (o_off s h) (λ from differ. let old = to.ordered.met s x h xl from differ in rw (p_some (get_or targets x 0) old.0) old)
        | inr e ↦ rw (e, o_at) (λ from differ.
            let none : waiting sources open_at (length sources) v ≡ 0 = sym (to.waits_are v at_v.0) ∙ at_v.3 in
            let gone : open_at x ≡ 0 = waiting_zero sources open_at (length sources) v none x xl from in
            let done = (to.open_none x xl gone differ).0 in
            rw (p_some (get_or targets x 0) done) (done, (to.ordered.placed_in (get_or targets x 0) done).0))
      ];
      least = λ s u l um led later needs. elim (below_next s count l) [
        | inl h ↦ rw (o_off s h) (to.ordered.least s u h um led
            (λ some. rw (p_some u some) at (later (rw (p_some u some) some)))
            (λ x xl from differ. let n = needs x xl from differ in p_low (get_or targets x 0) s (omega arith) n.0 n.1))
        | inr e ↦ rw (e, o_at) (elim (eqb_tells u v) [
          | inl z ↦ omega (arith, z.1)
          | inr z ↦
              let unplaced : get_or placed u 0 ≡ 0 = elim (eqb_tells (get_or placed u 0) 0) [
                | inl y ↦ y.1
                | inr y ↦ absurd (
                    let old = (to.ordered.placed_in u y.1).0 in
                    let now : s < get_or placed u 0 = rw (p_some u y.1) at (later (rw (p_some u y.1) y.1)) in
                    omega (arith, e))
              ] in
              let none : waiting sources open_at (length sources) u ≡ 0 = waiting_none sources open_at (length sources) u (λ x xl from. elim (eqb_tells (open_at x) 0) [
                | inl y ↦ y.1
                | inr y ↦
                    let one = to.open_one x xl y.1 in
                    let n = needs x xl from one.1 in
                    let old = p_low (get_or targets x 0) count (omega arith) n.0 (omega (arith, n.1, e)) in
                    elim one.2 [
                      | inl w ↦ absurd (old.0 w)
                      | inr w ↦ absurd (omega (arith, w.1))
                    ]
              ]) in
              first u (to.ready_all u um led unplaced (to.waits_are u um ∙ none))
        ])
      ];
    }

    pub placing_place : IsPlacing m sources targets leader (set order count v) (set placed v (count + 1)) waits (count + 1) Ready' v (get_or last v 0) open_at
    placing_place = record {
      order_all = length-set order count v ∙ to.order_all;
      placed_all = length-set placed v (count + 1) ∙ to.placed_all;
      waits_all = to.waits_all;
      ordered = ordered_then;
      waits_are = to.waits_are;
      open_one = λ x l some.
          let one = to.open_one x l some in
          elim one.2 [
            | inr w ↦ absurd (omega (arith, w.1))
            | inl w ↦ (
              one.0,
              one.1,
              elim (eqb_tells (get_or targets x 0) v) [
                | inl e ↦ inr (e.1, (let past = threads.past_last x (omega (arith, graph.same)) in rw e.1 at past))
                | inr e ↦ inl (p_off (get_or targets x 0) e.1 ∙ w)
              ],
            )
          ];
      open_none = λ x l none differ.
          let done = (to.open_none x l none differ).0 in
          (rw (p_some (get_or targets x 0) done) done, λ e. absurd (done (rw e at_v.2)));
      ready_in = λ u r.
          let old = was u r in
          let at = to.ready_in u old.0 in
          (at.0, at.1, p_off u old.1 ∙ at.2, at.3);
      ready_all = λ u um led. elim (eqb_tells u v) [
        | inl e ↦ rw (e.1, p_at) (λ unplaced none. absurd (omega arith))
        | inr e ↦ rw (p_off u e.1) (λ unplaced none. still u (to.ready_all u um led unplaced none) e.1)
      ];
    }

    pub placed_last : get_or (set placed v (count + 1)) v 0 ≡ count + 1
    placed_last = p_at

  -- an edge to the vertex that was placed last
  module _ (awake x : ℕ) (to : IsPlacing m sources targets leader order placed waits count Ready awake (suc x) open_at)
      (last before : List ℕ) (graph : IsGraph m sources targets) (threads : AreThreaded targets last before)
      (xl : x < length sources) (key : get_or targets x 0 ≡ awake) (done : get_or placed awake 0 ≡ count) (some : 0 < count) where
    x_in : x < length targets
    x_in = omega (arith, graph.same)

    before_low : get_or before x 0 ≤ x
    before_low = threads.falls x x_in

    lower : (y : ℕ) → get_or targets y 0 ≡ awake → y < suc x → y ≢ x → y < get_or before x 0
    lower y e l ne = threads.none_between x y x_in (omega arith) (e ∙ sym key)

    -- it comes from the vertex itself
    pub placing_skip : get_or sources x 0 ≡ awake → IsPlacing m sources targets leader order placed waits count Ready awake (get_or before x 0) open_at
    placing_skip from = record {
      order_all = to.order_all;
      placed_all = to.placed_all;
      waits_all = to.waits_all;
      ordered = to.ordered;
      waits_are = to.waits_are;
      open_one = λ y l is.
          let one = to.open_one y l is in (
            one.0,
            one.1,
            elim one.2 [
              | inl w ↦ inl w
              | inr w ↦
                  let ne : y ≢ x = λ e. one.1 (rw e (from ∙ sym key)) in
                  inr (w.0, lower y w.0 w.1 ne)
            ],
          );
      open_none = λ y l none differ. let old = to.open_none y l none differ in (old.0, λ e. omega (arith, old.1 e, before_low));
      ready_in = to.ready_in;
      ready_all = to.ready_all;
    }

    -- it comes from another one
    module _ (away : get_or sources x 0 ≢ awake) where
      was_open : open_at x ≡ 1
      was_open = elim (eqb_tells (open_at x) 0) [
        | inl e ↦ absurd (let old = to.open_none x xl e.1 (λ same. away (same ∙ key)) in omega (arith, old.1 key))
        | inr e ↦ (to.open_one x xl e.1).0
      ]

      less : waiting sources (without open_at x) (length sources) (get_or sources x 0) + 1 ≡ waiting sources open_at (length sources) (get_or sources x 0)
      less = waiting_less sources open_at (length sources) x (get_or sources x 0) xl refl was_open

      pub lower_some : get_or waits (get_or sources x 0) 0 ≢ 0
      lower_some = omega (arith, less, to.waits_are (get_or sources x 0) (graph.source x xl))

      unplaced : get_or placed (get_or sources x 0) 0 ≡ 0
      unplaced = elim (eqb_tells (get_or placed (get_or sources x 0) 0) 0) [
        | inl e ↦ e.1
        | inr e ↦
            let there = to.ordered.placed_in (get_or sources x 0) e.1 in
            let inside : get_or placed (get_or sources x 0) 0 - 1 < count = omega (arith, there.0) in
            let before_it = to.ordered.met (get_or placed (get_or sources x 0) 0 - 1) x inside xl (sym there.1) (λ same. away (same ∙ key)) in
            let late : get_or placed awake 0 ≤ get_or placed (get_or sources x 0) 0 - 1 = rw key at before_it.1 in
            absurd (omega arith)
      ]

      w_at : get_or (set waits (get_or sources x 0) (get_or waits (get_or sources x 0) 0 - 1)) (get_or sources x 0) 0 ≡ get_or waits (get_or sources x 0) 0 - 1
      w_at = get_or-set_same waits (get_or sources x 0) (get_or waits (get_or sources x 0) 0 - 1) 0 (omega (arith, to.waits_all, graph.source x xl))

      w_off : (u : ℕ) → u ≢ get_or sources x 0 → get_or (set waits (get_or sources x 0) (get_or waits (get_or sources x 0) 0 - 1)) u 0 ≡ get_or waits u 0
      w_off u ne = get_or-set_other waits (get_or sources x 0) u (get_or waits (get_or sources x 0) 0 - 1) 0 ne

      module _ (led : get_or leader (get_or sources x 0) 0 ≡ get_or sources x 0) (Ready' : ℕ → Type 0)
          (was : (u : ℕ) → Ready' u → Ready u ⊎ ((u ≡ get_or sources x 0) × (get_or waits (get_or sources x 0) 0 - 1 ≡ 0)))
          (still : (u : ℕ) → Ready u → Ready' u) (now : get_or waits (get_or sources x 0) 0 - 1 ≡ 0 → Ready' (get_or sources x 0)) where
        pub placing_lower : IsPlacing m sources targets leader order placed (set waits (get_or sources x 0) (get_or waits (get_or sources x 0) 0 - 1)) count Ready' awake (get_or before x 0) (without open_at x)
        placing_lower = record {
          order_all = to.order_all;
          placed_all = to.placed_all;
          waits_all = length-set waits (get_or sources x 0) (get_or waits (get_or sources x 0) 0 - 1) ∙ to.waits_all;
          ordered = to.ordered;
          waits_are = λ b bm. elim (eqb_tells b (get_or sources x 0)) [
            | inl e ↦ rw (e.1, w_at) (omega (arith, less, to.waits_are (get_or sources x 0) (graph.source x xl)))
            | inr e ↦ w_off b e.1 ∙ to.waits_are b bm ∙ sym (waiting_kept sources open_at (length sources) x (get_or sources x 0) xl refl was_open b e.1)
          ];
          open_one = λ y l. elim (eqb_tells y x) [
            | inl e ↦ rw (e.1, without_same open_at x) (λ is. absurd (is refl))
            | inr e ↦ rw (without_other open_at x y e.1) (λ is.
                let one = to.open_one y l is in (
                  one.0,
                  one.1,
                  elim one.2 [
                    | inl w ↦ inl w
                    | inr w ↦ inr (w.0, lower y w.0 w.1 e.1)
                  ],
                ))
          ];
          open_none = λ y l. elim (eqb_tells y x) [
            | inl e ↦ rw e.1 (λ none differ. (rw (key, done) (omega arith), λ _. before_low))
            | inr e ↦ rw (without_other open_at x y e.1) (λ none differ. let old = to.open_none y l none differ in (old.0, λ same. omega (arith, old.1 same, before_low)))
          ];
          ready_in = λ u r. elim (was u r) [
            | inl old ↦
                let at = to.ready_in u old in
                let ne : u ≢ get_or sources x 0 = λ e. lower_some (rw e at at.3) in
                (at.0, at.1, at.2, w_off u ne ∙ at.3)
            | inr new ↦ rw new.0 (graph.source x xl, led, unplaced, w_at ∙ new.1)
          ];
          ready_all = λ u um lu up. elim (eqb_tells u (get_or sources x 0)) [
            | inl e ↦ rw (e.1, w_at) now
            | inr e ↦ rw (w_off u e.1) (λ none. still u (to.ready_all u um lu up none))
          ];
        }

  -- in the end no vertex is left, since the ranks rise along edges
  module _ (awake : ℕ) (to : IsPlacing m sources targets leader order placed waits count Ready awake 0 open_at) (graph : IsGraph m sources targets)
      (empty : (v : ℕ) → Ready v → ⊥) (rank : ℕ → ℕ) (top : ℕ) (low : (v : ℕ) → v < m → rank v ≤ top)
      (rise : (x : ℕ) → x < length sources → get_or sources x 0 ≢ get_or targets x 0 → rank (get_or sources x 0) < rank (get_or targets x 0))
      (led : (x : ℕ) → x < length sources → get_or leader (get_or targets x 0) 0 ≡ get_or targets x 0) where
    one_left : (v : ℕ) → ((w : ℕ) → w < m → get_or leader w 0 ≡ w → rank v < rank w → get_or placed w 0 ≢ 0) → v < m → get_or leader v 0 ≡ v → get_or placed v 0 ≢ 0
    one_left v above_it vm lv unplaced =
        let none : waiting sources open_at (length sources) v ≡ 0 = waiting_none sources open_at (length sources) v (λ x xl from. elim (eqb_tells (open_at x) 0) [
          | inl e ↦ e.1
          | inr e ↦
              let one = to.open_one x xl e.1 in
              let above : rank v < rank (get_or targets x 0) = rw from at (rise x xl one.1) in
              elim one.2 [
                | inr w ↦ absurd (omega (arith, w.1))
                | inl w ↦ absurd (above_it (get_or targets x 0) (graph.target x xl) (led x xl) above w)
              ]
        ]) in
        empty v (to.ready_all v vm lv unplaced (to.waits_are v vm ∙ none))

    none_left : (n v : ℕ) → v < m → get_or leader v 0 ≡ v → top ≤ rank v + n → get_or placed v 0 ≢ 0
    none_left zero v vm lv high = one_left v (λ w wm lw above. absurd (omega (arith, low w wm))) vm lv
    none_left (suc n) v vm lv high = one_left v (λ w wm lw above. none_left n w wm lw (omega arith)) vm lv

    pub all_placed : AreOrdered m sources targets leader order placed count
    all_placed = record { ordered = to.ordered; all = λ v vm lv. none_left top v vm lv (omega arith) }
