-- Steps of the search by depth.
use Rattle.std.proofs.Common.{◌≡◌, ◌≢◌, ℕ, suc, ◌+◌, ◌*◌, ◌-◌, ◌<◌, ◌≤◌, inl, inr, ◌==◌, if◌then◌else◌, List, length, get_or, set, refl, sym, ap, ◌∙◌, arith, length-set, get_or-set_other, get_or-set_same}
use Rattle.std.proofs.lemmas.Bool.{cases_lt}
use Rattle.std.proofs.lemmas.Bool.Decides.{eqb_tells}
use Rattle.mo_graph.specs.Order.{Leads}
use Rattle.mo_graph.specs.Edges.{Edge, IsGraph, AreThreaded, HasThreads}
use Rattle.mo_graph.specs.steps.Finishing.{unmarked, total, IsWalk, Walks, IsFinished}
use Rattle.mo_graph.proofs.Chains.{below_next, leads_edge, edge_at, edge_where, unmarked_set, unmarked_all, total_set}

pub walk_begin : (m : ℕ) (sources targets path mark cursor order before : List ℕ) → IsGraph m sources targets → AreThreaded sources cursor before
    → length path ≡ m → length mark ≡ m → length cursor ≡ m → length order ≡ m → ((v : ℕ) → get_or mark v 0 ≡ 0)
    → Walks m sources targets path mark cursor order 0 0
walk_begin m sources targets path mark cursor order before graph threads sp sm sc so clear = (
  λ _. 0,
  record {
    path_all = sp;
    mark_all = sm;
    cursor_all = sc;
    order_all = so;
    room = omega (arith, unmarked_all m mark (λ v l. clear v));
    path_in = λ s l. absurd (omega arith);
    order_in = λ a l. absurd (omega arith);
    met = λ v some. absurd (some (clear v));
    at_cursor = λ v some. (threads.last_in v, threads.at_last v some);
    looked = λ x l le. absurd (omega (arith, threads.past_last x l));
    since_in = λ s l. absurd (omega arith);
    reach = λ s t l l'. absurd (omega arith);
    below = λ s a l. absurd (omega arith);
    still = λ a s l. absurd (omega arith);
    back = λ a b c l l'. absurd (omega arith);
  },
)

module _ (m : ℕ) (sources targets path mark cursor order : List ℕ) (top count : ℕ) (since : ℕ → ℕ)
    (walk : IsWalk m sources targets path mark cursor order top count since) where
  -- what leads from a finished vertex leads to a mark
  finished_met : (a w : ℕ) → a < count → Edge sources targets (get_or order a 0) w → get_or mark w 0 ≢ 0
  finished_met a w l edge =
      let e = edge_where sources targets (get_or order a 0) w edge in
      let closed : get_or cursor (get_or sources e.0 0) 0 ≡ 0 = rw e.2 (walk.order_in a l).2 in
      rw e.3 at (walk.looked e.0 e.1 (omega arith))

  module _ (w : ℕ) (wm : w < m) (free : get_or mark w 0 ≡ 0) (edge : 0 < top → Edge sources targets (get_or path (top - 1) 0) w) where
    pub enter_room : top + count < m
    enter_room = let falls = unmarked_set m mark w 1 wm walk.mark_all free (omega arith) in omega (arith, walk.room)

    p_at : get_or (set path top w) top 0 ≡ w
    p_at = get_or-set_same path top w 0 (omega (arith, walk.path_all, enter_room))

    p_off : (s : ℕ) → s < top → get_or (set path top w) s 0 ≡ get_or path s 0
    p_off s l = let ne : s ≢ top = omega arith in get_or-set_other path top s w 0 ne

    m_at : get_or (set mark w 1) w 0 ≡ 1
    m_at = get_or-set_same mark w 1 0 (omega (arith, walk.mark_all))

    m_kept : (v : ℕ) → get_or mark v 0 ≢ 0 → get_or (set mark w 1) v 0 ≢ 0
    m_kept v some = elim (eqb_tells v w) [
      | inl e ↦ rw (e.1, m_at) (omega arith)
      | inr e ↦ rw (get_or-set_other mark w v 1 0 e.1) some
    ]

    now : ℕ → ℕ
    now s = if s == top then count else since s

    now_at : now top ≡ count
    unfolding now
    now_at = elim (eqb_tells top top) [ inl e ↦ rw e.0 refl | inr e ↦ absurd (e.1 refl) ]

    now_off : (s : ℕ) → s < top → now s ≡ since s
    unfolding now
    now_off s l = elim (eqb_tells s top) [ inl e ↦ absurd (omega (arith, e.1)) | inr e ↦ rw e.0 refl ]

    pub walk_enter : Walks m sources targets (set path top w) (set mark w 1) cursor order (top + 1) count
    walk_enter = (
      now,
      record {
        path_all = length-set path top w ∙ walk.path_all;
        mark_all = length-set mark w 1 ∙ walk.mark_all;
        cursor_all = walk.cursor_all;
        order_all = walk.order_all;
        room = omega (arith, walk.room, unmarked_set m mark w 1 wm walk.mark_all free (omega arith));
        path_in = λ s l. elim (below_next s top l) [
          | inl h ↦ rw (p_off s h) ((walk.path_in s h).0, m_kept (get_or path s 0) (walk.path_in s h).1)
          | inr e ↦ rw (e, p_at, m_at) (wm, omega arith)
        ];
        order_in = λ a l. let was = walk.order_in a l in (was.0, m_kept (get_or order a 0) was.1, was.2);
        met = λ v some. elim (eqb_tells v w) [
          | inl e ↦ inl (top, omega arith, p_at ∙ sym e.1)
          | inr e ↦ elim (walk.met v (rw (get_or-set_other mark w v 1 0 e.1) at some)) [
            | inl h ↦ inl (h.0, omega (arith, h.1), p_off h.0 h.1 ∙ h.2)
            | inr h ↦ inr h
          ]
        ];
        at_cursor = walk.at_cursor;
        looked = λ x l le. m_kept (get_or targets x 0) (walk.looked x l le);
        since_in = λ s l. elim (below_next s top l) [
          | inl h ↦ rw (now_off s h) (walk.since_in s h)
          | inr e ↦ rw (e, now_at) (omega arith)
        ];
        reach = λ s t le l. elim (below_next t top l) [
          | inl h ↦ rw (p_off t h, p_off s (omega arith)) (walk.reach s t le h)
          | inr e ↦ elim (eqb_tells s t) [
            | inl z ↦ rw z.1 Leads.none
            | inr z ↦
                let sl : s < top = omega (arith, z.1) in
                let last : top - 1 < top = omega arith in
                rw (e, p_at, p_off s sl) (leads_edge (walk.reach s (top - 1) (omega arith) last) (edge (omega arith)))
          ]
        ];
        below = λ s a l. elim (below_next s top l) [
          | inl h ↦ rw (now_off s h, p_off s h) (walk.below s a h)
          | inr e ↦ rw (e, now_at) (λ le al. absurd (omega arith))
        ];
        still = λ a s al l. elim (below_next s top l) [
          | inl h ↦ rw (now_off s h, p_off s h) (walk.still a s al h)
          | inr e ↦ rw (e, p_at) (λ there. absurd (finished_met a w al there free))
        ];
        back = walk.back;
      },
    )

  -- one edge was looked at
  module _ (last before : List ℕ) (threads : AreThreaded sources last before) (v x : ℕ) (vm : v < m) (here : get_or cursor v 0 ≡ suc x)
      (seen : get_or mark (get_or targets x 0) 0 ≢ 0) where
    x_in : (x < length sources) × (get_or sources x 0 ≡ v)
    x_in =
        let at = walk.at_cursor v (omega arith) in
        let back : get_or cursor v 0 - 1 ≡ x = omega arith in
        (omega (arith, at.0), rw back at at.1)

    c_at : get_or (set cursor v (get_or before x 0)) v 0 ≡ get_or before x 0
    c_at = get_or-set_same cursor v (get_or before x 0) 0 (omega (arith, walk.cursor_all))

    c_off : (u : ℕ) → u ≢ v → get_or (set cursor v (get_or before x 0)) u 0 ≡ get_or cursor u 0
    c_off u ne = get_or-set_other cursor v u (get_or before x 0) 0 ne

    pub walk_look : IsWalk m sources targets path mark (set cursor v (get_or before x 0)) order top count since
    walk_look = record {
      path_all = walk.path_all;
      mark_all = walk.mark_all;
      cursor_all = length-set cursor v (get_or before x 0) ∙ walk.cursor_all;
      order_all = walk.order_all;
      room = walk.room;
      path_in = walk.path_in;
      order_in = λ a l.
          let was = walk.order_in a l in
          let ne : get_or order a 0 ≢ v = λ e. (let closed : get_or cursor v 0 ≡ 0 = rw e at was.2 in omega arith) in
          (was.0, was.1, c_off (get_or order a 0) ne ∙ was.2);
      met = walk.met;
      at_cursor = λ u. elim (eqb_tells u v) [
        | inl e ↦ rw (e.1, c_at) (λ some. (omega (arith, threads.falls x x_in.0, x_in.0), threads.at_before x x_in.0 some ∙ x_in.1))
        | inr e ↦ rw (c_off u e.1) (walk.at_cursor u)
      ];
      looked = λ y l. elim (eqb_tells (get_or sources y 0) v) [
        | inr e ↦ rw (c_off (get_or sources y 0) e.1) (walk.looked y l)
        | inl e ↦ rw (e.1, c_at) (λ le. elim (eqb_tells y x) [
          | inl z ↦ rw z.1 seen
          | inr z ↦
              elim (cases_lt y x) [
                | inl low ↦ let between = threads.none_between x y x_in.0 low (e.1 ∙ sym x_in.1) in absurd (omega arith)
                | inr high ↦ let past : get_or cursor (get_or sources y 0) 0 ≤ y = rw e.1 (omega (arith, z.1)) in walk.looked y l past
              ]
        ])
      ];
      since_in = walk.since_in;
      reach = walk.reach;
      below = walk.below;
      still = walk.still;
      back = walk.back;
    }

    pub look_less : total m (set cursor v (get_or before x 0)) + 1 ≤ total m cursor
    look_less = omega (arith, total_set m cursor v (get_or before x 0) vm walk.cursor_all, threads.falls x x_in.0)

  -- the vertex at the end of the path is finished
  module _ (some : 0 < top) (v : ℕ) (v_is : get_or path (top - 1) 0 ≡ v) (over : get_or cursor v 0 ≡ 0) where
    last_in_holds : top - 1 < top
    last_in_holds = omega arith

    pub finish_room : count < m
    finish_room = omega (arith, walk.room)

    o_at : get_or (set order count v) count 0 ≡ v
    o_at = get_or-set_same order count v 0 (omega (arith, walk.order_all, finish_room))

    o_off : (a : ℕ) → a < count → get_or (set order count v) a 0 ≡ get_or order a 0
    o_off a l = let ne : a ≢ count = omega arith in get_or-set_other order count a v 0 ne

    pub walk_finish : IsWalk m sources targets path mark cursor (set order count v) (top - 1) (count + 1) since
    walk_finish = record {
      path_all = walk.path_all;
      mark_all = walk.mark_all;
      cursor_all = walk.cursor_all;
      order_all = length-set order count v ∙ walk.order_all;
      room = omega (arith, walk.room);
      path_in = λ s l. walk.path_in s (omega arith);
      order_in = λ a l. elim (below_next a count l) [
        | inl h ↦ rw (o_off a h) (walk.order_in a h)
        | inr e ↦ let was = rw v_is at (walk.path_in (top - 1) last_in_holds) in rw (e, o_at) (was.0, was.1, over)
      ];
      met = λ u marked. elim (walk.met u marked) [
        | inl h ↦ elim (eqb_tells h.0 (top - 1)) [
          | inl e ↦ inr (count, omega arith, o_at ∙ sym v_is ∙ ap (λ (z : ℕ). get_or path z 0) (sym e.1) ∙ h.2)
          | inr e ↦ inl (h.0, omega (arith, h.1, e.1), h.2)
        ]
        | inr h ↦ inr (h.0, omega (arith, h.1), o_off h.0 h.1 ∙ h.2)
      ];
      at_cursor = walk.at_cursor;
      looked = walk.looked;
      since_in = λ s l. omega (arith, walk.since_in s (omega arith));
      reach = λ s t le l. walk.reach s t le (omega arith);
      below = λ s a l le al. elim (below_next a count al) [
        | inl h ↦ rw (o_off a h) (walk.below s a (omega arith) le h)
        | inr e ↦ rw (e, o_at, ← v_is) (walk.reach s (top - 1) (omega arith) last_in_holds)
      ];
      still = λ a s al l. elim (below_next a count al) [
        | inl h ↦ rw (o_off a h) (walk.still a s h (omega arith))
        | inr e ↦ λ there. omega (arith, walk.since_in s (omega arith), e)
      ];
      back = λ a b c ab bl. elim (below_next b count bl) [
        | inl h ↦ rw (o_off b h, o_off a (omega arith)) (λ there ac cb. rw (o_off c (omega arith)) (walk.back a b c ab h there ac cb))
        | inr e ↦ rw (e, o_at) (λ there ac cb.
            let al : a < count = omega arith in
            let edge' : Edge sources targets (get_or order a 0) (get_or path (top - 1) 0) = rw v_is (rw (o_off a al) at there) in
            let early : since (top - 1) ≤ a = walk.still a (top - 1) al last_in_holds edge' in
            elim (eqb_tells c count) [
              | inl z ↦ rw (z.1, o_at) Leads.none
              | inr z ↦
                  let cl : c < count = omega (arith, z.1) in
                  rw (o_off c cl, ← v_is) (walk.below (top - 1) c last_in_holds (omega arith) cl)
            ])
      ];
    }

  pub walk_over : top ≡ 0 → ((v : ℕ) → v < m → get_or mark v 0 ≢ 0) → IsFinished m sources targets order count
  walk_over none all = record {
    size = walk.order_all;
    room = omega (arith, walk.room);
    in_range = λ a l. (walk.order_in a l).0;
    all = λ v l. elim (walk.met v (all v l)) [
      | inl h ↦ absurd (omega (arith, h.1))
      | inr h ↦ h
    ];
    back = walk.back;
  }

module _ (sources targets path mark cursor order : List ℕ) (top count : ℕ) (walk : Walks (length mark) sources targets path mark cursor order top count) where
  -- the edge that is looked at next
  pub next_edge : (v : ℕ) → get_or cursor v 0 ≢ 0 → (get_or cursor v 0 - 1 < length sources) × Edge sources targets v (get_or targets (get_or cursor v 0 - 1) 0)
  next_edge v some =
      let at = walk.1.at_cursor v (omega arith) in
      let l : get_or cursor v 0 - 1 < length sources = omega (arith, at.0) in
      (l, rw at.1 at (edge_at sources targets (get_or cursor v 0 - 1) l))

  pub path_room : (w : ℕ) → w < length mark → get_or mark w 0 ≡ 0 → top + count < length path
  path_room w wm free = omega (arith, walk.1.path_all, walk.1.room, unmarked_set (length mark) mark w 1 wm refl free (omega arith))

  pub walks_enter : (w : ℕ) → w < length mark → get_or mark w 0 ≡ 0 → (0 < top → Edge sources targets (get_or path (top - 1) 0) w)
      → Walks (length (set mark w 1)) sources targets (set path top w) (set mark w 1) cursor order (top + 1) count
  walks_enter w wm free edge = rw (length-set mark w 1) (walk_enter (length mark) sources targets path mark cursor order top count walk.0 walk.1 w wm free edge)

  pub enter_less : (w : ℕ) → w < length mark → get_or mark w 0 ≡ 0
      → total (length (set mark w 1)) cursor + 2 * unmarked (length (set mark w 1)) (set mark w 1) + (top + 1) < total (length mark) cursor + 2 * unmarked (length mark) mark + top
  enter_less w wm free = rw (length-set mark w 1) (omega (arith, unmarked_set (length mark) mark w 1 wm refl free (omega arith)))

  module _ (before : List ℕ) (threads : HasThreads sources before) (v : ℕ) (vm : v < length mark) (some : get_or cursor v 0 ≢ 0)
      (seen : get_or mark (get_or targets (get_or cursor v 0 - 1) 0) 0 ≢ 0) where
    pub walks_look : Walks (length mark) sources targets path mark (set cursor v (get_or before (get_or cursor v 0 - 1) 0)) order top count
    walks_look = (walk.0, walk_look (length mark) sources targets path mark cursor order top count walk.0 walk.1 threads.0 before threads.1 v (get_or cursor v 0 - 1) vm (omega arith) seen)

    pub walks_less : total (length mark) (set cursor v (get_or before (get_or cursor v 0 - 1) 0)) + 2 * unmarked (length mark) mark + top < total (length mark) cursor + 2 * unmarked (length mark) mark + top
    walks_less =
        let less = look_less (length mark) sources targets path mark cursor order top count walk.0 walk.1 threads.0 before threads.1 v (get_or cursor v 0 - 1) vm (omega arith) seen in
        omega arith

  pub walks_finish : 0 < top → get_or cursor (get_or path (top - 1) 0) 0 ≡ 0 → Walks (length mark) sources targets path mark cursor (set order count (get_or path (top - 1) 0)) (top - 1) (count + 1)
  walks_finish some over = (walk.0, walk_finish (length mark) sources targets path mark cursor order top count walk.0 walk.1 some (get_or path (top - 1) 0) refl over)

pub kept_by : (mark : List ℕ) (w v : ℕ) → w < length mark → get_or mark v 0 ≢ 0 → get_or (set mark w 1) v 0 ≢ 0
kept_by mark w v l some = elim (eqb_tells v w) [
  | inl e ↦ let at : get_or (set mark w 1) w 0 ≡ 1 = get_or-set_same mark w 1 0 l in rw (e.1, at) (omega arith)
  | inr e ↦ rw (get_or-set_other mark w v 1 0 e.1) some
]

pub kept_same : (mark : List ℕ) (w : ℕ) → w < length mark → get_or (set mark w 1) w 0 ≢ 0
kept_same mark w l = let at : get_or (set mark w 1) w 0 ≡ 1 = get_or-set_same mark w 1 0 l in rw at (omega arith)
