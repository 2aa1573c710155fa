-- Steps of the search: an equation is put at the end of the queue, an entry is passed, an equation is done.
use Rattle.std.proofs.Common.{◌≡◌, ◌≢◌, ℕ, suc, ◌+◌, ◌-◌, ◌<◌, ◌≤◌, ◌⊎◌, inl, inr, List, length, get_or, set, refl, sym, ap, ◌∙◌, arith, length-set, get_or-set_other, get_or-set_same, Option, None, IfNone}
use Rattle.std.proofs.lemmas.Bool.Decides.{eqb_tells}
use Rattle.mo_incidence.specs.Counting.{sum_below}
use Rattle.mo_incidence.specs.Signature.{Signature, equations, row_len, unknown_at, entries}
use Rattle.mo_incidence.proofs.Counting.{changed, changed_same, changed_other, distinct_room, sum_same, sum_injection}
use Rattle.mo_match.specs.Searching.{Bipartite, UsesEntry, Uses, IsMatching, IsTree, IsPassed, IsSearched, ClosedTo, Grows, IsFree, Reaches}
use Rattle.mo_match.proofs.Entries.{uses}

pub below_next : (s t : ℕ) → s < t + 1 → (s < t) ⊎ (s ≡ t)
below_next s t l = elim (eqb_tells s t) [ inl e ↦ inr e.1 | inr e ↦ inl (omega (arith, e.1)) ]

module _ (E : ℕ → ℕ → Type 0) (m : ℕ) (p q par mk : List ℕ) (b t : ℕ) (tree : IsTree E m p q par mk b t) (x : ℕ) (xm : x < m) (unmarked : get_or mk x 0 ≡ 0) where
  other_place : (s : ℕ) → s < t → get_or q s 0 ≢ x
  other_place s l e = tree.marked s l (rw e unmarked)

  pub tree_room : t < m
  tree_room =
      let f : ℕ → ℕ = changed (λ s. get_or q s 0) t x in
      let at : f t ≡ x = changed_same (λ s. get_or q s 0) t x in
      let off : (s : ℕ) → s < t → f s ≡ get_or q s 0 = λ s l. changed_other (λ s. get_or q s 0) t x s (omega arith) in
      let room : t + 1 ≤ m = distinct_room f (t + 1) m
      (λ s l. elim (below_next s t l) [
        | inl h ↦ rw (off s h) (tree.in_range s h)
        | inr e ↦ rw (e, at) xm
      ])
      (λ s u sl ul same. elim (below_next s t sl) [
        | inl h ↦ elim (below_next u t ul) [
          | inl k ↦ tree.apart s u h k (sym (off s h) ∙ same ∙ off u k)
          | inr e ↦ absurd (other_place s h (sym (off s h) ∙ same ∙ rw e at))
        ]
        | inr e ↦ elim (below_next u t ul) [
          | inl k ↦ absurd (other_place u k (sym (off u k) ∙ sym same ∙ rw e at))
          | inr e' ↦ e ∙ sym e'
        ]
      ]) in
      omega arith

  new_place : get_or (set q t x) t 0 ≡ x
  new_place = let l : t < length q = omega (arith, tree_room, tree.queue_all) in get_or-set_same q t x 0 l

  old_place : (s : ℕ) → s < t → get_or (set q t x) s 0 ≡ get_or q s 0
  old_place s l = let ne : s ≢ t = omega arith in get_or-set_other q t s x 0 ne

  new_mark : get_or (set mk x 1) x 0 ≡ 1
  new_mark = let l : x < length mk = omega (arith, xm, tree.mark_all) in get_or-set_same mk x 1 0 l

  old_mark : (y : ℕ) → y ≢ x → get_or (set mk x 1) y 0 ≡ get_or mk y 0
  old_mark y ne = get_or-set_other mk x y 1 0 ne

  module _ (h : ℕ) (edge : get_or p x 0 ≢ 0 → (h < t) × E (get_or q h 0) (get_or p x 0)) (under : b < t → (get_or p x 0 ≢ 0) × (b ≤ h)) where
    new_parent : get_or (set par t h) t 0 ≡ h
    new_parent = let l : t < length par = omega (arith, tree_room, tree.parent_all) in get_or-set_same par t h 0 l

    old_parent : (s : ℕ) → s < t → get_or (set par t h) s 0 ≡ get_or par s 0
    old_parent s l = let ne : s ≢ t = omega arith in get_or-set_other par t s h 0 ne

    pub tree_push : IsTree E m p (set q t x) (set par t h) (set mk x 1) b (t + 1)
    tree_push = record {
      queue_all = length-set q t x ∙ tree.queue_all;
      parent_all = length-set par t h ∙ tree.parent_all;
      mark_all = length-set mk x 1 ∙ tree.mark_all;
      room = omega (arith, tree_room);
      in_range = λ s l. elim (below_next s t l) [
        | inl k ↦ rw (old_place s k) (tree.in_range s k)
        | inr e ↦ rw (e, new_place) xm
      ];
      apart = λ s u sl ul same. elim (below_next s t sl) [
        | inl k ↦ elim (below_next u t ul) [
          | inl k' ↦ tree.apart s u k k' (sym (old_place s k) ∙ same ∙ old_place u k')
          | inr e ↦ absurd (other_place s k (sym (old_place s k) ∙ same ∙ rw e new_place))
        ]
        | inr e ↦ elim (below_next u t ul) [
          | inl k' ↦ absurd (other_place u k' (sym (old_place u k') ∙ sym same ∙ rw e new_place))
          | inr e' ↦ e ∙ sym e'
        ]
      ];
      marked = λ s l. elim (below_next s t l) [
        | inl k ↦ rw (old_place s k, old_mark (get_or q s 0) (other_place s k)) (tree.marked s k)
        | inr e ↦ rw (e, new_place, new_mark) (omega arith)
      ];
      listed = λ y ym some. elim (eqb_tells y x) [
        | inl e ↦ (t, omega arith, rw (e.1, new_place) refl)
        | inr e ↦
            let there = tree.listed y ym (rw (old_mark y e.1) at some) in
            (there.0, omega (arith, there.1), old_place there.0 there.1 ∙ there.2)
      ];
      linked = λ s l. elim (below_next s t l) [
        | inl k ↦ rw (old_place s k, old_parent s k) (λ some.
            let there = tree.linked s k some in
            (there.0, rw (old_place (get_or par s 0) (omega (arith, there.0))) there.1))
        | inr e ↦ rw (e, new_place, new_parent) (λ some.
            let there = edge some in
            (there.0, rw (old_place h there.0) there.1))
      ];
      rooted = λ s above l. elim (below_next s t l) [
        | inl k ↦ rw (old_place s k, old_parent s k) (tree.rooted s above k)
        | inr e ↦ rw (e, new_place, new_parent) (under (omega arith))
      ];
    }

pub reach_tree : {E : ℕ → ℕ → Type 0} {m : ℕ} {p q par mk : List ℕ} {b t x h : ℕ} {q' par' mk' : List ℕ} {t' : ℕ}
    → IsTree E m p q par mk b t → Reaches q par mk t x h q' par' mk' t' → x < m → h < t → b ≤ h → get_or p x 0 ≢ 0 → E (get_or q h 0) (get_or p x 0)
    → IsTree E m p q' par' mk' b t'
reach_tree {E} {m} {p} {q} {par} {mk} {b} {t} {x} {h} tree to xm ht bh some edge = elim (eqb_tells (get_or mk x 0) 0) [
  | inl e ↦
      let is = to.new e.1 in
      rw (is.0, is.1, is.2, is.3) (tree_push E m p q par mk b t tree x xm e.1 h (λ _. (ht, edge)) (λ _. (some, bh)))
  | inr e ↦ let is = to.old e.1 in rw (is.0, is.1, is.2, is.3) tree
]

pub reach_marked : {q par mk : List ℕ} {t x h : ℕ} {q' par' mk' : List ℕ} {t' : ℕ}
    → Reaches q par mk t x h q' par' mk' t' → x < length mk → get_or mk' x 0 ≢ 0
reach_marked {mk = mk} {x = x} to l = elim (eqb_tells (get_or mk x 0) 0) [
  | inl e ↦ rw ((to.new e.1).2, get_or-set_same mk x 1 0 l) (omega arith)
  | inr e ↦ rw (to.old e.1).2 e.1
]

pub reach_kept : {q par mk : List ℕ} {t x h : ℕ} {q' par' mk' : List ℕ} {t' : ℕ}
    → Reaches q par mk t x h q' par' mk' t' → (y : ℕ) → get_or mk y 0 ≢ 0 → get_or mk' y 0 ≢ 0
reach_kept {mk = mk} {x = x} to y some = elim (eqb_tells (get_or mk x 0) 0) [
  | inl e ↦
      let ne : y ≢ x = λ same. some (rw same e.1) in
      rw ((to.new e.1).2, get_or-set_other mk x y 1 0 ne) some
  | inr e ↦ rw (to.old e.1).2 some
]

pub reach_grows : {q0 mk0 q par mk : List ℕ} {e t x h : ℕ} {q' par' mk' : List ℕ} {t' : ℕ}
    → Grows q0 mk0 q mk e t → Reaches q par mk t x h q' par' mk' t' → Grows q0 mk0 q' mk' e t'
reach_grows {q = q} {mk = mk} {e = e} {t = t} {x = x} grows to = record {
  more = elim (eqb_tells (get_or mk x 0) 0) [
    | inl z ↦ omega (arith, grows.more, (to.new z.1).3)
    | inr z ↦ omega (arith, grows.more, (to.old z.1).3)
  ];
  before = λ s l. elim (eqb_tells (get_or mk x 0) 0) [
    | inl z ↦ let ne : s ≢ t = omega (arith, grows.more) in rw ((to.new z.1).0, get_or-set_other q t s x 0 ne) (grows.before s l)
    | inr z ↦ rw (to.old z.1).0 (grows.before s l)
  ];
  kept = λ y some. reach_kept to y (grows.kept y some);
}

pub grows_none : (q mk : List ℕ) (t : ℕ) → Grows q mk q mk t t
grows_none q mk t = record { more = omega arith; before = λ s l. refl; kept = λ y some. some }

pub grows_on : {q mk q1 mk1 q2 mk2 : List ℕ} {e t t2 : ℕ} → Grows q mk q1 mk1 e t → Grows q1 mk1 q2 mk2 t t2 → Grows q mk q2 mk2 e t2
grows_on {t = t} one two = record {
  more = omega (arith, one.more, two.more);
  before = λ s l. two.before s (omega (arith, one.more)) ∙ one.before s l;
  kept = λ y some. two.kept y (one.kept y some);
}

pub root_grows : (q mk : List ℕ) (base root : ℕ) → get_or mk root 0 ≡ 0 → Grows q mk (set q base root) (set mk root 1) base (base + 1)
root_grows q mk base root unmarked = record {
  more = omega arith;
  before = λ s l. let ne : s ≢ base = omega arith in get_or-set_other q base s root 0 ne;
  kept = λ y some. let ne : y ≢ root = λ same. some (rw same unmarked) in rw (get_or-set_other mk root y 1 0 ne) some;
}

pub passed_kept : {b : Bipartite} {owner mk : List ℕ} {i k : ℕ} (mk' : List ℕ)
    → ((y : ℕ) → get_or mk y 0 ≢ 0 → get_or mk' y 0 ≢ 0) → IsPassed b owner mk i k → IsPassed b owner mk' i k
passed_kept mk' kept passed = record { inner = λ u. let there = passed.inner u in (there.0, kept _ there.1) }

pub passed_by : {b : Bipartite} {owner mk : List ℕ} {i k : ℕ} (j : ℕ)
    → j ≡ unknown_at b.signature i k → get_or owner j 0 ≢ 0 → get_or mk (get_or owner j 0 - 1) 0 ≢ 0 → IsPassed b owner mk i k
passed_by j e owned marked = record { inner = λ u. rw (← e) (owned, marked) }

pub passed_unused : {b : Bipartite} {owner mk : List ℕ} {i k : ℕ} → (UsesEntry b i k → ⊥) → IsPassed b owner mk i k
passed_unused no_use = record { inner = λ u. absurd (no_use u) }

pub searched_none : (b : Bipartite) (owner mk : List ℕ) (i : ℕ) → IsSearched b owner mk i 0
searched_none b owner mk i = record { passed = λ k l. absurd (omega arith) }

pub searched_next : {b : Bipartite} {owner mk : List ℕ} {i k : ℕ} (mk' : List ℕ)
    → IsSearched b owner mk i k → ((y : ℕ) → get_or mk y 0 ≢ 0 → get_or mk' y 0 ≢ 0) → IsPassed b owner mk' i k → IsSearched b owner mk' i (k + 1)
searched_next {b} {owner} {mk} {i} {k} mk' searched kept passed = record {
  passed = λ n l. elim (below_next n k l) [
    | inl h ↦ passed_kept mk' kept (searched.passed n h)
    | inr e ↦ rw e passed
  ];
}

pub searched_kept : {b : Bipartite} {owner mk : List ℕ} {i k : ℕ} (mk' : List ℕ)
    → ((y : ℕ) → get_or mk y 0 ≢ 0 → get_or mk' y 0 ≢ 0) → IsSearched b owner mk i k → IsSearched b owner mk' i k
searched_kept mk' kept searched = record { passed = λ n l. passed_kept mk' kept (searched.passed n l) }

pub closed_none : (b : Bipartite) (owner mk q : List ℕ) → ClosedTo b owner mk q 0
closed_none b owner mk q = record { searched = λ t l. absurd (omega arith) }

pub closed_kept : {b : Bipartite} {owner q mk q' mk' : List ℕ} {e t : ℕ} (h : ℕ)
    → h ≤ e → Grows q mk q' mk' e t → ClosedTo b owner mk q h → ClosedTo b owner mk' q' h
closed_kept {mk' = mk'} h le grows closed = record { searched = λ s l. rw (grows.before s (omega arith)) (searched_kept mk' grows.kept (closed.searched s l)) }

pub closed_next : {b : Bipartite} {owner q mk : List ℕ} {h : ℕ}
    → ClosedTo b owner mk q h → IsSearched b owner mk (get_or q h 0) (row_len b.signature (get_or q h 0)) → ClosedTo b owner mk q (h + 1)
closed_next {h = h} closed searched = record { searched = λ s l. elim (below_next s h l) [ inl k ↦ closed.searched s k | inr e ↦ rw e searched ] }

pub owner_facts : {E : ℕ → ℕ → Type 0} {m n : ℕ} {p owner : List ℕ} (j : ℕ) → IsMatching E m n p owner → 0 < j → j ≤ n → get_or owner j 0 ≢ 0
    → (get_or owner j 0 - 1 < m) × (get_or p (get_or owner j 0 - 1) 0 ≡ j)
owner_facts {owner = owner} j match above below some = match.owns (get_or owner j 0 - 1) j above below (omega arith)

-- the equations in the queue have together at most all entries
pub queue_cost : {E : ℕ → ℕ → Type 0} (g : Signature) {p q par mk : List ℕ} {b t : ℕ} (h : ℕ) → IsTree E (equations g) p q par mk b t → h ≤ t
    → sum_below (λ s. row_len g (get_or q s 0)) h ≤ entries g
unfolding entries
queue_cost g {q = q} h tree le = sum_injection (λ s. row_len g (get_or q s 0)) (row_len g) (λ s. get_or q s 0) h (equations g)
    (λ s l some. (tree.in_range s (omega arith), omega arith))
    (λ s u sl ul a c. tree.apart s u (omega arith) (omega arith))

pub cost_next : (g : Signature) (q q' : List ℕ) (h s0 s1 s2 : ℕ) → ((s : ℕ) → s < suc h → get_or q' s 0 ≡ get_or q s 0)
    → s1 ≤ s0 + sum_below (λ s. row_len g (get_or q s 0)) h → s2 ≤ s1 + row_len g (get_or q h 0)
    → s2 ≤ s0 + sum_below (λ s. row_len g (get_or q' s 0)) (h + 1)
cost_next g q q' h s0 s1 s2 same one two =
    let before : sum_below (λ s. row_len g (get_or q' s 0)) h ≡ sum_below (λ s. row_len g (get_or q s 0)) h =
    sum_same (λ s. row_len g (get_or q' s 0)) (λ s. row_len g (get_or q s 0)) h (λ s l. ap (row_len g) (same s (omega arith))) in
    let here : row_len g (get_or q' h 0) ≡ row_len g (get_or q h 0) = ap (row_len g) (same h (omega arith)) in
    let more : sum_below (λ s. row_len g (get_or q' s 0)) (suc h) ≡ row_len g (get_or q' h 0) + sum_below (λ s. row_len g (get_or q' s 0)) h = refl in
    let next : h + 1 ≡ suc h = omega arith in
    rw next (omega arith)

-- an entry by the number of its row, one more than the place of its equation
pub entry_back : (b : Bipartite) (i k j : ℕ) → (j ≡ unknown_at b.signature (i + 1 - 1) k) × UsesEntry b (i + 1 - 1) k → (j ≡ unknown_at b.signature i k) × UsesEntry b i k
entry_back b i k j h = let back : i + 1 - 1 ≡ i = omega arith in rw back at h

pub unused_back : (b : Bipartite) (i k : ℕ) → (UsesEntry b (i + 1 - 1) k → ⊥) → UsesEntry b i k → ⊥
unused_back b i k h = let back : i + 1 - 1 ≡ i = omega arith in rw back at h

module _ (b : Bipartite) (owner : List ℕ) (i k j : ℕ) (l : k < row_len b.signature i)
    (entry : (j ≡ unknown_at b.signature (i + 1 - 1) k) × UsesEntry b (i + 1 - 1) k) where
  pub entry_uses : Uses b i j
  entry_uses = let here = entry_back b i k j entry in uses b i k j l (sym here.0) here.1

  pub entry_free : (0 < j) × (j ≤ b.signature.unknowns) → get_or owner j 0 ≡ 0 → IsFree b owner i j
  entry_free known unowned = record { positive = known.0; known = known.1; unowned = unowned; used = entry_uses }

  pub entry_passed : (mk : List ℕ) → get_or owner j 0 ≢ 0 → get_or mk (get_or owner j 0 - 1) 0 ≢ 0 → IsPassed b owner mk i k
  entry_passed mk owned marked = passed_by j (entry_back b i k j entry).0 owned marked

-- one entry more of the row at the head of the queue
pub scan_next : {b : Bipartite} {owner q0 mk0 q mk mk' : List ℕ} {head e t k : ℕ} (free : Option ℕ) → Grows q0 mk0 q mk e t → head < e → IsSearched b owner mk (get_or q0 head 0) k
    → ((y : ℕ) → get_or mk y 0 ≢ 0 → get_or mk' y 0 ≢ 0) → free ≡ None → IfNone free (IsPassed b owner mk' (get_or q head 0) k) → IsSearched b owner mk' (get_or q0 head 0) (k + 1)
scan_next {mk' = mk'} {head = head} free grows l searched kept is passed =
    let here = rw is at passed in
    searched_next mk' searched kept (rw (← grows.before head l) here)

pub cost_within : {E : ℕ → ℕ → Type 0} (g : Signature) {p q par mk : List ℕ} {b t : ℕ} (h s0 s1 s2 : ℕ) → IsTree E (equations g) p q par mk b t → h < t
    → s1 ≤ s0 + sum_below (λ s. row_len g (get_or q s 0)) h → s2 ≤ s1 + row_len g (get_or q h 0) → s2 ≤ s0 + entries g
cost_within g {q = q} h s0 s1 s2 tree l one two =
    let all : sum_below (λ s. row_len g (get_or q s 0)) (suc h) ≤ entries g = queue_cost g (suc h) tree (omega arith) in
    omega arith

pub cost_all : {E : ℕ → ℕ → Type 0} (g : Signature) {p q par mk : List ℕ} {b t : ℕ} (h s0 s1 : ℕ) → IsTree E (equations g) p q par mk b t → h ≤ t
    → s1 ≤ s0 + sum_below (λ s. row_len g (get_or q s 0)) h → s1 ≤ s0 + entries g
cost_all g {q = q} h s0 s1 tree l one = omega (arith, queue_cost g h tree l)

-- the search from the head goes on at the next place
pub head_next : {b : Bipartite} {owner q mk q' mk' : List ℕ} {h t t' : ℕ} (free : Option ℕ) → Grows q mk q' mk' t t' → h < t → ClosedTo b owner mk q h
    → free ≡ None → IfNone free (IsSearched b owner mk' (get_or q h 0) (row_len b.signature (get_or q h 0))) → ClosedTo b owner mk' q' (h + 1)
head_next {h = h} free grows l closed is searched =
    let here = rw is at searched in
    closed_next (closed_kept h (omega arith) grows closed) (rw (grows.before h l) here)

-- with nothing in the queue nothing has a mark
pub root_cleared : {E : ℕ → ℕ → Type 0} {m : ℕ} {p q par mk : List ℕ} {b : ℕ} → IsTree E m p q par mk b 0 → (x : ℕ) → x < m → get_or mk x 0 ≡ 0
root_cleared {mk = mk} tree x l = elim (eqb_tells (get_or mk x 0) 0) [
  | inl e ↦ e.1
  | inr e ↦ absurd (let there = tree.listed x l e.1 in omega (arith, there.1))
]
