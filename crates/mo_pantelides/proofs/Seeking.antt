-- Steps of the search for the least unknown that an equation can have.
use Rattle.std.proofs.Common.{◌≡◌, ◌≢◌, ℕ, suc, ◌+◌, ◌-◌, ◌<◌, ◌≤◌, inl, inr, List, length, get_or, set, refl, sym, ap, ◌∙◌, arith, length-set, get_or-set_other, get_or-set_same}
use Rattle.std.proofs.lemmas.Bool.{cases_lt}
use Rattle.std.proofs.lemmas.Bool.Decides.{eqb_tells}
use Rattle.mo_incidence.specs.Signature.{Signature, equations, row_len, unknown_at, IsSound}
use Rattle.mo_match.specs.Searching.{UsesEntry, Uses, tight_of, IsTree, IsPassed, IsSearched, IsFree, IsClosedBehind, Reaches}
use Rattle.mo_match.proofs.Trees.{below_next, tree_room, tree_push, root_cleared, passed_unused, passed_by, searched_none, searched_next, searched_kept}
use Rattle.mo_match.proofs.Bounding.{uses_entry, not_lower}
use Rattle.mo_pantelides.specs.steps.Fixing.{AreOpen, IsRival, IsFixedTo}
use Rattle.mo_pantelides.specs.steps.Seeking.{IsTurn, IsSeeking, IsFound, looked}
use Rattle.mo_pantelides.proofs.Looking.{looked_more, looked_root}
use Rattle.mo_pantelides.proofs.Tight.{entry_tight, tight_entry, entry_used}
use Rattle.mo_pantelides.proofs.Fixing.{while_none, while_none_holds, uses_left, left_tight, rival_open, rival_part, rival_given, rival_covers, fixed_more}

-- marks that are 0 where those before are
pub tree_remarked : {E : ℕ → ℕ → Type 0} {m : ℕ} {p q par mk : List ℕ} {b t : ℕ} (mk' : List ℕ) → length mk' ≡ length mk → ((x : ℕ) → get_or mk x 0 ≢ 0 → get_or mk' x 0 ≢ 0)
    → ((x : ℕ) → x < m → get_or mk' x 0 ≢ 0 → get_or mk x 0 ≢ 0) → IsTree E m p q par mk b t → IsTree E m p q par mk' b t
tree_remarked mk' size kept back tree = record {
  queue_all = tree.queue_all;
  parent_all = tree.parent_all;
  mark_all = size ∙ tree.mark_all;
  room = tree.room;
  in_range = tree.in_range;
  apart = tree.apart;
  marked = λ s l. kept _ (tree.marked s l);
  listed = λ x xm some. tree.listed x xm (back x xm some);
  linked = tree.linked;
  rooted = tree.rooted;
}

-- ---- the root alone

module _ (g : Signature) (c d left p owner t q par mk : List ℕ) (root : ℕ) (rm : root < equations g) (bare : get_or p root 0 ≡ 0) (unfixed : get_or t root 0 ≡ 0)
    (fixed : IsFixedTo g c d left p owner t root root) (tree : IsTree (Uses (tight_of g c left)) (equations g) p q par mk 0 0)
    (spare : (j : ℕ) × IsFree (tight_of g c left) owner root j) where
  root_mark : get_or (set mk root 1) root 0 ≡ 1
  root_mark = let l : root < length mk = omega (arith, rm, tree.mark_all) in get_or-set_same mk root 1 0 l

  root_first : get_or (set q 0 root) 0 0 ≡ root
  root_first = let l : 0 < length q = omega (arith, rm, tree.queue_all) in get_or-set_same q 0 root 0 l

  place_none : (s : ℕ) → s < 1 → get_or (set q 0 root) s 0 ≡ root
  place_none s l = let e : s ≡ 0 = omega arith in rw e root_first

  pub seek_start : IsSeeking g c d left p owner t (set q 0 root) (set par 0 0) (set mk root 1) root 1 1 1
  seek_start = record {
    fixed = fixed;
    tree = tree_push _ _ _ _ _ _ _ _ tree _ rm (root_cleared tree root rm) 0 (λ some. absurd (some bare)) (λ l. absurd (omega arith));
    first = root_first;
    bare = bare;
    unfixed = unfixed;
    spare = spare;
    order = (omega arith, omega arith, omega arith);
    within = λ x xm. elim (eqb_tells x root) [
      | inl e ↦ rw (e.1, root_mark) (omega arith)
      | inr e ↦ rw (get_or-set_other mk root x 1 0 e.1, root_cleared tree x xm) (omega arith)
    ];
    ended = λ s above below. absurd (omega arith);
    searched = λ s l. rw (place_none s l, root_mark) (searched_none _ _ _ _);
    row = λ s k above below. absurd (omega arith);
    children = λ s above below. absurd (omega arith);
    low = λ r rival n l. let none : n < 1 - 1 = rw root_mark at l in absurd (omega arith);
  }

-- ---- an entry

module _ (g : Signature) (c d left p owner t q par mk : List ℕ) (root head loose tail : ℕ) (sound : IsSound g) (open_all : AreOpen g c) (rm : root < equations g)
    (to : IsSeeking g c d left p owner t q par mk root head loose tail) where
  some_tail : 0 < tail
  some_tail = omega (arith, to.order)

  module _ (place : ℕ) (turn : IsTurn head loose tail place) where
    -- the place is one of the queue, and none of those that have been looked at whole
    pub turn_in : place < tail
    turn_in = elim (cases_lt loose tail) [
      | inl l ↦ let is = turn.last l in omega arith
      | inr l ↦ elim (cases_lt head tail) [
        | inl h ↦ let is = turn.first l h in omega arith
        | inr h ↦ let is = turn.root l h in omega (arith, some_tail)
      ]
    ]

    turn_other : (s : ℕ) → 0 < s → s < head → s ≢ place
    turn_other s above below e = elim (cases_lt loose tail) [
      | inl l ↦ let is = turn.last l in omega (arith, to.order)
      | inr l ↦ elim (cases_lt head tail) [
        | inl h ↦ let is = turn.first l h in omega arith
        | inr h ↦ let is = turn.root l h in omega arith
      ]
    ]

    turn_row : loose ≤ place → suc place ≡ tail
    turn_row le = elim (cases_lt loose tail) [
      | inl l ↦ turn.last l
      | inr l ↦ absurd (omega (arith, turn_in))
    ]

    turn_root : place ≡ 0 → (tail ≤ loose) × (tail ≤ head)
    turn_root none = elim (cases_lt loose tail) [
      | inl l ↦ let is = turn.last l in absurd (omega (arith, to.order))
      | inr l ↦ elim (cases_lt head tail) [
        | inl h ↦ let is = turn.first l h in absurd (omega (arith, to.order))
        | inr h ↦ (omega arith, omega arith)
      ]
    ]

    pub x_in : get_or q place 0 < equations g
    x_in = to.tree.in_range place turn_in

    pub at_root : get_or q place 0 ≡ root → place ≡ 0
    at_root e = to.tree.apart place 0 turn_in some_tail (e ∙ sym to.first)

    -- no equation in the queue is fixed
    pub turn_open : get_or t (get_or q place 0) 0 ≡ 0
    turn_open = elim (eqb_tells (get_or t (get_or q place 0) 0) 0) [
      | inl e ↦ e.1
      | inr e ↦ elim (eqb_tells place 0) [
        | inl z ↦ absurd (e.1 (rw (z.1, to.first) to.unfixed))
        | inr z ↦ absurd ((to.tree.rooted place (omega (arith, z.1)) turn_in).0 (to.fixed.done (get_or q place 0) x_in e.1))
      ]
    ]

    -- all behind the root have been looked at whole when it is its turn
    behind : place ≡ 0 → IsClosedBehind (tight_of g c left) owner mk q tail
    behind none = record {
      searched = λ s above below.
          let le = turn_root none in
          let whole = to.ended s above (omega (arith, le.1)) in
          let back : get_or mk (get_or q s 0) 0 - 1 ≡ row_len g (get_or q s 0) = omega (arith, whole) in
          rw back at (to.searched s below);
    }

    -- the root's turn never comes when all its entries have been looked at
    pub root_left : place ≡ 0 → get_or mk (get_or q place 0) 0 ≡ suc (row_len g (get_or q place 0)) → ⊥
    root_left none whole =
        let spare = to.spare in
        let entry = uses_entry (tight_of g c left) root spare.0 spare.1.used in
        let at : get_or q place 0 ≡ root = rw none to.first in
        let all : get_or mk root 0 - 1 ≡ row_len g root = let e = rw at at whole in omega (arith, e) in
        let done = rw (to.first, all) at (to.searched 0 some_tail) in
        let there = (done.passed entry.0 entry.1).inner entry.3 in
        there.0 (rw entry.2 spare.1.unowned)

    module _ (k : ℕ) (mark_is : get_or mk (get_or q place 0) 0 ≡ k + 1) (kl : k < row_len g (get_or q place 0)) where
      mk_here : get_or (set mk (get_or q place 0) (k + 2)) (get_or q place 0) 0 ≡ k + 2
      mk_here = let l : get_or q place 0 < length mk = omega (arith, x_in, to.tree.mark_all) in get_or-set_same mk (get_or q place 0) (k + 2) 0 l

      mk_other : (y : ℕ) → y ≢ get_or q place 0 → get_or (set mk (get_or q place 0) (k + 2)) y 0 ≡ get_or mk y 0
      mk_other y ne = get_or-set_other mk (get_or q place 0) y (k + 2) 0 ne

      other_place : (s : ℕ) → s < tail → s ≢ place → get_or q s 0 ≢ get_or q place 0
      other_place s l ne e = ne (to.tree.apart s place l turn_in e)

      mk_kept : (y : ℕ) → get_or mk y 0 ≢ 0 → get_or (set mk (get_or q place 0) (k + 2)) y 0 ≢ 0
      mk_kept y some = elim (eqb_tells y (get_or q place 0)) [
        | inl e ↦ rw (e.1, mk_here) (omega arith)
        | inr e ↦ rw (mk_other y e.1) some
      ]

      pub tree_looked : IsTree (Uses (tight_of g c left)) (equations g) p q par (set mk (get_or q place 0) (k + 2)) 0 tail
      tree_looked =
          tree_remarked _ (length-set mk (get_or q place 0) (k + 2)) mk_kept
          (λ y ym some. elim (eqb_tells y (get_or q place 0)) [
            | inl e ↦ rw (e.1, mark_is) (omega arith)
            | inr e ↦ rw (mk_other y e.1) at some
          ])
          to.tree

      within_looked : (y : ℕ) → y < equations g → get_or (set mk (get_or q place 0) (k + 2)) y 0 ≤ suc (row_len g y)
      within_looked y ym = elim (eqb_tells y (get_or q place 0)) [
        | inl e ↦ rw (e.1, mk_here) (omega (arith, kl))
        | inr e ↦ rw (mk_other y e.1) (to.within y ym)
      ]

      root_more : get_or mk root 0 ≤ get_or (set mk (get_or q place 0) (k + 2)) root 0
      root_more = elim (eqb_tells root (get_or q place 0)) [
        | inl e ↦ rw (e.1, mk_here, mark_is) (omega arith)
        | inr e ↦ rw (mk_other root e.1) (omega arith)
      ]

      -- no rival gives the root an unknown below that of the entry
      bound : place ≡ 0 → (r : ℕ → ℕ) → IsRival g c d t root r → unknown_at g root k ≤ r root
      bound none r rival =
          let at : get_or q place 0 ≡ root = rw none to.first in
          let back : get_or mk root 0 - 1 ≡ k = let e = rw at at mark_is in omega (arith, e) in
          let done = rw (to.first, back) at (to.searched 0 some_tail) in
          let le : unknown_at g root k ≤ while_none (get_or t root 0) (r root) = not_lower (tight_of g c left) p owner q par mk tail root k sound to.fixed.matching to.tree some_tail to.first to.bare done (behind none)
          (λ x. while_none (get_or t x 0) (r x)) (rival_part g c d left p owner t root root sound open_all to.fixed r rival)
          (rival_covers g c d left p owner t root root sound open_all to.fixed r rival)
          (rw at at kl) (rival_given g c d left p owner t root root sound open_all to.fixed r rival root rm to.unfixed) in
          rw (while_none_holds (get_or t root 0) (r root) to.unfixed) at le

      low_looked : (r : ℕ → ℕ) → IsRival g c d t root r → (n : ℕ) → n < get_or (set mk (get_or q place 0) (k + 2)) root 0 - 1 → unknown_at g root n ≤ r root
      low_looked r rival n l = elim (eqb_tells root (get_or q place 0)) [
        | inr e ↦ to.low r rival n (rw (mk_other root e.1) at l)
        | inl e ↦
            let none = at_root (sym e.1) in
            let upto : n < k + 2 - 1 = rw (e.1, mk_here) at l in
            let was : get_or mk root 0 ≡ k + 1 = rw (← e.1) at mark_is in
            elim (eqb_tells n k) [
              | inl z ↦ rw z.1 (bound none r rival)
              | inr z ↦ to.low r rival n (omega (arith, was, z.1))
            ]
      ]

      children_looked : (s : ℕ) → 0 < s → s < tail → get_or par s 0 ≡ 0
          → (n : ℕ) × (n < get_or (set mk (get_or q place 0) (k + 2)) root 0 - 1) × (get_or p (get_or q s 0) 0 ≡ unknown_at g root n)
      children_looked s above below none = let there = to.children s above below none in (there.0, omega (arith, there.1, root_more), there.2)

      searched_looked : (mk' : List ℕ) → ((y : ℕ) → get_or (set mk (get_or q place 0) (k + 2)) y 0 ≢ 0 → get_or mk' y 0 ≢ 0)
          → IsPassed (tight_of g c left) owner mk' (get_or q place 0) k
          → (s : ℕ) → s < tail → IsSearched (tight_of g c left) owner mk' (get_or q s 0) (get_or (set mk (get_or q place 0) (k + 2)) (get_or q s 0) 0 - 1)
      searched_looked mk' kept passed s l = elim (eqb_tells s place) [
        | inl e ↦
            let back : get_or mk (get_or q place 0) 0 - 1 ≡ k = omega (arith, mark_is) in
            let done = rw back at (to.searched place turn_in) in
            let next : k + 2 - 1 ≡ k + 1 = omega arith in
            rw (e.1, mk_here, next) (searched_next mk' done (λ y some. kept y (mk_kept y some)) passed)
        | inr e ↦ rw (mk_other (get_or q s 0) (other_place s l e.1)) (searched_kept mk' (λ y some. kept y (mk_kept y some)) (to.searched s l))
      ]

      ended_looked : (s : ℕ) → 0 < s → s < head → get_or (set mk (get_or q place 0) (k + 2)) (get_or q s 0) 0 ≡ suc (row_len g (get_or q s 0))
      ended_looked s above below =
          rw (mk_other (get_or q s 0) (other_place s (omega (arith, below, to.order)) (turn_other s above below))) (to.ended s above below)

      -- an entry that leads to no other equation, or to one with a mark
      pub seek_passed : (loose' : ℕ) → loose ≤ loose' → loose' ≤ tail → IsPassed (tight_of g c left) owner (set mk (get_or q place 0) (k + 2)) (get_or q place 0) k
          → (loose' ≤ place → UsesEntry (tight_of g c left) (get_or q place 0) k → unknown_at g (get_or q place 0) k ≡ get_or p (get_or q place 0) 0)
          → IsSeeking g c d left p owner t q par (set mk (get_or q place 0) (k + 2)) root head loose' tail
      seek_passed loose' more upto passed strict = record {
        fixed = to.fixed;
        tree = tree_looked;
        first = to.first;
        bare = to.bare;
        unfixed = to.unfixed;
        spare = to.spare;
        order = (omega (arith, to.order), omega (arith, to.order), omega arith);
        within = within_looked;
        ended = ended_looked;
        searched = searched_looked _ (λ y some. some) passed;
        row = λ s n above below. elim (eqb_tells s place) [
          | inl e ↦ rw (e.1, mk_here) (λ l may. elim (eqb_tells n k) [
            | inl z ↦ inl (rw z.1 (strict (omega (arith, e.1, above)) (rw z.1 at may)))
            | inr z ↦ to.row place n (omega (arith, e.1)) turn_in (omega (arith, l, mark_is, z.1)) may
          ])
          | inr e ↦ rw (mk_other (get_or q s 0) (other_place s below e.1)) (to.row s n (omega arith) below)
        ];
        children = children_looked;
        low = low_looked;
      }

      -- an entry that leads to an equation without mark
      module _ (y : ℕ) (ym : y < equations g) (unmarked : get_or (set mk (get_or q place 0) (k + 2)) y 0 ≡ 0) (held : get_or p y 0 ≡ unknown_at g (get_or q place 0) k)
          (has : get_or p y 0 ≢ 0) (may : UsesEntry (tight_of g c left) (get_or q place 0) k) (owned : get_or owner (unknown_at g (get_or q place 0) k) 0 ≡ suc y) where
        -- its mark
        y_here : get_or (set (set mk (get_or q place 0) (k + 2)) y 1) y 0 ≡ 1
        y_here = let l : y < length (set mk (get_or q place 0) (k + 2)) = omega (arith, ym, tree_looked.mark_all) in get_or-set_same (set mk (get_or q place 0) (k + 2)) y 1 0 l

        y_other : (z : ℕ) → z ≢ y → get_or (set (set mk (get_or q place 0) (k + 2)) y 1) z 0 ≡ get_or (set mk (get_or q place 0) (k + 2)) z 0
        y_other z ne = get_or-set_other (set mk (get_or q place 0) (k + 2)) y z 1 0 ne

        y_kept : (z : ℕ) → get_or (set mk (get_or q place 0) (k + 2)) z 0 ≢ 0 → get_or (set (set mk (get_or q place 0) (k + 2)) y 1) z 0 ≢ 0
        y_kept z some = elim (eqb_tells z y) [
          | inl e ↦ rw (e.1, y_here) (omega arith)
          | inr e ↦ rw (y_other z e.1) some
        ]

        room : tail < equations g
        room = tree_room _ _ _ _ _ _ _ _ tree_looked y ym unmarked

        q_here : get_or (set q tail y) tail 0 ≡ y
        q_here = let l : tail < length q = omega (arith, room, to.tree.queue_all) in get_or-set_same q tail y 0 l

        q_before : (s : ℕ) → s < tail → get_or (set q tail y) s 0 ≡ get_or q s 0
        q_before s l = let ne : s ≢ tail = omega arith in get_or-set_other q tail s y 0 ne

        par_here : get_or (set par tail place) tail 0 ≡ place
        par_here = let l : tail < length par = omega (arith, room, to.tree.parent_all) in get_or-set_same par tail place 0 l

        par_before : (s : ℕ) → s < tail → get_or (set par tail place) s 0 ≡ get_or par s 0
        par_before s l = let ne : s ≢ tail = omega arith in get_or-set_other par tail s place 0 ne

        y_apart : (s : ℕ) → s < tail → get_or q s 0 ≢ y
        y_apart s l e = tree_looked.marked s l (rw e unmarked)

        y_root : root ≢ y
        y_root e = has (rw e at to.bare)

        pushed : IsTree (Uses (tight_of g c left)) (equations g) p (set q tail y) (set par tail place) (set (set mk (get_or q place 0) (k + 2)) y 1) 0 (tail + 1)
        pushed = tree_push _ _ _ _ _ _ _ _ tree_looked y ym unmarked place
            (λ _. (turn_in, rw held (entry_used g c left (get_or q place 0) (unknown_at g (get_or q place 0) k) k kl refl (entry_tight g c left (get_or q place 0) k may))))
            (λ _. (has, omega arith))

        passed_y : IsPassed (tight_of g c left) owner (set (set mk (get_or q place 0) (k + 2)) y 1) (get_or q place 0) k
        passed_y = record { inner = λ _. let back : suc y - 1 ≡ y = omega arith in rw (owned, back, y_here) (omega arith, omega arith) }

        pub seek_met : IsSeeking g c d left p owner t (set q tail y) (set par tail place) (set (set mk (get_or q place 0) (k + 2)) y 1) root head loose (tail + 1)
        seek_met = record {
          fixed = to.fixed;
          tree = pushed;
          first = q_before 0 some_tail ∙ to.first;
          bare = to.bare;
          unfixed = to.unfixed;
          spare = to.spare;
          order = (omega (arith, to.order), omega (arith, to.order), omega (arith, to.order));
          within = λ z zm. elim (eqb_tells z y) [
            | inl e ↦ rw (e.1, y_here) (omega arith)
            | inr e ↦ rw (y_other z e.1) (within_looked z zm)
          ];
          ended = λ s above below.
              let l : s < tail = omega (arith, to.order) in
              rw (q_before s l, y_other (get_or q s 0) (y_apart s l)) (ended_looked s above below);
          searched = λ s l. elim (below_next s tail l) [
            | inl h ↦ rw (q_before s h, y_other (get_or q s 0) (y_apart s h)) (searched_looked _ y_kept passed_y s h)
            | inr e ↦ rw (e, q_here, y_here) (searched_none _ _ _ _)
          ];
          row = λ s n above l. elim (below_next s tail l) [
            | inr e ↦ rw (e, q_here, y_here) (λ bad. absurd (omega arith))
            | inl h ↦ rw (q_before s h, y_other (get_or q s 0) (y_apart s h)) (elim (eqb_tells s place) [
              | inl e ↦ rw (e.1, mk_here) (λ upto may'. elim (eqb_tells n k) [
                | inl z ↦
                    let last : suc place ≡ tail = turn_row (omega (arith, e.1, above)) in
                    inr (omega (arith, last), rw (z.1, last, q_here) (sym held))
                | inr z ↦ elim (to.row place n (omega (arith, e.1, above)) turn_in (omega (arith, upto, mark_is, z.1)) may') [
                  | inl own ↦ inl own
                  | inr next ↦ inr (omega (arith, next.0), rw (q_before (suc place) next.0) next.1)
                ]
              ])
              | inr e ↦ rw (mk_other (get_or q s 0) (other_place s h e.1)) (λ upto may'. elim (to.row s n above h upto may') [
                | inl own ↦ inl own
                | inr next ↦ inr (omega (arith, next.0), rw (q_before (suc s) next.0) next.1)
              ])
            ])
          ];
          children = λ s above l. rw (y_other root y_root) (elim (below_next s tail l) [
            | inl h ↦ rw (q_before s h, par_before s h) (children_looked s above h)
            | inr e ↦ rw (e, q_here, par_here) (λ none.
                let at : get_or q place 0 ≡ root = rw none to.first in
                (k, rw (← at, mk_here) (omega arith), rw at at held))
          ]);
          low = rw (y_other root y_root) low_looked;
        }

      pub seek_unused : (UsesEntry (tight_of g c left) (get_or q place 0) k → ⊥) → IsSeeking g c d left p owner t q par (set mk (get_or q place 0) (k + 2)) root head loose tail
      seek_unused no_use = seek_passed loose (omega arith) (omega (arith, to.order)) (passed_unused no_use) (λ _ may. absurd (no_use may))

      module _ (j : ℕ) (j_is : j ≡ unknown_at g (get_or q place 0) k) (known : (0 < j) × (j ≤ g.unknowns)) where
        pub seek_own : get_or owner j 0 ≡ suc (get_or q place 0) → IsSeeking g c d left p owner t q par (set mk (get_or q place 0) (k + 2)) root head loose tail
        seek_own owned =
            let held = to.fixed.matching.owns (get_or q place 0) j known.0 known.1 owned in
            let back : get_or owner j 0 - 1 ≡ get_or q place 0 = omega (arith, owned) in
            seek_passed loose (omega arith) (omega (arith, to.order)) (passed_by j j_is (omega (arith, owned)) (rw (back, mk_here) (omega arith))) (λ _ _. sym j_is ∙ sym held.1)

        module _ (may : UsesEntry (tight_of g c left) (get_or q place 0) k) (has : get_or owner j 0 ≢ 0) where
          pub holder_in : get_or owner j 0 - 1 < equations g
          holder_in = (to.fixed.matching.owns (get_or owner j 0 - 1) j known.0 known.1 (omega (arith, has))).0

          holder_pair : get_or p (get_or owner j 0 - 1) 0 ≡ j
          holder_pair = (to.fixed.matching.owns (get_or owner j 0 - 1) j known.0 known.1 (omega (arith, has))).1

          pub holder_room : get_or (set mk (get_or q place 0) (k + 2)) (get_or owner j 0 - 1) 0 ≡ 0 → tail < equations g
          holder_room unmarked = tree_room _ _ _ _ _ _ _ _ tree_looked (get_or owner j 0 - 1) holder_in unmarked

          pub seek_reached : (q' par' mk' : List ℕ) (loose' tail' : ℕ) → Reaches q par (set mk (get_or q place 0) (k + 2)) tail (get_or owner j 0 - 1) place q' par' mk' tail'
              → (get_or (set mk (get_or q place 0) (k + 2)) (get_or owner j 0 - 1) 0 ≢ 0 → loose' ≡ tail)
              → (get_or (set mk (get_or q place 0) (k + 2)) (get_or owner j 0 - 1) 0 ≡ 0 → loose' ≡ loose)
              → IsSeeking g c d left p owner t q' par' mk' root head loose' tail'
          seek_reached q' par' mk' loose' tail' reaches collapses stays = elim (eqb_tells (get_or (set mk (get_or q place 0) (k + 2)) (get_or owner j 0 - 1) 0) 0) [
            | inl e ↦
                let is = reaches.new e.1 in
                let owned : get_or owner (unknown_at g (get_or q place 0) k) 0 ≡ suc (get_or owner j 0 - 1) = rw (← j_is) (omega (arith, has)) in
                rw (is.0, is.1, is.2, is.3, stays e.1) (seek_met (get_or owner j 0 - 1) holder_in e.1 (holder_pair ∙ j_is) (rw holder_pair (omega (arith, known.0))) may owned)
            | inr e ↦
                let is = reaches.old e.1 in
                rw (is.0, is.1, is.2, is.3, collapses e.1) (seek_passed tail (omega (arith, to.order)) (omega arith) (passed_by j j_is has e.1) (λ le. absurd (omega (arith, le, turn_in))))
          ]

          pub reached_looked : (q' par' mk' : List ℕ) (tail' : ℕ) → Reaches q par (set mk (get_or q place 0) (k + 2)) tail (get_or owner j 0 - 1) place q' par' mk' tail'
              → looked g t mk' ≡ looked g t (set mk (get_or q place 0) (k + 2))
          reached_looked q' par' mk' tail' reaches = elim (eqb_tells (get_or (set mk (get_or q place 0) (k + 2)) (get_or owner j 0 - 1) 0) 0) [
            | inl e ↦ rw (reaches.new e.1).2 (looked_root g t (set mk (get_or q place 0) (k + 2)) (get_or owner j 0 - 1) e.1 (omega (arith, holder_in, tree_looked.mark_all)))
            | inr e ↦ rw (reaches.old e.1).2 refl
          ]

      pub entry_looked : looked g t (set mk (get_or q place 0) (k + 2)) ≡ looked g t mk + 1
      entry_looked = looked_more g t mk (set mk (get_or q place 0) (k + 2)) (get_or q place 0) k x_in turn_open mark_is mk_here (λ y ne. rw (mk_other y ne) refl)

      -- an entry that leads to an unknown that no equation has
      pub seek_free : (free : ℕ) → IsFree (tight_of g c left) owner (get_or q place 0) free → free ≡ unknown_at g (get_or q place 0) k
          → IsFound g c d left p owner t q par (set mk (get_or q place 0) (k + 2)) root place free tail
      seek_free free is_free is = record {
        fixed = to.fixed;
        tree = tree_looked;
        first = to.first;
        bare = to.bare;
        unfixed = to.unfixed;
        place_in = turn_in;
        within = within_looked;
        free_there = is_free;
        low = λ j handed r rival. elim handed [
          | inl h ↦
              let at : get_or q place 0 ≡ root = rw h.0 to.first in
              let le = bound h.0 r rival in
              let same : free ≡ unknown_at g root k = rw at at is in
              omega (arith, le, same, h.1)
          | inr h ↦
              let child = to.children h.0 h.1 h.2 h.3 in
              let le = to.low r rival child.0 child.1 in
              omega (arith, le, child.2, h.4)
        ];
      }

    -- ---- an equation that has been looked at whole

    module _ (whole : get_or mk (get_or q place 0) 0 ≡ suc (row_len g (get_or q place 0))) where
      -- the first one that had entries left
      pub seek_ended : tail ≤ loose → IsSeeking g c d left p owner t q par mk root (head + 1) loose tail
      seek_ended le = elim (cases_lt head tail) [
        | inr h ↦ absurd (root_left (turn.root le h) whole)
        | inl h ↦ record {
          fixed = to.fixed;
          tree = to.tree;
          first = to.first;
          bare = to.bare;
          unfixed = to.unfixed;
          spare = to.spare;
          order = (omega arith, omega (arith, to.order), omega (arith, to.order));
          within = to.within;
          ended = λ s above below. elim (below_next s head below) [
            | inl l ↦ to.ended s above l
            | inr e ↦ rw (e, ← turn.first le h) whole
          ];
          searched = to.searched;
          row = to.row;
          children = to.children;
          low = to.low;
        }
      ]

      -- the last one in the row
      module _ (some : loose < tail) (u : ℕ) (u_is : get_or p (get_or q place 0) 0 ≡ u) where
        last : suc place ≡ tail
        last = turn.last some

        x_root : get_or q place 0 ≢ root
        x_root e = let none = at_root e in omega (arith, last, to.order)

        x_has : get_or p (get_or q place 0) 0 ≢ 0
        x_has = (to.tree.rooted place (omega (arith, last, to.order)) turn_in).0

        pub u_some : u ≢ 0
        u_some = rw u_is at x_has

        -- no other unknown is left for it
        only : (j : ℕ) → Uses (tight_of g c left) (get_or q place 0) j → j ≡ u
        only j used =
            let entry = uses_entry (tight_of g c left) (get_or q place 0) j used in
            elim (to.row place entry.0 (omega (arith, last)) turn_in (omega (arith, whole, entry.1)) entry.3) [
              | inl own ↦ sym entry.2 ∙ own ∙ u_is
              | inr next ↦ absurd (omega (arith, next.0, last))
            ]

        x_fixed : IsFixedTo g c d (set left (u - 1) 4294967295) (set p (get_or q place 0) 0) (set owner u 0) (set t (get_or q place 0) u) root root
        x_fixed = fixed_more g c d left p owner t root root sound open_all to.fixed (get_or q place 0) x_in turn_open u u_is u_some root (omega arith) (λ y l. inl l)
            (λ r rival.
            let back : IsRival g c d t root r = record {
              assigns = rival.assigns;
              covers = rival.covers;
              same = λ y l. let ne : y ≢ get_or q place 0 = λ e. to.fixed.before y l (rw e turn_open) in rival.same y l ∙ get_or-set_other t (get_or q place 0) y u 0 ne;
            } in
            only (r (get_or q place 0)) (rival_open g c d left p owner t root root sound open_all to.fixed r back (get_or q place 0) x_in turn_open))
            (λ r l rival. absurd (to.fixed.before (get_or q place 0) l turn_open))

        pub u_known : (0 < u) × (u ≤ g.unknowns)
        u_known =
            let known = left_tight g c d left p owner t root root sound open_all to.fixed (get_or q place 0) u x_in (rw u_is at (to.fixed.matching.edge (get_or q place 0) x_in x_has)) in
            (known.0, known.1)

        u_owner : get_or owner u 0 ≡ suc (get_or q place 0)
        u_owner = rw u_is at (to.fixed.matching.owned (get_or q place 0) x_in x_has).1

        p_other : (z : ℕ) → z ≢ get_or q place 0 → get_or (set p (get_or q place 0) 0) z 0 ≡ get_or p z 0
        p_other z ne = get_or-set_other p (get_or q place 0) z 0 0 ne

        mk_off : (z : ℕ) → z ≢ get_or q place 0 → get_or (set mk (get_or q place 0) 0) z 0 ≡ get_or mk z 0
        mk_off z ne = get_or-set_other mk (get_or q place 0) z 0 0 ne

        mk_none : get_or (set mk (get_or q place 0) 0) (get_or q place 0) 0 ≡ 0
        mk_none = let l : get_or q place 0 < length mk = omega (arith, x_in, to.tree.mark_all) in get_or-set_same mk (get_or q place 0) 0 0 l

        place_off : (s : ℕ) → s < tail - 1 → get_or q s 0 ≢ get_or q place 0
        place_off s l e = let same : s ≡ place = to.tree.apart s place (omega arith) turn_in e in omega (arith, last)

        x_pair : (z : ℕ) → z < equations g → z ≢ get_or q place 0 → get_or p z 0 ≢ u
        x_pair z zm ne e =
            let has : get_or p z 0 ≢ 0 = rw e u_some in
            let owned = rw (e, u_owner) at (to.fixed.matching.owned z zm has).1 in
            ne (omega (arith, owned))

        -- what may be used then might be used before, at another unknown
        use_back : (i k : ℕ) → i < equations g → k < row_len g i → UsesEntry (tight_of g c (set left (u - 1) 4294967295)) i k → (unknown_at g i k ≢ u) × UsesEntry (tight_of g c left) i k
        use_back i k im kl may =
            let e = entry_tight g c (set left (u - 1) 4294967295) i k may in
            let known = sound.known i k im kl in
            let low = open_all.entry i k im kl in
            let ne : unknown_at g i k ≢ u = λ same.
            let inside : u - 1 < length left = omega (arith, u_known, to.fixed.left_all) in
            let high : get_or (set left (u - 1) 4294967295) (unknown_at g i k - 1) 0 ≡ 4294967295 = rw same (get_or-set_same left (u - 1) 4294967295 0 inside) in
            omega (arith, e, low, high) in
            let apart : unknown_at g i k - 1 ≢ u - 1 = omega (arith, ne, known.0, u_known.0) in
            (ne, tight_entry g c left i k (rw (get_or-set_other left (u - 1) (unknown_at g i k - 1) 4294967295 0 apart) at e))

        searched_off : (i n : ℕ) → i < equations g → n ≤ row_len g i → IsSearched (tight_of g c left) owner mk i n
            → IsSearched (tight_of g c (set left (u - 1) 4294967295)) (set owner u 0) (set mk (get_or q place 0) 0) i n
        searched_off i n im le done = record {
          passed = λ k l. record {
            inner = λ may.
                let was = use_back i k im (omega arith) may in
                let there = (done.passed k l).inner was.1 in
                let known = sound.known i k im (omega arith) in
                let held = to.fixed.matching.owns (get_or owner (unknown_at g i k) 0 - 1) (unknown_at g i k) known.0 known.1 (omega (arith, there.0)) in
                let ne : get_or owner (unknown_at g i k) 0 - 1 ≢ get_or q place 0 = λ e. was.0 (sym held.1 ∙ rw e u_is) in
                rw (get_or-set_other owner u (unknown_at g i k) 0 0 was.0, mk_off (get_or owner (unknown_at g i k) 0 - 1) ne) there;
          };
        }

        tree_off : IsTree (Uses (tight_of g c (set left (u - 1) 4294967295))) (equations g) (set p (get_or q place 0) 0) q par (set mk (get_or q place 0) 0) 0 (tail - 1)
        tree_off = record {
          queue_all = to.tree.queue_all;
          parent_all = to.tree.parent_all;
          mark_all = length-set mk (get_or q place 0) 0 ∙ to.tree.mark_all;
          room = omega (arith, to.tree.room);
          in_range = λ s l. to.tree.in_range s (omega arith);
          apart = λ s z sl zl. to.tree.apart s z (omega arith) (omega arith);
          marked = λ s l. rw (mk_off (get_or q s 0) (place_off s l)) (to.tree.marked s (omega arith));
          listed = λ z zm. elim (eqb_tells z (get_or q place 0)) [
            | inl e ↦ rw (e.1, mk_none) (λ bad. absurd (bad refl))
            | inr e ↦ rw (mk_off z e.1) (λ has.
                let there = to.tree.listed z zm has in
                let ne : there.0 ≢ place = λ same. e.1 (sym there.2 ∙ ap (λ (y : ℕ). get_or q y 0) same) in
                (there.0, omega (arith, there.1, ne, last), there.2))
          ];
          linked = λ s l. rw (p_other (get_or q s 0) (place_off s l)) (λ has.
              let there = to.tree.linked s (omega arith) has in
              let ne = x_pair (get_or q s 0) (to.tree.in_range s (omega arith)) (place_off s l) in (
                there.0,
                uses_left g c left u u_known.0 (get_or q (get_or par s 0) 0) (get_or p (get_or q s 0) 0) (omega (arith, has)) ne there.1,
              ));
          rooted = λ s above l. rw (p_other (get_or q s 0) (place_off s l)) (to.tree.rooted s above (omega arith));
        }

        pub seek_fixed : IsSeeking g c d (set left (u - 1) 4294967295) (set p (get_or q place 0) 0) (set owner u 0) (set t (get_or q place 0) u) q par (set mk (get_or q place 0) 0) root head loose (tail - 1)
        seek_fixed =
            let ne : root ≢ get_or q place 0 = λ e. x_root (sym e) in
            record {
              fixed = x_fixed;
              tree = tree_off;
              first = to.first;
              bare = p_other root ne ∙ to.bare;
              unfixed = get_or-set_other t (get_or q place 0) root u 0 ne ∙ to.unfixed;
              spare =
                  let spare = to.spare in
                  let other : spare.0 ≢ u = λ e. let bad : get_or owner u 0 ≡ 0 = rw e at spare.1.unowned in omega (arith, bad, u_owner) in (
                    spare.0,
                    record {
                      positive = spare.1.positive;
                      known = spare.1.known;
                      unowned = get_or-set_other owner u spare.0 0 0 other ∙ spare.1.unowned;
                      used = uses_left g c left u u_known.0 root spare.0 spare.1.positive other spare.1.used;
                    },
                  );
              order = (omega (arith, to.order), omega (arith, to.order), omega arith);
              within = λ z zm. elim (eqb_tells z (get_or q place 0)) [
                | inl e ↦ rw (e.1, mk_none) (omega arith)
                | inr e ↦ rw (mk_off z e.1) (to.within z zm)
              ];
              ended = λ s above below.
                  let l : s < tail - 1 = omega (arith, to.order) in
                  rw (mk_off (get_or q s 0) (place_off s l)) (to.ended s above below);
              searched = λ s l.
                  let sm = to.tree.in_range s (omega arith) in
                  let le = to.within (get_or q s 0) sm in
                  rw (mk_off (get_or q s 0) (place_off s l)) (searched_off (get_or q s 0) (get_or mk (get_or q s 0) 0 - 1) sm (omega (arith, le)) (to.searched s (omega arith)));
              row = λ s k above l. rw (mk_off (get_or q s 0) (place_off s l), p_other (get_or q s 0) (place_off s l)) (λ upto may.
                  let sm = to.tree.in_range s (omega arith) in
                  let le = to.within (get_or q s 0) sm in
                  let was = use_back (get_or q s 0) k sm (omega (arith, le, upto)) may in
                  elim (to.row s k above (omega arith) upto was.1) [
                    | inl own ↦ inl own
                    | inr next ↦ elim (cases_lt (suc s) (tail - 1)) [
                      | inl h ↦ inr (h, rw (p_other (get_or q (suc s) 0) (place_off (suc s) h)) next.1)
                      | inr h ↦
                          let same : suc s ≡ place = omega (arith, last, next.0) in
                          absurd (was.0 (next.1 ∙ rw same u_is))
                    ]
                  ]);
              children = λ s above l. rw (mk_off root ne, p_other (get_or q s 0) (place_off s l)) (to.children s above (omega arith));
              low = rw (mk_off root ne) (λ r rival n l.
                  to.low r (record {
                    assigns = rival.assigns;
                    covers = rival.covers;
                    same = λ y yl. let off : y ≢ get_or q place 0 = λ e. to.fixed.before y yl (rw e turn_open) in rival.same y yl ∙ get_or-set_other t (get_or q place 0) y u 0 off;
                  }) n l);
            }
