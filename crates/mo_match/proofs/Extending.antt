-- What is left of the queue after a search that found an unknown.
use Rattle.std.proofs.Common.{◌≡◌, ◌≢◌, ℕ, suc, ◌+◌, ◌-◌, ◌<◌, ◌≤◌, inl, inr, List, length, get_or, set, sym, ◌∙◌, arith, get_or-set_other, get_or-set_same}
use Rattle.std.proofs.lemmas.Bool.Decides.{eqb_tells, leb_tells}
use Rattle.mo_incidence.specs.Signature.{unknown_at, IsSound}
use Rattle.mo_match.specs.Searching.{Bipartite, IsTree, ClosedTo, Matches, HoldsTree}
use Rattle.mo_match.specs.Trees.{IsUnmarkedTo}
use Rattle.mo_match.proofs.Trees.{below_next}

pub tree_rebase : {E : ℕ → ℕ → Type 0} {m : ℕ} {p q par mk : List ℕ} {b t : ℕ} → IsTree E m p q par mk b t → IsTree E m p q par mk t t
tree_rebase tree = record {
  queue_all = tree.queue_all;
  parent_all = tree.parent_all;
  mark_all = tree.mark_all;
  room = tree.room;
  in_range = tree.in_range;
  apart = tree.apart;
  marked = tree.marked;
  listed = tree.listed;
  linked = tree.linked;
  rooted = λ s above below. absurd (omega arith);
}

-- one mark more is taken back
pub unmarked_next : (q mk mk' : List ℕ) (base t : ℕ) → IsUnmarkedTo q mk mk' base t → base ≤ t → get_or q t 0 < length mk'
    → IsUnmarkedTo q mk (set mk' (get_or q t 0) 0) base (t + 1)
unmarked_next q mk mk' base t to at inside = record {
  cleared = λ s above below. elim (below_next s t below) [
    | inr e ↦ rw e (get_or-set_same mk' (get_or q t 0) 0 0 inside)
    | inl k ↦ elim (eqb_tells (get_or q s 0) (get_or q t 0)) [
      | inl e ↦ rw e.1 (get_or-set_same mk' (get_or q t 0) 0 0 inside)
      | inr e ↦ get_or-set_other mk' (get_or q t 0) (get_or q s 0) 0 0 e.1 ∙ to.cleared s above k
    ]
  ];
  less = λ x some. elim (eqb_tells x (get_or q t 0)) [
    | inl e ↦ absurd (some (rw e.1 (get_or-set_same mk' (get_or q t 0) 0 0 inside)))
    | inr e ↦ to.less x (rw (get_or-set_other mk' (get_or q t 0) x 0 0 e.1) at some)
  ];
  others = λ x out.
      let ne : x ≢ get_or q t 0 = λ e. out t at (omega arith) (sym e) in
      get_or-set_other mk' (get_or q t 0) x 0 0 ne ∙ to.others x (λ s above below. out s above (omega arith));
}

module _ (E : ℕ → ℕ → Type 0) (m : ℕ) (p q par mk : List ℕ) (b t : ℕ) (tree : IsTree E m p q par mk b t) (le : b ≤ t)
    (mk' : List ℕ) (size : length mk' ≡ length mk)
    (unmarked : IsUnmarkedTo q mk mk' b t) where
  pub marked_after : (s : ℕ) → s < b → get_or mk' (get_or q s 0) 0 ≢ 0
  marked_after s l =
      let same = unmarked.others (get_or q s 0) (λ u above below e. let is : u ≡ s = tree.apart u s below (omega arith) e in absurd (omega arith)) in
      rw same (tree.marked s (omega arith))

  pub tree_after : (p' : List ℕ) → ((s : ℕ) → s < b → get_or p' (get_or q s 0) 0 ≡ get_or p (get_or q s 0) 0) → IsTree E m p' q par mk' b b
  tree_after p' same = record {
    queue_all = tree.queue_all;
    parent_all = tree.parent_all;
    mark_all = size ∙ tree.mark_all;
    room = omega (arith, tree.room);
    in_range = λ s l. tree.in_range s (omega arith);
    apart = λ s u sl ul. tree.apart s u (omega arith) (omega arith);
    marked = marked_after;
    listed = λ x xm some.
        let there = tree.listed x xm (unmarked.less x some) in
        elim (leb_tells b there.0) [
          | inl e ↦ absurd (some (rw (← there.2) (unmarked.cleared there.0 e.1 there.1)))
          | inr e ↦ (there.0, e.1, there.2)
        ];
    linked = λ s l. rw (same s l) (tree.linked s (omega arith));
    rooted = λ s above below. absurd (omega arith);
  }

pub closed_after : (b : Bipartite) (p owner p' owner' q0 par0 mk0 q mk' : List ℕ) (base : ℕ)
    → IsSound b.signature → Matches b p owner → Matches b p' owner' → HoldsTree b p q0 par0 mk0 base base
    → ((s : ℕ) → s < base → get_or q s 0 ≡ get_or q0 s 0)
    → ((s : ℕ) → s < base → get_or p' (get_or q s 0) 0 ≡ get_or p (get_or q s 0) 0)
    → ((s : ℕ) → s < base → get_or mk' (get_or q s 0) 0 ≢ 0)
    → ClosedTo b owner mk0 q0 base → ClosedTo b owner' mk' q base
closed_after b p owner p' owner' q0 par0 mk0 q mk' base sound match match' tree same_queue same_pairs marked closed = record {
  searched = λ s l. rw (same_queue s l) (record {
    passed = λ k kl. record {
      inner = λ u.
          let j = unknown_at b.signature (get_or q0 s 0) k in
          let was = ((closed.searched s l).passed k kl).inner u in
          let x = get_or owner j 0 - 1 in
          let known = sound.known (get_or q0 s 0) k (tree.in_range s l) kl in
          let held = match.owns x j known.0 known.1 (omega (arith, was.0)) in
          let there = tree.listed x held.0 was.1 in
          let place_is : get_or q there.0 0 ≡ x = same_queue there.0 there.1 ∙ there.2 in
          let pair_is : get_or p' x 0 ≡ j = rw place_is at (same_pairs there.0 there.1) ∙ held.1 in
          let owned : get_or owner' j 0 ≡ suc x = rw pair_is at (match'.owned x held.0 (rw pair_is (omega (arith, known.0)))).1 in
          let back : get_or owner' j 0 - 1 ≡ x = omega arith in
          (omega arith, rw back (rw place_is at (marked there.0 there.1)));
    };
  });
}
