-- The closed front of the queue is the deficit.
use Rattle.std.proofs.Common.{◌≡◌, ◌≢◌, ℕ, suc, ◌+◌, ◌-◌, ◌<◌, ◌≤◌, inl, inr, false, List, length, get_or, arith}
use Rattle.std.proofs.lemmas.Bool.Decides.{eqb_tells}
use Rattle.mo_incidence.specs.Signature.{equations, row_len, IsSound}
use Rattle.mo_incidence.specs.Assignment.{Mentions, Assigns, IsAssignment, IsLargest, IsInDeficit}
use Rattle.mo_match.specs.Searching.{Bipartite, Uses, IsMatching, IsTree, IsSearched, ClosedTo, Matches, HoldsTree, IsAssignedTo}
use Rattle.mo_match.proofs.Entries.{entry_loose}
use Rattle.mo_match.proofs.Extending.{tree_rebase}
use Rattle.mo_match.proofs.Covering.{matching_assigns, covers_most, covers_fewer}
use Rattle.mo_match.proofs.LeftOut.{left_out}

pub assigns_by : {E F : ℕ → ℕ → Type 0} {m : ℕ} (q : ℕ → ℕ) → ((i j : ℕ) → E i j → F i j) → Assigns E m q → Assigns F m q
assigns_by q by assigns = record { allowed = λ i l some. by i (q i) (assigns.allowed i l some); apart = assigns.apart }

pub uses_mentions : (b : Bipartite) (i j : ℕ) → Uses b i j → Mentions b.signature i j
unfolding Uses Mentions
uses_mentions b i j u = (u.0, u.1, u.2)

pub mentions_uses : (b : Bipartite) → b.tight ≡ false → (i j : ℕ) → Mentions b.signature i j → Uses b i j
unfolding Uses Mentions
mentions_uses b loose i j u = (u.0, u.1, u.2, entry_loose b i u.0 loose)

pub closed_marks : (b : Bipartite) (p owner q par mk : List ℕ) (base t : ℕ) → IsSound b.signature → HoldsTree b p q par mk base t → ClosedTo b owner mk q t
    → (i j : ℕ) → i < equations b.signature → get_or mk i 0 ≢ 0 → Uses b i j
    → (0 < j) × (j ≤ b.signature.unknowns) × (get_or owner j 0 ≢ 0) × (get_or mk (get_or owner j 0 - 1) 0 ≢ 0)
unfolding Uses
closed_marks b p owner q par mk base t sound tree closed i j il marked u =
    let there = tree.listed i il marked in
    let searched : IsSearched b owner mk i (row_len b.signature i) = rw there.2 at (closed.searched there.0 there.1) in
    let known = sound.known i u.0 il u.1 in
    let held = (searched.passed u.0 u.1).inner u.3 in
    (rw u.2 at known.0, rw u.2 at known.1, rw u.2 at held.0, rw u.2 at held.1)

module _ (b : Bipartite) (p owner q par mk : List ℕ) (t : ℕ) (loose : b.tight ≡ false) (sound : IsSound b.signature)
    (match : Matches b p owner) (tree : HoldsTree b p q par mk t t) (closed : ClosedTo b owner mk q t)
    (settled : (i : ℕ) → i < equations b.signature → get_or p i 0 ≡ 0 → get_or mk i 0 ≢ 0) where
  pub marks_closed : (i j : ℕ) → i < equations b.signature → get_or mk i 0 ≢ 0 → Uses b i j
      → (0 < j) × (j ≤ b.signature.unknowns) × (get_or owner j 0 ≢ 0) × (get_or mk (get_or owner j 0 - 1) 0 ≢ 0)
  marks_closed = closed_marks b p owner q par mk t t sound tree closed

  to_uses : (r : ℕ → ℕ) → IsAssignment b.signature r → Assigns (Uses b) (equations b.signature) r
  to_uses r = assigns_by r (mentions_uses b loose)

  pub largest : IsLargest b.signature (λ i. get_or p i 0)
  largest = record {
    assigns = assigns_by (λ i. get_or p i 0) (uses_mentions b) (matching_assigns match);
    most = λ r assigns. covers_most (Uses b) (equations b.signature) b.signature.unknowns p owner mk match marks_closed settled r (to_uses r assigns);
  }

  pub in_deficit : (i : ℕ) → i < equations b.signature → get_or mk i 0 ≢ 0 → IsInDeficit b.signature i
  in_deficit i il marked =
      let there = tree.listed i il marked in
      let found = left_out (Uses b) (equations b.signature) p q par mk t t tree (matching_assigns match) there.0 there.1 in (
        found.0,
        record {
          assigns = assigns_by found.0 (uses_mentions b) found.1;
          most = λ r assigns. rw found.2 (largest.most r assigns);
        },
        rw there.2 at found.3,
      )

  pub deficit_only : (i : ℕ) → i < equations b.signature → IsInDeficit b.signature i → get_or mk i 0 ≢ 0
  deficit_only i il out unmarked =
      let fewer = covers_fewer (Uses b) (equations b.signature) b.signature.unknowns p owner mk match marks_closed settled out.0 (to_uses out.0 out.1.assigns) i il out.2 unmarked in
      let most = out.1.most (λ k. get_or p k 0) largest.assigns in
      omega arith

pub matching_none : (E : ℕ → ℕ → Type 0) (m n : ℕ) (p owner : List ℕ) → length p ≡ m → length owner ≡ suc n
    → ((i : ℕ) → get_or p i 0 ≡ 0) → ((j : ℕ) → get_or owner j 0 ≡ 0) → IsMatching E m n p owner
matching_none E m n p owner size_p size_owner none_p none_owner = record {
  equations_all = size_p;
  unknowns_all = size_owner;
  edge = λ i l some. absurd (some (none_p i));
  owned = λ i l some. absurd (some (none_p i));
  owns = λ i j above below is. let e = none_owner j in absurd (omega arith);
}

pub tree_none : (E : ℕ → ℕ → Type 0) (m : ℕ) (p q par mk : List ℕ) → length q ≡ m → length par ≡ m → length mk ≡ m
    → ((i : ℕ) → get_or mk i 0 ≡ 0) → IsTree E m p q par mk 0 0
tree_none E m p q par mk size_q size_par size_mk none = record {
  queue_all = size_q;
  parent_all = size_par;
  mark_all = size_mk;
  room = omega arith;
  in_range = λ s l. absurd (omega arith);
  apart = λ s u l. absurd (omega arith);
  marked = λ s l. absurd (omega arith);
  listed = λ x xm some. absurd (some (none x));
  linked = λ s l. absurd (omega arith);
  rooted = λ s above below. absurd (omega arith);
}

module _ (b : Bipartite) (p owner q par mk : List ℕ) (base r : ℕ) (to : IsAssignedTo b p owner q par mk base r) where
  -- an equation that has an unknown, or is in the front already
  pub assigned_skip : (get_or p r 0 ≡ 0 → get_or mk r 0 ≢ 0) → IsAssignedTo b p owner q par mk base (r + 1)
  assigned_skip here = record {
    matching = to.matching;
    tree = to.tree;
    closed = to.closed;
    settled = λ i l. elim (eqb_tells i r) [ inl e ↦ rw e.1 here | inr e ↦ to.settled i (omega (arith, e.1)) ];
  }

  pub assigned_next : (p' owner' q' par' mk' : List ℕ) (base' : ℕ) → r < equations b.signature
      → Matches b p' owner' → HoldsTree b p' q' par' mk' base base' → ClosedTo b owner' mk' q' base'
      → (base' ≡ base → get_or p' r 0 ≢ 0)
      → (base' ≢ base → (base < base') × (get_or q' base 0 ≡ r))
      → ((x : ℕ) → get_or p x 0 ≢ 0 → get_or p' x 0 ≢ 0)
      → ((x : ℕ) → x < equations b.signature → get_or mk x 0 ≢ 0 → get_or mk' x 0 ≢ 0)
      → IsAssignedTo b p' owner' q' par' mk' base' (r + 1)
  assigned_next p' owner' q' par' mk' base' rm match tree closed gained first kept marked = record {
    matching = match;
    tree = tree_rebase tree;
    closed = closed;
    settled = λ i l none. elim (eqb_tells i r) [
      | inl z ↦ elim (eqb_tells base' base) [
        | inl e ↦ absurd (gained e.1 (rw z.1 at none))
        | inr e ↦ let at = first e.1 in let here = tree.marked base at.0 in rw z.1 (rw at.1 at here)
      ]
      | inr z ↦ before i (omega (arith, z.1)) none
    ];
  }
    where
      before : (i : ℕ) → i < r → get_or p' i 0 ≡ 0 → get_or mk' i 0 ≢ 0
      before i l none = elim (eqb_tells (get_or p i 0) 0) [
        | inl z ↦ marked i (omega arith) (to.settled i l z.1)
        | inr z ↦ absurd (kept i z.1 none)
      ]
