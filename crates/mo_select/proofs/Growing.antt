-- One row more is tried.
use Rattle.std.proofs.Common.{◌≡◌, ◌≢◌, ℕ, suc, ◌+◌, ◌-◌, ◌<◌, ◌≤◌, inl, inr, false, List, length, get_or, arith}
use Rattle.std.proofs.lemmas.Bool.Decides.{eqb_tells}
use Rattle.std.proofs.lemmas.Bool.{cases_lt}
use Rattle.mo_graph.specs.Counting.{sign, count_below}
use Rattle.mo_graph.proofs.Counting.{sign_some, sign_cases, count_injection}
use Rattle.mo_incidence.specs.Signature.{Signature, equations, IsSound}
use Rattle.mo_incidence.specs.Assignment.{Assigns}
use Rattle.mo_match.specs.Searching.{Bipartite, Uses, ClosedTo, Matches, HoldsTree}
use Rattle.mo_match.proofs.Covering.{matching_assigns}
use Rattle.mo_match.proofs.Deficit.{assigns_by, uses_mentions, mentions_uses, closed_marks, matching_none, tree_none, assigned_skip, assigned_next}
use Rattle.mo_match.proofs.Trees.{closed_none}
use Rattle.mo_select.specs.steps.Growing.{CoversMost, IsGreedy, IsGrownTo}
use Rattle.mo_select.proofs.Prefixes.{covers_prefix}

-- where f is not 0, g is not 0 either
pub count_more : (f g : ℕ → ℕ) (n : ℕ) → ((i : ℕ) → i < n → f i ≢ 0 → g i ≢ 0) → count_below f n ≤ count_below g n
count_more f g n more = count_injection f g (λ i. i) n n (λ i l some. (l, more i l some)) (λ i k il kl si sk same. same)

pub assigns_first : {E : ℕ → ℕ → Type 0} (m n : ℕ) (q : ℕ → ℕ) → n ≤ m → Assigns E m q → Assigns E n q
assigns_first m n q le assigns = record {
  allowed = λ i l. assigns.allowed i (omega arith);
  apart = λ i k il kl. assigns.apart i k (omega arith) (omega arith);
}

pub most_kept : (E : ℕ → ℕ → Type 0) (m r : ℕ) (p p' : ℕ → ℕ) → CoversMost E m r p → ((x : ℕ) → p x ≢ 0 → p' x ≢ 0) → CoversMost E m r p'
most_kept E m r p p' most kept = record {
  most = λ n le other assigns.
      let before : count_below other n ≤ count_below p n = most.most n le other assigns in
      let more : count_below p n ≤ count_below p' n = count_more p p' n (λ i l. kept i) in
      omega arith;
}

pub most_gained : (E : ℕ → ℕ → Type 0) (m r : ℕ) (p : ℕ → ℕ) → CoversMost E m r p → p r ≢ 0 → CoversMost E m (r + 1) p
most_gained E m r p most some = record {
  most = λ n le other assigns. elim (eqb_tells n (suc r)) [
    | inr e ↦ most.most n (omega (arith, e.1)) other assigns
    | inl e ↦
        let before : count_below other r ≤ count_below p r = most.most r (omega arith) other assigns in
        let here : sign (p r) ≡ 1 = sign_some (p r) some in
        let there : sign (other r) ≤ 1 = elim (sign_cases (other r)) [ inl z ↦ omega (arith, z.1) | inr z ↦ omega (arith, z.1) ] in
        rw e.1 (omega arith)
  ];
}

module _ (b : Bipartite) (p owner q par mk : List ℕ) (base r : ℕ) (sound : IsSound b.signature) (rm : r < equations b.signature)
    (match : Matches b p owner) (tree : HoldsTree b p q par mk base base) (closed : ClosedTo b owner mk q base)
    (settled : (i : ℕ) → i < r + 1 → get_or p i 0 ≡ 0 → get_or mk i 0 ≢ 0)
    (bare : (x : ℕ) → r + 1 ≤ x → get_or p x 0 ≡ 0) (most : CoversMost (Uses b) (equations b.signature) r (λ i. get_or p i 0)) where
  closed_first : (i j : ℕ) → i < r + 1 → get_or mk i 0 ≢ 0 → Uses b i j
      → (get_or owner j 0 ≢ 0) × (get_or owner j 0 - 1 < r + 1) × (get_or p (get_or owner j 0 - 1) 0 ≡ j) × (get_or mk (get_or owner j 0 - 1) 0 ≢ 0)
  closed_first i j l marked used =
      let there = closed_marks b p owner q par mk base base sound tree closed i j (omega arith) marked used in
      let held = match.owns (get_or owner j 0 - 1) j there.0 there.1 (omega (arith, there.2)) in
      let early : get_or owner j 0 - 1 < r + 1 = elim (cases_lt (get_or owner j 0 - 1) (r + 1)) [
        | inl h ↦ h
        | inr h ↦ let none = bare (get_or owner j 0 - 1) h in absurd (omega (arith, there.0, held.1))
      ] in
      (there.2, early, held.1, there.3)

  pub most_settled : CoversMost (Uses b) (equations b.signature) (r + 1) (λ i. get_or p i 0)
  most_settled = record {
    most = λ n le other assigns. elim (eqb_tells n (r + 1)) [
      | inr e ↦ most.most n (omega (arith, e.1)) other assigns
      | inl e ↦
          rw e.1 (covers_prefix (Uses b) (r + 1) (λ i. get_or p i 0) (λ j. get_or owner j 0) (λ i. get_or mk i 0) closed_first settled other
          (assigns_first (equations b.signature) (r + 1) other (omega arith) assigns))
    ];
  }

pub grown_none : (b : Bipartite) (p owner q par mk : List ℕ) → length p ≡ equations b.signature → length owner ≡ suc b.signature.unknowns
    → length q ≡ equations b.signature → length par ≡ equations b.signature → length mk ≡ equations b.signature
    → ((i : ℕ) → get_or p i 0 ≡ 0) → ((j : ℕ) → get_or owner j 0 ≡ 0) → ((i : ℕ) → get_or mk i 0 ≡ 0) → IsGrownTo b p owner q par mk 0 0
grown_none b p owner q par mk size_p size_owner size_q size_par size_mk none_p none_owner none_mk = record {
  assigned = record {
    matching = matching_none (Uses b) (equations b.signature) b.signature.unknowns p owner size_p size_owner none_p none_owner;
    tree = tree_none (Uses b) (equations b.signature) p q par mk size_q size_par size_mk none_mk;
    closed = closed_none b owner mk q;
    settled = λ i l. absurd (omega arith);
  };
  bare = λ x _. none_p x;
  most = record { most = λ n le other assigns. let none : n ≡ 0 = omega arith in rw none (omega arith) };
}

module _ (b : Bipartite) (p owner q par mk : List ℕ) (base r : ℕ) (sound : IsSound b.signature) (rm : r < equations b.signature) (to : IsGrownTo b p owner q par mk base r) where
  -- a row with a mark is closed already
  pub grown_skip : get_or mk r 0 ≢ 0 → IsGrownTo b p owner q par mk base (r + 1)
  grown_skip marked =
      let assigned = assigned_skip b p owner q par mk base r to.assigned (λ _. marked) in
      let bare : (x : ℕ) → r + 1 ≤ x → get_or p x 0 ≡ 0 = λ x l. to.bare x (omega arith) in
      record {
        assigned = assigned;
        bare = bare;
        most = most_settled b p owner q par mk base r sound rm assigned.matching assigned.tree assigned.closed assigned.settled bare to.most;
      }

  pub grown_next : (p' owner' q' par' mk' : List ℕ) (base' : ℕ)
      → Matches b p' owner' → HoldsTree b p' q' par' mk' base base' → ClosedTo b owner' mk' q' base'
      → (base' ≡ base → get_or p' r 0 ≢ 0)
      → (base' ≢ base → (base < base') × (get_or q' base 0 ≡ r))
      → ((x : ℕ) → get_or p x 0 ≢ 0 → get_or p' x 0 ≢ 0)
      → ((x : ℕ) → x ≢ r → get_or p x 0 ≡ 0 → get_or p' x 0 ≡ 0)
      → ((x : ℕ) → x < equations b.signature → get_or mk x 0 ≢ 0 → get_or mk' x 0 ≢ 0)
      → IsGrownTo b p' owner' q' par' mk' base' (r + 1)
  grown_next p' owner' q' par' mk' base' match tree closed gained first kept others marked =
      let assigned = assigned_next b p owner q par mk base r to.assigned p' owner' q' par' mk' base' rm match tree closed gained first kept marked in
      let bare : (x : ℕ) → r + 1 ≤ x → get_or p' x 0 ≡ 0 = λ x l. others x (omega arith) (to.bare x (omega arith)) in
      let most = most_kept (Uses b) (equations b.signature) r (λ i. get_or p i 0) (λ i. get_or p' i 0) to.most kept in
      record {
        assigned = assigned;
        bare = bare;
        most = elim (eqb_tells base' base) [
          | inl e ↦ most_gained (Uses b) (equations b.signature) r (λ i. get_or p' i 0) most (gained e.1)
          | inr e ↦ most_settled b p' owner' q' par' mk' base' r sound rm assigned.matching assigned.tree assigned.closed assigned.settled bare most
        ];
      }

pub grown_greedy : (g : Signature) (b : Bipartite) (p owner q par mk : List ℕ) (base : ℕ) → b.signature ≡ g → b.tight ≡ false
    → IsGrownTo b p owner q par mk base (equations b.signature) → IsGreedy g (λ i. get_or p i 0)
grown_greedy g b p owner q par mk base of loose to =
    let there : IsGreedy b.signature (λ i. get_or p i 0) = record {
      assigns = assigns_by (λ i. get_or p i 0) (uses_mentions b) (matching_assigns to.assigned.matching);
      most = λ n le other assigns. to.most.most n le other (assigns_by other (mentions_uses b loose) assigns);
    } in
    rw of at there
