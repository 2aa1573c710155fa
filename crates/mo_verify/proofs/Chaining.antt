-- Chains of reasons, found from the equations with an offset of 0 on.
use Rattle.std.proofs.Common.{◌≡◌, ◌≢◌, Option, Some, None, IfSome, IfNone, ℕ, zero, suc, ◌+◌, ◌-◌, ◌<◌, ◌≤◌, inl, inr, Bool, true, false, List, [], ◌∷◌, ◌++◌, length, get_or, set, refl, sym, ap, ◌∙◌, arith, length-append}
use Rattle.std.proofs.lemmas.Bool.{cases_lt, cases_eq}
use Rattle.std.proofs.lemmas.List.{get_or-set_same, get_or-set_other, length-set}
use Rattle.mo_incidence.specs.Signature.{Signature, equations, row_len, unknown_at, order_at}
use Rattle.mo_incidence.specs.Offsets.{IsTight, by_place, by_number}
use Rattle.mo_incidence.specs.steps.Needing.{AreOwners}
use Rattle.mo_incidence.specs.Reasons.{IsCandidate, LeadsTo, IsWithin}
use Rattle.mo_verify.specs.declared.verdict.Verdict.TheVariants.{NotLeast}
use Rattle.mo_verify.specs.Printed.{Printed}
use Rattle.mo_verify.specs.Faults.{AreApartTo, IsChained, AreChainedTo}
use Rattle.mo_verify.specs.Finding.{AreMarkedBy, IsMarkedTo, IsUnchained, Marks, nothing, already, one_more, unmarked}
use Rattle.mo_verify.proofs.Faulty.{AreTaken}

module _ (g : Signature) (p : Printed) where
  -- ---- owners
  pub free_there : (owner : List ℕ) (n : ℕ) → AreTaken g p owner n → AreApartTo p (equations g) → n < equations g → get_or owner (get_or p.pairs n 0) 0 ≡ 0
  free_there owner n t apart below = elim (cases_eq (get_or owner (get_or p.pairs n 0) 0) 0) [
    | inl free ↦ free
    | inr taken ↦ (let before = t.by (get_or p.pairs n 0) taken in absurd (apart before.0 n before.1 below before.3))
  ]

  pub owners_of : (owner : List ℕ) → AreTaken g p owner (equations g) → AreApartTo p (equations g) → AreOwners (equations g) (by_place p.pairs) owner
  owners_of owner t apart = record {
    owned = λ i below.
        let by = t.by (get_or p.pairs i 0) (t.taken i below) in
        let same : by.0 ≡ i = one by.0 i by.1 below by.3 in
        by.2 ∙ ap (λ (n : ℕ). n + 1) same ∙ (omega arith);
    owns = λ j x e.
        let by = t.by j (λ none. omega (arith, none, e)) in
        let same : by.0 ≡ x = omega (arith, by.2, e) in
        (rw same at by.1, rw same at by.3);
  }
    where
      one : (i k : ℕ) → i < equations g → k < equations g → get_or p.pairs i 0 ≡ get_or p.pairs k 0 → i ≡ k
      one i k below under same = elim (cases_lt i k) [
        | inl before ↦ absurd (apart i k before under same)
        | inr after ↦ elim (cases_lt k i) [
          | inl before ↦ absurd (apart k i before below (sym same))
          | inr after' ↦ omega arith
        ]
      ]

  -- ---- what an entry leads to
  module _ (owner : List ℕ) (owners : AreOwners (equations g) (by_place p.pairs) owner) (k n unknown order : ℕ) (u : unknown ≡ unknown_at g k n) (o : order ≡ order_at g k n) where
    pub leads : (holder : ℕ) → get_or owner unknown 0 ≡ holder → holder ≢ 0 → holder ≢ k + 1 → by_number p.d unknown ≡ get_or p.c k 0 + order
        → (holder - 1 < equations g) × LeadsTo g (by_place p.c) (by_number p.d) (by_place p.pairs) k n (holder - 1)
    leads holder h some other tight =
        let held : get_or owner unknown 0 ≡ suc (holder - 1) = h ∙ omega (arith, some) in
        let at = owners.owns unknown (holder - 1) held in (
          at.0,
          record {
            apart = λ same. omega (arith, same, other, some);
            unknown = sym u ∙ sym at.1;
            tight = ap (by_number p.d) at.1 ∙ tight ∙ ap (λ (x : ℕ). get_or p.c k 0 + x) o;
          },
        )

    pub leads_only : (holder : ℕ) → get_or owner unknown 0 ≡ holder → (x : ℕ) → x < equations g → LeadsTo g (by_place p.c) (by_number p.d) (by_place p.pairs) k n x → (holder ≡ suc x) × (x ≢ k) × (by_number p.d unknown ≡ get_or p.c k 0 + order)
    leads_only holder h x below l =
        let at : get_or p.pairs x 0 ≡ unknown = sym l.unknown ∙ sym u in
        let own : get_or owner (get_or p.pairs x 0) 0 ≡ suc x = owners.owned x below in
        (sym h ∙ ap (λ (j : ℕ). get_or owner j 0) (sym at) ∙ own, (λ same. l.apart (sym same)), ap (by_number p.d) (sym at) ∙ l.tight ∙ ap (λ (z : ℕ). get_or p.c k 0 + z) (sym o))

  -- ---- one mark more
  grown : (marks : List Bool) (place i : ℕ) → place < length marks → get_or marks i false ≡ true → get_or (set marks place true) i false ≡ true
  grown marks place i below h = elim (cases_eq i place) [
    | inl same ↦ rw same (get_or-set_same marks place true false below)
    | inr apart ↦ get_or-set_other marks place i true false apart ∙ h
  ]

  at_end : (queue : List ℕ) (place s : ℕ) → s < length queue → get_or (queue ++ place ∷ []) s 0 ≡ get_or queue s 0
  at_end [] place s below = absurd (omega arith)
  at_end (x ∷ queue) place zero below = refl
  at_end (x ∷ queue) place (suc s) below = at_end queue place s (omega arith)

  last_of : (queue : List ℕ) (place : ℕ) → get_or (queue ++ place ∷ []) (length queue) 0 ≡ place
  last_of [] place = refl
  last_of (x ∷ queue) place = last_of queue place

  pub mark_counted : (marks : List Bool) (place : ℕ) → place < length marks → get_or marks place false ≡ false → unmarked (set marks place true) + 1 ≡ unmarked marks
  mark_counted [] place below free = absurd (omega arith)
  mark_counted (false ∷ marks) zero below free = omega arith
  mark_counted (true ∷ marks) zero below free = let no : true ≡ false = free in cc
  mark_counted (true ∷ marks) (suc place) below free = mark_counted marks place (omega arith) free
  mark_counted (false ∷ marks) (suc place) below free = omega (arith, mark_counted marks place (omega arith) free)

  -- ---- the queue
  module _ (marks : List Bool) (queue : List ℕ) (head upto : ℕ) (m : IsMarkedTo g p marks queue head upto) where
    -- a new equation with a chain
    pub one_queued : (place : ℕ) → place < equations g → get_or marks place false ≡ false → IsChained g p place → IsMarkedTo g p (set marks place true) (queue ++ place ∷ []) head upto
    one_queued place below free chain =
        let inside : place < length marks = omega (arith, m.marks_all) in
        let size : length (queue ++ place ∷ []) ≡ length queue + 1 = length-append queue (place ∷ []) in
        record {
          marks_all = length-set marks place true ∙ m.marks_all;
          within = omega (arith, m.within, size);
          queued = λ s before. elim (cases_lt s (length queue)) [
            | inl old ↦ (
                let e = at_end queue place s old in
                rw e ((m.queued s old).0, grown marks place (get_or queue s 0) inside (m.queued s old).1))
            | inr new ↦ (
                let is : s ≡ length queue = omega (arith, size) in
                let e : get_or (queue ++ place ∷ []) s 0 ≡ place = rw is (last_of queue place) in
                rw e (below, get_or-set_same marks place true false inside))
          ];
          listed = λ i on. elim (cases_eq i place) [
            | inl same ↦ (length queue, omega (arith, size), last_of queue place ∙ sym same)
            | inr apart ↦ (
                let old = m.listed i (sym (get_or-set_other marks place i true false apart) ∙ on) in
                (old.0, omega (arith, old.1, size), at_end queue place old.0 old.1 ∙ old.2))
          ];
          chained = λ s before. elim (cases_lt s (length queue)) [
            | inl old ↦ (let e = at_end queue place s old in rw e (m.chained s old))
            | inr new ↦ (
                let is : s ≡ length queue = omega (arith, size) in
                let e : get_or (queue ++ place ∷ []) s 0 ≡ place = rw is (last_of queue place) in
                rw e chain)
          ];
          zeros = λ i before zero. grown marks place i inside (m.zeros i before zero);
          done = λ s before.
              let e = at_end queue place s (omega (arith, m.within)) in
              rw e (record { here = λ n i at known l. grown marks place i inside ((m.done s before).here n i at known l) });
        }

    -- the one at the head has marked all that it is a candidate for
    pub head_done : (k : ℕ) → head < length queue → get_or queue head 0 ≡ k → AreMarkedBy g p marks k (row_len g k) → IsMarkedTo g p marks queue (head + 1) upto
    head_done k below is here = record {
      marks_all = m.marks_all;
      within = omega arith;
      queued = m.queued;
      listed = m.listed;
      chained = m.chained;
      zeros = m.zeros;
      done = λ s before. elim (cases_lt s head) [
        | inl old ↦ m.done s old
        | inr new ↦ (let same : s ≡ head = omega arith in rw (same, is) here)
      ];
    }

    -- the equation for which the one at the head is a candidate has a chain
    pub chain_on : (k n i : ℕ) → head < length queue → get_or queue head 0 ≡ k → n < row_len g k → LeadsTo g (by_place p.c) (by_number p.d) (by_place p.pairs) k n i → IsChained g p i
    unfolding IsTight
    chain_on k n i below is within l =
        let chain = m.chained head below in
        let known : k < equations g = rw is at (m.queued head below).0 in
        let candidate : IsCandidate g (by_place p.c) (by_number p.d) (by_place p.pairs) i k = record { known = known; other = l.apart; tight = (n, within, l.unknown, l.tight) } in
        (suc chain.0, inr (k, candidate, rw is at chain.1))

    -- of the first equations one more is marked, if its offset is 0
    pub zeros_more : (get_or p.c upto 0 ≡ 0 → get_or marks upto false ≡ true) → IsMarkedTo g p marks queue head (upto + 1)
    zeros_more here = record {
      marks_all = m.marks_all;
      within = m.within;
      queued = m.queued;
      listed = m.listed;
      chained = m.chained;
      zeros = λ i before zero. elim (cases_lt i upto) [
        | inl old ↦ m.zeros i old zero
        | inr new ↦ (let same : i ≡ upto = omega arith in rw same (here (rw same at zero)))
      ];
      done = m.done;
    }

    pub marked_chain : (i : ℕ) → get_or marks i false ≡ true → IsChained g p i
    marked_chain i on = let found = m.listed i on in rw found.2 at (m.chained found.0 found.1)

  pub no_marks : (marks : List Bool) → length marks ≡ equations g → ((i : ℕ) → get_or marks i false ≡ false) → IsMarkedTo g p marks [] 0 0
  no_marks marks size clear = record {
    marks_all = size;
    within = omega arith;
    queued = λ s below. absurd (omega arith);
    listed = λ i on. absurd (off_on (get_or marks i false) (clear i) on);
    chained = λ s below. absurd (omega arith);
    zeros = λ i below zero. absurd (omega arith);
    done = λ s below. absurd (omega arith);
  }
    where
      off_on : (b : Bool) → b ≡ false → b ≡ true → ⊥
      off_on true e h = cc
      off_on false e h = cc

  pub zero_chain : (i : ℕ) → get_or p.c i 0 ≡ 0 → IsChained g p i
  zero_chain i nought = (0, nought)

  -- where all in the queue are done, what has a chain is marked
  module _ (marks : List Bool) (queue : List ℕ) (head : ℕ) (m : IsMarkedTo g p marks queue head (equations g)) (all : length queue ≤ head) where
    reached : (n i : ℕ) → i < equations g → IsWithin g (by_place p.c) (by_number p.d) (by_place p.pairs) n i → get_or marks i false ≡ true
    unfolding IsTight
    reached zero i below zero_here = m.zeros i below zero_here
    reached (suc n) i below (inl zero_here) = m.zeros i below zero_here
    reached (suc n) i below (inr (k, candidate, rest)) =
        let on = reached n k candidate.known rest in
        let found = m.listed k on in
        let e = candidate.tight in
        let by : AreMarkedBy g p marks k (row_len g k) = rw found.2 at (m.done found.0 (omega (arith, found.1, all))) in
        by.here e.0 i e.1 below (record { apart = candidate.other; unknown = e.2; tight = e.3 })

    pub unmarked_none : (i : ℕ) → i < equations g → get_or marks i false ≡ false → IsChained g p i → ⊥
    unmarked_none i below free chain = let on = reached chain.0 i below chain.1 in let no : true ≡ false = sym on ∙ free in cc

  -- ---- marks of a row
  pub none_here : (marks : List Bool) (k : ℕ) → AreMarkedBy g p marks k 0
  none_here marks k = record { here = λ e i below known l. absurd (omega arith) }

  pub more_here : (marks : List Bool) (k n : ℕ) → AreMarkedBy g p marks k n → ((i : ℕ) → i < equations g → LeadsTo g (by_place p.c) (by_number p.d) (by_place p.pairs) k n i → get_or marks i false ≡ true) → AreMarkedBy g p marks k (n + 1)
  more_here marks k n by here = record {
    here = λ e i below known l. elim (cases_lt e n) [
      | inl old ↦ by.here e i old known l
      | inr new ↦ (let same : e ≡ n = omega arith in here i known (rw same at l))
    ];
  }

  pub kept_here : (marks : List Bool) (place k n : ℕ) → place < length marks → AreMarkedBy g p marks k n → AreMarkedBy g p (set marks place true) k n
  kept_here marks place k n inside by = record { here = λ e i below known l. grown marks place i inside (by.here e i below known l) }

  -- ---- the first without a mark
  pub chained_none : AreChainedTo g p 0
  chained_none i below = absurd (omega arith)

  pub chained_more : (n : ℕ) → AreChainedTo g p n → IsChained g p n → AreChainedTo g p (n + 1)
  chained_more n chains here i below = elim (cases_lt i n) [
    | inl old ↦ chains i old
    | inr new ↦ (let same : i ≡ n = omega arith in rw same here)
  ]

  pub unchained_at : (n : ℕ) → n < equations g → AreChainedTo g p n → (IsChained g p n → ⊥) → IsUnchained g p (NotLeast (n + 1) (get_or p.c n 0) (get_or p.c n 0 - 1))
  unchained_at n below chains none = record {
    place = n;
    smaller = get_or p.c n 0 - 1;
    within = below;
    before = chains;
    none = none;
    offset = elim (cases_eq (get_or p.c n 0) 0) [ inl nought ↦ absurd (none (zero_chain n nought)) | inr some ↦ omega (arith, some) ];
    is = refl;
  }

  pub above_zero : (n : ℕ) → (IsChained g p n → ⊥) → 0 < get_or p.c n 0
  above_zero n none = elim (cases_eq (get_or p.c n 0) 0) [ inl nought ↦ absurd (none (zero_chain n nought)) | inr some ↦ omega (arith, some) ]

  -- ---- a row, entry by entry
  -- the one at the head is at its first n entries, and no number is lost
  pub record IsRowTo (marks : List Bool) (queue : List ℕ) (head k n total : ℕ) : Type 0 where
    pub marked : IsMarkedTo g p marks queue head (equations g)
    pub here : AreMarkedBy g p marks k n
    pub below : head < length queue
    pub is : get_or queue head 0 ≡ k
    pub count : unmarked marks + length queue ≡ total

  pub row_begins : (marks : List Bool) (queue : List ℕ) (head k : ℕ) → IsMarkedTo g p marks queue head (equations g) → head < length queue → get_or queue head 0 ≡ k
      → IsRowTo marks queue head k 0 (unmarked marks + length queue)
  row_begins marks queue head k m below is = record { marked = m; here = none_here marks k; below = below; is = is; count = refl }

  abbrev Led : ℕ → ℕ → ℕ → Type 0
  Led k n i = LeadsTo g (by_place p.c) (by_number p.d) (by_place p.pairs) k n i

  pub row_goes_on : (marks marks' : List Bool) (queue queue' : List ℕ) (head k n total : ℕ) (led : Option ℕ) → IsRowTo marks queue head k n total → n < row_len g k
      → IfSome led (λ i. (i < equations g) × Led k n i) → IfSome led (λ i. (x : ℕ) → x < equations g → Led k n x → x ≡ i) → IfNone led ((x : ℕ) → x < equations g → Led k n x → ⊥)
      → Marks marks queue led marks' queue' → IsRowTo marks' queue' head k (n + 1) total
  row_goes_on marks marks' queue queue' head k n total led r within some only none (nothing e a b) =
      let no : IfNone {T = ℕ} None ((x : ℕ) → x < equations g → Led k n x → ⊥) = rw e at none in
      rw (a, b) (record { marked = r.marked; here = more_here marks k n r.here (λ i below l. absurd (no i below l)); below = r.below; is = r.is; count = r.count })
  row_goes_on marks marks' queue queue' head k n total led r within some only none (already i e on a b) =
      let one : IfSome (Some i) (λ i. (x : ℕ) → x < equations g → Led k n x → x ≡ i) = rw e at only in
      rw (a, b) (record { marked = r.marked; here = more_here marks k n r.here (λ x below l. rw (one x below l) on); below = r.below; is = r.is; count = r.count })
  row_goes_on marks marks' queue queue' head k n total led r within some only none (one_more i e free a b) =
      let it : IfSome (Some i) (λ i. (i < equations g) × Led k n i) = rw e at some in
      let one : IfSome (Some i) (λ i. (x : ℕ) → x < equations g → Led k n x → x ≡ i) = rw e at only in
      let inside : i < length marks = omega (arith, it.0, r.marked.marks_all) in
      let chain = chain_on marks queue head (equations g) r.marked k n i r.below r.is within it.1 in
      let size : length (queue ++ i ∷ []) ≡ length queue + 1 = length-append queue (i ∷ []) in
      rw (a, b) (record {
        marked = one_queued marks queue head (equations g) r.marked i it.0 free chain;
        here = more_here (set marks i true) k n (kept_here marks i k n inside r.here) (λ x below l. rw (one x below l) (get_or-set_same marks i true false inside));
        below = omega (arith, r.below, size);
        is = at_end queue i head r.below ∙ r.is;
        count = omega (arith, mark_counted marks i inside free, size, r.count);
      })

  pub row_ends : (marks : List Bool) (queue : List ℕ) (head k n total : ℕ) → IsRowTo marks queue head k n total → row_len g k ≤ n → IsMarkedTo g p marks queue (head + 1) (equations g)
  row_ends marks queue head k n total r all = head_done marks queue head (equations g) r.marked k r.below r.is (record { here = λ e i below known l. r.here.here e i (omega arith) known l })

  -- ---- the start
  -- of the first n equations those with an offset of 0 are marked, and no other
  pub record IsStartedTo (marks : List Bool) (queue : List ℕ) (n : ℕ) : Type 0 where
    pub marked : IsMarkedTo g p marks queue 0 n
    pub clear : (i : ℕ) → n ≤ i → get_or marks i false ≡ false

  pub start_none : (marks : List Bool) → length marks ≡ equations g → ((i : ℕ) → get_or marks i false ≡ false) → IsStartedTo marks [] 0
  start_none marks size clear = record { marked = no_marks marks size clear; clear = λ i h. clear i }

  pub start_skips : (marks : List Bool) (queue : List ℕ) (n : ℕ) → IsStartedTo marks queue n → get_or p.c n 0 ≢ 0 → IsStartedTo marks queue (n + 1)
  start_skips marks queue n s some = record {
    marked = zeros_more marks queue 0 n s.marked (λ nought. absurd (some nought));
    clear = λ i h. s.clear i (omega arith);
  }

  pub start_takes : (marks : List Bool) (queue : List ℕ) (n : ℕ) → IsStartedTo marks queue n → n < equations g → get_or p.c n 0 ≡ 0 → IsStartedTo (set marks n true) (queue ++ n ∷ []) (n + 1)
  start_takes marks queue n s below nought =
      let inside : n < length marks = omega (arith, below, s.marked.marks_all) in
      record {
        marked = zeros_more (set marks n true) (queue ++ n ∷ []) 0 n (one_queued marks queue 0 n s.marked n below (s.clear n (omega arith)) (zero_chain n nought)) (λ h. get_or-set_same marks n true false inside);
        clear = λ i h. (let apart : i ≢ n = λ same. omega (arith, h, same) in get_or-set_other marks n i true false apart ∙ s.clear i (omega arith));
      }
