-- Handing unknowns on along the search's tree.
use Rattle.std.proofs.Common.{◌≡◌, ◌≢◌, ℕ, suc, ◌+◌, ◌<◌, ◌≤◌, ◌⊎◌, inl, inr, List, length, get_or, set, refl, sym, ap, ◌∙◌, arith, length-set, get_or-set_other, get_or-set_same}
use Rattle.std.proofs.lemmas.Bool.Decides.{eqb_tells}
use Rattle.mo_match.specs.Searching.{IsMatching, IsTree, IsHandedTo}

-- the equation in the queue at `place` is to have `unknown` next, which no equation has; for all others the lists match
pub record IsMoving (E : ℕ → ℕ → Type 0) (m n : ℕ) (pairs owner queue : List ℕ) (place unknown : ℕ) : Type 0 where
  pub equations_all : length pairs ≡ m
  pub unknowns_all : length owner ≡ suc n
  pub positive : 0 < unknown
  pub known : unknown ≤ n
  pub wanted : E (get_or queue place 0) unknown
  pub unheld : (i : ℕ) → i < m → get_or pairs i 0 ≢ unknown
  pub edge : (i : ℕ) → i < m → get_or pairs i 0 ≢ 0 → E i (get_or pairs i 0)
  pub owned : (i : ℕ) → i < m → get_or pairs i 0 ≢ 0 → (get_or pairs i 0 ≤ n) × (get_or owner (get_or pairs i 0) 0 ≡ suc i)
  pub owns : (i j : ℕ) → 0 < j → j ≤ n → j ≢ unknown → get_or owner j 0 ≡ suc i → (i < m) × (get_or pairs i 0 ≡ j)

pub moving_start : {E : ℕ → ℕ → Type 0} {m n : ℕ} {p owner : List ℕ} (queue : List ℕ) (place unknown : ℕ) → IsMatching E m n p owner
    → 0 < unknown → unknown ≤ n → get_or owner unknown 0 ≡ 0 → E (get_or queue place 0) unknown → IsMoving E m n p owner queue place unknown
moving_start {p = p} {owner = owner} queue place unknown match positive known unowned wanted = record {
  equations_all = match.equations_all;
  unknowns_all = match.unknowns_all;
  positive = positive;
  known = known;
  wanted = wanted;
  unheld = λ i l e.
      let some : get_or p i 0 ≢ 0 = omega arith in
      let held : get_or owner unknown 0 ≡ suc i = rw e at (match.owned i l some).1 in
      absurd (omega arith);
  edge = match.edge;
  owned = match.owned;
  owns = λ i j above below ne. match.owns i j above below;
}

module _ (E : ℕ → ℕ → Type 0) (m n : ℕ) (p owner queue : List ℕ) (place u : ℕ) (moving : IsMoving E m n p owner queue place u) (i : ℕ) (i_is : get_or queue place 0 ≡ i) (im : i < m) where
  p_here : get_or (set p i u) i 0 ≡ u
  p_here = let l : i < length p = omega (arith, moving.equations_all) in get_or-set_same p i u 0 l

  pub p_there : (x : ℕ) → x ≢ i → get_or (set p i u) x 0 ≡ get_or p x 0
  p_there x ne = get_or-set_other p i x u 0 ne

  o_here : get_or (set owner u (i + 1)) u 0 ≡ suc i
  o_here =
      let l : u < length owner = omega (arith, moving.unknowns_all, moving.known) in
      get_or-set_same owner u (i + 1) 0 l ∙ omega arith

  o_there : (j : ℕ) → j ≢ u → get_or (set owner u (i + 1)) j 0 ≡ get_or owner j 0
  o_there j ne = get_or-set_other owner u j (i + 1) 0 ne

  pub kept_step : (x : ℕ) → get_or p x 0 ≢ 0 → get_or (set p i u) x 0 ≢ 0
  kept_step x some = elim (eqb_tells x i) [
    | inl e ↦ rw (e.1, p_here) (omega (arith, moving.positive))
    | inr e ↦ rw (p_there x e.1) some
  ]

  pub here_step : get_or (set p i u) i 0 ≢ 0
  here_step = rw p_here (omega (arith, moving.positive))

  edge_step : (x : ℕ) → x < m → get_or (set p i u) x 0 ≢ 0 → E x (get_or (set p i u) x 0)
  edge_step x l = elim (eqb_tells x i) [
    | inl e ↦ rw (e.1, p_here) (λ _. rw i_is at moving.wanted)
    | inr e ↦ rw (p_there x e.1) (moving.edge x l)
  ]

  owned_step : (x : ℕ) → x < m → get_or (set p i u) x 0 ≢ 0 → (get_or (set p i u) x 0 ≤ n) × (get_or (set owner u (i + 1)) (get_or (set p i u) x 0) 0 ≡ suc x)
  owned_step x l = elim (eqb_tells x i) [
    | inl e ↦ rw (e.1, p_here) (λ _. (moving.known, o_here))
    | inr e ↦ rw (p_there x e.1) (λ some.
        let there = moving.owned x l some in
        (there.0, o_there (get_or p x 0) (moving.unheld x l) ∙ there.1))
  ]

  pub moving_end : get_or p i 0 ≡ 0 → IsMatching E m n (set p i u) (set owner u (i + 1))
  moving_end none = record {
    equations_all = length-set p i u ∙ moving.equations_all;
    unknowns_all = length-set owner u (i + 1) ∙ moving.unknowns_all;
    edge = edge_step;
    owned = owned_step;
    owns = λ x j above below. elim (eqb_tells j u) [
      | inl e ↦ rw (e.1, o_here) (λ is. let same : x ≡ i = omega arith in rw (same, p_here) (im, refl))
      | inr e ↦ rw (o_there j e.1) (λ is.
          let there = moving.owns x j above below e.1 is in
          let ne : x ≢ i = λ same. let zero_here : get_or p x 0 ≡ 0 = rw same none in omega (arith, there.1) in
          (there.0, p_there x ne ∙ there.1))
    ];
  }

  pub moving_next : (next old : ℕ) → get_or p i 0 ≡ old → old ≢ 0 → E (get_or queue next 0) old → IsMoving E m n (set p i u) (set owner u (i + 1)) queue next old
  moving_next next old old_is some wanted =
      let held = moving.owned i im (rw old_is some) in
      let held_known : old ≤ n = rw old_is at held.0 in
      let held_owner : get_or owner old 0 ≡ suc i = rw old_is at held.1 in
      record {
        equations_all = length-set p i u ∙ moving.equations_all;
        unknowns_all = length-set owner u (i + 1) ∙ moving.unknowns_all;
        positive = omega arith;
        known = held_known;
        wanted = wanted;
        unheld = λ x l. elim (eqb_tells x i) [
          | inl e ↦ rw (e.1, p_here) (λ same. moving.unheld i im (old_is ∙ sym same))
          | inr e ↦ rw (p_there x e.1) (λ same.
              let back = moving.owned x l (rw same some) in
              let there : get_or owner old 0 ≡ suc x = rw same at back.1 in
              e.1 (omega arith))
        ];
        edge = edge_step;
        owned = owned_step;
        owns = λ x j above below ne. elim (eqb_tells j u) [
          | inl e ↦ rw (e.1, o_here) (λ is. let same : x ≡ i = omega arith in rw (same, p_here) (im, refl))
          | inr e ↦ rw (o_there j e.1) (λ is.
              let there = moving.owns x j above below e.1 is in
              let ne' : x ≢ i = λ same. let here : get_or p x 0 ≡ old = rw same old_is in ne (sym there.1 ∙ here) in
              (there.0, p_there x ne' ∙ there.1))
        ];
      }

-- where the unknown that is handed on comes from: it is the free one, or that of the equation from which the walk came
abbrev pub Comes : (p0 queue parent : List ℕ) → (tail place0 free place unknown : ℕ) → Type 0
Comes p0 queue parent tail place0 free place unknown = ((place0 ≡ place) × (unknown ≡ free))
    ⊎ ((t : ℕ) × (place < t) × (t < tail) × (get_or parent t 0 ≡ place) × (unknown ≡ get_or p0 (get_or queue t 0) 0))

-- where the walk back along the tree stands: it started from the pairs p0
pub record IsWalkingBack (E : ℕ → ℕ → Type 0) (m n : ℕ) (p0 p owner queue : List ℕ) (base tail place unknown : ℕ) : Type 0 where
  pub moving : IsMoving E m n p owner queue place unknown
  pub within : (base ≤ place) × (place < tail)
  pub before : (s : ℕ) → s ≤ place → get_or p (get_or queue s 0) 0 ≡ get_or p0 (get_or queue s 0) 0
  pub kept : (x : ℕ) → get_or p0 x 0 ≢ 0 → get_or p x 0 ≢ 0

module _ (E : ℕ → ℕ → Type 0) (m n : ℕ) (p0 p owner queue parent mark : List ℕ) (base tail place u : ℕ)
    (tree : IsTree E m p0 queue parent mark base tail) (bare : get_or p0 (get_or queue base 0) 0 ≡ 0)
    (walk : IsWalkingBack E m n p0 p owner queue base tail place u) where
  walk_in : get_or queue place 0 < m
  walk_in = tree.in_range place walk.within.1

  walk_here : get_or p (get_or queue place 0) 0 ≡ get_or p0 (get_or queue place 0) 0
  walk_here = walk.before place (omega arith)

  pub walk_before : (s : ℕ) → s < place → get_or (set p (get_or queue place 0) u) (get_or queue s 0) 0 ≡ get_or p0 (get_or queue s 0) 0
  walk_before s l =
      let ne : get_or queue s 0 ≢ get_or queue place 0 = λ e. let same : s ≡ place = tree.apart s place (omega (arith, walk.within)) walk.within.1 e in omega arith in
      p_there E m n p owner queue place u walk.moving (get_or queue place 0) refl walk_in (get_or queue s 0) ne ∙ walk.before s (omega arith)

  pub walk_kept : (x : ℕ) → get_or p0 x 0 ≢ 0 → get_or (set p (get_or queue place 0) u) x 0 ≢ 0
  walk_kept x some = kept_step E m n p owner queue place u walk.moving (get_or queue place 0) refl walk_in x (walk.kept x some)

  pub walk_matching : get_or p (get_or queue place 0) 0 ≡ 0 → IsMatching E m n (set p (get_or queue place 0) u) (set owner u (get_or queue place 0 + 1))
  walk_matching none = moving_end E m n p owner queue place u walk.moving (get_or queue place 0) refl walk_in none

  pub walk_root : get_or p (get_or queue place 0) 0 ≡ 0 → get_or (set p (get_or queue place 0) u) (get_or queue base 0) 0 ≢ 0
  walk_root none = elim (eqb_tells base place) [
    | inl e ↦ rw e.1 (here_step E m n p owner queue place u walk.moving (get_or queue place 0) refl walk_in)
    | inr e ↦
        let past : base < place = omega (arith, e.1, walk.within) in
        absurd ((tree.rooted place past walk.within.1).0 (sym walk_here ∙ none))
  ]

  walk_ends : get_or p (get_or queue place 0) 0 ≡ 0 → place ≡ base
  walk_ends none = elim (eqb_tells base place) [
    | inl e ↦ sym e.1
    | inr e ↦
        let past : base < place = omega (arith, e.1, walk.within) in
        absurd ((tree.rooted place past walk.within.1).0 (sym walk_here ∙ none))
  ]

  pub walk_handed : (place0 free : ℕ) → get_or p (get_or queue place 0) 0 ≡ 0 → Comes p0 queue parent tail place0 free place u
      → IsHandedTo p0 queue parent base tail place0 free (get_or (set p (get_or queue place 0) u) (get_or queue base 0) 0)
  walk_handed place0 free none comes =
      let at = walk_ends none in
      let given : get_or (set p (get_or queue place 0) u) (get_or queue base 0) 0 ≡ u =
      rw (← at) (p_here E m n p owner queue place u walk.moving (get_or queue place 0) refl walk_in) in
      elim comes [
        | inl e ↦ inl (e.0 ∙ at, given ∙ e.1)
        | inr e ↦ inr (e.0, rw at at e.1, e.2, e.3 ∙ at, given ∙ e.4)
      ]

  pub walk_bare_end : get_or p (get_or queue place 0) 0 ≡ 0 → ((x : ℕ) → x ≢ get_or queue base 0 → get_or p0 x 0 ≡ 0 → get_or p x 0 ≡ 0)
      → (x : ℕ) → x ≢ get_or queue base 0 → get_or p0 x 0 ≡ 0 → get_or (set p (get_or queue place 0) u) x 0 ≡ 0
  walk_bare_end none bares x ne zero =
      let other : x ≢ get_or queue place 0 = λ e. ne (e ∙ ap (λ (z : ℕ). get_or queue z 0) (walk_ends none)) in
      p_there E m n p owner queue place u walk.moving (get_or queue place 0) refl walk_in x other ∙ bares x ne zero

  pub walk_dead : (s : ℕ) → s < base → get_or (set p (get_or queue place 0) u) (get_or queue s 0) 0 ≡ get_or p0 (get_or queue s 0) 0
  walk_dead s l = walk_before s (omega (arith, walk.within))

  module _ (old : ℕ) (old_is : get_or p (get_or queue place 0) 0 ≡ old) (some : old ≢ 0) where
    walk_past : base < place
    walk_past = elim (eqb_tells base place) [
      | inl e ↦ absurd (some (sym old_is ∙ walk_here ∙ rw (← e.1) bare))
      | inr e ↦ omega (arith, e.1, walk.within)
    ]

    walk_link : (get_or parent place 0 < place) × E (get_or queue (get_or parent place 0) 0) old
    walk_link =
        let there = tree.linked place walk.within.1 (rw (← walk_here, old_is) some) in
        (there.0, rw (← walk_here, old_is) at there.1)

    pub walk_less : get_or parent place 0 < place
    walk_less = walk_link.0

    pub walk_next : IsWalkingBack E m n p0 (set p (get_or queue place 0) u) (set owner u (get_or queue place 0 + 1)) queue base tail (get_or parent place 0) old
    walk_next = record {
      moving = moving_next E m n p owner queue place u walk.moving (get_or queue place 0) refl walk_in (get_or parent place 0) old old_is some walk_link.1;
      within = ((tree.rooted place walk_past walk.within.1).1, omega (arith, walk_link.0, walk.within));
      before = λ s l. walk_before s (omega (arith, walk_link.0));
      kept = walk_kept;
    }

    pub walk_comes : (place0 free : ℕ) → Comes p0 queue parent tail place0 free (get_or parent place 0) old
    walk_comes place0 free = inr (place, walk_link.0, walk.within.1, refl, sym old_is ∙ walk_here)

    pub walk_bare : ((x : ℕ) → x ≢ get_or queue base 0 → get_or p0 x 0 ≡ 0 → get_or p x 0 ≡ 0)
        → (x : ℕ) → x ≢ get_or queue base 0 → get_or p0 x 0 ≡ 0 → get_or (set p (get_or queue place 0) u) x 0 ≡ 0
    walk_bare bares x ne zero =
        let other : x ≢ get_or queue place 0 = λ e. some (sym old_is ∙ walk_here ∙ rw (← e) zero) in
        p_there E m n p owner queue place u walk.moving (get_or queue place 0) refl walk_in x other ∙ bares x ne zero
