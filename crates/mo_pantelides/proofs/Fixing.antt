-- One equation more is fixed.
use Rattle.std.proofs.Common.{◌≡◌, ◌≢◌, ℕ, suc, ◌+◌, ◌-◌, ◌*◌, ◌<◌, ◌≤◌, ◌==◌, ◌⊎◌, inl, inr, if◌then◌else◌, List, length, get_or, set, refl, sym, ◌∙◌, arith, length-set, get_or-set_other, get_or-set_same}
use Rattle.std.proofs.lemmas.Bool.Decides.{eqb_tells}
use Rattle.mo_incidence.specs.Signature.{Signature, equations, IsSound}
use Rattle.mo_incidence.specs.Assignment.{Assigns, CoversAll}
use Rattle.mo_incidence.specs.Offsets.{IsTight, by_place, by_number}
use Rattle.mo_incidence.specs.Transversal.{IsLeastSequence}
use Rattle.mo_incidence.proofs.Owning.{tight_known}
use Rattle.mo_match.specs.Searching.{Uses, tight_of, IsMatching, IsTree, IsFree}
use Rattle.mo_match.proofs.Covering.{matching_apart}
use Rattle.mo_pantelides.specs.steps.Fixing.{AreOpen, IsRival, IsFixedTo}
use Rattle.mo_pantelides.proofs.Tight.{used_entry, entry_used, uses_tight, tight_uses}

-- ---- an equation without its unknown

module _ (E : ℕ → ℕ → Type 0) (m n : ℕ) (p owner : List ℕ) (match : IsMatching E m n p owner) (r : ℕ) (rm : r < m) (j : ℕ) (j_is : get_or p r 0 ≡ j) (some : j ≢ 0) where
  p_here : get_or (set p r 0) r 0 ≡ 0
  p_here = let l : r < length p = omega (arith, match.equations_all) in get_or-set_same p r 0 0 l

  pub p_other : (x : ℕ) → x ≢ r → get_or (set p r 0) x 0 ≡ get_or p x 0
  p_other x ne = get_or-set_other p r x 0 0 ne

  j_known : (j ≤ n) × (get_or owner j 0 ≡ suc r)
  j_known = let there = match.owned r rm (rw j_is some) in (rw j_is at there.0, rw j_is at there.1)

  o_here : get_or (set owner j 0) j 0 ≡ 0
  o_here = let l : j < length owner = omega (arith, match.unknowns_all, j_known.0) in get_or-set_same owner j 0 0 l

  o_other : (k : ℕ) → k ≢ j → get_or (set owner j 0) k 0 ≡ get_or owner k 0
  o_other k ne = get_or-set_other owner j k 0 0 ne

  kept_other : (x : ℕ) → x < m → get_or (set p r 0) x 0 ≢ 0 → (x ≢ r) × (get_or p x 0 ≢ 0) × (get_or p x 0 ≢ j)
  kept_other x xm has = elim (eqb_tells x r) [
    | inl e ↦ absurd (has (rw e.1 p_here))
    | inr e ↦
        let was : get_or p x 0 ≢ 0 = rw (p_other x e.1) at has in
        (e.1, was, λ same. e.1 (matching_apart match x r xm rm was (same ∙ sym j_is)))
  ]

  pub released : IsMatching E m n (set p r 0) (set owner j 0)
  released = record {
    equations_all = length-set p r 0 ∙ match.equations_all;
    unknowns_all = length-set owner j 0 ∙ match.unknowns_all;
    edge = λ x xm has. let there = kept_other x xm has in rw (p_other x there.0) (match.edge x xm there.1);
    owned = λ x xm has.
        let there = kept_other x xm has in
        let was = match.owned x xm there.1 in
        rw (p_other x there.0) (was.0, o_other (get_or p x 0) there.2 ∙ was.1);
    owns = λ x k above below. elim (eqb_tells k j) [
      | inl e ↦ rw (e.1, o_here) (λ bad. absurd (omega arith))
      | inr e ↦ rw (o_other k e.1) (λ is.
          let there = match.owns x k above below is in
          let ne : x ≢ r = λ same. e.1 (sym there.1 ∙ rw same j_is) in
          (there.0, p_other x ne ∙ there.1))
    ];
  }

  pub released_bare : get_or (set p r 0) r 0 ≡ 0
  released_bare = p_here

  pub released_free : get_or (set owner j 0) j 0 ≡ 0
  released_free = o_here

-- ---- an unknown that is taken

pub uses_left : (g : Signature) (c left : List ℕ) (v : ℕ) → 0 < v → (x j : ℕ) → 0 < j → j ≢ v → Uses (tight_of g c left) x j → Uses (tight_of g c (set left (v - 1) 4294967295)) x j
uses_left g c left v above x j some ne used =
    let entry = used_entry g c left x j used in
    let other : j - 1 ≢ v - 1 = omega (arith, ne) in
    entry_used g c (set left (v - 1) 4294967295) x j entry.0 entry.1 entry.2 (get_or-set_other left (v - 1) (j - 1) 4294967295 0 other ∙ entry.3)

module _ (g : Signature) (c left p owner : List ℕ) (match : IsMatching (Uses (tight_of g c left)) (equations g) g.unknowns p owner) (sound : IsSound g) (v : ℕ) (above : 0 < v)
    (free : get_or owner v 0 ≡ 0) where
  pub matching_taken : IsMatching (Uses (tight_of g c (set left (v - 1) 4294967295))) (equations g) g.unknowns p owner
  matching_taken = record {
    equations_all = match.equations_all;
    unknowns_all = match.unknowns_all;
    edge = λ x xm has.
        let was = match.edge x xm has in
        let entry = used_entry g c left x (get_or p x 0) was in
        let known = rw entry.2 at (sound.known x entry.0 xm entry.1) in
        let ne : get_or p x 0 ≢ v = λ e. let held = (match.owned x xm has).1 in (let bad : get_or owner v 0 ≡ suc x = rw e at held in omega (arith, free, bad)) in
        uses_left g c left v above x (get_or p x 0) known.0 ne was;
    owned = match.owned;
    owns = match.owns;
  }

pub tree_as : {E F : ℕ → ℕ → Type 0} {m : ℕ} {p p' q par mk : List ℕ} → IsTree E m p q par mk 0 0 → IsTree F m p' q par mk 0 0
tree_as tree = record {
  queue_all = tree.queue_all;
  parent_all = tree.parent_all;
  mark_all = tree.mark_all;
  room = tree.room;
  in_range = λ t l. absurd (omega arith);
  apart = λ s t l. absurd (omega arith);
  marked = λ t l. absurd (omega arith);
  listed = λ x xm some. let there = tree.listed x xm some in absurd (omega (arith, there.1));
  linked = λ t l. absurd (omega arith);
  rooted = λ t above below. absurd (omega arith);
}

-- ---- assignments that agree with what is fixed

-- y where x is 0, else 0
abbrev pub while_none : ℕ → ℕ → ℕ
while_none x y = if x == 0 then y else 0

pub while_none_holds : (x y : ℕ) → x ≡ 0 → while_none x y ≡ y
while_none_holds x y e = rw e refl

pub while_some : (x y : ℕ) → x ≢ 0 → while_none x y ≡ 0
while_some x y ne = elim (eqb_tells x 0) [ inl e ↦ absurd (ne e.1) | inr e ↦ rw e.0 refl ]

module _ (g : Signature) (c d left p owner t : List ℕ) (r bare : ℕ) (sound : IsSound g) (open_all : AreOpen g c) (to : IsFixedTo g c d left p owner t r bare) where
  -- a tight entry at an unknown that is not taken
  open_left : (x j : ℕ) → x < equations g → IsTight g (by_place c) (by_number d) x j → ((y : ℕ) → y < equations g → get_or t y 0 ≢ j) → Uses (tight_of g c left) x j
  open_left x j xm tight ne =
      let known = tight_known g (by_place c) (by_number d) x j sound xm tight in
      let entry = used_entry g c d x j (tight_uses g c d x j tight) in
      entry_used g c left x j entry.0 entry.1 entry.2 (to.others j known.0 known.1 ne ∙ entry.3)

  pub not_taken : (x j : ℕ) → x < equations g → Uses (tight_of g c left) x j → (y : ℕ) → y < equations g → get_or t y 0 ≢ j
  not_taken x j xm used y ym e =
      let entry = used_entry g c left x j used in
      let known = rw entry.2 at (sound.known x entry.0 xm entry.1) in
      let low = open_all.entry x entry.0 xm entry.1 in
      let some : get_or t y 0 ≢ 0 = omega (arith, e, known.0) in
      let high : get_or left (j - 1) 0 ≡ 4294967295 = rw e at (to.closed y ym some) in
      omega (arith, low, high, entry.3)

  pub left_tight : (x j : ℕ) → x < equations g → Uses (tight_of g c left) x j → (0 < j) × (j ≤ g.unknowns) × IsTight g (by_place c) (by_number d) x j
  left_tight x j xm used =
      let entry = used_entry g c left x j used in
      let known = rw entry.2 at (sound.known x entry.0 xm entry.1) in
      let same = to.others j known.0 known.1 (not_taken x j xm used) in
      (known.0, known.1, uses_tight g c d x j (entry_used g c d x j entry.0 entry.1 entry.2 (sym same ∙ entry.3)))

  module _ (q : ℕ → ℕ) (rival : IsRival g c d t r q) where
    pub rival_open : (x : ℕ) → x < equations g → get_or t x 0 ≡ 0 → Uses (tight_of g c left) x (q x)
    rival_open x xm none =
        open_left x (q x) xm (rival.assigns.allowed x xm (rival.covers x xm)) (λ y ym e. elim (eqb_tells (get_or t y 0) 0) [
          | inl z ↦ absurd (rival.covers x xm (sym e ∙ z.1))
          | inr z ↦
              let is : y ≡ x = rival.assigns.apart y x ym xm (rival.covers y ym) (to.forced y ym z.1 q rival ∙ e) in
              absurd (z.1 (rw is none))
        ])

    pub rival_part : Assigns (Uses (tight_of g c left)) (equations g) (λ x. while_none (get_or t x 0) (q x))
    rival_part = record {
      allowed = λ x xm. elim (eqb_tells (get_or t x 0) 0) [
        | inl e ↦ rw (while_none_holds (get_or t x 0) (q x) e.1) (λ _. rival_open x xm e.1)
        | inr e ↦ rw (while_some (get_or t x 0) (q x) e.1) (λ bad. absurd (bad refl))
      ];
      apart = λ x y xm ym. elim (eqb_tells (get_or t x 0) 0) [
        | inr e ↦ rw (while_some (get_or t x 0) (q x) e.1) (λ bad. absurd (bad refl))
        | inl e ↦ rw (while_none_holds (get_or t x 0) (q x) e.1) (elim (eqb_tells (get_or t y 0) 0) [
          | inr e' ↦ rw (while_some (get_or t y 0) (q y) e'.1) (λ some same. absurd (some same))
          | inl e' ↦ rw (while_none_holds (get_or t y 0) (q y) e'.1) (rival.assigns.apart x y xm ym)
        ])
      ];
    }

    pub rival_given : (x : ℕ) → x < equations g → get_or t x 0 ≡ 0 → while_none (get_or t x 0) (q x) ≢ 0
    rival_given x xm none = rw (while_none_holds (get_or t x 0) (q x) none) (rival.covers x xm)

    pub rival_covers : (x : ℕ) → x < equations g → get_or p x 0 ≢ 0 → while_none (get_or t x 0) (q x) ≢ 0
    rival_covers x xm some = elim (eqb_tells (get_or t x 0) 0) [
      | inl e ↦ rival_given x xm e.1
      | inr e ↦ absurd (some (to.done x xm e.1))
    ]

  -- ---- one equation more

  module _ (x : ℕ) (xm : x < equations g) (none : get_or t x 0 ≡ 0) (j : ℕ) (j_is : get_or p x 0 ≡ j) (some : j ≢ 0) (r' : ℕ) (le : r ≤ r')
      (upto : (y : ℕ) → y < r' → (y < r) ⊎ (y ≡ x))
      (mine : (q : ℕ → ℕ) → IsRival g c d (set t x j) r' q → q x ≡ j)
      (minimum : (q : ℕ → ℕ) → x < r' → IsRival g c d (set t x j) x q → j ≤ q x) where
    t_here : get_or (set t x j) x 0 ≡ j
    t_here = let l : x < length t = omega (arith, to.fixed_all) in get_or-set_same t x j 0 l

    t_other : (y : ℕ) → y ≢ x → get_or (set t x j) y 0 ≡ get_or t y 0
    t_other y ne = get_or-set_other t x y j 0 ne

    p_off : (y : ℕ) → y ≢ x → get_or (set p x 0) y 0 ≡ get_or p y 0
    p_off y ne = get_or-set_other p x y 0 0 ne

    before_other : (y : ℕ) → y < r → y ≢ x
    before_other y l e = to.before y l (rw e none)

    used_here : Uses (tight_of g c left) x j
    used_here = rw j_is at (to.matching.edge x xm (rw j_is some))

    given : (0 < j) × (j ≤ g.unknowns) × IsTight g (by_place c) (by_number d) x j
    given = left_tight x j xm used_here

    fresh : (y : ℕ) → y < equations g → get_or t y 0 ≢ j
    fresh = not_taken x j xm used_here

    rival_back : (s : ℕ) → s ≤ r → (s' : ℕ) → s ≤ s' → (q : ℕ → ℕ) → IsRival g c d (set t x j) s' q → IsRival g c d t s q
    rival_back s sr s' ss q rival = record {
      assigns = rival.assigns;
      covers = rival.covers;
      same = λ y l. rival.same y (omega arith) ∙ t_other y (before_other y (omega arith));
    }

    pub fixed_more : IsFixedTo g c d (set left (j - 1) 4294967295) (set p x 0) (set owner j 0) (set t x j) r' bare
    fixed_more =
        let m3 = released (Uses (tight_of g c left)) (equations g) g.unknowns p owner to.matching x xm j j_is some in
        let free3 = released_free (Uses (tight_of g c left)) (equations g) g.unknowns p owner to.matching x xm j j_is some in
        let bare3 = released_bare (Uses (tight_of g c left)) (equations g) g.unknowns p owner to.matching x xm j j_is some in
        record {
          left_all = length-set left (j - 1) 4294967295 ∙ to.left_all;
          fixed_all = length-set t x j ∙ to.fixed_all;
          matching = matching_taken g c left (set p x 0) (set owner j 0) m3 sound j given.0 free3;
          rest = λ y ym out. elim (eqb_tells y x) [
            | inl e ↦ rw (e.1, t_here) (λ bad. absurd (some bad))
            | inr e ↦ rw (t_other y e.1, p_off y e.1) (to.rest y ym out)
          ];
          done = λ y ym. elim (eqb_tells y x) [
            | inl e ↦ rw e.1 (λ _. bare3)
            | inr e ↦ rw (t_other y e.1, p_off y e.1) (to.done y ym)
          ];
          before = λ y l. elim (upto y l) [
            | inl h ↦ rw (t_other y (before_other y h)) (to.before y h)
            | inr e ↦ rw (e, t_here) some
          ];
          closed = λ y ym. elim (eqb_tells y x) [
            | inl e ↦ rw (e.1, t_here) (λ _. let inside : j - 1 < length left = omega (arith, given, to.left_all) in get_or-set_same left (j - 1) 4294967295 0 inside)
            | inr e ↦ rw (t_other y e.1) (λ has.
                let ne : get_or t y 0 - 1 ≢ j - 1 = λ same. fresh y ym (omega (arith, same, has, given.0)) in
                rw (get_or-set_other left (j - 1) (get_or t y 0 - 1) 4294967295 0 ne) (to.closed y ym has))
          ];
          others = λ k above below ne.
              let last : j ≢ k = λ e. ne x xm (t_here ∙ e) in
              let apart : k - 1 ≢ j - 1 = omega (arith, given.0, last) in
              get_or-set_other left (j - 1) (k - 1) 4294967295 0 apart ∙ to.others k above below (λ y ym e. elim (eqb_tells y x) [
                | inl z ↦ (let bad : 0 ≡ k = sym none ∙ rw z.1 at e in absurd (omega arith))
                | inr z ↦ absurd (ne y ym (t_other y z.1 ∙ e))
              ]);
          assigns = record {
            allowed = λ y ym. elim (eqb_tells y x) [
              | inl e ↦ rw (e.1, t_here) (λ _. given.2)
              | inr e ↦ rw (t_other y e.1) (to.assigns.allowed y ym)
            ];
            apart = λ y z ym zm. elim (eqb_tells y x) [
              | inl e ↦ elim (eqb_tells z x) [
                | inl e' ↦ λ _ _. e.1 ∙ sym e'.1
                | inr e' ↦ rw (e.1, t_here, t_other z e'.1) (λ _ same. absurd (fresh z zm (sym same)))
              ]
              | inr e ↦ elim (eqb_tells z x) [
                | inl e' ↦ rw (e'.1, t_here, t_other y e.1) (λ _ same. absurd (fresh y ym same))
                | inr e' ↦ rw (t_other y e.1, t_other z e'.1) (to.assigns.apart y z ym zm)
              ]
            ];
          };
          forced = λ y ym. elim (eqb_tells y x) [
            | inl e ↦ rw (e.1, t_here) (λ _ q rival. mine q rival)
            | inr e ↦ rw (t_other y e.1) (λ has q rival. to.forced y ym has q (rival_back r (omega arith) r' le q rival))
          ];
          least = λ y l q rival. elim (upto y l) [
            | inl h ↦ rw (t_other y (before_other y h)) (to.least y h q (rival_back y (omega arith) y (omega arith) q rival))
            | inr e ↦
                let at = rw e at rival in
                let l' : x < r' = rw e at l in
                rw (e, t_here) (minimum q l' at)
          ];
        }

  -- the pairs of equations that are not fixed may change
  pub fixed_as : (p' owner' : List ℕ) (bare' : ℕ) → IsMatching (Uses (tight_of g c left)) (equations g) g.unknowns p' owner'
      → ((x : ℕ) → x < equations g → x ≢ bare' → get_or t x 0 ≡ 0 → get_or p' x 0 ≢ 0)
      → ((x : ℕ) → x < equations g → get_or t x 0 ≢ 0 → get_or p' x 0 ≡ 0) → IsFixedTo g c d left p' owner' t r bare'
  fixed_as p' owner' bare' match rest done = record {
    left_all = to.left_all;
    fixed_all = to.fixed_all;
    matching = match;
    rest = rest;
    done = done;
    before = to.before;
    closed = to.closed;
    others = to.others;
    assigns = to.assigns;
    forced = to.forced;
    least = to.least;
  }

  -- the next one is fixed already
  pub fixed_skip : r < equations g → get_or t r 0 ≢ 0 → IsFixedTo g c d left p owner t (r + 1) bare
  fixed_skip rm some = record {
    left_all = to.left_all;
    fixed_all = to.fixed_all;
    matching = to.matching;
    rest = to.rest;
    done = to.done;
    before = λ x l. elim (eqb_tells x r) [ inl e ↦ rw e.1 some | inr e ↦ to.before x (omega (arith, e.1)) ];
    closed = to.closed;
    others = to.others;
    assigns = to.assigns;
    forced = λ x xm has q rival. to.forced x xm has q (record { assigns = rival.assigns; covers = rival.covers; same = λ y l. rival.same y (omega arith) });
    least = λ x l q rival. elim (eqb_tells x r) [
      | inl e ↦
          let at = rw e.1 at rival in
          let is = to.forced r rm some q at in
          rw e.1 (omega (arith, is))
      | inr e ↦ to.least x (omega (arith, e.1)) q rival
    ];
  }

-- ---- the next equation gives its unknown up, and gets the least one

module _ (g : Signature) (c d left p owner t : List ℕ) (r bare : ℕ) (sound : IsSound g) (open_all : AreOpen g c) (to : IsFixedTo g c d left p owner t r bare) (rm : r < equations g)
    (none : get_or t r 0 ≡ 0) where
  pub root_has : bare ≡ equations g → get_or p r 0 ≢ 0
  root_has e = to.rest r rm (omega (arith, e)) none

  pub root_released : bare ≡ equations g → (v : ℕ) → get_or p r 0 ≡ v → v ≢ 0 → IsFixedTo g c d left (set p r 0) (set owner v 0) t r r
  root_released at v v_is some =
      fixed_as g c d left p owner t r bare sound open_all to (set p r 0) (set owner v 0) r
      (released (Uses (tight_of g c left)) (equations g) g.unknowns p owner to.matching r rm v v_is some)
      (λ x xm out zero_there. rw (get_or-set_other p r x 0 0 out) (to.rest x xm (omega (arith, at)) zero_there))
      (λ x xm has. elim (eqb_tells x r) [
        | inl e ↦ absurd (has (rw e.1 none))
        | inr e ↦ rw (get_or-set_other p r x 0 0 e.1) (to.done x xm has)
      ])

  pub root_handed : (p' owner' : List ℕ) → bare ≡ r → IsMatching (Uses (tight_of g c left)) (equations g) g.unknowns p' owner' → get_or p' r 0 ≢ 0
      → ((x : ℕ) → get_or p x 0 ≢ 0 → get_or p' x 0 ≢ 0) → ((x : ℕ) → x ≢ r → get_or p x 0 ≡ 0 → get_or p' x 0 ≡ 0)
      → IsFixedTo g c d left p' owner' t r (equations g)
  root_handed p' owner' at match gained kept bares =
      fixed_as g c d left p owner t r bare sound open_all to p' owner' (equations g) match
      (λ x xm out zero_there. elim (eqb_tells x r) [
        | inl e ↦ rw e.1 gained
        | inr e ↦ kept x (to.rest x xm (λ same. e.1 (same ∙ at)) zero_there)
      ])
      (λ x xm has. bares x (λ e. has (rw e none)) (to.done x xm has))

  pub root_fixed : (v : ℕ) → get_or p r 0 ≡ v → v ≢ 0 → ((q : ℕ → ℕ) → IsRival g c d t r q → v ≤ q r)
      → IsFixedTo g c d (set left (v - 1) 4294967295) (set p r 0) (set owner v 0) (set t r v) (r + 1) bare
  root_fixed v v_is some low =
      fixed_more g c d left p owner t r bare sound open_all to r rm none v v_is some (r + 1) (omega arith)
      (λ y l. elim (eqb_tells y r) [ inl e ↦ inr e.1 | inr e ↦ inl (omega (arith, e.1)) ])
      (λ q rival. rival.same r (omega arith) ∙ (let l : r < length t = omega (arith, rm, to.fixed_all) in get_or-set_same t r v 0 l))
      (λ q l rival. low q (record {
        assigns = rival.assigns;
        covers = rival.covers;
        same = λ y yl. let ne : y ≢ r = omega arith in rival.same y yl ∙ get_or-set_other t r y v 0 ne;
      }))

-- all equations are fixed
module _ (g : Signature) (c d left p owner t : List ℕ) (bare : ℕ) (to : IsFixedTo g c d left p owner t (equations g) bare) where
  pub fixed_tight : Assigns (IsTight g (by_place c) (by_number d)) (equations g) (by_place t)
  fixed_tight = to.assigns

  pub fixed_covers : CoversAll g (by_place t)
  fixed_covers = to.before

  pub fixed_least : IsLeastSequence g (by_place c) (by_number d) (by_place t)
  fixed_least = record {
    none = λ q assigns covers before.
        let le = to.least before.place before.below q (record { assigns = assigns; covers = covers; same = before.same }) in
        omega (arith, le, before.less);
  }

-- at the start all unknowns are left
pub fixed_start : (g : Signature) (c d left p owner t : List ℕ) → left ≡ d → length d ≡ g.unknowns → length t ≡ equations g → ((x : ℕ) → get_or t x 0 ≡ 0)
    → IsMatching (Uses (tight_of g c d)) (equations g) g.unknowns p owner → CoversAll g (by_place p) → IsFixedTo g c d left p owner t 0 (equations g)
fixed_start g c d left p owner t same size size' none match covers = rw same (record {
  left_all = size;
  fixed_all = size';
  matching = match;
  rest = λ x xm out zero_there. covers x xm;
  done = λ x xm some. absurd (some (none x));
  before = λ x l. absurd (omega arith);
  closed = λ x xm some. absurd (some (none x));
  others = λ j above below ne. refl;
  assigns = record { allowed = λ x xm some. absurd (some (none x)); apart = λ x y xm ym some. absurd (some (none x)) };
  forced = λ x xm some. absurd (some (none x));
  least = λ x l. absurd (omega arith);
})

pub cost_next : (r e s0 s1 s2 : ℕ) → s1 ≤ s0 + r * e → s2 ≤ s1 + e → s2 ≤ s0 + (r + 1) * e
cost_next r e s0 s1 s2 one two = grind arith

-- the unknown that an equation gave up is free
pub spare_there : (g : Signature) (c left p owner p' owner' : List ℕ) (r : ℕ) → IsSound g → IsMatching (Uses (tight_of g c left)) (equations g) g.unknowns p owner → r < equations g → get_or p r 0 ≢ 0
    → owner' ≡ set owner (get_or p r 0) 0 → (j : ℕ) × IsFree (tight_of g c left) owner' r j
spare_there g c left p owner p' owner' r sound match rm some is =
    let edge = match.edge r rm some in
    let entry = used_entry g c left r (get_or p r 0) edge in
    let known = rw entry.2 at (sound.known r entry.0 rm entry.1) in (
      get_or p r 0,
      record {
        positive = known.0;
        known = known.1;
        unowned = rw is (released_free (Uses (tight_of g c left)) (equations g) g.unknowns p owner match r rm (get_or p r 0) refl some);
        used = edge;
      },
    )

pub cost_skip : (r e s0 s1 : ℕ) → s1 ≤ s0 + r * e → s1 ≤ s0 + (r + 1) * e
cost_skip r e s0 s1 one = grind arith
