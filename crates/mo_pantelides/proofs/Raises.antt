-- What raising keeps, and that it brings the sums of the offsets closer.
use Rattle.std.proofs.Common.{◌≡◌, ◌≢◌, ℕ, suc, ◌+◌, ◌-◌, ◌*◌, ◌<◌, ◌≤◌, inl, inr, List, length, get_or, set, refl, sym, ap, ◌∙◌, arith, length-set, get_or-set_other, get_or-set_same}
use Rattle.std.proofs.Math.ListN.{get_or-eq_default}
use Rattle.std.proofs.lemmas.Bool.Decides.{nat_tests, eqb_tells, leb_tells}
use Rattle.mo_incidence.specs.Counting.{sign, sum_below, count_below}
use Rattle.mo_incidence.specs.Signature.{Signature, equations, row_len, unknown_at, order_at, IsSound}
use Rattle.mo_incidence.specs.Assignment.{Mentions, CanCoverAll}
use Rattle.mo_incidence.specs.Offsets.{Fits, IsBelowAll, by_place, by_number}
use Rattle.mo_incidence.proofs.Counting.{sign_zero, sign_some, sum_same, sum_add, sum_injection, without, without_other, count_without}
use Rattle.mo_match.specs.Searching.{tight_of, Uses, IsMatching, IsTree, ClosedTo}
use Rattle.mo_match.specs.steps.Lists.{reached}
use Rattle.mo_match.proofs.Deficit.{closed_marks}
use Rattle.mo_match.proofs.Excess.{reached_some, reached_by}
use Rattle.mo_pantelides.specs.steps.Raising.{AreRaised, gap, AreSmall, AreRising}
use Rattle.mo_pantelides.proofs.Tight.{entry_used, used_entry}
use Rattle.mo_pantelides.proofs.Above.{sign_low, reached_low, equation_above, unknown_above}

pub reached_one : (owner mk : List ℕ) (j : ℕ) → get_or owner j 0 ≢ 0 → reached owner mk j ≡ sign (get_or mk (get_or owner j 0 - 1) 0)
reached_one owner mk j some = grind (arith, nat_tests, some)

mention_entry : (g : Signature) (i j : ℕ) → Mentions g i j → (k : ℕ) × (k < row_len g i) × (unknown_at g i k ≡ j)
unfolding Mentions
mention_entry g i j h = h

pub sums_order : (g : Signature) (c d : List ℕ) → IsSound g → Fits g (by_place c) (by_number d) → CanCoverAll g → sum_below (by_place c) (equations g) ≤ sum_below (by_place d) g.unknowns
sums_order g c d sound fits can = sum_injection (by_place c) (by_place d) (λ i. can.0 i - 1) (equations g) g.unknowns
    (λ i l some.
    let entry = mention_entry g i (can.0 i) (can.1.allowed i l (can.2 i l)) in
    let known : (0 < can.0 i) × (can.0 i ≤ g.unknowns) = rw entry.2 at (sound.known i entry.0 l entry.1) in
    let bound : get_or c i 0 + order_at g i entry.0 ≤ get_or d (can.0 i - 1) 0 = rw entry.2 at (fits.entry i entry.0 l entry.1) in
    (omega (arith, known), omega arith))
    (λ i k il kl si sk same.
    let one = mention_entry g i (can.0 i) (can.1.allowed i il (can.2 i il)) in
    let two = mention_entry g k (can.0 k) (can.1.allowed k kl (can.2 k kl)) in
    let above : (0 < can.0 i) × (can.0 i ≤ g.unknowns) = rw one.2 at (sound.known i one.0 il one.1) in
    let above' : (0 < can.0 k) × (can.0 k ≤ g.unknowns) = rw two.2 at (sound.known k two.0 kl two.1) in
    can.1.apart i k il kl (can.2 i il) (omega (arith, above, above')))

module _ (g : Signature) (c d p owner q par mk : List ℕ) (t : ℕ) (sound : IsSound g)
    (match : IsMatching (Uses (tight_of g c d)) (equations g) g.unknowns p owner)
    (tree : IsTree (Uses (tight_of g c d)) (equations g) p q par mk 0 t)
    (closed : ClosedTo (tight_of g c d) owner mk q t)
    (some : 0 < t)
    (bare : get_or p (get_or q 0 0) 0 ≡ 0)
    (fits : Fits g (by_place c) (by_number d))
    (c2 d2 : List ℕ) (raised : AreRaised (equations g) g.unknowns owner mk c d c2 d2) where
  pub fits_raised : Fits g (by_place c2) (by_number d2)
  fits_raised = record {
    entry = λ i k il kl.
        let j = unknown_at g i k in
        let known = sound.known i k il kl in
        let was : get_or c i 0 + order_at g i k ≤ get_or d (unknown_at g i k - 1) 0 = fits.entry i k il kl in
        let c_is : get_or c2 i 0 ≡ get_or c i 0 + sign (get_or mk i 0) = raised.equation i il in
        let d_is : get_or d2 (unknown_at g i k - 1) 0 ≡ get_or d (unknown_at g i k - 1) 0 + reached owner mk (unknown_at g i k) = raised.unknown (unknown_at g i k) known.0 known.1 in
        elim (eqb_tells (get_or mk i 0) 0) [
          | inl e ↦ let z : sign (get_or mk i 0) ≡ 0 = sign_zero (get_or mk i 0) e.1 in omega arith
          | inr e ↦
              let z : sign (get_or mk i 0) ≡ 1 = sign_some (get_or mk i 0) e.1 in
              elim (eqb_tells (get_or d (unknown_at g i k - 1) 0) (get_or c i 0 + order_at g i k)) [
                | inl tight ↦
                    let there = closed_marks (tight_of g c d) p owner q par mk 0 t sound tree closed i (unknown_at g i k) il e.1 (entry_used g c d i (unknown_at g i k) k kl refl tight.1) in
                    let hit : reached owner mk (unknown_at g i k) ≢ 0 = reached_by owner mk (unknown_at g i k) there.2 there.3 in
                    omega (arith, hit)
                | inr loose ↦ omega (arith, loose.1)
              ]
        ];
  }

  pub matching_raised : IsMatching (Uses (tight_of g c2 d2)) (equations g) g.unknowns p owner
  matching_raised = record {
    equations_all = match.equations_all;
    unknowns_all = match.unknowns_all;
    edge = λ i il has.
        let j = get_or p i 0 in
        let held = match.owned i il has in
        let entry = used_entry g c d i (get_or p i 0) (match.edge i il has) in
        let above : 0 < get_or p i 0 = omega (arith, has) in
        let c_is = raised.equation i il in
        let d_is = raised.unknown (get_or p i 0) above held.0 in
        let back : get_or owner (get_or p i 0) 0 - 1 ≡ i = omega (arith, held.1) in
        let one : reached owner mk (get_or p i 0) ≡ sign (get_or mk i 0) = reached_one owner mk (get_or p i 0) (omega (arith, held.1)) ∙ ap (λ (x : ℕ). sign (get_or mk x 0)) back in
        entry_used g c2 d2 i (get_or p i 0) entry.0 entry.1 entry.2 (omega (arith, entry.3));
    owned = match.owned;
    owns = match.owns;
  }

  pub lowest_raised : IsBelowAll g (by_place c) (by_number d) → IsBelowAll g (by_place c2) (by_number d2)
  lowest_raised least = record {
    below = λ c' d' rival.
        let below = least.below c' d' rival in
        record {
          equation = λ i il. rw (raised.equation i il) (equation_above g c d p owner q par mk t sound match tree closed fits c' d' rival below i il);
          unknown = λ j above jn. rw (raised.unknown j above jn) (unknown_above g c d p owner q par mk t sound match tree closed fits c' d' rival below j above jn);
        };
  }

  sum_equations : sum_below (by_place c2) (equations g) ≡ sum_below (by_place c) (equations g) + count_below (λ i. get_or mk i 0) (equations g)
  sum_equations =
      sum_same (by_place c2) (λ i. get_or c i 0 + sign (get_or mk i 0)) (equations g) raised.equation ∙ sum_add (by_place c) (λ i. sign (get_or mk i 0)) (equations g)

  sum_unknowns : sum_below (by_place d2) g.unknowns ≡ sum_below (by_place d) g.unknowns + sum_below (λ u. reached owner mk (u + 1)) g.unknowns
  sum_unknowns =
      sum_same (by_place d2) (λ u. get_or d u 0 + reached owner mk (u + 1)) g.unknowns
      (λ u l. let back : u + 1 - 1 ≡ u = omega arith in rw back at (raised.unknown (u + 1) (omega arith) (omega arith)))
      ∙ sum_add (by_place d) (λ u. reached owner mk (u + 1)) g.unknowns

  fewer_unknowns : sum_below (λ u. reached owner mk (u + 1)) g.unknowns + 1 ≤ count_below (λ i. get_or mk i 0) (equations g)
  fewer_unknowns =
      let root = get_or q 0 0 in
      let marked = tree.marked 0 some in
      let more : count_below (λ i. get_or mk i 0) (equations g) ≡ suc (count_below (without (λ i. get_or mk i 0) root) (equations g)) =
      count_without (λ i. get_or mk i 0) root (equations g) (tree.in_range 0 some) marked in
      let few : sum_below (λ u. reached owner mk (u + 1)) g.unknowns ≤ count_below (without (λ i. get_or mk i 0) root) (equations g) =
      sum_injection (λ u. reached owner mk (u + 1)) (λ i. sign (without (λ i. get_or mk i 0) root i)) (λ u. get_or owner (u + 1) 0 - 1) g.unknowns (equations g)
      (λ u l hit.
      let has = reached_some owner mk (u + 1) hit in
      let x = get_or owner (u + 1) 0 - 1 in
      let held = match.owns x (u + 1) (omega arith) (omega arith) (omega (arith, has.0)) in
      let ne : x ≢ root = λ same. let none : get_or p x 0 ≡ 0 = rw same bare in omega (arith, held.1) in
      let is : without (λ i. get_or mk i 0) root x ≡ get_or mk x 0 = without_other (λ i. get_or mk i 0) root x ne in
      let one : sign (without (λ i. get_or mk i 0) root x) ≡ 1 = sign_some (without (λ i. get_or mk i 0) root x) (rw is has.1) in
      (held.0, omega (arith, reached_low owner mk (u + 1))))
      (λ u v ul vl hu hv same.
      let one = reached_some owner mk (u + 1) hu in
      let two = reached_some owner mk (v + 1) hv in
      let here = match.owns (get_or owner (u + 1) 0 - 1) (u + 1) (omega arith) (omega arith) (omega (arith, one.0)) in
      let there = match.owns (get_or owner (v + 1) 0 - 1) (v + 1) (omega arith) (omega arith) (omega (arith, two.0)) in
      let is : get_or p (get_or owner (u + 1) 0 - 1) 0 ≡ get_or p (get_or owner (v + 1) 0 - 1) 0 = ap (λ (x : ℕ). get_or p x 0) same in
      omega (arith, here.1, there.1)) in
      omega arith

  module _ (can : CanCoverAll g) where
    pub gap_smaller : gap (equations g) g.unknowns c2 d2 < gap (equations g) g.unknowns c d
    unfolding gap
    gap_smaller =
        let after = sums_order g c2 d2 sound fits_raised can in
        omega (arith, sum_equations, sum_unknowns, fewer_unknowns)

    pub small_raised : AreSmall g c d → AreSmall g c2 d2
    small_raised small =
        let less = gap_smaller in
        record {
          equation = λ h bounds i il. let was = small.equation h bounds i il in omega (arith, raised.equation i il, sign_low (get_or mk i 0));
          unknown = λ h bounds u ul.
              let was = small.unknown h bounds u ul in
              let back : u + 1 - 1 ≡ u = omega arith in
              let d_is : get_or d2 u 0 ≡ get_or d u 0 + reached owner mk (u + 1) = rw back at (raised.unknown (u + 1) (omega arith) (omega arith)) in
              omega (arith, reached_low owner mk (u + 1));
        }

    pub rising_raised : AreRising g c d → AreRising g c2 d2
    rising_raised rising = record { fits = fits_raised; least = lowest_raised rising.least; small = small_raised rising.small }

pub cost_raised : (s0 s1 s2 x x2 e : ℕ) → s1 ≤ s0 + e → x2 < x → s0 + x * e ≤ s2 → s1 + x2 * e ≤ s2
cost_raised s0 s1 s2 x x2 e one less was = grind (arith)

-- Where raising stands: the offsets have gained what the marks have lost. The equations from place t of the queue still have marks.
pub record IsRaisedTo (m n : ℕ) (owner q mk0 c0 d0 mk c d : List ℕ) (t tail : ℕ) : Type 0 where
  pub mark_all : length mk ≡ m
  pub c_all : length c ≡ m
  pub d_all : length d ≡ n
  pub equation : (i : ℕ) → i < m → get_or c i 0 + sign (get_or mk i 0) ≡ get_or c0 i 0 + sign (get_or mk0 i 0)
  pub unknown : (j : ℕ) → 0 < j → j ≤ n → get_or d (j - 1) 0 + reached owner mk j ≡ get_or d0 (j - 1) 0 + reached owner mk0 j
  pub marked : (s : ℕ) → t ≤ s → s < tail → get_or mk (get_or q s 0) 0 ≢ 0
  pub listed : (i : ℕ) → get_or mk i 0 ≢ 0 → (s : ℕ) × (t ≤ s) × (s < tail) × (get_or q s 0 ≡ i)

module _ (E : ℕ → ℕ → Type 0) (m n : ℕ) (p owner q par mk0 c0 d0 : List ℕ) (tail : ℕ) (match : IsMatching E m n p owner) (tree : IsTree E m p q par mk0 0 tail) where
  mark_in : (x : ℕ) → get_or mk0 x 0 ≢ 0 → x < m
  mark_in x some = elim (leb_tells m x) [
    | inl e ↦ absurd (some (get_or-eq_default mk0 0 (let l : length mk0 ≤ x = omega (arith, e.1, tree.mark_all) in l)))
    | inr e ↦ e.1
  ]

  pub raise_begins : length c0 ≡ m → length d0 ≡ n → IsRaisedTo m n owner q mk0 c0 d0 mk0 c0 d0 0 tail
  raise_begins size_c size_d = record {
    mark_all = tree.mark_all;
    c_all = size_c;
    d_all = size_d;
    equation = λ i l. refl;
    unknown = λ j above jn. refl;
    marked = λ s above l. tree.marked s l;
    listed = λ x some. let there = tree.listed x (mark_in x some) some in (there.0, omega arith, there.1, there.2);
  }

  module _ (mk c d : List ℕ) (t : ℕ) (tl : t < tail) (to : IsRaisedTo m n owner q mk0 c0 d0 mk c d t tail) where
    here_in : get_or q t 0 < m
    here_in = tree.in_range t tl

    here_marked : sign (get_or mk (get_or q t 0) 0) ≡ 1
    here_marked = sign_some (get_or mk (get_or q t 0) 0) (to.marked t (omega arith) tl)

    pub raise_pair : get_or p (get_or q t 0) 0 ≤ n
    raise_pair = elim (eqb_tells (get_or p (get_or q t 0) 0) 0) [
      | inl e ↦ rw e.1 (omega arith)
      | inr e ↦ (match.owned (get_or q t 0) here_in e.1).0
    ]

    pub raise_inside : (get_or q t 0 < length mk) × (get_or q t 0 < length c)
    raise_inside = (omega (arith, here_in, to.mark_all), omega (arith, here_in, to.c_all))

    pub raise_room_equation : ((i : ℕ) → i < m → get_or c0 i 0 + 1 < 4294967296) → get_or c (get_or q t 0) 0 + 1 < 4294967296
    raise_room_equation room = omega (arith, room (get_or q t 0) here_in, to.equation (get_or q t 0) here_in, here_marked, sign_low (get_or mk0 (get_or q t 0) 0))

    holds : get_or p (get_or q t 0) 0 ≢ 0 → get_or owner (get_or p (get_or q t 0) 0) 0 ≡ suc (get_or q t 0)
    holds some = (match.owned (get_or q t 0) here_in some).1

    here_reached : get_or p (get_or q t 0) 0 ≢ 0 → reached owner mk (get_or p (get_or q t 0) 0) ≡ 1
    here_reached some =
        let back : get_or owner (get_or p (get_or q t 0) 0) 0 - 1 ≡ get_or q t 0 = omega (arith, holds some) in
        reached_one owner mk (get_or p (get_or q t 0) 0) (omega (arith, holds some)) ∙ ap (λ (x : ℕ). sign (get_or mk x 0)) back ∙ here_marked

    pub raise_room_unknown : ((u : ℕ) → u < n → get_or d0 u 0 + 1 < 4294967296) → get_or p (get_or q t 0) 0 ≢ 0 → get_or d (get_or p (get_or q t 0) 0 - 1) 0 + 1 < 4294967296
    raise_room_unknown room some =
        let j = get_or p (get_or q t 0) 0 in
        let small = room (get_or p (get_or q t 0) 0 - 1) (omega (arith, raise_pair, some)) in
        let kept = to.unknown (get_or p (get_or q t 0) 0) (omega (arith, some)) raise_pair in
        omega (arith, here_reached some, reached_low owner mk0 (get_or p (get_or q t 0) 0))

    mk_here : get_or (set mk (get_or q t 0) 0) (get_or q t 0) 0 ≡ 0
    mk_here = get_or-set_same mk (get_or q t 0) 0 0 raise_inside.0

    mk_there : (x : ℕ) → x ≢ get_or q t 0 → get_or (set mk (get_or q t 0) 0) x 0 ≡ get_or mk x 0
    mk_there x ne = get_or-set_other mk (get_or q t 0) x 0 0 ne

    reached_here : get_or p (get_or q t 0) 0 ≢ 0 → reached owner (set mk (get_or q t 0) 0) (get_or p (get_or q t 0) 0) ≡ 0
    reached_here some =
        let back : get_or owner (get_or p (get_or q t 0) 0) 0 - 1 ≡ get_or q t 0 = omega (arith, holds some) in
        reached_one owner (set mk (get_or q t 0) 0) (get_or p (get_or q t 0) 0) (omega (arith, holds some))
        ∙ ap (λ (x : ℕ). sign (get_or (set mk (get_or q t 0) 0) x 0)) back ∙ sign_zero (get_or (set mk (get_or q t 0) 0) (get_or q t 0) 0) mk_here

    reached_none : (mk' : List ℕ) (u : ℕ) → get_or owner u 0 ≡ 0 → reached owner mk' u ≡ 0
    reached_none mk' u none = grind (arith, nat_tests, none)

    reached_there : (u : ℕ) → 0 < u → u ≤ n → u ≢ get_or p (get_or q t 0) 0 → reached owner (set mk (get_or q t 0) 0) u ≡ reached owner mk u
    reached_there u above un ne = elim (eqb_tells (get_or owner u 0) 0) [
      | inl e ↦ reached_none (set mk (get_or q t 0) 0) u e.1 ∙ sym (reached_none mk u e.1)
      | inr e ↦
          let x = get_or owner u 0 - 1 in
          let held = match.owns (get_or owner u 0 - 1) u above un (omega (arith, e.1)) in
          let off : get_or owner u 0 - 1 ≢ get_or q t 0 = λ same. ne (sym held.1 ∙ ap (λ (y : ℕ). get_or p y 0) same) in
          reached_one owner (set mk (get_or q t 0) 0) u e.1 ∙ ap sign (mk_there (get_or owner u 0 - 1) off) ∙ sym (reached_one owner mk u e.1)
    ]

    pub raise_next : (d' : List ℕ) → (get_or p (get_or q t 0) 0 ≢ 0 → d' ≡ set d (get_or p (get_or q t 0) 0 - 1) (get_or d (get_or p (get_or q t 0) 0 - 1) 0 + 1))
        → (get_or p (get_or q t 0) 0 ≡ 0 → d' ≡ d)
        → IsRaisedTo m n owner q mk0 c0 d0 (set mk (get_or q t 0) 0) (set c (get_or q t 0) (get_or c (get_or q t 0) 0 + 1)) d' (t + 1) tail
    raise_next d' some_is none_is = record {
      mark_all = length-set mk (get_or q t 0) 0 ∙ to.mark_all;
      c_all = length-set c (get_or q t 0) (get_or c (get_or q t 0) 0 + 1) ∙ to.c_all;
      d_all = elim (eqb_tells (get_or p (get_or q t 0) 0) 0) [
        | inl e ↦ ap length (none_is e.1) ∙ to.d_all
        | inr e ↦ ap length (some_is e.1) ∙ length-set d (get_or p (get_or q t 0) 0 - 1) (get_or d (get_or p (get_or q t 0) 0 - 1) 0 + 1) ∙ to.d_all
      ];
      equation = λ i l. elim (eqb_tells i (get_or q t 0)) [
        | inl e ↦
            let c_is = get_or-set_same c (get_or q t 0) (get_or c (get_or q t 0) 0 + 1) 0 raise_inside.1 in
            let z = sign_zero (get_or (set mk (get_or q t 0) 0) (get_or q t 0) 0) mk_here in
            rw (e.1, c_is, z) (let was = to.equation (get_or q t 0) here_in in omega (arith, here_marked))
        | inr e ↦
            let c_is = get_or-set_other c (get_or q t 0) i (get_or c (get_or q t 0) 0 + 1) 0 e.1 in
            rw (c_is, mk_there i e.1) (to.equation i l)
      ];
      unknown = λ u above un. elim (eqb_tells u (get_or p (get_or q t 0) 0)) [
        | inl e ↦
            let some : get_or p (get_or q t 0) 0 ≢ 0 = omega (arith, e.1) in
            let inside : get_or p (get_or q t 0) 0 - 1 < length d = omega (arith, raise_pair, to.d_all) in
            let d_is : get_or d' (get_or p (get_or q t 0) 0 - 1) 0 ≡ get_or d (get_or p (get_or q t 0) 0 - 1) 0 + 1 =
            rw (some_is some) (get_or-set_same d (get_or p (get_or q t 0) 0 - 1) (get_or d (get_or p (get_or q t 0) 0 - 1) 0 + 1) 0 inside) in
            let was = to.unknown (get_or p (get_or q t 0) 0) (omega (arith, some)) raise_pair in
            rw e.1 (omega (arith, reached_here some, here_reached some))
        | inr e ↦
            let d_is : get_or d' (u - 1) 0 ≡ get_or d (u - 1) 0 = elim (eqb_tells (get_or p (get_or q t 0) 0) 0) [
              | inl z ↦ rw (none_is z.1) refl
              | inr z ↦
                  let ne : u - 1 ≢ get_or p (get_or q t 0) 0 - 1 = omega (arith, e.1, z.1) in
                  rw (some_is z.1) (get_or-set_other d (get_or p (get_or q t 0) 0 - 1) (u - 1) (get_or d (get_or p (get_or q t 0) 0 - 1) 0 + 1) 0 ne)
            ] in
            omega (arith, d_is, reached_there u above un e.1, to.unknown u above un)
      ];
      marked = λ s above sl.
          let ne : get_or q s 0 ≢ get_or q t 0 = λ same. let is : s ≡ t = tree.apart s t sl tl same in omega arith in
          rw (mk_there (get_or q s 0) ne) (to.marked s (omega arith) sl);
      listed = λ x has.
          let ne : x ≢ get_or q t 0 = λ same. has (rw (same, mk_here) refl) in
          let there = to.listed x (rw (mk_there x ne) at has) in
          let off : there.0 ≢ t = λ same. ne (sym there.3 ∙ ap (λ (y : ℕ). get_or q y 0) same) in
          (there.0, omega (arith, off, there.1), there.2, there.3);
    }

  module _ (mk c d : List ℕ) (t : ℕ) (all : tail ≤ t) (to : IsRaisedTo m n owner q mk0 c0 d0 mk c d t tail) where
    pub raise_clear : (x : ℕ) → get_or mk x 0 ≡ 0
    raise_clear x = elim (eqb_tells (get_or mk x 0) 0) [
      | inl e ↦ e.1
      | inr e ↦ let there = to.listed x e.1 in absurd (omega (arith, there.1, there.2))
    ]

    pub raise_ends : AreRaised m n owner mk0 c0 d0 c d
    raise_ends = record {
      equation = λ i l. omega (arith, to.equation i l, sign_zero (get_or mk i 0) (raise_clear i));
      unknown = λ j above jn.
          let none : reached owner mk j ≡ 0 = elim (eqb_tells (reached owner mk j) 0) [
            | inl e ↦ e.1
            | inr e ↦ let has = reached_some owner mk j e.1 in absurd (has.1 (raise_clear (get_or owner j 0 - 1)))
          ] in
          omega (arith, to.unknown j above jn);
    }
