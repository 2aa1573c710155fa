-- A search in vain shows that each admissible rival is above the raised offsets.
use Rattle.std.proofs.Common.{◌≡◌, ◌≢◌, ℕ, zero, suc, ◌+◌, ◌-◌, ◌<◌, ◌≤◌, ◌==◌, inl, inr, if◌then◌else◌, List, get_or, sym, ap, ◌∙◌, arith}
use Rattle.std.proofs.lemmas.Bool.Decides.{nat_tests, eqb_tells}
use Rattle.mo_incidence.specs.Counting.{sign}
use Rattle.mo_incidence.specs.Signature.{Signature, equations, order_at, IsSound}
use Rattle.mo_incidence.specs.Offsets.{Fits, IsAdmissible, AreBelow, by_place, by_number}
use Rattle.mo_incidence.proofs.Counting.{sign_zero, sign_some, onto}
use Rattle.mo_match.specs.Searching.{tight_of, Uses, IsMatching, IsTree, ClosedTo}
use Rattle.mo_match.specs.steps.Lists.{reached}
use Rattle.mo_match.proofs.Deficit.{closed_marks}
use Rattle.mo_match.proofs.Excess.{reached_some}
use Rattle.mo_pantelides.proofs.Tight.{entry_used, used_entry, tight_entry_of}

abbrev where_equal : (x y mark : ℕ) → ℕ
where_equal x y mark = if x == y then mark else 0

equal_by : (x y mark : ℕ) → x ≡ y → mark ≢ 0 → where_equal x y mark ≢ 0
equal_by x y mark e some none = grind (arith, nat_tests, e, some, none)

equal_is : (x y mark : ℕ) → where_equal x y mark ≢ 0 → (x ≡ y) × (mark ≢ 0)
equal_is x y mark some = elim (eqb_tells x y) [
  | inl e ↦ (e.1, λ none. some (grind (arith, nat_tests, e.1, none)))
  | inr e ↦ absurd (some (grind (arith, nat_tests, e.1)))
]

pub sign_low : (x : ℕ) → sign x ≤ 1
sign_low x = grind (arith, nat_tests)

pub reached_low : (owner mk : List ℕ) (j : ℕ) → reached owner mk j ≤ 1
reached_low owner mk j = grind (arith, nat_tests)

module _ (g : Signature) (c d p owner q par mk : List ℕ) (t : ℕ) (sound : IsSound g)
    (match : IsMatching (Uses (tight_of g c d)) (equations g) g.unknowns p owner)
    (tree : IsTree (Uses (tight_of g c d)) (equations g) p q par mk 0 t)
    (closed : ClosedTo (tight_of g c d) owner mk q t)
    (fits : Fits g (by_place c) (by_number d))
    (c' d' : ℕ → ℕ) (rival : IsAdmissible g c' d') (below : AreBelow g (by_place c) (by_number d) c' d') where
  abbrev same : ℕ → ℕ
  same i = where_equal (get_or c i 0) (c' i) (get_or mk i 0)

  abbrev rivals : ℕ → ℕ
  rivals i = rival.tight.0 i

  abbrev holder : ℕ → ℕ
  holder i = get_or owner (rivals i) 0 - 1

  -- an equation that is tight at an unknown with equal offsets has equal offsets
  equal_at : (x j : ℕ) → x < equations g → get_or d (j - 1) 0 ≡ d' j → Uses (tight_of g c d) x j → get_or c x 0 ≡ c' x
  equal_at x j xl equal u =
      let entry = used_entry g c d x j u in
      let over : c' x + order_at g x entry.0 ≤ d' j = rw entry.2 at (rival.fits.entry x entry.0 xl entry.1) in
      let under : get_or c x 0 ≤ c' x = below.equation x xl in
      omega (arith, entry.3)

  step : (i : ℕ) → i < equations g → same i ≢ 0
      → (holder i < equations g) × (same (holder i) ≢ 0) × (get_or p (holder i) 0 ≡ rivals i) × (get_or d (rivals i - 1) 0 ≡ d' (rivals i))
  step i l some =
      let is = equal_is (get_or c i 0) (c' i) (get_or mk i 0) some in
      let entry = tight_entry_of g c' d' i (rivals i) (rival.tight.1.allowed i l (rival.tight.2 i l)) in
      let known = sound.known i entry.0 l entry.1 in
      let j_in : (0 < rivals i) × (rivals i ≤ g.unknowns) = rw entry.2 at known in
      let bound : get_or c i 0 + order_at g i entry.0 ≤ get_or d (rivals i - 1) 0 = rw entry.2 at (fits.entry i entry.0 l entry.1) in
      let under : get_or d (rivals i - 1) 0 ≤ d' (rivals i) = below.unknown (rivals i) j_in.0 j_in.1 in
      let equal : get_or d (rivals i - 1) 0 ≡ d' (rivals i) = omega (arith, entry.3, is.0) in
      let tight : get_or d (rivals i - 1) 0 ≡ get_or c i 0 + order_at g i entry.0 = omega (arith, entry.3, is.0) in
      let there = closed_marks (tight_of g c d) p owner q par mk 0 t sound tree closed i (rivals i) l is.1 (entry_used g c d i (rivals i) entry.0 entry.1 entry.2 tight) in
      let held = match.owns (holder i) (rivals i) j_in.0 j_in.1 (omega (arith, there.2)) in
      let has : Uses (tight_of g c d) (holder i) (rivals i) = rw held.1 at (match.edge (holder i) held.0 (rw held.1 (omega (arith, j_in.0)))) in
      let level = equal_at (holder i) (rivals i) held.0 equal has in
      (held.0, equal_by (get_or c (holder i) 0) (c' (holder i)) (get_or mk (holder i) 0) level there.3, held.1, equal)

  back : (k : ℕ) → k < equations g → same k ≢ 0 → (get_or p k 0 ≢ 0) × (get_or d (get_or p k 0 - 1) 0 ≡ d' (get_or p k 0))
  back k kl some =
      let found = onto same holder (equations g)
      (λ i l s. let there = step i l s in (there.0, there.1))
      (λ i i' l l' s s' e.
      let one = step i l s in
      let two = step i' l' s' in
      rival.tight.1.apart i i' l l' (rival.tight.2 i l) (sym one.2 ∙ ap (λ (x : ℕ). get_or p x 0) e ∙ two.2))
      k kl some in
      let there = step found.0 found.1 found.2 in
      let is : get_or p k 0 ≡ rivals found.0 = sym (ap (λ (x : ℕ). get_or p x 0) found.3) ∙ there.2 in
      rw is (rival.tight.2 found.0 found.1, there.3)

  none_same : (n s : ℕ) → s < n → s < t → same (get_or q s 0) ≡ 0
  none_same zero s sn st = absurd (omega arith)
  none_same (suc n) s sn st = elim (eqb_tells (same (get_or q s 0)) 0) [
    | inl e ↦ e.1
    | inr e ↦
        let there = back (get_or q s 0) (tree.in_range s st) e.1 in
        let link = tree.linked s st there.0 in
        let u = get_or par s 0 in
        let ul : u < t = omega (arith, link.0) in
        let level = equal_at (get_or q u 0) (get_or p (get_or q s 0) 0) (tree.in_range u ul) there.1 link.1 in
        let none = none_same n u (omega (arith, link.0)) ul in
        absurd (equal_by (get_or c (get_or q u 0) 0) (c' (get_or q u 0)) (get_or mk (get_or q u 0) 0) level (tree.marked u ul) none)
  ]

  marked_above : (i : ℕ) → i < equations g → get_or mk i 0 ≢ 0 → get_or c i 0 < c' i
  marked_above i l marked =
      let there = tree.listed i l marked in
      let none : same i ≡ 0 = rw there.2 at (none_same (suc there.0) there.0 (omega arith) there.1) in
      let under : get_or c i 0 ≤ c' i = below.equation i l in
      elim (eqb_tells (get_or c i 0) (c' i)) [
        | inl e ↦ absurd (equal_by (get_or c i 0) (c' i) (get_or mk i 0) e.1 marked none)
        | inr e ↦ omega (arith, e.1)
      ]

  pub equation_above : (i : ℕ) → i < equations g → get_or c i 0 + sign (get_or mk i 0) ≤ c' i
  equation_above i l =
      let under : get_or c i 0 ≤ c' i = below.equation i l in
      elim (eqb_tells (get_or mk i 0) 0) [
        | inl e ↦ let z : sign (get_or mk i 0) ≡ 0 = sign_zero (get_or mk i 0) e.1 in omega arith
        | inr e ↦ let z : sign (get_or mk i 0) ≡ 1 = sign_some (get_or mk i 0) e.1 in omega (arith, marked_above i l e.1)
      ]

  pub unknown_above : (j : ℕ) → 0 < j → j ≤ g.unknowns → get_or d (j - 1) 0 + reached owner mk j ≤ d' j
  unknown_above j above jn =
      let under : get_or d (j - 1) 0 ≤ d' j = below.unknown j above jn in
      elim (eqb_tells (reached owner mk j) 0) [
        | inl e ↦ omega (arith, e.1)
        | inr e ↦
            let has = reached_some owner mk j e.1 in
            let x = get_or owner j 0 - 1 in
            let held = match.owns x j above jn (omega (arith, has.0)) in
            let edge : Uses (tight_of g c d) x j = rw held.1 at (match.edge x held.0 (rw held.1 (omega arith))) in
            let entry = used_entry g c d x j edge in
            let over : c' x + order_at g x entry.0 ≤ d' j = rw entry.2 at (rival.fits.entry x entry.0 held.0 entry.1) in
            omega (arith, entry.3, marked_above x held.0 has.1, reached_low owner mk j)
      ]
