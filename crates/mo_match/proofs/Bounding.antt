-- No unknown below the entries that were passed.
use Rattle.std.proofs.Common.{◌≡◌, ◌≢◌, ℕ, zero, suc, ◌+◌, ◌-◌, ◌<◌, ◌≤◌, inl, inr, List, get_or, sym, ap, ◌∙◌, arith}
use Rattle.std.proofs.lemmas.Bool.{cases_lt}
use Rattle.std.proofs.lemmas.Bool.Decides.{eqb_tells}
use Rattle.mo_incidence.specs.Signature.{Signature, equations, row_len, unknown_at, IsSound}
use Rattle.mo_incidence.specs.Assignment.{Assigns}
use Rattle.mo_incidence.proofs.Counting.{without, without_same, without_other, onto}
use Rattle.mo_match.specs.Searching.{Bipartite, UsesEntry, Uses, IsPassed, IsSearched, Matches, HoldsTree, IsClosedBehind}

pub rises : (g : Signature) (i : ℕ) → IsSound g → i < equations g → (n k : ℕ) → k ≤ n → n < row_len g i → unknown_at g i k ≤ unknown_at g i n
rises g i sound l zero k le nl = let e : k ≡ 0 = omega arith in rw e (omega arith)
rises g i sound l (suc n) k le nl = elim (eqb_tells k (suc n)) [
  | inl e ↦ rw e.1 (omega arith)
  | inr e ↦
      let before = rises g i sound l n k (omega (arith, e.1)) (omega arith) in
      let next : n + 1 ≡ suc n = omega arith in
      let up = sound.ascending i n l (omega arith) in
      let step : unknown_at g i n < unknown_at g i (suc n) = rw next at up in
      omega (arith, before, step)
]

pub uses_entry : (b : Bipartite) (i j : ℕ) → Uses b i j → (n : ℕ) × (n < row_len b.signature i) × (unknown_at b.signature i n ≡ j) × UsesEntry b i n
unfolding Uses
uses_entry b i j u = u

module _ (b : Bipartite) (p owner q par mk : List ℕ) (tail root k : ℕ) (sound : IsSound b.signature) (match : Matches b p owner) (tree : HoldsTree b p q par mk 0 tail)
    (some : 0 < tail) (first : get_or q 0 0 ≡ root) (bare : get_or p root 0 ≡ 0) (searched : IsSearched b owner mk root k) (behind : IsClosedBehind b owner mk q tail)
    (r : ℕ → ℕ) (assigns : Assigns (Uses b) (equations b.signature) r) (covers : (x : ℕ) → x < equations b.signature → get_or p x 0 ≢ 0 → r x ≢ 0) where
  f : ℕ → ℕ
  f = without (λ x. get_or mk x 0) root

  φ : ℕ → ℕ
  φ x = get_or owner (r x) 0 - 1

  root_in : root < equations b.signature
  root_in = rw first at (tree.in_range 0 some)

  -- an entry that was passed, of an unknown that r gives
  held : (x n : ℕ) → x < equations b.signature → n < row_len b.signature x → unknown_at b.signature x n ≡ r x → r x ≢ 0 → UsesEntry b x n → IsPassed b owner mk x n
      → (φ x < equations b.signature) × (get_or p (φ x) 0 ≡ r x) × (f (φ x) ≢ 0)
  unfolding f φ
  held x n l nl is some' used passed =
      let there = rw is at (passed.inner used) in
      let known = rw is at (sound.known x n l nl) in
      let has = match.owns (get_or owner (r x) 0 - 1) (r x) known.0 known.1 (omega (arith, there.0)) in
      let other : get_or owner (r x) 0 - 1 ≢ root = λ e. some' (sym has.1 ∙ rw e bare) in
      (has.0, has.1, rw (without_other (λ x. get_or mk x 0) root (get_or owner (r x) 0 - 1) other) there.1)

  other_root : (x : ℕ) → f x ≢ 0 → x ≢ root
  unfolding f
  other_root x marked e = marked (rw e (without_same (λ x. get_or mk x 0) root))

  marked_there : (x : ℕ) → f x ≢ 0 → get_or mk x 0 ≢ 0
  unfolding f
  marked_there x marked = rw (without_other (λ x. get_or mk x 0) root x (other_root x marked)) at marked

  into : (x : ℕ) → x < equations b.signature → f x ≢ 0 → (r x ≢ 0) × (φ x < equations b.signature) × (get_or p (φ x) 0 ≡ r x) × (f (φ x) ≢ 0)
  into x l marked =
      let place = tree.listed x l (marked_there x marked) in
      let past : 0 < place.0 = elim (eqb_tells place.0 0) [
        | inl e ↦ absurd (other_root x marked (sym place.2 ∙ rw e.1 first))
        | inr e ↦ omega (arith, e.1)
      ] in
      let has : get_or p x 0 ≢ 0 = rw place.2 at (tree.rooted place.0 past place.1).0 in
      let given = covers x l has in
      let entry = uses_entry b x (r x) (assigns.allowed x l given) in
      let done = rw place.2 at (behind.searched place.0 past place.1) in
      let there = held x entry.0 l entry.1 entry.2 given entry.3 (done.passed entry.0 entry.1) in
      (given, there.0, there.1, there.2)

  none_before : r root ≢ 0 → (n : ℕ) → n < k → n < row_len b.signature root → unknown_at b.signature root n ≡ r root → UsesEntry b root n → ⊥
  none_before given n nk nl is used =
      let has = held root n root_in nl is given used (searched.passed n nk) in
      let back = onto f φ (equations b.signature) (λ x l marked. let there = into x l marked in (there.1, there.3))
      (λ x y xl yl fx fy same. let one = into x xl fx in let two = into y yl fy in
      assigns.apart x y xl yl one.0 (sym one.2 ∙ ap (λ (z : ℕ). get_or p z 0) same ∙ two.2))
      (φ root) has.0 has.2 in
      let there = into back.0 back.1 back.2 in
      let same : r back.0 ≡ r root = sym there.2 ∙ ap (λ (z : ℕ). get_or p z 0) back.3 ∙ has.1 in
      other_root back.0 back.2 (assigns.apart back.0 root back.1 root_in there.0 same)

  pub not_lower : k < row_len b.signature root → r root ≢ 0 → unknown_at b.signature root k ≤ r root
  not_lower kl given =
      let entry = uses_entry b root (r root) (assigns.allowed root root_in given) in
      elim (cases_lt entry.0 k) [
        | inl l ↦ absurd (none_before given entry.0 l entry.1 entry.2 entry.3)
        | inr l ↦ let up = rises b.signature root sound root_in entry.0 k l entry.1 in omega (arith, up, entry.2)
      ]
