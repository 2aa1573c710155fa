-- An assignment whose marked rows have only numbers of marked rows, and that leaves out marked rows alone, covers the most rows.
use Rattle.std.proofs.Common.{◌≡◌, ◌≢◌, ℕ, ◌-◌, ◌<◌, ◌≤◌, ◌==◌, inl, inr, if◌then◌else◌, sym, ap, ◌∙◌, arith}
use Rattle.std.proofs.lemmas.Bool.Decides.{nat_tests, eqb_tells}
use Rattle.mo_graph.specs.Counting.{count_below}
use Rattle.mo_graph.proofs.Counting.{count_injection}
use Rattle.mo_incidence.specs.Assignment.{Assigns}

-- i without a mark, else x
abbrev pub unless_marked : (mark i x : ℕ) → ℕ
unless_marked mark i x = if mark == 0 then i else x

unmarked_is : (mark i x : ℕ) → mark ≡ 0 → unless_marked mark i x ≡ i
unmarked_is mark i x e = grind (arith, nat_tests)

marked_is : (mark i x : ℕ) → mark ≢ 0 → unless_marked mark i x ≡ x
marked_is mark i x ne = grind (arith, nat_tests)

module _ (E : ℕ → ℕ → Type 0) (n : ℕ) (p owner mk : ℕ → ℕ)
    (closed : (i j : ℕ) → i < n → mk i ≢ 0 → E i j → (owner j ≢ 0) × (owner j - 1 < n) × (p (owner j - 1) ≡ j) × (mk (owner j - 1) ≢ 0))
    (settled : (i : ℕ) → i < n → p i ≡ 0 → mk i ≢ 0)
    (q : ℕ → ℕ) (assigns : Assigns E n q) where
  abbrev into : ℕ → ℕ
  into i = unless_marked (mk i) i (owner (q i) - 1)

  into_marked : (i : ℕ) → i < n → q i ≢ 0 → mk i ≢ 0 → (into i < n) × (p (into i) ≡ q i) × (mk (into i) ≢ 0)
  into_marked i l some marked =
      let there = closed i (q i) l marked (assigns.allowed i l some) in
      rw (marked_is (mk i) i (owner (q i) - 1) marked) (there.1, there.2, there.3)

  into_unmarked : (i : ℕ) → mk i ≡ 0 → into i ≡ i
  into_unmarked i e = unmarked_is (mk i) i (owner (q i) - 1) e

  into_some : (i : ℕ) → i < n → q i ≢ 0 → (into i < n) × (p (into i) ≢ 0)
  into_some i l some = elim (eqb_tells (mk i) 0) [
    | inl e ↦ rw (into_unmarked i e.1) (l, λ none. settled i l none e.1)
    | inr e ↦ let there = into_marked i l some e.1 in (there.0, rw there.1 some)
  ]

  into_apart : (i k : ℕ) → i < n → k < n → q i ≢ 0 → q k ≢ 0 → into i ≡ into k → i ≡ k
  into_apart i k il kl si sk same = elim (eqb_tells (mk i) 0) [
    | inl e ↦ elim (eqb_tells (mk k) 0) [
      | inl e' ↦ sym (into_unmarked i e.1) ∙ same ∙ into_unmarked k e'.1
      | inr e' ↦
          let there = into_marked k kl sk e'.1 in
          let is : into k ≡ i = sym same ∙ into_unmarked i e.1 in
          absurd (there.2 (rw is e.1))
    ]
    | inr e ↦ elim (eqb_tells (mk k) 0) [
      | inl e' ↦
          let there = into_marked i il si e.1 in
          let is : into i ≡ k = same ∙ into_unmarked k e'.1 in
          absurd (there.2 (rw is e'.1))
      | inr e' ↦
          let one = into_marked i il si e.1 in
          let two = into_marked k kl sk e'.1 in
          assigns.apart i k il kl si (sym one.1 ∙ ap p same ∙ two.1)
    ]
  ]

  pub covers_prefix : count_below q n ≤ count_below p n
  covers_prefix = count_injection q p into n n into_some into_apart
