-- A matching whose marked equations mention only unknowns of marked equations, and that leaves out marked equations alone, is largest.
use Rattle.std.proofs.Common.{◌≡◌, ◌≢◌, ℕ, suc, ◌-◌, ◌<◌, ◌≤◌, ◌==◌, inl, inr, if◌then◌else◌, List, get_or, sym, ap, ◌∙◌, arith}
use Rattle.std.proofs.lemmas.Bool.Decides.{nat_tests, eqb_tells}
use Rattle.mo_incidence.specs.Counting.{count_below}
use Rattle.mo_incidence.specs.Assignment.{Assigns}
use Rattle.mo_incidence.proofs.Counting.{without, without_other, count_injection, count_without}
use Rattle.mo_match.specs.Searching.{IsMatching}

-- i without a mark, else x
abbrev pub unless_marked : (mark i x : ℕ) → ℕ
unless_marked mark i x = if mark == 0 then i else x

unmarked_is : (mark i x : ℕ) → mark ≡ 0 → unless_marked mark i x ≡ i
unmarked_is mark i x e = grind (arith, nat_tests)

marked_is : (mark i x : ℕ) → mark ≢ 0 → unless_marked mark i x ≡ x
marked_is mark i x ne = grind (arith, nat_tests)

pub matching_apart : {E : ℕ → ℕ → Type 0} {m n : ℕ} {p owner : List ℕ} → IsMatching E m n p owner
    → (i k : ℕ) → i < m → k < m → get_or p i 0 ≢ 0 → get_or p i 0 ≡ get_or p k 0 → i ≡ k
matching_apart {p = p} {owner = owner} match i k il kl some same =
    let one : get_or owner (get_or p i 0) 0 ≡ suc i = (match.owned i il some).1 in
    let two : get_or owner (get_or p i 0) 0 ≡ suc k = rw same (match.owned k kl (rw same at some)).1 in
    omega arith

pub matching_assigns : {E : ℕ → ℕ → Type 0} {m n : ℕ} {p owner : List ℕ} → IsMatching E m n p owner → Assigns E m (λ i. get_or p i 0)
matching_assigns match = record { allowed = match.edge; apart = matching_apart match }

module _ (E : ℕ → ℕ → Type 0) (m n : ℕ) (p owner mk : List ℕ) (match : IsMatching E m n p owner)
    (closed : (i j : ℕ) → i < m → get_or mk i 0 ≢ 0 → E i j → (0 < j) × (j ≤ n) × (get_or owner j 0 ≢ 0) × (get_or mk (get_or owner j 0 - 1) 0 ≢ 0))
    (settled : (i : ℕ) → i < m → get_or p i 0 ≡ 0 → get_or mk i 0 ≢ 0)
    (q : ℕ → ℕ) (assigns : Assigns E m q) where
  -- the equation that has the unknown which q gives to a marked one
  abbrev into : ℕ → ℕ
  into i = unless_marked (get_or mk i 0) i (get_or owner (q i) 0 - 1)

  into_marked : (i : ℕ) → i < m → q i ≢ 0 → get_or mk i 0 ≢ 0 → (into i < m) × (get_or p (into i) 0 ≡ q i) × (get_or mk (into i) 0 ≢ 0)
  into_marked i l some marked =
      let there = closed i (q i) l marked (assigns.allowed i l some) in
      let held = match.owns (get_or owner (q i) 0 - 1) (q i) there.0 there.1 (omega (arith, there.2)) in
      rw (marked_is (get_or mk i 0) i (get_or owner (q i) 0 - 1) marked) (held.0, held.1, there.3)

  into_unmarked : (i : ℕ) → get_or mk i 0 ≡ 0 → into i ≡ i
  into_unmarked i e = unmarked_is (get_or mk i 0) i (get_or owner (q i) 0 - 1) e

  into_some : (i : ℕ) → i < m → q i ≢ 0 → (into i < m) × (get_or p (into i) 0 ≢ 0)
  into_some i l some = elim (eqb_tells (get_or mk i 0) 0) [
    | inl e ↦ rw (into_unmarked i e.1) (l, λ none. settled i l none e.1)
    | inr e ↦ let there = into_marked i l some e.1 in (there.0, rw there.1 some)
  ]

  into_apart : (i k : ℕ) → i < m → k < m → q i ≢ 0 → q k ≢ 0 → into i ≡ into k → i ≡ k
  into_apart i k il kl si sk same = elim (eqb_tells (get_or mk i 0) 0) [
    | inl e ↦ elim (eqb_tells (get_or mk k 0) 0) [
      | inl e' ↦ sym (into_unmarked i e.1) ∙ same ∙ into_unmarked k e'.1
      | inr e' ↦
          let there = into_marked k kl sk e'.1 in
          let is : into k ≡ i = sym same ∙ into_unmarked i e.1 in
          absurd (there.2 (rw is e.1))
    ]
    | inr e ↦ elim (eqb_tells (get_or mk k 0) 0) [
      | inl e' ↦
          let there = into_marked i il si e.1 in
          let is : into i ≡ k = same ∙ into_unmarked k e'.1 in
          absurd (there.2 (rw is e'.1))
      | inr e' ↦
          let one = into_marked i il si e.1 in
          let two = into_marked k kl sk e'.1 in
          assigns.apart i k il kl si (sym one.1 ∙ ap (λ (x : ℕ). get_or p x 0) same ∙ two.1)
    ]
  ]

  pub covers_most : count_below q m ≤ count_below (λ i. get_or p i 0) m
  covers_most = count_injection q (λ i. get_or p i 0) into m m into_some into_apart

  pub covers_fewer : (i : ℕ) → i < m → q i ≡ 0 → get_or mk i 0 ≡ 0 → count_below q m < count_below (λ i. get_or p i 0) m
  covers_fewer i il none unmarked =
      let some : get_or p i 0 ≢ 0 = λ e. settled i il e unmarked in
      let more : count_below (λ x. get_or p x 0) m ≡ suc (count_below (without (λ x. get_or p x 0) i) m) = count_without (λ x. get_or p x 0) i m il some in
      let off : (k : ℕ) → k < m → q k ≢ 0 → into k ≢ i = λ k kl sk same. elim (eqb_tells (get_or mk k 0) 0) [
        | inl e ↦ let is : k ≡ i = sym (into_unmarked k e.1) ∙ same in sk (rw is none)
        | inr e ↦ let there = into_marked k kl sk e.1 in there.2 (rw same unmarked)
      ] in
      let few : count_below q m ≤ count_below (without (λ x. get_or p x 0) i) m = count_injection q (without (λ x. get_or p x 0) i) into m m
      (λ k kl sk. let there = into_some k kl sk in (there.0, rw (without_other (λ x. get_or p x 0) i (into k) (off k kl sk)) there.1))
      into_apart in
      omega arith
