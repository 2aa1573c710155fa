-- Sums and counts over the numbers below a bound, and what an injection says of them.
use Rattle.std.proofs.Common.{◌≡◌, ◌≢◌, ℕ, zero, suc, ◌+◌, ◌<◌, ◌≤◌, ◌==◌, ◌⊎◌, inl, inr, if◌then◌else◌, refl, sym, ap, arith}
use Rattle.std.proofs.lemmas.Bool.Decides.{nat_tests, eqb_tells}
use Rattle.mo_graph.specs.Counting.{sum_below, sign, count_below}

-- f with 0 at k
abbrev pub without : (ℕ → ℕ) → ℕ → ℕ → ℕ
without f k i = if i == k then 0 else f i

-- f with v at k
abbrev pub changed : (ℕ → ℕ) → ℕ → ℕ → ℕ → ℕ
changed f k v i = if i == k then v else f i

pub without_same : (f : ℕ → ℕ) (k : ℕ) → without f k k ≡ 0
without_same f k = grind (arith, nat_tests)

pub without_other : (f : ℕ → ℕ) (k i : ℕ) → i ≢ k → without f k i ≡ f i
without_other f k i ne = grind (arith, nat_tests)

pub changed_same : (f : ℕ → ℕ) (k v : ℕ) → changed f k v k ≡ v
changed_same f k v = grind (arith, nat_tests)

pub changed_other : (f : ℕ → ℕ) (k v i : ℕ) → i ≢ k → changed f k v i ≡ f i
changed_other f k v i ne = grind (arith, nat_tests)

pub sign_zero : (x : ℕ) → x ≡ 0 → sign x ≡ 0
sign_zero x e = grind (arith, nat_tests)

pub sign_some : (x : ℕ) → x ≢ 0 → sign x ≡ 1
sign_some x ne = grind (arith, nat_tests)

pub sign_cases : (x : ℕ) → ((x ≡ 0) × (sign x ≡ 0)) ⊎ ((x ≢ 0) × (sign x ≡ 1))
sign_cases x = elim (eqb_tells x 0) [ inl e ↦ inl (e.1, sign_zero x e.1) | inr e ↦ inr (e.1, sign_some x e.1) ]

pub sum_same : (f g : ℕ → ℕ) (n : ℕ) → ((i : ℕ) → i < n → f i ≡ g i) → sum_below f n ≡ sum_below g n
sum_same f g zero h = refl
sum_same f g (suc n) h =
    let here : f n ≡ g n = h n (omega arith) in
    let rest : sum_below f n ≡ sum_below g n = sum_same f g n (λ i l. h i (omega arith)) in
    omega arith

pub sum_le : (f g : ℕ → ℕ) (n : ℕ) → ((i : ℕ) → i < n → f i ≤ g i) → sum_below f n ≤ sum_below g n
sum_le f g zero h = omega arith
sum_le f g (suc n) h =
    let here : f n ≤ g n = h n (omega arith) in
    let rest : sum_below f n ≤ sum_below g n = sum_le f g n (λ i l. h i (omega arith)) in
    omega arith

pub sum_add : (f g : ℕ → ℕ) (n : ℕ) → sum_below (λ i. f i + g i) n ≡ sum_below f n + sum_below g n
sum_add f g zero = refl
sum_add f g (suc n) =
    let rest : sum_below (λ i. f i + g i) n ≡ sum_below f n + sum_below g n = sum_add f g n in
    omega arith

pub sum_more : (f : ℕ → ℕ) (n m : ℕ) → n ≤ m → sum_below f n ≤ sum_below f m
sum_more f n zero l = let none : n ≡ 0 = omega arith in rw none (omega arith)
sum_more f n (suc m) l = elim (eqb_tells n (suc m)) [
  | inl e ↦ rw e.1 (omega arith)
  | inr e ↦ let rest : sum_below f n ≤ sum_below f m = sum_more f n m (omega (arith, e.1)) in omega arith
]

pub sum_without : (f : ℕ → ℕ) (k n : ℕ) → k < n → sum_below f n ≡ f k + sum_below (without f k) n
sum_without f k zero l = absurd (omega arith)
sum_without f k (suc n) l = elim (eqb_tells k n) [
  | inl e ↦
      let k_is : k ≡ n = e.1 in
      let here : without f k n ≡ 0 = rw k_is (without_same f n) in
      let at : f k ≡ f n = ap f k_is in
      let rest : sum_below f n ≡ sum_below (without f k) n = sum_same f (without f k) n (λ i il. let ne : i ≢ k = omega arith in sym (without_other f k i ne)) in
      omega arith
  | inr e ↦
      let apart : n ≢ k = omega (arith, e.1) in
      let here : without f k n ≡ f n = without_other f k n apart in
      let rest : sum_below f n ≡ f k + sum_below (without f k) n = sum_without f k n (omega (arith, e.1)) in
      omega arith
]

-- f on the numbers below m goes into g on those below n
pub sum_injection : (f g φ : ℕ → ℕ) (m n : ℕ)
    → ((i : ℕ) → i < m → f i ≢ 0 → (φ i < n) × (f i ≤ g (φ i)))
    → ((i k : ℕ) → i < m → k < m → f i ≢ 0 → f k ≢ 0 → φ i ≡ φ k → i ≡ k)
    → sum_below f m ≤ sum_below g n
sum_injection f g φ zero n into apart = omega arith
sum_injection f g φ (suc m) n into apart = elim (eqb_tells (f m) 0) [
  | inl e ↦
      let none : f m ≡ 0 = e.1 in
      let rest : sum_below f m ≤ sum_below g n = sum_injection f g φ m n (λ i l. into i (omega arith)) (λ i k il kl. apart i k (omega arith) (omega arith)) in
      omega arith
  | inr e ↦
      let some : f m ≢ 0 = e.1 in
      let here = into m (omega arith) some in
      let whole : sum_below g n ≡ g (φ m) + sum_below (without g (φ m)) n = sum_without g (φ m) n here.0 in
      let rest : sum_below f m ≤ sum_below (without g (φ m)) n = sum_injection f (without g (φ m)) φ m n
      (λ i l fi.
      let there = into i (omega arith) fi in
      let ne : φ i ≢ φ m = λ same. let i_is : i ≡ m = apart i m (omega arith) (omega arith) fi some same in omega arith in
      (there.0, rw (without_other g (φ m) (φ i) ne) there.1))
      (λ i k il kl. apart i k (omega arith) (omega arith)) in
      omega (arith, here.1)
]

pub search_below : (f : ℕ → ℕ) (n : ℕ) → ((i : ℕ) × (i < n) × (f i ≢ 0)) ⊎ ((i : ℕ) → i < n → f i ≡ 0)
search_below f zero = inr (λ i l. absurd (omega arith))
search_below f (suc n) = elim (eqb_tells (f n) 0) [
  | inr e ↦ inl (n, omega arith, e.1)
  | inl e ↦ elim (search_below f n) [
    | inl w ↦ inl (w.0, omega (arith, w.1), w.2)
    | inr none ↦ inr (λ i l. elim (eqb_tells i n) [
      | inl s ↦ let same : i ≡ n = s.1 in rw same e.1
      | inr s ↦ none i (omega (arith, s.1))
    ])
  ]
]

pub count_injection : (f g φ : ℕ → ℕ) (m n : ℕ)
    → ((i : ℕ) → i < m → f i ≢ 0 → (φ i < n) × (g (φ i) ≢ 0))
    → ((i k : ℕ) → i < m → k < m → f i ≢ 0 → f k ≢ 0 → φ i ≡ φ k → i ≡ k)
    → count_below f m ≤ count_below g n
count_injection f g φ m n into apart =
    let back : (x : ℕ) → sign x ≢ 0 → x ≢ 0 = λ x s e. s (sign_zero x e) in
    sum_injection (λ i. sign (f i)) (λ i. sign (g i)) φ m n
    (λ i l s. let there = into i l (back (f i) s) in
    let one : sign (f i) ≡ 1 = sign_some (f i) (back (f i) s) in
    let other : sign (g (φ i)) ≡ 1 = sign_some (g (φ i)) there.1 in
    (there.0, omega arith))
    (λ i k il kl s t. apart i k il kl (back (f i) s) (back (f k) t))

pub count_same : (f g : ℕ → ℕ) (n : ℕ) → ((i : ℕ) → i < n → f i ≡ g i) → count_below f n ≡ count_below g n
count_same f g n h = sum_same (λ i. sign (f i)) (λ i. sign (g i)) n (λ i l. ap sign (h i l))

pub count_ones : (n : ℕ) → count_below (λ _. 1) n ≡ n
count_ones zero = refl
count_ones (suc n) = let rest : count_below (λ _. 1) n ≡ n = count_ones n in omega arith

pub count_without : (f : ℕ → ℕ) (k n : ℕ) → k < n → f k ≢ 0 → count_below f n ≡ suc (count_below (without f k) n)
count_without f k n l some =
    let whole : count_below f n ≡ sign (f k) + sum_below (without (λ i. sign (f i)) k) n = sum_without (λ i. sign (f i)) k n l in
    let one : sign (f k) ≡ 1 = sign_some (f k) some in
    let rest : sum_below (without (λ i. sign (f i)) k) n ≡ count_below (without f k) n =
    sum_same (without (λ i. sign (f i)) k) (λ i. sign (without f k i)) n
    (λ i il. elim (eqb_tells i k) [
      | inl e ↦ let same : i ≡ k = e.1 in rw same (rw (without_same (λ i. sign (f i)) k, without_same f k) refl)
      | inr e ↦ rw (without_other (λ i. sign (f i)) k i e.1, without_other f k i e.1) refl
    ]) in
    omega arith

-- an injection of a finite set into itself reaches each of its members
pub onto : (f φ : ℕ → ℕ) (m : ℕ)
    → ((i : ℕ) → i < m → f i ≢ 0 → (φ i < m) × (f (φ i) ≢ 0))
    → ((i k : ℕ) → i < m → k < m → f i ≢ 0 → f k ≢ 0 → φ i ≡ φ k → i ≡ k)
    → (k : ℕ) → k < m → f k ≢ 0 → (i : ℕ) × (i < m) × (f i ≢ 0) × (φ i ≡ k)
onto f φ m into apart k kl some =
    let hit : ℕ → ℕ = λ i. if φ i == k then f i else 0 in
    elim (search_below hit m) [
      | inl w ↦
          elim (eqb_tells (φ w.0) k) [
            | inl e ↦ (w.0, w.1, (λ none. w.2 (grind (arith, nat_tests, e.1))), e.1)
            | inr e ↦ absurd (w.2 (grind (arith, nat_tests, e.1)))
          ]
      | inr none ↦
          let missed : (i : ℕ) → i < m → f i ≢ 0 → φ i ≢ k = λ i l fi same. fi (let h = none i l in grind (arith, nat_tests)) in
          let fewer : count_below f m ≤ count_below (without f k) m = count_injection f (without f k) φ m m
          (λ i l fi. let there = into i l fi in (there.0, rw (without_other f k (φ i) (missed i l fi)) there.1)) apart in
          let more : count_below f m ≡ suc (count_below (without f k) m) = count_without f k m kl some in
          absurd (omega arith)
    ]

-- n different numbers below m
pub distinct_room : (f : ℕ → ℕ) (n m : ℕ) → ((t : ℕ) → t < n → f t < m) → ((s t : ℕ) → s < n → t < n → f s ≡ f t → s ≡ t) → n ≤ m
distinct_room f n m within apart =
    let few : count_below (λ _. 1) n ≤ count_below (λ _. 1) m = count_injection (λ _. 1) (λ _. 1) f n m (λ t l _. (within t l, omega arith)) (λ s t sl tl _ _. apart s t sl tl) in
    omega (arith, count_ones n, count_ones m)

-- all numbers below n count
pub count_full : (f : ℕ → ℕ) (n : ℕ) → count_below f n ≡ n → (i : ℕ) → i < n → f i ≢ 0
count_full f n full i l none =
    let fewer : count_below f n ≤ count_below (without (λ _. 1) i) n = count_injection f (without (λ _. 1) i) (λ k. k) n n
    (λ k kl some.
    let ne : k ≢ i = λ same. some (rw same none) in
    let one : without (λ _. 1) i k ≡ 1 = without_other (λ _. 1) i k ne in
    (kl, omega arith))
    (λ k k' _ _ _ _ same. same) in
    let more : count_below (λ _. 1) n ≡ suc (count_below (without (λ _. 1) i) n) = count_without (λ _. 1) i n l (omega arith) in
    omega (arith, count_ones n)
