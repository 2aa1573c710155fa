-- How many dummies and states there are.
use Rattle.std.proofs.Common.{◌≡◌, ℕ, zero, suc, ◌+◌, ◌-◌, ◌<◌, ◌≤◌, inl, inr, true, false, nat_lt, if◌then◌else◌, [], ◌∷◌, length, map, refl, ap, ◌∙◌, arith, length-append}
use Rattle.std.proofs.lemmas.List.{length-map}
use Rattle.std.proofs.lemmas.Bool.{cases_lt}
use Rattle.std.proofs.lemmas.Bool.Decides.{nat_tests}
use Rattle.mo_incidence.specs.Counting.{sum_below}
use Rattle.mo_incidence.specs.Signature.{Signature, equations, IsSound}
use Rattle.mo_incidence.specs.Assignment.{Assigns, CoversAll}
use Rattle.mo_incidence.specs.Offsets.{IsTight, sum_unknowns}
use Rattle.mo_incidence.proofs.Counting.{sum_same, sum_add, sum_injection, sum_without}
use Rattle.mo_incidence.specs.Dummies.{differentiated, dummy, dummies_to, greatest, dummies_of, states_below, states_to, states_of}
use Rattle.mo_blocks.specs.Stages.{derivatives_below}
use Rattle.mo_blocks.proofs.Dummying.{greatest_above, tight_low, states_of_one}
use Rattle.mo_incidence.proofs.Owning.{tight_known}

-- the smaller of two numbers
at_most : ℕ → ℕ → ℕ
at_most s x = if nat_lt s x then s else x

at_low : (s x : ℕ) → s < x → at_most s x ≡ s
unfolding at_most
at_low s x l = let yes : nat_lt s x ≡ true = grind (arith, nat_tests) in rw yes refl

at_high : (s x : ℕ) → x ≤ s → at_most s x ≡ x
unfolding at_most
at_high s x l = let no_lt : nat_lt s x ≡ false = grind (arith, nat_tests) in rw no_lt refl

length_diff : (c : ℕ → ℕ) (s m : ℕ) → length (differentiated c (suc s) m) + sum_below (λ i. at_most s (c i)) m ≡ sum_below (λ i. at_most (suc s) (c i)) m
length_diff c s zero = refl
length_diff c s (suc n) =
    let rest = length_diff c s n in
    elim (cases_lt (c n) (suc s)) [
      | inl l ↦
          let yes : nat_lt (c n) (suc s) ≡ true = grind (arith, nat_tests) in
          let a = at_high s (c n) (omega arith) in
          let b = at_high (suc s) (c n) (omega arith) in
          rw yes (omega arith)
      | inr l ↦
          let no_lt : nat_lt (c n) (suc s) ≡ false = grind (arith, nat_tests) in
          let a = at_low s (c n) (omega arith) in
          let b : at_most (suc s) (c n) ≡ suc s = elim (cases_lt (suc s) (c n)) [
            | inl h ↦ at_low (suc s) (c n) h
            | inr h ↦ at_high (suc s) (c n) h ∙ (omega arith)
          ] in
          let size = length-append (differentiated c (suc s) n) (n ∷ []) in
          rw no_lt (omega arith)
    ]

sum_none : (c : ℕ → ℕ) (n : ℕ) → 0 ≡ sum_below (λ i. at_most 0 (c i)) n
sum_none c zero = refl
sum_none c (suc n) =
    let rest = sum_none c n in
    let none : at_most 0 (c n) ≡ 0 = elim (cases_lt 0 (c n)) [
      | inl h ↦ at_low 0 (c n) h
      | inr h ↦ at_high 0 (c n) h ∙ (omega arith)
    ] in
    omega arith

length_dummies : (c d t : ℕ → ℕ) (m s : ℕ) → length (dummies_to c d t m s) ≡ sum_below (λ i. at_most s (c i)) m
length_dummies c d t m zero = sum_none c m
length_dummies c d t m (suc s) =
    let rest = length_dummies c d t m s in
    let more = length_diff c s m in
    let size = length-append (dummies_to c d t m s) (map (dummy d t (suc s)) (differentiated c (suc s) m)) in
    let mapped = length-map (differentiated c (suc s) m) (dummy d t (suc s)) in
    omega arith

-- each equation has as many dummies as derivatives
pub count_dummies : (c d t : ℕ → ℕ) (m : ℕ) → length (dummies_of c d t m) ≡ sum_below c m
count_dummies c d t m = length_dummies c d t m (greatest c m)
    ∙ sum_same (λ i. at_most (greatest c m) (c i)) c m (λ i l. at_high (greatest c m) (c i) (greatest_above c m i l))

length_below : (j k : ℕ) → length (derivatives_below j k) ≡ k
length_below j zero = refl
length_below j (suc k) =
    let rest = length_below j k in
    let size = length-append (derivatives_below j k) ((j, k) ∷ []) in
    omega arith

-- how many states an unknown has
states_at : (c d t : ℕ → ℕ) → ℕ → ℕ → ℕ
states_at c d t m j = length (states_below (dummies_of c d t m) j (d j))

length_states : (c d t : ℕ → ℕ) (m n : ℕ) → length (states_of c d t m n) ≡ sum_below (λ u. states_at c d t m (u + 1)) n
unfolding states_at
length_states c d t m zero = refl
length_states c d t m (suc n) =
    let rest = length_states c d t m n in
    let size = length-append (states_to (dummies_of c d t m) d n) (states_below (dummies_of c d t m) (suc n) (d (suc n))) in
    let here : states_at c d t m (n + 1) ≡ length (states_below (dummies_of c d t m) (suc n) (d (suc n))) = let next : n + 1 ≡ suc n = omega arith in rw next refl in
    omega arith

-- an unknown has as many states as its order exceeds the derivatives of its equation
states_at_holds : (c d t : ℕ → ℕ) (m i : ℕ) → i < m → ((x : ℕ) → x < m → t x ≡ t i → x ≡ i) → c i ≤ d (t i) → states_at c d t m (t i) + c i ≡ d (t i)
unfolding states_at
states_at_holds c d t m i l only low =
    let size = ap length (states_of_one c d t m (t i) i l refl only low) ∙ length_below (t i) (d (t i) - c i) in
    omega arith

term_below : (f : ℕ → ℕ) (n i : ℕ) → i < n → f i ≤ sum_below f n
term_below f n i l = omega (arith, sum_without f i n l)

sum_rest : (f : ℕ → ℕ) (b n : ℕ) → ((i : ℕ) → i < n → f i ≤ b) → sum_below (λ i. b - f i) n + sum_below f n ≡ sum_below (λ i. b) n
sum_rest f b n le =
    let added : sum_below (λ i. (b - f i) + f i) n ≡ sum_below (λ i. b - f i) n + sum_below f n = sum_add (λ i. b - f i) f n in
    let same : sum_below (λ i. (b - f i) + f i) n ≡ sum_below (λ i. b) n = sum_same (λ i. (b - f i) + f i) (λ i. b) n (λ i l. let h = le i l in omega arith) in
    omega arith

-- a sum over the numbers from 1 to n, in the order of a permutation of them
module _ (t : ℕ → ℕ) (n : ℕ) (known : (i : ℕ) → i < n → (0 < t i) × (t i ≤ n)) (apart : (i k : ℕ) → i < n → k < n → t i ≡ t k → i ≡ k) where
  back_apart : (i k : ℕ) → i < n → k < n → t i - 1 ≡ t k - 1 → i ≡ k
  back_apart i k il kl same =
      let one = known i il in
      let other = known k kl in
      apart i k il kl (omega (arith, one.0, other.0))

  back_again : (i : ℕ) → i < n → t i - 1 + 1 ≡ t i
  back_again i l = let at = known i l in omega (arith, at.0)

  sum_into : (f : ℕ → ℕ) → sum_below (λ i. f (t i)) n ≤ sum_below (λ u. f (u + 1)) n
  sum_into f = sum_injection (λ i. f (t i)) (λ u. f (u + 1)) (λ i. t i - 1) n n
      (λ i l _. let at = known i l in (omega (arith, at.0, at.1), rw (back_again i l) (omega arith)))
      (λ i k il kl _ _. back_apart i k il kl)

  sum_permuted : (f : ℕ → ℕ) → sum_below (λ i. f (t i)) n ≡ sum_below (λ u. f (u + 1)) n
  sum_permuted f =
      let b = sum_below (λ u. f (u + 1)) n in
      let bound : (u : ℕ) → u < n → f (u + 1) ≤ b = λ u l. term_below (λ u. f (u + 1)) n u l in
      let bound_t : (i : ℕ) → i < n → f (t i) ≤ b = λ i l. let at = known i l in let h : f (t i - 1 + 1) ≤ b = bound (t i - 1) (omega (arith, at.0, at.1)) in rw (back_again i l) at h in
      let into : sum_below (λ i. f (t i)) n ≤ sum_below (λ u. f (u + 1)) n = sum_into f in
      let rest_into : sum_below (λ i. b - f (t i)) n ≤ sum_below (λ u. b - f (u + 1)) n = sum_into (λ j. b - f j) in
      let whole : sum_below (λ u. b - f (u + 1)) n + sum_below (λ u. f (u + 1)) n ≡ sum_below (λ i. b) n = sum_rest (λ u. f (u + 1)) b n bound in
      let whole_t : sum_below (λ i. b - f (t i)) n + sum_below (λ i. f (t i)) n ≡ sum_below (λ i. b) n = sum_rest (λ i. f (t i)) b n bound_t in
      omega arith

sum_over : (g : Signature) (h : ℕ → ℕ) → sum_unknowns g h ≡ sum_below (λ u. h (u + 1)) g.unknowns
unfolding sum_unknowns
sum_over g h = refl

-- of the derivatives below the orders in d, those that are not states are as many as the derivatives of the equations
pub count_states : (g : Signature) (c d t : ℕ → ℕ) → IsSound g → equations g ≡ g.unknowns → Assigns (IsTight g c d) (equations g) t → CoversAll g t
    → length (states_of c d t (equations g) g.unknowns) + sum_below c (equations g) ≡ sum_unknowns g d
count_states g c d t sound square assigns all =
    let m = equations g in
    let known : (i : ℕ) → i < m → (0 < t i) × (t i ≤ m) = λ i l. let at = tight_known g c d i (t i) sound l (assigns.allowed i l (all i l)) in (at.0, omega (arith, at.1, square)) in
    let apart : (i k : ℕ) → i < m → k < m → t i ≡ t k → i ≡ k = λ i k il kl same. assigns.apart i k il kl (all i il) same in
    let each : (i : ℕ) → i < m → states_at c d t m (t i) + c i ≡ d (t i) =
    λ i l. states_at_holds c d t m i l (λ x xl same. apart x i xl l same) (tight_low g c d i (t i) (assigns.allowed i l (all i l))) in
    let states : sum_below (λ i. states_at c d t m (t i)) m ≡ sum_below (λ u. states_at c d t m (u + 1)) m = sum_permuted t m known apart (states_at c d t m) in
    let orders : sum_below (λ i. d (t i)) m ≡ sum_below (λ u. d (u + 1)) m = sum_permuted t m known apart d in
    let both : sum_below (λ i. states_at c d t m (t i) + c i) m ≡ sum_below (λ i. states_at c d t m (t i)) m + sum_below c m = sum_add (λ i. states_at c d t m (t i)) c m in
    let same : sum_below (λ i. states_at c d t m (t i) + c i) m ≡ sum_below (λ i. d (t i)) m = sum_same (λ i. states_at c d t m (t i) + c i) (λ i. d (t i)) m each in
    let size : length (states_of c d t m g.unknowns) ≡ sum_below (λ u. states_at c d t m (u + 1)) g.unknowns = length_states c d t m g.unknowns in
    let as_many : sum_below (λ u. states_at c d t m (u + 1)) m ≡ sum_below (λ u. states_at c d t m (u + 1)) g.unknowns = ap (sum_below (λ u. states_at c d t m (u + 1))) square in
    let as_high : sum_below (λ u. d (u + 1)) m ≡ sum_below (λ u. d (u + 1)) g.unknowns = ap (sum_below (λ u. d (u + 1))) square in
    let over : sum_unknowns g d ≡ sum_below (λ u. d (u + 1)) g.unknowns = sum_over g d in
    omega arith
