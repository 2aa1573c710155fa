-- Reasons show that offsets are least: in a square system the pairs are tight for every rival too, so along a reason the
-- rival's offset is above at least as far as at the reason, and reasons end at an offset of 0 (Pryce 2001).
use Rattle.std.proofs.Common.{◌≡◌, ℕ, zero, suc, ◌+◌, ◌-◌, ◌<◌, ◌≤◌, inl, inr, refl, List, arith, Bool, true, false, IsTrue}
use Rattle.std.proofs.lemmas.Bool.Decides.{eqb_tells}
use Rattle.mo_incidence.specs.Counting.{sum_below}
use Rattle.mo_incidence.specs.Signature.{Signature, equations, row_len, unknown_at, order_at, IsSound}
use Rattle.mo_incidence.specs.Assignment.{Assigns, CoversAll}
use Rattle.mo_incidence.specs.Offsets.{Fits, IsTight, IsAdmissible, AreBelow, IsLeast, AreReasons, after_reasons, by_place, by_number}
use Rattle.mo_incidence.specs.declared.findings.Reason.{Reason}
use Rattle.mo_incidence.proofs.Counting.{sum_same, sum_le, sum_add, sum_injection, sum_without, onto}
use Rattle.mo_certify.specs.Reasons.{AreShownLeast, reason_of}

-- sums with the same total, one nowhere above the other, have the same terms
terms_same : (f h : ℕ → ℕ) (n : ℕ) → ((i : ℕ) → i < n → f i ≤ h i) → sum_below h n ≤ sum_below f n → (i : ℕ) → i < n → f i ≡ h i
terms_same f h zero le total i l = absurd (omega arith)
terms_same f h (suc n) le total i l =
    let here : f n ≤ h n = le n (omega arith) in
    let rest : sum_below f n ≤ sum_below h n = sum_le f h n (λ k kl. le k (omega arith)) in
    elim (eqb_tells i n) [
      | inl e ↦ rw e.1 (omega arith)
      | inr e ↦ terms_same f h n (λ k kl. le k (omega arith)) (omega arith) i (omega (arith, e.1))
    ]

term_below : (f : ℕ → ℕ) (n i : ℕ) → i < n → f i ≤ sum_below f n
term_below f n i l = omega (arith, sum_without f i n l)

sum_rest : (f : ℕ → ℕ) (b n : ℕ) → ((i : ℕ) → i < n → f i ≤ b) → sum_below (λ i. b - f i) n + sum_below f n ≡ sum_below (λ i. b) n
sum_rest f b n le =
    let added : sum_below (λ i. (b - f i) + f i) n ≡ sum_below (λ i. b - f i) n + sum_below f n = sum_add (λ i. b - f i) f n in
    let same : sum_below (λ i. (b - f i) + f i) n ≡ sum_below (λ i. b) n = sum_same (λ i. (b - f i) + f i) (λ i. b) n (λ i l. let h = le i l in omega arith) in
    omega arith

-- t gives each of n numbers another one from 1 to n
pub record Permutes (t : ℕ → ℕ) (n : ℕ) : Type 0 where
  pub known : (i : ℕ) → i < n → (0 < t i) × (t i ≤ n)
  pub apart : (i k : ℕ) → i < n → k < n → t i ≡ t k → i ≡ k

module _ (t : ℕ → ℕ) (n : ℕ) (permutes : Permutes t n) where
  back_apart : (i k : ℕ) → i < n → k < n → t i - 1 ≡ t k - 1 → i ≡ k
  back_apart i k il kl same =
      let one = permutes.known i il in
      let other = permutes.known k kl in
      permutes.apart i k il kl (omega (arith, one.0, other.0))

  back_again : (i : ℕ) → i < n → t i - 1 + 1 ≡ t i
  back_again i l = let known = permutes.known i l in omega (arith, known.0)

  sum_into : (f : ℕ → ℕ) → sum_below (λ i. f (t i)) n ≤ sum_below (λ u. f (u + 1)) n
  sum_into f = sum_injection (λ i. f (t i)) (λ u. f (u + 1)) (λ i. t i - 1) n n
      (λ i l _. let known = permutes.known i l in (omega (arith, known.0, known.1), rw (back_again i l) (omega arith)))
      (λ i k il kl _ _. back_apart i k il kl)

  sum_permuted : (f : ℕ → ℕ) → sum_below (λ i. f (t i)) n ≡ sum_below (λ u. f (u + 1)) n
  sum_permuted f =
      let b = sum_below (λ u. f (u + 1)) n in
      let bound : (u : ℕ) → u < n → f (u + 1) ≤ b = λ u l. term_below (λ u. f (u + 1)) n u l in
      let bound_t : (i : ℕ) → i < n → f (t i) ≤ b = λ i l. let known = permutes.known i l in let h : f (t i - 1 + 1) ≤ b = bound (t i - 1) (omega (arith, known.0, known.1)) in rw (back_again i l) at h in
      let into : sum_below (λ i. f (t i)) n ≤ sum_below (λ u. f (u + 1)) n = sum_into f in
      let rest_into : sum_below (λ i. b - f (t i)) n ≤ sum_below (λ u. b - f (u + 1)) n = sum_into (λ j. b - f j) in
      let whole : sum_below (λ u. b - f (u + 1)) n + sum_below (λ u. f (u + 1)) n ≡ sum_below (λ i. b) n = sum_rest (λ u. f (u + 1)) b n bound in
      let whole_t : sum_below (λ i. b - f (t i)) n + sum_below (λ i. f (t i)) n ≡ sum_below (λ i. b) n = sum_rest (λ i. f (t i)) b n bound_t in
      omega arith

  pub reached : (j : ℕ) → 0 < j → j ≤ n → (i : ℕ) × (i < n) × (t i ≡ j)
  reached j pos le =
      let found = onto (λ _. 1) (λ i. t i - 1) n
      (λ i l _. let known = permutes.known i l in (omega (arith, known.0, known.1), omega arith))
      (λ i k il kl _ _. back_apart i k il kl) (j - 1) (omega arith) (omega arith) in
      (found.0, found.1, let again = back_again found.0 found.1 in omega (arith, again, found.3))

pub tight_entry : (g : Signature) (c d : ℕ → ℕ) (i j : ℕ) → IsTight g c d i j → (k : ℕ) × (k < row_len g i) × (unknown_at g i k ≡ j) × (d j ≡ c i + order_at g i k)
unfolding IsTight
tight_entry g c d i j tight = tight

-- an entry that is tight for the one offsets is within the other ones
tight_within : (g : Signature) (c d c' d' : ℕ → ℕ) → Fits g c' d' → (i j : ℕ) → i < equations g → IsTight g c d i j → c' i + d j ≤ d' j + c i
tight_within g c d c' d' fits i j l tight =
    let entry = tight_entry g c d i j tight in
    let fit : c' i + order_at g i entry.0 ≤ d' j = rw entry.2 at (fits.entry i entry.0 l entry.1) in
    omega (arith, entry.3)

pub assigns_permute : (g : Signature) (c d t : ℕ → ℕ) → IsSound g → equations g ≡ g.unknowns → Assigns (IsTight g c d) (equations g) t → CoversAll g t → Permutes t (equations g)
assigns_permute g c d t sound square assigns covers = record {
  known = λ i l.
      let entry = tight_entry g c d i (t i) (assigns.allowed i l (covers i l)) in
      let known : (0 < t i) × (t i ≤ g.unknowns) = rw entry.2 at (sound.known i entry.0 l entry.1) in
      (known.0, omega (arith, known.1));
  apart = λ i k il kl same. assigns.apart i k il kl (covers i il) same;
}

module _ (g : Signature) (c d t : ℕ → ℕ) (sound : IsSound g) (square : equations g ≡ g.unknowns) (fits : Fits g c d)
    (assigns : Assigns (IsTight g c d) (equations g) t) (covers : CoversAll g t)
    (c' d' : ℕ → ℕ) (rival : IsAdmissible g c' d') where
  permutes : Permutes t (equations g)
  permutes = assigns_permute g c d t sound square assigns covers

  rival_permutes : Permutes rival.tight.0 (equations g)
  rival_permutes = assigns_permute g c' d' rival.tight.0 sound square rival.tight.1 rival.tight.2

  here_within : (i : ℕ) → i < equations g → c' i + d (t i) ≤ d' (t i) + c i
  here_within i l = tight_within g c d c' d' rival.fits i (t i) l (assigns.allowed i l (covers i l))

  there_within : (i : ℕ) → i < equations g → c i + d' (rival.tight.0 i) ≤ d (rival.tight.0 i) + c' i
  there_within i l = tight_within g c' d' c d fits i (rival.tight.0 i) l (rival.tight.1.allowed i l (rival.tight.2 i l))

  -- the rival is tight at the same pairs
  pub tight_for_both : (i : ℕ) → i < equations g → c' i + d (t i) ≡ d' (t i) + c i
  tight_for_both =
      let m = equations g in
      let q = rival.tight.0 in
      let there : sum_below (λ i. c i + d' (q i)) m ≤ sum_below (λ i. d (q i) + c' i) m = sum_le (λ i. c i + d' (q i)) (λ i. d (q i) + c' i) m there_within in
      let there_left : sum_below (λ i. c i + d' (q i)) m ≡ sum_below c m + sum_below (λ i. d' (q i)) m = sum_add c (λ i. d' (q i)) m in
      let there_right : sum_below (λ i. d (q i) + c' i) m ≡ sum_below (λ i. d (q i)) m + sum_below c' m = sum_add (λ i. d (q i)) c' m in
      let left : sum_below (λ i. c' i + d (t i)) m ≡ sum_below c' m + sum_below (λ i. d (t i)) m = sum_add c' (λ i. d (t i)) m in
      let right : sum_below (λ i. d' (t i) + c i) m ≡ sum_below (λ i. d' (t i)) m + sum_below c m = sum_add (λ i. d' (t i)) c m in
      let own : sum_below (λ i. d (t i)) m ≡ sum_below (λ u. d (u + 1)) m = sum_permuted t m permutes d in
      let own' : sum_below (λ i. d' (t i)) m ≡ sum_below (λ u. d' (u + 1)) m = sum_permuted t m permutes d' in
      let other : sum_below (λ i. d (q i)) m ≡ sum_below (λ u. d (u + 1)) m = sum_permuted q m rival_permutes d in
      let other' : sum_below (λ i. d' (q i)) m ≡ sum_below (λ u. d' (u + 1)) m = sum_permuted q m rival_permutes d' in
      terms_same (λ i. c' i + d (t i)) (λ i. d' (t i) + c i) m here_within (omega arith)

  -- where the rival is above at an equation that is tight at the unknown of another one, it is above at that one too
  pub above_along : (i k : ℕ) → i < equations g → k < equations g → IsTight g c d k (t i) → c k ≤ c' k → c i ≤ c' i
  above_along i k l known tight lower =
      let within : c' k + d (t i) ≤ d' (t i) + c k = tight_within g c d c' d' rival.fits k (t i) known tight in
      omega (arith, tight_for_both i l)

  -- where it is above at all equations, it is above at all unknowns
  pub above_all : ((i : ℕ) → i < equations g → c i ≤ c' i) → AreBelow g c d c' d'
  above_all lower = record {
    equation = lower;
    unknown = λ j pos le.
        let paired = reached t (equations g) permutes j pos (omega arith) in
        let both : c' paired.0 + d j ≡ d' j + c paired.0 = rw paired.2 at (tight_for_both paired.0 paired.1) in
        let here : c paired.0 ≤ c' paired.0 = lower paired.0 paired.1 in
        omega arith;
  }

module _ (g : Signature) (c d t r : ℕ → ℕ) (sound : IsSound g) (square : equations g ≡ g.unknowns) (fits : Fits g c d)
    (assigns : Assigns (IsTight g c d) (equations g) t) (covers : CoversAll g t) (why : AreReasons g c d t r)
    (c' d' : ℕ → ℕ) (rival : IsAdmissible g c' d') where
  equation_below : (n i : ℕ) → i < equations g → c (after_reasons r n i) ≡ 0 → c i ≤ c' i
  equation_below zero i l none = let h : c i ≡ 0 = none in omega arith
  equation_below (suc n) i l none = elim (eqb_tells (c i) 0) [
    | inl e ↦ omega (arith, e.1)
    | inr e ↦
        let reason = why.tight i l e.1 in
        above_along g c d t sound square fits assigns covers c' d' rival i (r i) l reason.0 reason.2 (equation_below n (r i) reason.0 none)
  ]

  below_rival : AreBelow g c d c' d'
  below_rival = above_all g c d t sound square fits assigns covers c' d' rival (λ i l. let ends = why.ends i l in equation_below ends.0 i l ends.1)

shown_least : (g : Signature) (c d pairs : List ℕ) (reasons : List Reason) → IsSound g → AreShownLeast g c d pairs reasons → IsLeast g (by_place c) (by_number d)
shown_least g c d pairs reasons sound shown = record {
  admissible = record { fits = shown.offsets.fits; tight = (by_place pairs, shown.offsets.tight, shown.offsets.covers) };
  least = record {
    below = λ c' d' rival. below_rival g (by_place c) (by_number d) (by_place pairs) (reason_of reasons) sound shown.square shown.offsets.fits
        shown.offsets.tight shown.offsets.covers shown.lead_to_zero c' d' rival;
  };
}

truth_by : (b : Bool) → (b ≡ false → ⊥) → IsTrue b
truth_by true refuted = refl
truth_by false refuted = absurd (refuted refl)

-- what an answer about equal lists says of these
module _ (g : Signature) (c d pairs c' d' pairs' : List ℕ) (why : List Reason) (yes : Bool)
    (same_c : c' ≡ c) (same_d : d' ≡ d) (same_pairs : pairs' ≡ pairs)
    (shown : yes ≡ true → AreShownLeast g c' d' pairs' why) where
  there : AreShownLeast g c' d' pairs' why → AreShownLeast g c d pairs why
  there h = rw (same_c, same_d, same_pairs) at h

  here : AreShownLeast g c d pairs why → AreShownLeast g c' d' pairs' why
  here h = rw (same_c, same_d, same_pairs) h

  pub answer_exact : (yes ≡ false → AreShownLeast g c' d' pairs' why → ⊥) → (IsTrue yes → AreShownLeast g c d pairs why) × (AreShownLeast g c d pairs why → IsTrue yes)
  answer_exact refused = (λ e. there (shown e), λ h. truth_by yes (λ e. refused e (here h)))

  pub answer_least : IsSound g → IsTrue yes → IsLeast g (by_place c) (by_number d)
  answer_least sound e = shown_least g c d pairs why sound (there (shown e))
