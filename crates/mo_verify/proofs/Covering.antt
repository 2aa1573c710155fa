-- Where all equations can have unknowns of their own, they are no more than the unknowns, and none is in a deficit.
use Rattle.std.proofs.Common.{◌≡◌, ◌≢◌, ℕ, zero, suc, ◌-◌, ◌<◌, ◌≤◌, inl, inr, List, length, get_or, refl, arith}
use Rattle.mo_graph.specs.Counting.{count_below}
use Rattle.mo_graph.proofs.Counting.{sign_cases, sign_some, count_full, count_injection}
use Rattle.mo_graph.proofs.Members.{at_contains}
use Rattle.mo_incidence.specs.Signature.{Signature, equations, IsSound}
use Rattle.mo_incidence.specs.Assignment.{Mentions, IsAssignment, CoversAll, CanCoverAll, IsDeficit}

covered : (f : ℕ → ℕ) (n : ℕ) → ((i : ℕ) → i < n → f i ≢ 0) → count_below f n ≡ n
covered f zero all = refl
covered f (suc n) all =
    let here = sign_some (f n) (all n (omega arith)) in
    let rest = covered f n (λ i l. all i (omega arith)) in
    omega (arith, here, rest)

counted : (f : ℕ → ℕ) (n : ℕ) → count_below f n ≤ n
counted f zero = omega arith
counted f (suc n) =
    let rest = counted f n in
    elim (sign_cases (f n)) [ inl e ↦ omega (arith, rest, e.1) | inr e ↦ omega (arith, rest, e.1) ]

mentioned_known : (g : Signature) → IsSound g → (i j : ℕ) → i < equations g → Mentions g i j → (0 < j) × (j ≤ g.unknowns)
unfolding Mentions
mentioned_known g sound i j below mentions = rw mentions.2 at (sound.known i mentions.0 below mentions.1)

pub no_more : (g : Signature) (q : ℕ → ℕ) → IsSound g → IsAssignment g q → CoversAll g q → equations g ≤ g.unknowns
no_more g q sound assigned all =
    let left = covered (λ _. 1) (equations g) (λ i l none. omega arith) in
    let right = covered (λ _. 1) g.unknowns (λ i l none. omega arith) in
    let into : count_below (λ _. 1) (equations g) ≤ count_below (λ _. 1) g.unknowns =
    count_injection (λ _. 1) (λ _. 1) (λ i. q i - 1) (equations g) g.unknowns
    (λ i l some. let known = mentioned_known g sound i (q i) l (assigned.allowed i l (all i l)) in (omega (arith, known.0, known.1), λ none. omega arith))
    (λ i k il kl a b same.
    let one = mentioned_known g sound i (q i) il (assigned.allowed i il (all i il)) in
    let other = mentioned_known g sound k (q k) kl (assigned.allowed k kl (all k kl)) in
    assigned.apart i k il kl (all i il) (omega (arith, one.0, other.0, same))) in
    omega (arith, left, right, into)

pub never_deficient : (g : Signature) → CanCoverAll g → (deficient mentioned : List ℕ) (k : ℕ) → k ≢ 0 → IsDeficit g deficient mentioned k → ⊥
never_deficient g can deficient mentioned k some deficit =
    let longer : 0 < length deficient = omega (arith, deficit.excess, some) in
    let known = deficit.equations.only (get_or deficient 0 0) (at_contains deficient (get_or deficient 0 0) 0 longer refl) in
    let there = known.2 in
    let below : there.0 < equations g = omega (arith, known.1, there.1) in
    let most = there.2.1.most can.0 can.1 in
    let all = covered can.0 (equations g) can.2 in
    let few = counted there.2.0 (equations g) in
    count_full there.2.0 (equations g) (omega (arith, most, all, few)) there.0 below there.2.2
