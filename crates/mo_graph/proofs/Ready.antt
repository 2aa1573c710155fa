-- Sets of vertices that are ready.
use Rattle.std.proofs.Common.{◌≡◌, ◌≢◌, ℕ, ◌<◌, ◌≤◌, ◌⊎◌, true, false, List, [], ◌∷◌, length, refl, arith}
use Rattle.std.specs.Prelude.{IsTrue}
use Rattle.std.proofs.lemmas.Bool.{false≢true}
use Rattle.std.proofs.lemmas.Bool.Decides.{nat_tests}
use Rattle.std.specs.BTreeSet.{BTreeSet, contains, IsEmpty, Updates, IsLowerBound}
use Rattle.std.specs.Ordering.{nat_cmp}
use Rattle.mo_graph.specs.steps.Placing.{Has}

pub has_none : (s : BTreeSet ℕ) (q : ℕ) → IsEmpty s → Has s q → ⊥
unfolding Has
has_none s q e h = grind (arith, nat_tests, e, h)

module _ (s n : BTreeSet ℕ) (k : ℕ) where
  pub has_old : Updates nat_cmp s n k true → (q : ℕ) → Has s q → Has n q
  unfolding Has
  has_old up q h = grind (arith, nat_tests, up.0 q, h)

  pub has_new : Updates nat_cmp s n k true → Has n k
  unfolding Has
  has_new up = grind (arith, nat_tests, up.0 k)

  pub has_either : Updates nat_cmp s n k true → (q : ℕ) → Has n q → Has s q ⊎ (q ≡ k)
  unfolding Has
  has_either up q h = grind (arith, nat_tests, up.0 q, h)

  pub has_rest : Updates nat_cmp s n k false → (q : ℕ) → Has n q → Has s q × (q ≢ k)
  unfolding Has
  has_rest up q h = grind (arith, nat_tests, up.0 q, h)

  pub has_still : Updates nat_cmp s n k false → (q : ℕ) → Has s q → q ≢ k → Has n q
  unfolding Has
  has_still up q h ne = grind (arith, nat_tests, up.0 q, h)

pub has_least : (s : BTreeSet ℕ) (k : ℕ) → IsLowerBound nat_cmp s k → (q : ℕ) → Has s q → k ≤ q
unfolding Has
has_least s k low q h = grind (arith, nat_tests, low q, h)

pub has_member : (s : BTreeSet ℕ) (q : ℕ) → IsTrue (contains nat_cmp s q) → Has s q
unfolding Has
has_member s q h = h

empty_list : (xs : List ℕ) → (0 < length xs → false ≡ true) → xs ≡ []
empty_list [] none = refl
empty_list (x ∷ xs) none = absurd (false≢true (none (omega arith)))

pub empty_at : (s : BTreeSet ℕ) → (0 < length s.keys → false ≡ true) → IsEmpty s
empty_at s none = empty_list s.keys none
