-- Entries that may be used.
use Rattle.std.proofs.Common.{◌≡◌, ◌≢◌, ℕ, ◌+◌, ◌-◌, ◌<◌, true, false, get_or, arith}
use Rattle.mo_incidence.specs.Signature.{row_len, unknown_at, order_at}
use Rattle.mo_match.specs.Searching.{Bipartite, UsesEntry, Uses}

module _ (b : Bipartite) (i k j s x y : ℕ) (unknown : j ≡ unknown_at b.signature i k) (order : s ≡ order_at b.signature i k)
    (offset : x ≡ get_or b.c i 0) (highest : y ≡ get_or b.d (j - 1) 0) where
  pub entry_allowed : y ≡ x + s → UsesEntry b i k
  unfolding UsesEntry
  entry_allowed e = λ _. rw (← unknown) (omega arith)

  pub entry_refused : b.tight ≡ true → y ≢ x + s → UsesEntry b i k → ⊥
  unfolding UsesEntry
  entry_refused tight ne uses = let e : get_or b.d (j - 1) 0 ≡ get_or b.c i 0 + order_at b.signature i k = rw unknown (uses tight) in ne (omega arith)

pub entry_loose : (b : Bipartite) (i k : ℕ) → b.tight ≡ false → UsesEntry b i k
unfolding UsesEntry
entry_loose b i k loose = λ tight. absurd cc

pub uses : (b : Bipartite) (i k j : ℕ) → k < row_len b.signature i → unknown_at b.signature i k ≡ j → UsesEntry b i k → Uses b i j
unfolding Uses
uses b i k j l e u = (k, l, e, u)
