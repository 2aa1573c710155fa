-- The entries that the search uses are the tight ones.
use Rattle.std.proofs.Common.{◌≡◌, ℕ, ◌+◌, ◌-◌, ◌<◌, List, get_or, refl}
use Rattle.mo_incidence.specs.Signature.{Signature, equations, row_len, unknown_at, order_at}
use Rattle.mo_incidence.specs.Assignment.{Assigns}
use Rattle.mo_incidence.specs.Offsets.{IsTight, by_place, by_number}
use Rattle.mo_match.specs.Searching.{tight_of, UsesEntry, Uses, IsMatching}
use Rattle.mo_match.proofs.Covering.{matching_assigns}

pub entry_tight : (g : Signature) (c d : List ℕ) (i k : ℕ) → UsesEntry (tight_of g c d) i k → get_or d (unknown_at g i k - 1) 0 ≡ get_or c i 0 + order_at g i k
unfolding UsesEntry
entry_tight g c d i k u = u refl

pub tight_entry : (g : Signature) (c d : List ℕ) (i k : ℕ) → get_or d (unknown_at g i k - 1) 0 ≡ get_or c i 0 + order_at g i k → UsesEntry (tight_of g c d) i k
unfolding UsesEntry
tight_entry g c d i k e = λ _. e

pub used_entry : (g : Signature) (c d : List ℕ) (i j : ℕ) → Uses (tight_of g c d) i j
    → (k : ℕ) × (k < row_len g i) × (unknown_at g i k ≡ j) × (get_or d (j - 1) 0 ≡ get_or c i 0 + order_at g i k)
unfolding Uses
used_entry g c d i j u = (u.0, u.1, u.2, rw u.2 at (entry_tight g c d i u.0 u.3))

pub entry_used : (g : Signature) (c d : List ℕ) (i j k : ℕ) → k < row_len g i → unknown_at g i k ≡ j → get_or d (j - 1) 0 ≡ get_or c i 0 + order_at g i k → Uses (tight_of g c d) i j
unfolding Uses
entry_used g c d i j k l is e = (k, l, is, tight_entry g c d i k (rw is e))

pub uses_tight : (g : Signature) (c d : List ℕ) (i j : ℕ) → Uses (tight_of g c d) i j → IsTight g (by_place c) (by_number d) i j
unfolding IsTight
uses_tight g c d i j u = used_entry g c d i j u

pub tight_uses : (g : Signature) (c d : List ℕ) (i j : ℕ) → IsTight g (by_place c) (by_number d) i j → Uses (tight_of g c d) i j
unfolding IsTight
tight_uses g c d i j t = entry_used g c d i j t.0 t.1 t.2 t.3

pub tight_entry_of : (g : Signature) (c d : ℕ → ℕ) (i j : ℕ) → IsTight g c d i j → (k : ℕ) × (k < row_len g i) × (unknown_at g i k ≡ j) × (d j ≡ c i + order_at g i k)
unfolding IsTight
tight_entry_of g c d i j t = t

pub pairs_tight : (g : Signature) (c d p owner : List ℕ) → IsMatching (Uses (tight_of g c d)) (equations g) g.unknowns p owner
    → Assigns (IsTight g (by_place c) (by_number d)) (equations g) (by_place p)
pairs_tight g c d p owner match =
    let assigns = matching_assigns match in
    record { allowed = λ i l some. uses_tight g c d i (get_or p i 0) (assigns.allowed i l some); apart = assigns.apart }
