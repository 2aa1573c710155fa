-- What a vector holds after its slice was written, and the lists made from it.
use Rattle.std.proofs.Common.{◌≡◌, ◌≢◌, ℕ, suc, ◌+◌, ◌-◌, ◌<◌, ◌≤◌, inl, inr, false, List, ◌++◌, length, get_or, take, drop, sym, ap, ◌∙◌, arith, subst}
use Rattle.std.proofs.Math.Seq.{take-append_seam}
use Rattle.std.proofs.lemmas.Bool.Decides.{eqb_tells}
use Rattle.mo_incidence.specs.Signature.{Signature, equations, IsSound}
use Rattle.mo_incidence.specs.Counting.{count_below}
use Rattle.mo_incidence.specs.Assignment.{CoversAll, IsLargest, IsDeficit, IsUndetermined, ListsWhere}
use Rattle.mo_incidence.proofs.Counting.{count_full}
use Rattle.mo_incidence.specs.Offsets.{by_place}
use Rattle.mo_match.specs.Searching.{Bipartite, IsMatching, IsAssignedTo}
use Rattle.mo_match.specs.steps.Lists.{numbers_where, reached}
use Rattle.mo_match.proofs.Excess.{assigned_largest, assigned_deficit}
use Rattle.mo_match.proofs.ListLemmas.{lists_where}

pub written_back : (n : ℕ) (new old : List ℕ) → length new ≡ length old → n ≡ length old → take n (new ++ drop (length new) old) ≡ new
written_back n new old same all =
    let size : n ≡ length new = all ∙ sym same in
    rw size (take-append_seam new (drop (length new) old))

pub owner_small : {E : ℕ → ℕ → Type 0} {m n : ℕ} {p owner : List ℕ} → IsMatching E m n p owner → (j : ℕ) → j < length owner → 0 < j → get_or owner j 0 ≤ m
owner_small {owner = owner} match j l above = elim (eqb_tells (get_or owner j 0) 0) [
  | inl e ↦ rw e.1 (omega arith)
  | inr e ↦
      let back : get_or owner j 0 ≡ suc (get_or owner j 0 - 1) = omega (arith, e.1) in
      let held = match.owns (get_or owner j 0 - 1) j above (omega (arith, match.unknowns_all)) back in
      omega (arith, held.0)
]

module _ (g : Signature) (b : Bipartite) (p owner q par mk : List ℕ) (t : ℕ) (of : b.signature ≡ g) (loose : b.tight ≡ false) (sound : IsSound g)
    (to : IsAssignedTo b p owner q par mk t (equations b.signature)) where
  pub found_largest : IsLargest g (by_place p)
  found_largest = rw of at (assigned_largest b p owner q par mk t loose (rw of sound) to)

  pub found_deficit : (k : ℕ) (p' owner' mk' xs ys : List ℕ) → p' ≡ p → owner' ≡ owner → mk' ≡ mk
      → count_below (by_place p') (length p') + k ≡ length p'
      → xs ≡ numbers_where (by_place mk') (length mk') → ys ≡ numbers_where (λ u. reached owner' mk' (u + 1)) (length owner' - 1) → IsDeficit g xs ys k
  found_deficit k p' owner' mk' xs ys p_is owner_is mk_is missing xs_are ys_are =
      let size_p : length p' ≡ equations b.signature = ap length p_is ∙ to.matching.equations_all in
      let size_mk : length mk' ≡ equations b.signature = ap length mk_is ∙ to.tree.mark_all in
      let size_owner : length owner' - 1 ≡ b.signature.unknowns = omega (arith, ap length owner_is, to.matching.unknowns_all) in
      let count : count_below (by_place p) (equations b.signature) + k ≡ equations b.signature = rw (size_p, p_is) at missing in
      let there = assigned_deficit b p owner q par mk t loose (rw of sound) to k count in
      rw (xs_are, ys_are, size_mk, size_owner, mk_is, owner_is, ← of) there

pub found_loose : (g : Signature) (reached mk xs : List ℕ) → mk ≡ reached → length mk ≡ suc g.unknowns
    → ((j : ℕ) → get_or reached j 0 ≢ 0 → IsUndetermined g j) → ((j : ℕ) → 0 < j → j ≤ g.unknowns → IsUndetermined g j → get_or reached j 0 ≢ 0)
    → xs ≡ numbers_where (λ u. get_or mk (u + 1) 0) (length mk - 1) → ListsWhere (IsUndetermined g) g.unknowns xs
found_loose g reached mk xs is size marked all xs_are =
    let count : length mk - 1 ≡ g.unknowns = omega arith in
    let only : (u : ℕ) → u < g.unknowns → get_or reached (u + 1) 0 ≢ 0 → IsUndetermined g (suc u) =
    λ u l some. let next : u + 1 ≡ suc u = omega arith in subst (λ (j : ℕ). IsUndetermined g j) next (marked (u + 1) some) in
    let every : (u : ℕ) → u < g.unknowns → IsUndetermined g (suc u) → get_or reached (u + 1) 0 ≢ 0 =
    λ u l loose.
    let next : u + 1 ≡ suc u = omega arith in
    let above : 0 < suc u = omega arith in
    let below : suc u ≤ g.unknowns = omega arith in
    rw next (all (suc u) above below loose) in
    let there = lists_where {P = IsUndetermined g} (λ u. get_or reached (u + 1) 0) g.unknowns only every in
    rw (xs_are, count, is) there

pub found_all : (g : Signature) (p' p : List ℕ) (k : ℕ) → p' ≡ p → length p ≡ equations g → count_below (by_place p') (length p') + k ≡ length p' → k ≡ 0 → CoversAll g (by_place p)
found_all g p' p k is size count none =
    let there : count_below (by_place p) (equations g) + k ≡ equations g = rw (is, size) at count in
    count_full (by_place p) (equations g) (omega arith)
