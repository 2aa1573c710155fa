-- Who has which unknown, and the needs that are listed.
use Rattle.std.proofs.Common.{◌≡◌, ◌≢◌, ℕ, suc, ◌+◌, ◌-◌, ◌<◌, ◌≤◌, inl, inr, List, [], ◌∷◌, ◌++◌, length, get_or, set, sym, ap, ◌∙◌, arith, length-append, get_or-set_other, get_or-set_same}
use Rattle.std.proofs.Math.Seq.{get_or-append_seam}
use Rattle.std.proofs.Math.ListN.{get_or-append}
use Rattle.std.proofs.lemmas.Bool.Decides.{eqb_tells}
use Rattle.mo_incidence.specs.Signature.{Signature, equations, row_len, unknown_at, order_at, entries, IsSound}
use Rattle.mo_incidence.specs.Offsets.{IsTight, by_place, by_number}
use Rattle.mo_incidence.specs.Blocks.{Needs}
use Rattle.mo_graph.specs.Edges.{Edge, IsGraph}
use Rattle.mo_incidence.specs.steps.Needing.{IsNeed, AreOwners, HasNeeds}
use Rattle.mo_graph.proofs.Chains.{below_next, edge_where}

pub owners_next : (i : ℕ) (t : ℕ → ℕ) (owner : List ℕ) → AreOwners i t owner → t i < length owner → ((r : ℕ) → r < i → t r ≢ t i) → AreOwners (i + 1) t (set owner (t i) (i + 1))
owners_next i t owner to l apart =
    let at : get_or (set owner (t i) (i + 1)) (t i) 0 ≡ i + 1 = get_or-set_same owner (t i) (i + 1) 0 l in
    record {
      owned = λ r rl. elim (below_next r i rl) [
        | inl h ↦ get_or-set_other owner (t i) (t r) (i + 1) 0 (apart r h) ∙ to.owned r h
        | inr e ↦ rw (e, at) (omega arith)
      ];
      owns = λ j x. elim (eqb_tells j (t i)) [
        | inl e ↦ rw (e.1, at) (λ same. let is : x ≡ i = omega arith in (omega arith, ap t is))
        | inr e ↦ rw (get_or-set_other owner (t i) j (i + 1) 0 e.1) (λ same. let there = to.owns j x same in (omega (arith, there.0), there.1))
      ];
    }

-- what an entry says, through the owners
module _ (g : Signature) (c d pairs owner : List ℕ) (i k u order : ℕ) (is_u : u ≡ unknown_at g (i + 1 - 1) k) (is_order : order ≡ order_at g (i + 1 - 1) k) (owners : AreOwners (equations g) (by_place pairs) owner) where
  back : i + 1 - 1 ≡ i
  back = omega arith

  u_is : u ≡ unknown_at g i k
  u_is = rw back at is_u

  order_is : order ≡ order_at g i k
  order_is = rw back at is_order

  pub need_some : (get_or d (u - 1) 0 ≡ get_or c i 0 + order) → (x : ℕ) → get_or owner u 0 ≡ suc x → (x < equations g) × IsNeed g (by_place c) (by_number d) (by_place pairs) i k x
  need_some tight x e = let there = owners.owns u x e in (there.0, record { unknown = sym u_is ∙ sym there.1; tight = rw (there.1, ← order_is) tight })

edge_kept : (sources targets : List ℕ) (a b u v : ℕ) → length targets ≡ length sources → Edge sources targets u v → Edge (sources ++ a ∷ []) (targets ++ b ∷ []) u v
unfolding Edge
edge_kept sources targets a b u v size edge =
    let more = length-append sources (a ∷ []) in
    (edge.0, omega (arith, edge.1), get_or-append sources (a ∷ []) 0 edge.0 edge.1 ∙ edge.2, get_or-append targets (b ∷ []) 0 edge.0 (omega (arith, edge.1)) ∙ edge.3)

edge_new : (sources targets : List ℕ) (a b : ℕ) → length targets ≡ length sources → Edge (sources ++ a ∷ []) (targets ++ b ∷ []) a b
unfolding Edge
edge_new sources targets a b size =
    let more = length-append sources (a ∷ []) in
    (length sources, omega arith, get_or-append_seam sources a [] 0, rw (← size) (get_or-append_seam targets b [] 0))

need_tight : (g : Signature) (c d t : ℕ → ℕ) (i k x : ℕ) → k < row_len g i → IsNeed g c d t i k x → IsTight g c d i (t x)
unfolding IsTight
need_tight g c d t i k x l need = (k, l, need.unknown, need.tight)

tight_need : (g : Signature) (c d t : ℕ → ℕ) (i x : ℕ) → IsTight g c d i (t x) → (k : ℕ) × (k < row_len g i) × IsNeed g c d t i k x
unfolding IsTight
tight_need g c d t i x tight = (tight.0, tight.1, record { unknown = tight.2; tight = tight.3 })

module _ (g : Signature) (c d t : ℕ → ℕ) (sources targets : List ℕ) (i k : ℕ) (il : i < equations g) (kl : k < row_len g i) (to : HasNeeds g c d t sources targets i k) where
  pub needs_push : (x : ℕ) → (x < equations g) × IsNeed g c d t i k x → ((v : ℕ) → v < equations g → IsNeed g c d t i k v → v ≡ x)
      → HasNeeds g c d t (sources ++ i ∷ []) (targets ++ x ∷ []) i (k + 1)
  needs_push x need only =
      let more = length-append sources (i ∷ []) in
      let more' = length-append targets (x ∷ []) in
      record {
        same = omega (arith, to.same);
        only = λ y l. elim (eqb_tells y (length sources)) [
          | inl e ↦ rw e.1 (rw (get_or-append_seam sources i [] 0, ← to.same, get_or-append_seam targets x [] 0) (record { from = il; to = need.0; tight = need_tight g c d t i k x kl need.1 }))
          | inr e ↦
              let low : y < length sources = omega (arith, e.1) in
              let low' : y < length targets = omega (arith, to.same) in
              rw (get_or-append sources (i ∷ []) 0 y low, get_or-append targets (x ∷ []) 0 y low') (to.only y low)
        ];
        rows = λ r n v rl nl vl there. edge_kept sources targets i x r v to.same (to.rows r n v rl nl vl there);
        here = λ n v nl vl there. elim (below_next n k nl) [
          | inl h ↦ edge_kept sources targets i x i v to.same (to.here n v h vl there)
          | inr e ↦ let is : v ≡ x = only v vl (rw e at there) in rw is (edge_new sources targets i x to.same)
        ];
        few = omega (arith, to.few);
      }

pub row_back : (g : Signature) (i n : ℕ) → n ≡ row_len g (i + 1 - 1) → n ≡ row_len g i
row_back g i n e = let there : i + 1 - 1 ≡ i = omega arith in rw there at e

module _ (g : Signature) (c d t : ℕ → ℕ) (sources targets : List ℕ) (sound : IsSound g) (to : HasNeeds g c d t sources targets (equations g) 0) where
  pub needs_graph : IsGraph (equations g) sources targets
  unfolding entries
  needs_graph = record {
    same = to.same;
    source = λ x l. (to.only x l).from;
    target = λ x l. (to.only x l).to;
    few = omega (arith, to.few, sound.few_entries);
    small = sound.few_equations;
  }

  pub edge_need : (i k : ℕ) → Edge sources targets i k → Needs g c d t i k
  edge_need i k edge = let e = edge_where sources targets i k edge in rw (e.2, e.3) at (to.only e.0 e.1)

  pub need_edge : (i k : ℕ) → Needs g c d t i k → Edge sources targets i k
  need_edge i k need = let at = tight_need g c d t i k need.tight in to.rows i at.0 k need.from at.1 need.to at.2

-- the unknown at which an equation is tight is known
pub tight_known : (g : Signature) (c d : ℕ → ℕ) (i j : ℕ) → IsSound g → i < equations g → IsTight g c d i j → (0 < j) × (j ≤ g.unknowns)
unfolding IsTight
tight_known g c d i j sound l tight = rw tight.2 at (sound.known i tight.0 l tight.1)
