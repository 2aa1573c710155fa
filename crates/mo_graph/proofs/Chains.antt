-- Chains of steps, edges, and sums that differ at one place.
use Rattle.std.proofs.Common.{◌≡◌, ◌≢◌, ℕ, zero, suc, ◌+◌, ◌<◌, ◌⊎◌, inl, inr, List, length, get_or, set, refl, ap, arith, get_or-set_other, get_or-set_same}
use Rattle.std.proofs.lemmas.Bool.Decides.{eqb_tells}
use Rattle.mo_graph.specs.Counting.{sum_below}
use Rattle.mo_graph.proofs.Counting.{without, sum_without, sum_same, without_same, without_other}
use Rattle.mo_graph.specs.Order.{Leads}
use Rattle.mo_graph.specs.Edges.{Edge}
use Rattle.mo_graph.specs.steps.Finishing.{none, unmarked, total}

pub below_next : (s t : ℕ) → s < t + 1 → (s < t) ⊎ (s ≡ t)
below_next s t l = elim (eqb_tells s t) [ inl e ↦ inr e.1 | inr e ↦ inl (omega (arith, e.1)) ]

pub leads_on : {E : ℕ → ℕ → Type 0} {u v w : ℕ} → Leads E u v → Leads E v w → Leads E u w
leads_on Leads.none q = q
leads_on (Leads.step e p) q = Leads.step e (leads_on p q)

pub leads_edge : {E : ℕ → ℕ → Type 0} {u v w : ℕ} → Leads E u v → E v w → Leads E u w
leads_edge p e = leads_on p (Leads.step e Leads.none)

pub edge_at : (sources targets : List ℕ) (x : ℕ) → x < length sources → Edge sources targets (get_or sources x 0) (get_or targets x 0)
unfolding Edge
edge_at sources targets x l = (x, l, refl, refl)

pub edge_where : (sources targets : List ℕ) (u v : ℕ) → Edge sources targets u v → (x : ℕ) × (x < length sources) × (get_or sources x 0 ≡ u) × (get_or targets x 0 ≡ v)
unfolding Edge
edge_where sources targets u v e = e

pub sum_change : (f g : ℕ → ℕ) (k n : ℕ) → k < n → ((i : ℕ) → i < n → i ≢ k → f i ≡ g i) → sum_below f n + g k ≡ sum_below g n + f k
sum_change f g k n l same =
    let rest : sum_below (without f k) n ≡ sum_below (without g k) n =
    sum_same (without f k) (without g k) n (λ i il. elim (eqb_tells i k) [
      | inl e ↦ rw (e.1, without_same f k, without_same g k) refl
      | inr e ↦ rw (without_other f k i e.1, without_other g k i e.1) (same i il e.1)
    ]) in
    omega (arith, sum_without f k n l, sum_without g k n l)

pub total_set : (m : ℕ) (cursor : List ℕ) (v y : ℕ) → v < m → length cursor ≡ m → total m (set cursor v y) + get_or cursor v 0 ≡ total m cursor + y
unfolding total
total_set m cursor v y l size =
    let at : get_or (set cursor v y) v 0 ≡ y = get_or-set_same cursor v y 0 (omega arith) in
    let change = sum_change (λ (i : ℕ). get_or (set cursor v y) i 0) (λ (i : ℕ). get_or cursor i 0) v m l (λ i il ne. get_or-set_other cursor v i y 0 ne) in
    omega (arith, at, change)

none_zero : (x : ℕ) → x ≡ 0 → none x ≡ 1
none_zero x e = rw e refl

none_some : (x : ℕ) → x ≢ 0 → none x ≡ 0
none_some x ne = elim (eqb_tells x 0) [ inl e ↦ absurd (ne e.1) | inr e ↦ rw e.0 refl ]

pub unmarked_set : (m : ℕ) (mark : List ℕ) (v y : ℕ) → v < m → length mark ≡ m → get_or mark v 0 ≡ 0 → y ≢ 0 → unmarked m (set mark v y) + 1 ≡ unmarked m mark
unfolding unmarked
unmarked_set m mark v y l size zero_there some =
    let at : get_or (set mark v y) v 0 ≡ y = get_or-set_same mark v y 0 (omega arith) in
    let here : none (get_or (set mark v y) v 0) ≡ 0 = none_some (get_or (set mark v y) v 0) (rw at some) in
    let was : none (get_or mark v 0) ≡ 1 = none_zero (get_or mark v 0) zero_there in
    let change = sum_change (λ (i : ℕ). none (get_or (set mark v y) i 0)) (λ (i : ℕ). none (get_or mark i 0)) v m l
    (λ i il ne. ap none (get_or-set_other mark v i y 0 ne)) in
    omega (arith, here, was, change)

pub unmarked_all : (m : ℕ) (mark : List ℕ) → ((v : ℕ) → v < m → get_or mark v 0 ≡ 0) → unmarked m mark ≡ m
unfolding unmarked
unmarked_all zero mark clear = refl
unmarked_all (suc m) mark clear =
    let rest : sum_below (λ v. none (get_or mark v 0)) m ≡ m = unmarked_all m mark (λ v l. clear v (omega arith)) in
    omega (arith, none_zero (get_or mark m 0) (clear m (omega arith)))
