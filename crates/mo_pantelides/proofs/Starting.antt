-- The offsets to begin with, and the room that all have.
use Rattle.std.proofs.Common.{◌≡◌, ◌≢◌, ℕ, zero, suc, ◌+◌, ◌-◌, ◌*◌, ◌<◌, ◌≤◌, inl, inr, List, get_or, arith}
use Rattle.std.proofs.lemmas.Bool.Decides.{eqb_tells}
use Rattle.mo_incidence.specs.Counting.{sum_below}
use Rattle.mo_incidence.specs.Signature.{Signature, equations, IsSound}
use Rattle.mo_incidence.specs.Assignment.{CoversAll}
use Rattle.mo_incidence.specs.Offsets.{IsLeast, BoundsOrders, sum_unknowns, by_place, by_number}
use Rattle.mo_incidence.proofs.Counting.{sum_le}
use Rattle.mo_match.specs.Searching.{tight_of, Uses, IsMatching}
use Rattle.mo_pantelides.specs.steps.Fixing.{AreOpen}
use Rattle.mo_pantelides.specs.steps.Raising.{gap, AreSmall, AreRising}
use Rattle.mo_pantelides.proofs.Tight.{pairs_tight}

pub sum_const : (k n : ℕ) → sum_below (λ _. k) n ≡ n * k
sum_const k zero = grind arith
sum_const k (suc n) = let rest : sum_below (λ _. k) n ≡ n * k = sum_const k n in grind arith

all_bounded : (g : Signature) → IsSound g → BoundsOrders g (λ _. 65535)
all_bounded g sound = record { entry = λ i k il kl. omega (arith, sound.low i k il kl) }

total_small : (g : Signature) → IsSound g → sum_unknowns g (λ _. 65535) ≤ 3276750000
unfolding sum_unknowns
total_small g sound = let few : g.unknowns ≤ 50000 = sound.few_unknowns in omega (arith, sum_const 65535 g.unknowns)

pub room_equations : (g : Signature) (c d : List ℕ) → IsSound g → AreSmall g c d → (i : ℕ) → i < equations g → get_or c i 0 + 1 < 4294967296
room_equations g c d sound small i il = omega (arith, small.equation (λ _. 65535) (all_bounded g sound) i il, total_small g sound)

pub room_unknowns : (g : Signature) (c d : List ℕ) → IsSound g → AreSmall g c d → (u : ℕ) → u < g.unknowns → get_or d u 0 + 1 < 4294967296
room_unknowns g c d sound small u ul = omega (arith, small.unknown (λ _. 65535) (all_bounded g sound) u ul, total_small g sound)

module _ (g : Signature) (c d : List ℕ) (none : (i : ℕ) → get_or c i 0 ≡ 0) (bounds : BoundsOrders g (by_number d))
    (least : (h : ℕ → ℕ) → BoundsOrders g h → (u : ℕ) → u < g.unknowns → get_or d u 0 ≤ h (u + 1)) where
  pub start_gap : (h : ℕ → ℕ) → BoundsOrders g h → gap (equations g) g.unknowns c d ≤ sum_unknowns g h
  unfolding gap sum_unknowns
  start_gap h bound = omega (arith, sum_le (by_place d) (λ u. h (u + 1)) g.unknowns (least h bound))

  pub start_rising : AreRising g c d
  start_rising = record {
    fits = record { entry = λ i k il kl. let bound = bounds.entry i k il kl in omega (arith, none i) };
    least = record {
      below = λ c' d' rival.
          let bound : BoundsOrders g d' = record { entry = λ i k il kl. omega (arith, rival.fits.entry i k il kl) } in
          record {
            equation = λ i il. omega (arith, none i);
            unknown = λ j above jn.
                let back : j - 1 + 1 ≡ j = omega arith in
                rw back at (least d' bound (j - 1) (omega arith));
          };
    };
    small = record {
      equation = λ h bound i il. omega (arith, none i, start_gap h bound);
      unknown = λ h bound u ul. omega (arith, least h bound u ul, start_gap h bound);
    };
  }

pub start_cost : (s0 s1 x y e : ℕ) → s1 ≤ s0 + e → x ≤ y → s1 + x * e ≤ s0 + (0 + y + 1) * e
start_cost s0 s1 x y e one le = grind arith

pub least_at_end : (g : Signature) (c d p owner : List ℕ) → AreRising g c d → IsMatching (Uses (tight_of g c d)) (equations g) g.unknowns p owner
    → CoversAll g (by_place p) → IsLeast g (by_place c) (by_number d)
least_at_end g c d p owner rising match full = record {
  admissible = record { fits = rising.fits; tight = (by_place p, pairs_tight g c d p owner match, full) };
  least = rising.least;
}

pub cost_on : (s0 s1 s2 x x2 e r y : ℕ) → s1 + x * e ≤ s0 + (r + y + 1) * e → s2 + x2 * e ≤ s1 + e + x * e → s2 + x2 * e ≤ s0 + (r + 1 + y + 1) * e
cost_on s0 s1 s2 x x2 e r y one two = grind arith

pub settled_next : (p p' : List ℕ) (r : ℕ) → ((i : ℕ) → i < r → get_or p i 0 ≢ 0) → ((i : ℕ) → get_or p i 0 ≢ 0 → get_or p' i 0 ≢ 0) → get_or p' r 0 ≢ 0 → (i : ℕ) → i < r + 1 → get_or p' i 0 ≢ 0
settled_next p p' r settled kept here i l = elim (eqb_tells i r) [
  | inl e ↦ rw e.1 here
  | inr e ↦ kept i (settled i (omega (arith, e.1)))
]

pub cost_both : (m y e s0 s1 s2 : ℕ) → s1 ≤ s0 + (m + y + 1) * e → s2 ≤ s1 + m * e → s2 ≤ s0 + (2 * m + y + 1) * e
cost_both m y e s0 s1 s2 one two = grind arith

pub start_open : (g : Signature) (c d : List ℕ) → IsSound g → AreSmall g c d → AreOpen g c
start_open g c d sound small = record {
  entry = λ i k il kl. omega (arith, small.equation (λ _. 65535) (all_bounded g sound) i il, total_small g sound, sound.low i k il kl);
}
