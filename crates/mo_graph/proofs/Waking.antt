-- What is placed, in the forms of the loops that place it.
use Rattle.std.proofs.Common.{◌≡◌, ◌≢◌, ℕ, suc, ◌+◌, ◌-◌, ◌<◌, ◌≤◌, inl, inr, true, false, List, length, get_or, set, sym, ◌∙◌, arith, length-set, get_or-set_same}
use Rattle.std.specs.BTreeSet.{BTreeSet, IsEmpty, Updates, IsLowerBound}
use Rattle.std.specs.Ordering.{nat_cmp}
use Rattle.mo_graph.proofs.Counting.{without}
use Rattle.mo_graph.specs.Edges.{IsGraph, AreThreaded}
use Rattle.mo_graph.specs.steps.Placing.{Has, HasReady, IsLed, HasRanks, IsPlacing, Places, AreOrdered}
use Rattle.mo_graph.proofs.Chains.{below_next}
use Rattle.mo_graph.proofs.Places.{place_room, placing_place, placed_last, placing_skip, lower_some, placing_lower, all_placed}
use Rattle.mo_graph.proofs.Ready.{has_none, has_old, has_new, has_either, has_rest, has_still, has_least}

pub ready_begin : (leader waits : List ℕ) (s : BTreeSet ℕ) → IsEmpty s → HasReady leader waits 0 s
ready_begin leader waits s empty = record { only = λ v h. absurd (has_none s v empty h); all = λ v l. absurd (omega arith) }

pub ready_next : (leader waits : List ℕ) (n : ℕ) (s s' : BTreeSet ℕ) → HasReady leader waits n s → get_or leader n 0 ≡ n → get_or waits n 0 ≡ 0 → Updates nat_cmp s s' n true → HasReady leader waits (n + 1) s'
ready_next leader waits n s s' to led none up = record {
  only = λ v h. elim (has_either s s' n up v h) [
    | inl old ↦ let at = to.only v old in (omega (arith, at.0), at.1, at.2)
    | inr new ↦ rw new (omega arith, led, none)
  ];
  all = λ v l. elim (below_next v n l) [
    | inl h ↦ λ lv zero_there. has_old s s' n up v (to.all v h lv zero_there)
    | inr e ↦ rw e (λ lv zero_there. has_new s s' n up)
  ];
}

module _ (sources targets last before leader order placed waits : List ℕ) (count : ℕ) (s : BTreeSet ℕ) (awake cursor : ℕ)
    (graph : IsGraph (length waits) sources targets) (threads : AreThreaded targets last before)
    (to : Places (length waits) sources targets leader order placed waits count (Has s) awake cursor)
    (done : get_or placed awake 0 ≡ count) (some : 0 < count)
    (more : 0 < cursor) (in_list : cursor ≤ length targets) (key : get_or targets (cursor - 1) 0 ≡ awake) where
  x_in : cursor - 1 < length sources
  x_in = omega (arith, graph.same)

  here : IsPlacing (length waits) sources targets leader order placed waits count (Has s) awake (suc (cursor - 1)) to.0
  here = let same : cursor ≡ suc (cursor - 1) = omega arith in rw same at to.1

  pub wake_cursor : (get_or before (cursor - 1) 0 ≤ length targets) × (0 < get_or before (cursor - 1) 0 → get_or targets (get_or before (cursor - 1) 0 - 1) 0 ≡ awake)
  wake_cursor =
      let inside : cursor - 1 < length targets = omega arith in
      (omega (arith, threads.falls (cursor - 1) inside), λ again. threads.at_before (cursor - 1) inside again ∙ key)

  pub wake_less : get_or before (cursor - 1) 0 < cursor
  wake_less = let inside : cursor - 1 < length targets = omega arith in omega (arith, threads.falls (cursor - 1) inside)

  pub wake_source : get_or sources (cursor - 1) 0 < length waits
  wake_source = graph.source (cursor - 1) x_in

  pub wake_skip : get_or sources (cursor - 1) 0 ≡ awake → Places (length waits) sources targets leader order placed waits count (Has s) awake (get_or before (cursor - 1) 0)
  wake_skip from = (to.0, placing_skip (length waits) sources targets leader order placed waits count (Has s) to.0 awake (cursor - 1) here last before graph threads x_in key done some from)

  module _ (away : get_or sources (cursor - 1) 0 ≢ awake) (led : get_or leader (get_or sources (cursor - 1) 0) 0 ≡ get_or sources (cursor - 1) 0) where
    pub wake_some : get_or waits (get_or sources (cursor - 1) 0) 0 ≢ 0
    wake_some = lower_some (length waits) sources targets leader order placed waits count (Has s) to.0 awake (cursor - 1) here last before graph threads x_in key done some away

    at : get_or (set waits (get_or sources (cursor - 1) 0) (get_or waits (get_or sources (cursor - 1) 0) 0 - 1)) (get_or sources (cursor - 1) 0) 0 ≡ get_or waits (get_or sources (cursor - 1) 0) 0 - 1
    at = get_or-set_same waits (get_or sources (cursor - 1) 0) (get_or waits (get_or sources (cursor - 1) 0) 0 - 1) 0 wake_source

    pub wake_lower : get_or (set waits (get_or sources (cursor - 1) 0) (get_or waits (get_or sources (cursor - 1) 0) 0 - 1)) (get_or sources (cursor - 1) 0) 0 ≢ 0
        → Places (length (set waits (get_or sources (cursor - 1) 0) (get_or waits (get_or sources (cursor - 1) 0) 0 - 1))) sources targets leader order placed
        (set waits (get_or sources (cursor - 1) 0) (get_or waits (get_or sources (cursor - 1) 0) 0 - 1)) count (Has s) awake (get_or before (cursor - 1) 0)
    wake_lower left = rw (length-set waits (get_or sources (cursor - 1) 0) (get_or waits (get_or sources (cursor - 1) 0) 0 - 1)) (
      without to.0 (cursor - 1),
      placing_lower (length waits) sources targets leader order placed waits count (Has s) to.0 awake (cursor - 1) here last before graph threads x_in key done some away led (Has s)
          (λ u old. inl old) (λ u old. old) (λ none. absurd (left (at ∙ none))),
    )

    pub wake_ready : (s' : BTreeSet ℕ) → Updates nat_cmp s s' (get_or sources (cursor - 1) 0) true → get_or (set waits (get_or sources (cursor - 1) 0) (get_or waits (get_or sources (cursor - 1) 0) 0 - 1)) (get_or sources (cursor - 1) 0) 0 ≡ 0
        → Places (length (set waits (get_or sources (cursor - 1) 0) (get_or waits (get_or sources (cursor - 1) 0) 0 - 1))) sources targets leader order placed
        (set waits (get_or sources (cursor - 1) 0) (get_or waits (get_or sources (cursor - 1) 0) 0 - 1)) count (Has s') awake (get_or before (cursor - 1) 0)
    wake_ready s' up none = rw (length-set waits (get_or sources (cursor - 1) 0) (get_or waits (get_or sources (cursor - 1) 0) 0 - 1)) (
      without to.0 (cursor - 1),
      placing_lower (length waits) sources targets leader order placed waits count (Has s) to.0 awake (cursor - 1) here last before graph threads x_in key done some away led (Has s')
          (λ u old. elim (has_either s s' (get_or sources (cursor - 1) 0) up u old) [ inl o ↦ inl o | inr e ↦ inr (e, sym at ∙ none) ])
          (λ u old. has_old s s' (get_or sources (cursor - 1) 0) up u old)
          (λ _. has_new s s' (get_or sources (cursor - 1) 0) up),
    )

-- the least ready vertex is placed
module _ (sources targets last before leader order placed waits : List ℕ) (count : ℕ) (s s' : BTreeSet ℕ)
    (graph : IsGraph (length placed) sources targets) (threads : AreThreaded targets last before)
    (to : Places (length placed) sources targets leader order placed waits count (Has s) 0 0)
    (v : ℕ) (is_ready : Has s v) (low : IsLowerBound nat_cmp s v) (up : Updates nat_cmp s s' v false) where
  first : (u : ℕ) → Has s u → v ≤ u
  first = has_least s v low

  pub step_room : (count < length placed) × (v < length placed)
  step_room = (
    place_room (length placed) sources targets leader order placed waits count (Has s) to.0 0 to.1 last before graph threads v is_ready first (Has s') (has_rest s s' v up) (has_still s s' v up),
    (to.1.ready_in v is_ready).0,
  )

  pub step_place : Places (length placed) sources targets leader (set order count v) (set placed v (count + 1)) waits (count + 1) (Has s') v (get_or last v 0)
  step_place = (
    to.0,
    placing_place (length placed) sources targets leader order placed waits count (Has s) to.0 0 to.1 last before graph threads v is_ready first (Has s') (has_rest s s' v up) (has_still s s' v up),
  )

  pub step_last : get_or (set placed v (count + 1)) v 0 ≡ count + 1
  step_last = placed_last (length placed) sources targets leader order placed waits count (Has s) to.0 0 to.1 last before graph threads v is_ready first (Has s') (has_rest s s' v up) (has_still s s' v up)

pub step_over : (sources targets leader order placed waits : List ℕ) (count : ℕ) (s : BTreeSet ℕ) → IsGraph (length placed) sources targets → Places (length placed) sources targets leader order placed waits count (Has s) 0 0
    → IsEmpty s
    → HasRanks (length placed) sources targets → IsLed sources targets leader
    → AreOrdered (length placed) sources targets leader order placed count
step_over sources targets leader order placed waits count s graph to empty ranks led =
    all_placed (length placed) sources targets leader order placed waits count (Has s) to.0 0 to.1 graph (λ v h. has_none s v empty h) ranks.rank ranks.top ranks.low ranks.rise led.target

pub less_left : (placed : List ℕ) (v count : ℕ) → count < length placed → length (set placed v (count + 1)) - (count + 1) < length placed - count
less_left placed v count room = rw (length-set placed v (count + 1)) (omega arith)
