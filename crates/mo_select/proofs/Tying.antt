-- The equations that are tight at each candidate are listed.
use Rattle.std.proofs.Common.{◌≡◌, ◌≢◌, ℕ, suc, ◌+◌, ◌-◌, ◌<◌, ◌≤◌, inl, inr, List, [], ◌∷◌, ◌++◌, length, get_or, sym, ◌∙◌, arith, Vec, Global}
use Rattle.std.proofs.lemmas.Bool.Decides.{eqb_tells}
use Rattle.std.proofs.lemmas.Bool.{cases_lt}
use Rattle.std.proofs.lemmas.List.{get_or_past}
use Rattle.mo_graph.proofs.Chains.{below_next}
use Rattle.mo_incidence.specs.Signature.{Signature, equations, row_len, unknown_at, order_at, IsSound}
use Rattle.mo_incidence.specs.Assignment.{Mentions, Assigns}
use Rattle.mo_incidence.specs.Offsets.{by_place, IsTight}
use Rattle.mo_incidence.specs.steps.Given.{given}
use Rattle.mo_incidence.specs.steps.Needing.{IsNeed, AreOwners}
use Rattle.mo_incidence.proofs.Building.{equations_given}
use Rattle.mo_match.proofs.Deficit.{assigns_by}
use Rattle.mo_select.specs.Selection.{CanHave}
use Rattle.mo_select.specs.steps.Ties.{entries_in, HasEntry, HasTies}
use Rattle.mo_select.specs.steps.Growing.{IsGreedy}
use Rattle.mo_select.specs.steps.Staging.{IsGreedyChoice}
use Rattle.mo_select.proofs.Rows.{length_entries, entry_kept, entry_new, entries_next}

-- ---- an entry and the ranks

need_tight : (g : Signature) (c d t : ℕ → ℕ) (i k x : ℕ) → k < row_len g i → IsNeed g c d t i k x → IsTight g c d i (t x)
unfolding IsTight
need_tight g c d t i k x l need = (k, l, need.unknown, need.tight)

tight_need : (g : Signature) (c d t : ℕ → ℕ) (i x : ℕ) → IsTight g c d i (t x) → (k : ℕ) × (k < row_len g i) × IsNeed g c d t i k x
unfolding IsTight
tight_need g c d t i x tight = (tight.0, tight.1, record { unknown = tight.2; tight = tight.3 })

module _ (g : Signature) (c d : ℕ → ℕ) (order rank : List ℕ) (ranks : AreOwners (length order) (by_place order) rank) (i k : ℕ) where
  pub slack_none : d (unknown_at g i k) ≢ c i + order_at g i k → (v : ℕ) → v < length order → IsNeed g c d (by_place order) i k v → ⊥
  slack_none slack v l need = slack (rw need.unknown need.tight)

  pub rank_of : (v : ℕ) → v < length order → IsNeed g c d (by_place order) i k v → get_or rank (unknown_at g i k) 0 ≡ suc v
  rank_of v l need = rw need.unknown (ranks.owned v l)

  pub unranked_none : get_or rank (unknown_at g i k) 0 ≡ 0 → (v : ℕ) → v < length order → IsNeed g c d (by_place order) i k v → ⊥
  unranked_none none v l need = let is = rank_of v l need in omega arith

  module _ (place : ℕ) (place_is : place ≡ get_or rank (unknown_at g i k) 0) (some : place ≢ 0) where
    pub ranked_in : (place - 1 < length order) × (get_or order (place - 1) 0 ≡ unknown_at g i k)
    ranked_in = ranks.owns (unknown_at g i k) (place - 1) (omega arith)

    pub ranked_need : d (unknown_at g i k) ≡ c i + order_at g i k → IsNeed g c d (by_place order) i k (place - 1)
    ranked_need tight = record { unknown = sym ranked_in.1; tight = rw ranked_in.1 tight }

    pub ranked_only : (v : ℕ) → v < length order → IsNeed g c d (by_place order) i k v → v ≡ place - 1
    ranked_only v l need = let is = rank_of v l need in omega arith

-- ---- one entry more

pub ties_none : (g : Signature) (c d : ℕ → ℕ) (active order : List ℕ) (rows : List (List (ℕ × ℕ))) → length rows ≡ length order
    → ((t : ℕ) → get_or rows t [] ≡ []) → HasTies g c d active order rows 0 0
ties_none g c d active order rows size empty = record {
  size = size;
  only = λ t n. rw (empty t) (λ l. absurd (omega arith));
  before = λ e k t l. absurd (omega arith);
  here = λ k t l. absurd (omega arith);
}

module _ (g : Signature) (c d : ℕ → ℕ) (active order : List ℕ) (rows : List (List (ℕ × ℕ))) (e k : ℕ) (to : HasTies g c d active order rows e k) where
  pub ties_skip : ((v : ℕ) → v < length order → IsNeed g c d (by_place order) (get_or active e 0) k v → ⊥) → HasTies g c d active order rows e (k + 1)
  ties_skip none = record {
    size = to.size;
    only = to.only;
    before = to.before;
    here = λ k' t kl tl need. elim (below_next k' k kl) [
      | inl h ↦ to.here k' t h tl need
      | inr is ↦ absurd (none t tl (rw is at need))
    ];
  }

  pub ties_row : k ≡ row_len g (get_or active e 0) → HasTies g c d active order rows (e + 1) 0
  ties_row all = record {
    size = to.size;
    only = to.only;
    before = λ e' k' t el kl tl need. elim (below_next e' e el) [
      | inl h ↦ to.before e' k' t h kl tl need
      | inr is ↦ rw is (to.here k' t (omega (arith, rw is at kl)) tl (rw is at need))
    ];
    here = λ k' t l. absurd (omega arith);
  }

  module _ (el : e < length active) (kl : k < row_len g (get_or active e 0)) (t : ℕ) (tl : t < length order) (need : IsNeed g c d (by_place order) (get_or active e 0) k t)
      (only : (v : ℕ) → v < length order → IsNeed g c d (by_place order) (get_or active e 0) k v → v ≡ t)
      (rows' : List (List (ℕ × ℕ))) (size : length rows' ≡ length rows) (more : get_or rows' t [] ≡ get_or rows t [] ++ (e + 1, 0) ∷ [])
      (others : (u : ℕ) → u ≢ t → get_or rows' u [] ≡ get_or rows u []) where
    abbrev IsRight : ℕ → ℕ → Type 0
    IsRight u x = (0 < x) × (x ≤ length active) × IsTight g c d (get_or active (x - 1) 0) (get_or order u 0)

    new_right : IsRight t (e + 1)
    new_right =
        let back : e + 1 - 1 ≡ e = omega arith in
        (omega arith, omega arith, rw back (need_tight g c d (by_place order) (get_or active e 0) k t kl need))

    kept : (u x : ℕ) → HasEntry (get_or rows u []) x → HasEntry (get_or rows' u []) x
    kept u x there = elim (eqb_tells u t) [
      | inl is ↦ rw (is.1, more) (entry_kept (get_or rows t []) (e + 1, 0) x (rw is.1 at there))
      | inr ne ↦ rw (others u ne.1) there
    ]

    pub ties_push : HasTies g c d active order rows' e (k + 1)
    ties_push = record {
      size = size ∙ to.size;
      only = λ u n. elim (eqb_tells u t) [
        | inl is ↦ rw (is.1, more) (entries_next (get_or rows t []) (e + 1, 0) (IsRight t) (to.only t) new_right n)
        | inr ne ↦ rw (others u ne.1) (to.only u n)
      ];
      before = λ e' k' u e_l k_l ul there. kept u (suc e') (to.before e' k' u e_l k_l ul there);
      here = λ k' u k_l ul there. elim (below_next k' k k_l) [
        | inl h ↦ kept u (suc e) (to.here k' u h ul there)
        | inr is ↦
            let same : u ≡ t = only u ul (rw is at there) in
            let next : e + 1 ≡ suc e = omega arith in
            let new = entry_new (get_or rows t []) (e + 1, 0) in
            rw (same, more, ← next) new
      ];
    }

pub row_back : (g : Signature) (i n : ℕ) → n ≡ row_len g (i + 1 - 1) → n ≡ row_len g i
row_back g i n e = let there : i + 1 - 1 ≡ i = omega arith in rw there at e

-- ---- the rows as an incidence

given_mentions : (u : ℕ) (rows : List (Vec (ℕ × ℕ) Global)) (t x : ℕ) → Mentions (given u rows) t x → HasEntry (get_or (entries_in rows) t []) x
unfolding Mentions given row_len unknown_at
given_mentions u rows t x there = there

mentions_given : (u : ℕ) (rows : List (Vec (ℕ × ℕ) Global)) (t x : ℕ) → HasEntry (get_or (entries_in rows) t []) x → Mentions (given u rows) t x
unfolding Mentions given row_len unknown_at
mentions_given u rows t x there = there

module _ (g : Signature) (c d : ℕ → ℕ) (active order : List ℕ) (u : ℕ) (rows : List (Vec (ℕ × ℕ) Global))
    (to : HasTies g c d active order (entries_in rows) (length active) 0) where
  pub tied_have : (t x : ℕ) → Mentions (given u rows) t x → CanHave g c d active (get_or order t 0) x
  tied_have t x there =
      let at = given_mentions u rows t x there in
      let right = to.only t at.0 at.1 in
      rw at.2 at right

  pub have_tied : (t x : ℕ) → t < length order → CanHave g c d active (get_or order t 0) x → Mentions (given u rows) t x
  have_tied t x l can =
      let at = tight_need g c d (by_place order) (get_or active (x - 1) 0) t can.2 in
      let back : suc (x - 1) ≡ x = omega (arith, can.0) in
      let there = to.before (x - 1) at.0 t (omega (arith, can.0, can.1)) at.1 l at.2 in
      mentions_given u rows t x (rw back at there)

  equations_are_holds : equations (given u rows) ≡ length order
  equations_are_holds = equations_given u rows ∙ sym (length_entries rows) ∙ to.size

  pub greedy_choice : IsSound (given u rows) → (pairs : List ℕ) → length pairs ≡ equations (given u rows) → IsGreedy (given u rows) (by_place pairs)
      → IsGreedyChoice g c d active order pairs
  greedy_choice sound pairs size greedy =
      let same = equations_are_holds in
      let few = sound.few_equations in
      let whole : Assigns (Mentions (given u rows)) (length order) (by_place pairs) = rw same at greedy.assigns in
      record {
        size = size ∙ same;
        few = omega arith;
        assigns = assigns_by (by_place pairs) tied_have whole;
        low = λ t. elim (cases_lt t (length pairs)) [
          | inr h ↦ rw (get_or_past pairs t 0 h) (omega arith)
          | inl h ↦ elim (eqb_tells (get_or pairs t 0) 0) [
            | inl none ↦ rw none.1 (omega arith)
            | inr some ↦ (tied_have t (get_or pairs t 0) (whole.allowed t (omega arith) some.1)).1
          ]
        ];
        most = λ n le other assigns. greedy.most n (rw same le) other (rw same (record {
          allowed = λ t l some. have_tied t (other t) l (assigns.allowed t l some);
          apart = assigns.apart;
        }));
      }
