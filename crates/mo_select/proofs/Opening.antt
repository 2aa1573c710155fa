-- The candidates up to a level, at which equations are tight, and what a largest assignment of them leaves out.
use Rattle.std.proofs.Common.{◌≡◌, ℕ, suc, ◌+◌, ◌-◌, ◌<◌, ◌≤◌, inl, inr, List, [], ◌∷◌, ◌++◌, Contains, length, get_or, take, map, refl, sym, ap, ◌∙◌, arith, subst, length-append, Vec, Global}
use Rattle.std.proofs.Math.ListN.{get_or-append}
use Rattle.std.proofs.Math.Seq.{get_or-append_seam}
use Rattle.std.proofs.lemmas.List.{get_or-take, length-take-le, length-map}
use Rattle.std.proofs.lemmas.Bool.{cases_lt}
use Rattle.mo_graph.proofs.Chains.{below_next}
use Rattle.mo_graph.specs.Counting.{count_below}
use Rattle.mo_graph.specs.Lists.{ListsWhere}
use Rattle.mo_incidence.specs.Signature.{Signature, equations, row_len, unknown_at, order_at}
use Rattle.mo_incidence.specs.Assignment.{Mentions, Assigns, IsLargest, IsDeficient, IsDeficit}
use Rattle.mo_incidence.specs.Offsets.{by_place, IsTight}
use Rattle.mo_incidence.specs.steps.Given.{given}
use Rattle.mo_incidence.specs.steps.Needing.{AreOwners}
use Rattle.mo_incidence.proofs.Building.{equations_given}
use Rattle.mo_match.proofs.ListLemmas.{contains_at, at_contains}
use Rattle.mo_select.specs.Selection.{IsTiedTo, IsLargestOf, IsLeftOut}
use Rattle.mo_select.specs.steps.Ties.{entries_in, HasEntry, IsOpen, IsOpenRow, AreOpenRows}
use Rattle.mo_select.specs.steps.Staging.{IsLeft}
use Rattle.mo_select.proofs.Rows.{length_entries, entry_kept, entry_new}

-- ---- one row

pub open_none : (g : Signature) (c d : ℕ → ℕ) (rank : List ℕ) (end i : ℕ) (row : List (ℕ × ℕ)) → row ≡ [] → IsOpenRow g c d rank end i 0 row
open_none g c d rank end i row e = record {
  only = λ n. rw e (λ l. absurd (omega arith));
  all = λ k l. absurd (omega arith);
}

module _ (g : Signature) (c d : ℕ → ℕ) (rank : List ℕ) (end i k : ℕ) (row : List (ℕ × ℕ)) (to : IsOpenRow g c d rank end i k row) where
  pub open_skip : (IsOpen g c d rank end i k → ⊥) → IsOpenRow g c d rank end i (k + 1) row
  open_skip shut = record {
    only = λ n l. let there = to.only n l in (there.0, omega (arith, there.1), there.2, there.3);
    all = λ k' l is_open. elim (below_next k' k l) [
      | inl h ↦ to.all k' h is_open
      | inr same ↦ absurd (shut (rw same at is_open))
    ];
  }

  pub open_push : IsOpen g c d rank end i k → (x : ℕ) → x ≡ unknown_at g i k → IsOpenRow g c d rank end i (k + 1) (row ++ (x, 0) ∷ [])
  open_push is_open x x_is =
      let size = length-append row ((x, 0) ∷ []) in
      record {
        only = λ n l. elim (cases_lt n (length row)) [
          | inl h ↦
              let there = to.only n h in
              (there.0, omega (arith, there.1), there.2, ap (λ (e : ℕ × ℕ). e.0) (get_or-append row ((x, 0) ∷ []) (0, 0) n h) ∙ there.3)
          | inr h ↦
              let same : n ≡ length row = omega arith in
              (k, omega arith, is_open, rw same (ap (λ (e : ℕ × ℕ). e.0) (get_or-append_seam row (x, 0) [] (0, 0)) ∙ x_is))
        ];
        all = λ k' l there. elim (below_next k' k l) [
          | inl h ↦ entry_kept row (x, 0) (unknown_at g i k') (to.all k' h there)
          | inr same ↦ rw (same, ← x_is) (entry_new row (x, 0))
        ];
      }

pub open_whole : (g : Signature) (c d : ℕ → ℕ) (rank : List ℕ) (end i k : ℕ) (row : List (ℕ × ℕ)) → k ≡ row_len g (i + 1 - 1) → IsOpenRow g c d rank end i k row
    → IsOpenRow g c d rank end i (row_len g i) row
open_whole g c d rank end i k row e to = let back : i + 1 - 1 ≡ i = omega arith in let all : k ≡ row_len g i = rw back at e in rw (← all) to

-- ---- all rows

pub open_rows_none : (g : Signature) (c d : ℕ → ℕ) (active rank : List ℕ) (end : ℕ) (rows : List (List (ℕ × ℕ))) → rows ≡ [] → AreOpenRows g c d active rank end rows
open_rows_none g c d active rank end rows e = record { row = λ n. rw e (λ l. absurd (omega arith)) }

pub open_rows_push : (g : Signature) (c d : ℕ → ℕ) (active rank : List ℕ) (end : ℕ) (rows : List (List (ℕ × ℕ))) (row : List (ℕ × ℕ)) (i : ℕ)
    → AreOpenRows g c d active rank end rows → i ≡ get_or active (length rows) 0 → IsOpenRow g c d rank end i (row_len g i) row → AreOpenRows g c d active rank end (rows ++ row ∷ [])
open_rows_push g c d active rank end rows row i to i_is here = record {
  row = λ e l.
      let size = length-append rows (row ∷ []) in
      elim (cases_lt e (length rows)) [
        | inl h ↦ rw (get_or-append rows (row ∷ []) [] e h) (to.row e h)
        | inr h ↦ let same : e ≡ length rows = omega arith in rw (same, get_or-append_seam rows row [] [], ← i_is) here
      ];
}

-- ---- as an incidence

given_mentions : (u : ℕ) (rows : List (Vec (ℕ × ℕ) Global)) (t x : ℕ) → Mentions (given u rows) t x → HasEntry (get_or (entries_in rows) t []) x
unfolding Mentions given row_len unknown_at
given_mentions u rows t x there = there

mentions_given : (u : ℕ) (rows : List (Vec (ℕ × ℕ) Global)) (t x : ℕ) → HasEntry (get_or (entries_in rows) t []) x → Mentions (given u rows) t x
unfolding Mentions given row_len unknown_at
mentions_given u rows t x there = there

given_unknowns : (u : ℕ) (rows : List (Vec (ℕ × ℕ) Global)) → (given u rows).unknowns ≡ u
unfolding given
given_unknowns u rows = refl

open_tight : (g : Signature) (c d : ℕ → ℕ) (i k j : ℕ) → k < row_len g i → unknown_at g i k ≡ j → d (unknown_at g i k) ≡ c i + order_at g i k → IsTight g c d i j
unfolding IsTight
open_tight g c d i k j l is tight = (k, l, is, rw is at tight)

tight_open : (g : Signature) (c d : ℕ → ℕ) (i j : ℕ) → IsTight g c d i j → (k : ℕ) × (k < row_len g i) × (unknown_at g i k ≡ j) × (d j ≡ c i + order_at g i k)
unfolding IsTight
tight_open g c d i j tight = (tight.0, tight.1, tight.2, tight.3)

pub lists_by : {P Q : ℕ → Type 0} {n : ℕ} {xs : List ℕ} → ((x : ℕ) → 0 < x → x ≤ n → P x → Q x) → ((x : ℕ) → 0 < x → x ≤ n → Q x → P x) → ListsWhere P n xs → ListsWhere Q n xs
lists_by to from lists = record {
  ascending = lists.ascending;
  only = λ x there. let at = lists.only x there in (at.0, at.1, to x at.0 at.1 at.2);
  all = λ x above below q. lists.all x above below (from x above below q);
}

lists_at : {P : ℕ → Type 0} {m n : ℕ} {xs : List ℕ} → m ≡ n → ListsWhere P m xs → ListsWhere P n xs
lists_at {P} {m} {n} {xs} e lists = subst (λ (k : ℕ). ListsWhere P k xs) e lists

module _ (g : Signature) (c d : ℕ → ℕ) (active order rank : List ℕ) (end : ℕ) (ranks : AreOwners (length order) (by_place order) rank) (low : end ≤ length order)
    (rows : List (Vec (ℕ × ℕ) Global)) (size : length (entries_in rows) ≡ length active) (to : AreOpenRows g c d active rank end (entries_in rows)) where
  equations_are_holds : equations (given g.unknowns rows) ≡ length active
  equations_are_holds = equations_given g.unknowns rows ∙ sym (length_entries rows) ∙ size

  listed_in : (j t : ℕ) → t < end → get_or order t 0 ≡ j → Contains (take end order) j
  listed_in j t l is = at_contains (take end order) j t (omega (arith, length-take-le end order low)) (get_or-take end order t 0 l ∙ is)

  tied_to_holds : (e j : ℕ) → e < length active → Mentions (given g.unknowns rows) e j → IsTiedTo g c d active (take end order) e j
  tied_to_holds e j l there =
      let at = given_mentions g.unknowns rows e j there in
      let row = to.row e (omega arith) in
      let found = row.only at.0 at.1 in
      let is : unknown_at g (get_or active e 0) found.0 ≡ j = sym found.3 ∙ at.2 in
      let held = ranks.owns (unknown_at g (get_or active e 0) found.0) (get_or rank (unknown_at g (get_or active e 0) found.0) 0 - 1) (omega (arith, found.2.0)) in (
        listed_in j (get_or rank (unknown_at g (get_or active e 0) found.0) 0 - 1) (omega (arith, found.2.0, found.2.1)) (held.1 ∙ is),
        open_tight g c d (get_or active e 0) found.0 j found.1 is found.2.2,
      )

  to_tied : (e j : ℕ) → e < length active → IsTiedTo g c d active (take end order) e j → Mentions (given g.unknowns rows) e j
  to_tied e j l tied =
      let at = contains_at (take end order) j tied.0 in
      let before : at.0 < end = omega (arith, at.1, length-take-le end order low) in
      let is : get_or order at.0 0 ≡ j = sym (get_or-take end order at.0 0 before) ∙ at.2 in
      let ranked : get_or rank j 0 ≡ suc at.0 = rw is at (ranks.owned at.0 (omega arith)) in
      let found = tight_open g c d (get_or active e 0) j tied.1 in
      let row = to.row e (omega arith) in
      let ranked' : get_or rank (unknown_at g (get_or active e 0) found.0) 0 ≡ suc at.0 = rw found.2 ranked in
      let is_open : IsOpen g c d rank end (get_or active e 0) found.0 = (omega arith, omega arith, rw found.2 found.3) in
      mentions_given g.unknowns rows e j (rw found.2 at (row.all found.0 found.1 is_open))

  to_local : (q : ℕ → ℕ) → Assigns (Mentions (given g.unknowns rows)) (length active) q → Assigns (IsTiedTo g c d active (take end order)) (length active) q
  to_local q assigns = record { allowed = λ e l some. tied_to_holds e (q e) l (assigns.allowed e l some); apart = assigns.apart }

  from_local : (q : ℕ → ℕ) → Assigns (IsTiedTo g c d active (take end order)) (length active) q → Assigns (Mentions (given g.unknowns rows)) (length active) q
  from_local q assigns = record { allowed = λ e l some. to_tied e (q e) l (assigns.allowed e l some); apart = assigns.apart }

  largest_local : (q : ℕ → ℕ) → IsLargest (given g.unknowns rows) q → IsLargestOf (IsTiedTo g c d active (take end order)) (length active) q
  largest_local q largest = record {
    assigns = to_local q (rw equations_are_holds at largest.assigns);
    most = λ r assigns. rw equations_are_holds at (largest.most r (rw equations_are_holds (from_local r assigns)));
  }

  largest_given : (q : ℕ → ℕ) → IsLargestOf (IsTiedTo g c d active (take end order)) (length active) q → IsLargest (given g.unknowns rows) q
  largest_given q largest = record {
    assigns = rw equations_are_holds (from_local q largest.assigns);
    most = λ r assigns. rw equations_are_holds (largest.most r (to_local r (rw equations_are_holds at assigns)));
  }

  out_local : (x : ℕ) → 0 < x → IsDeficient (given g.unknowns rows) x → IsLeftOut g c d active (take end order) (x - 1)
  out_local x above there =
      let back : x - 1 ≡ there.0 = omega (arith, there.1) in
      (there.2.0, largest_local there.2.0 there.2.1, rw back there.2.2)

  out_given : (x : ℕ) → 0 < x → IsLeftOut g c d active (take end order) (x - 1) → IsDeficient (given g.unknowns rows) x
  out_given x above there = (x - 1, omega arith, (there.0, largest_given there.0 there.1, there.2))

  module _ (q deficient mentioned without : List ℕ) (k : ℕ) (largest : IsLargest (given g.unknowns rows) (by_place q))
      (missing : count_below (by_place q) (equations (given g.unknowns rows)) + k ≡ equations (given g.unknowns rows))
      (deficit : IsDeficit (given g.unknowns rows) deficient mentioned k)
      (names : without ≡ map (λ x. suc (get_or active (x - 1) 0)) deficient) where
    pub left_out_are : IsLeft g c d active (take end order) without
    left_out_are = record {
      by = by_place q;
      largest = largest_local (by_place q) largest;
      without = record {
        places = deficient;
        tied = mentioned;
        numbers = names;
        left_out = lists_by (λ x above below there. out_local x above there) (λ x above below there. out_given x above there) (rw equations_are_holds at deficit.equations);
        tied_to = lists_by
            (λ j above below there.
            let inside : there.0 < length active = omega (arith, there.1, equations_are_holds) in
            (there.0, inside, (there.2.0, largest_local there.2.0 there.2.1, there.2.2), tied_to_holds there.0 j inside there.3))
            (λ j above below there.
            (there.0, omega (arith, there.1, equations_are_holds), (there.2.0, largest_given there.2.0 there.2.1, there.2.2), to_tied there.0 j there.1 there.3))
            (lists_at (given_unknowns g.unknowns rows) deficit.unknowns);
        excess =
            let size_without : length without ≡ length deficient = ap length names ∙ length-map deficient (λ x. suc (get_or active (x - 1) 0)) in
            let missing' : count_below (by_place q) (length active) + k ≡ length active = rw equations_are_holds at missing in
            omega (arith, deficit.excess);
      };
    }

-- the numbers of a deficit are places in the list
pub left_out_known : (g : Signature) (active : List ℕ) (rows : List (Vec (ℕ × ℕ) Global)) → length (entries_in rows) ≡ length active → (deficient mentioned : List ℕ) (k : ℕ)
    → IsDeficit (given g.unknowns rows) deficient mentioned k → (x : ℕ) → x < length deficient → (0 < get_or deficient x 0) × (get_or deficient x 0 ≤ length active)
left_out_known g active rows size deficient mentioned k deficit x l =
    let at = deficit.equations.only (get_or deficient x 0) (at_contains deficient (get_or deficient x 0) x l refl) in
    let equations_are : equations (given g.unknowns rows) ≡ length active = equations_given g.unknowns rows ∙ sym (length_entries rows) ∙ size in
    (at.0, omega (arith, at.1))
