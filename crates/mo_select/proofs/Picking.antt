-- One candidate more is chosen, or listed, or not.
use Rattle.std.proofs.Common.{◌≡◌, ◌≢◌, ℕ, suc, ◌+◌, ◌-◌, ◌<◌, ◌≤◌, inl, inr, List, [], ◌∷◌, ◌++◌, length, get_or, drop, true, false, nat_lt, Result, Ok, Err, IfOk, sym, ◌∙◌, arith}
use Rattle.std.proofs.lemmas.List.{append-nil, drop_all, drop_more, append_assoc}
use Rattle.std.proofs.lemmas.Bool.Decides.{eqb_tells, nat_tests}
use Rattle.mo_blocks.specs.Stages.{kept}
use Rattle.mo_select.specs.Selection.{chosen_of, of_level}
use Rattle.mo_select.specs.steps.Staging.{taken}

-- what follows for each value that a call gives
pub ok_through : {T E : Type 0} (r : Result T E) (P Q : T → Type 0) → ((v : T) → P v → Q v) → IfOk r P → IfOk r Q
ok_through (Ok v) P Q f h = f v h
ok_through (Err e) P Q f h = h

pub taken_low : (rank pairs : List ℕ) (m j : ℕ) → ((t : ℕ) → get_or pairs t 0 ≤ m) → taken rank pairs j ≤ m
taken_low rank pairs m j low = elim (eqb_tells (get_or rank j 0) 0) [
  | inl e ↦ rw e.0 (omega arith)
  | inr e ↦ rw e.0 (low (get_or rank j 0 - 1))
]

module _ (active : List ℕ) (r : ℕ → ℕ) (js : List ℕ) (made whole : List (ℕ × ℕ)) (i : ℕ) (l : i < length js) (to : made ++ chosen_of active r (drop i js) ≡ whole) where
  opened : made ++ chosen_of active r (get_or js i 0 ∷ drop (i + 1) js) ≡ whole
  opened = rw (drop_more js i 0 l) at to

  pub chosen_skip : r (get_or js i 0) ≡ 0 → made ++ chosen_of active r (drop (i + 1) js) ≡ whole
  chosen_skip none = elim (eqb_tells (r (get_or js i 0)) 0) [
    | inl e ↦ rw e.0 at opened
    | inr e ↦ absurd (e.1 none)
  ]

  pub chosen_take : r (get_or js i 0) ≢ 0 → (made ++ (get_or js i 0, suc (get_or active (r (get_or js i 0) - 1) 0)) ∷ []) ++ chosen_of active r (drop (i + 1) js) ≡ whole
  chosen_take some = elim (eqb_tells (r (get_or js i 0)) 0) [
    | inl e ↦ absurd (some e.1)
    | inr e ↦ append_assoc made ((get_or js i 0, suc (get_or active (r (get_or js i 0) - 1) 0)) ∷ []) (chosen_of active r (drop (i + 1) js)) ∙ (rw e.0 at opened)
  ]

-- ---- those of one level

module _ (level : ℕ → ℕ) (n : ℕ) (js made whole : List ℕ) (i : ℕ) (to : made ++ of_level level n (drop i js) ≡ whole) where
  level_next : i < length js → made ++ of_level level n (get_or js i 0 ∷ drop (i + 1) js) ≡ whole
  level_next l = rw (drop_more js i 0 l) at to

  pub level_passed : i < length js → (level (get_or js i 0) ≡ n → ⊥) → made ++ of_level level n (drop (i + 1) js) ≡ whole
  level_passed l other = elim (eqb_tells (level (get_or js i 0)) n) [
    | inl e ↦ absurd (other e.1)
    | inr e ↦ rw e.0 at (level_next l)
  ]

  pub level_taken : i < length js → level (get_or js i 0) ≡ n → (made ++ get_or js i 0 ∷ []) ++ of_level level n (drop (i + 1) js) ≡ whole
  level_taken l same = elim (eqb_tells (level (get_or js i 0)) n) [
    | inl e ↦ append_assoc made (get_or js i 0 ∷ []) (of_level level n (drop (i + 1) js)) ∙ (rw e.0 at (level_next l))
    | inr e ↦ absurd (e.1 same)
  ]

  pub level_whole : length js ≤ i → made ≡ whole
  level_whole l = sym (append-nil made) ∙ (rw (drop_all i js l) at to)

-- ---- those that are differentiated often enough

module _ (c : ℕ → ℕ) (s : ℕ) (js made whole : List ℕ) (i : ℕ) (to : made ++ kept c s (drop i js) ≡ whole) where
  kept_next : i < length js → made ++ kept c s (get_or js i 0 ∷ drop (i + 1) js) ≡ whole
  kept_next l = rw (drop_more js i 0 l) at to

  pub kept_passed : i < length js → c (get_or js i 0) < s → made ++ kept c s (drop (i + 1) js) ≡ whole
  kept_passed l low = let yes : nat_lt (c (get_or js i 0)) s ≡ true = grind (arith, nat_tests) in rw yes at (kept_next l)

  pub kept_taken : i < length js → s ≤ c (get_or js i 0) → (made ++ get_or js i 0 ∷ []) ++ kept c s (drop (i + 1) js) ≡ whole
  kept_taken l high =
      let past : nat_lt (c (get_or js i 0)) s ≡ false = grind (arith, nat_tests) in
      append_assoc made (get_or js i 0 ∷ []) (kept c s (drop (i + 1) js)) ∙ (rw past at (kept_next l))

  pub kept_whole : length js ≤ i → made ≡ whole
  kept_whole l = sym (append-nil made) ∙ (rw (drop_all i js l) at to)
