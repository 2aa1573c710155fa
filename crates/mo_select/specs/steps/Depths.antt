-- Words on how deep unknowns are chosen: the number of the last stage at which each is, and 0 for one that never is.
use Rattle.std.specs.Prelude.{◌≡◌, ℕ, ◌-◌, ◌<◌, ◌≤◌, Contains, List, length, map}
use Rattle.std.proofs.Common.{get_or, suc}
use Rattle.mo_select.specs.declared.selection.Stage.{Stage}
use Rattle.mo_select.specs.Selection.{no_stage}

-- the unknowns of a list of pairs
abbrev pub unknowns_in : List (ℕ × ℕ) → List ℕ
unknowns_in chosen = map (λ x. x.0) chosen

-- the chosen unknowns have the number of the stage, and the others what they had
pub record IsNoted (chosen : List (ℕ × ℕ)) (stage : ℕ) (depth depth' : List ℕ) : Type 0 where
  pub here : (j : ℕ) → Contains (unknowns_in chosen) j → get_or depth' (j - 1) 0 ≡ stage
  pub others : (u : ℕ) → (Contains (unknowns_in chosen) (suc u) → ⊥) → get_or depth' u 0 ≡ get_or depth u 0

-- of the first `count` stages an unknown is chosen at those before its depth, and at no others
pub record AreDepths (stages : List Stage) (n count : ℕ) (depth : List ℕ) : Type 0 where
  pub size : length depth ≡ n
  pub low : (u : ℕ) → get_or depth u 0 ≤ count
  pub chosen : (k u : ℕ) → k < count → u < n → k < get_or depth u 0 → Contains (unknowns_in (get_or stages k no_stage).chosen) (suc u)
  pub unchosen : (k u : ℕ) → k < count → u < n → Contains (unknowns_in (get_or stages k no_stage).chosen) (suc u) → k < get_or depth u 0

-- some depths are those of all stages
abbrev pub HasDepths : List Stage → ℕ → Type 0
HasDepths stages n = (depth : List ℕ) × AreDepths stages n (length stages) depth
