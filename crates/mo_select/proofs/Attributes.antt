-- The first attribute that is stateSelect.
use Rattle.std.proofs.Common.{◌≡◌, ◌≢◌, ℕ, ◌+◌, ◌<◌, ◌==◌, inl, inr, Bool, true, false, List, ◌∷◌, length, get_or, drop}
use Rattle.std.specs.Prelude.{if◌then◌else◌}
use Rattle.std.proofs.lemmas.List.{drop_more}
use Rattle.std.proofs.lemmas.Bool.Decides.{eqb_tells}
use Rattle.mo_flat.specs.declared.expr.FlatExpr.{FlatExpr, out-FlatExpr}
use Rattle.mo_select.specs.Levels.{level_at, level_in}

-- a choice by what is known of its test
pick_first : (b : Bool) (x y whole : ℕ) → b ≡ true → (if b then x else y) ≡ whole → x ≡ whole
pick_first b x y whole e h = rw e at h

pick_second : (b : Bool) (x y whole : ℕ) → b ≡ false → (if b then x else y) ≡ whole → y ≡ whole
pick_second b x y whole e h = rw e at h

module _ (attributes : List (ℕ × FlatExpr)) (i : ℕ) (a : ℕ × FlatExpr) (l : i < length attributes) (is : a ≡ get_or attributes i a) (to : level_in (drop i attributes) ≡ level_in attributes) where
  opened : level_in (a ∷ drop (i + 1) attributes) ≡ level_in attributes
  opened = rw (drop_more attributes i a l, ← is) at to

  pub level_here : a.0 ≡ 9 → level_at (out-FlatExpr a.1) ≡ level_in attributes
  level_here nine = elim (eqb_tells a.0 9) [
    | inl e ↦ pick_first (a.0 == 9) (level_at (out-FlatExpr a.1)) (level_in (drop (i + 1) attributes)) (level_in attributes) e.0 opened
    | inr e ↦ absurd (e.1 nine)
  ]

  pub level_skip : a.0 ≢ 9 → level_in (drop (i + 1) attributes) ≡ level_in attributes
  level_skip other = elim (eqb_tells a.0 9) [
    | inl e ↦ absurd (other e.1)
    | inr e ↦ pick_second (a.0 == 9) (level_at (out-FlatExpr a.1)) (level_in (drop (i + 1) attributes)) (level_in attributes) e.0 opened
  ]
