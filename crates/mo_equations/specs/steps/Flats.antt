-- What the counted expressions of the code stand for, and what an answer says where its value stands for one of a definition.
use Rattle.std.specs.Prelude.{◌≡◌, ℕ, ◌-◌, ◌<◌, ◌^◌, Bool, ◌||◌, Some, None, Result, Ok, Err, min, nat_lt}
use Rattle.mo_syntax.specs.Outcome.{Outcome}
use Rattle.mo_syntax.specs.declared.place.Stop.{Stop}
use Rattle.mo_syntax.specs.declared.place.Stop.TheVariants.{Broken as broken_by, NoMemory as no_memory}
use Rattle.mo_flat.specs.declared.expr.FlatExpr.{FlatExpr}
use Rattle.mo_flat.specs.Nodes.{node_count}
use Rattle.mo_equations.specs.declared.flat.Flat.{Flat}
use Rattle.mo_equations.specs.Size.{most_equations, most_nodes, most_unknowns}

-- ---- answers

-- The answer is this outcome, its value standing for that of the outcome; want of memory says nothing.
abbrev pub Answers : {T A : Type 0} → (T → A → Type 0) → Result T Stop → Outcome A → Type 0
Answers {A = A} Is (Ok value) told = (a : A) × (told ≡ Ok a) × Is value a
Answers Is (Err (broken_by broken)) told = told ≡ Err broken
Answers Is (Err no_memory) told = Unit {0}

-- ---- counts

-- a count that stays at the greatest number of 64 bits
abbrev pub capped : ℕ → ℕ
capped n = min n (2 ^ 64 - 1)

abbrev pub is_past_nodes : ℕ → Bool
is_past_nodes nodes = nat_lt most_nodes nodes

-- more unknowns, equations or nodes than a flat model may have
abbrev pub are_over : ℕ → ℕ → ℕ → Bool
are_over unknowns equations nodes = nat_lt most_unknowns unknowns || nat_lt most_equations equations || nat_lt most_nodes nodes

-- ---- expressions

-- A counted expression stands for one: its count is that of the expression, and it is built unless it has too many nodes.
pub record IsFlat (flat : Flat) (e : FlatExpr) : Type 0 where
  pub nodes : flat.nodes ≡ capped (node_count e)
  pub built : (u : FlatExpr) → flat.built ≡ Some u → u ≡ e
  pub past : flat.built ≡ None → most_nodes < node_count e
