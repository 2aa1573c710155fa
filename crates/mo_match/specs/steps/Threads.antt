-- The entries of each unknown, threaded from the last one back.
use Rattle.std.specs.Prelude.{◌≡◌, ℕ, ◌+◌, ◌-◌, ◌<◌, ◌≤◌, List, length}
use Rattle.std.proofs.Common.{get_or, suc}
use Rattle.mo_incidence.specs.Counting.{sum_below}
use Rattle.mo_incidence.specs.Signature.{Signature, equations, row_len, unknown_at, entries}

-- `target` is the unknown of each entry. The first `filled` entries are those of the rows before `row`, and the first `upto` of that row. `last` leads to an unknown's last
-- entry and `before` from each to the one before it, both one more than its place, or 0. `row_of` is the place of its equation.
pub record IsThreadedTo (g : Signature) (last before row_of target : List ℕ) (filled row upto : ℕ) : Type 0 where
  pub count : filled ≡ sum_below (row_len g) row + upto
  pub last_all : length last ≡ suc g.unknowns
  pub before_all : length before ≡ entries g
  pub row_all : length row_of ≡ entries g
  pub target_all : length target ≡ entries g
  pub last_in : (j : ℕ) → j ≤ g.unknowns → get_or last j 0 ≤ filled
  pub at_last : (j : ℕ) → j ≤ g.unknowns → 0 < get_or last j 0 → get_or target (get_or last j 0 - 1) 0 ≡ j
  pub past_last : (x : ℕ) → x < filled → x < get_or last (get_or target x 0) 0
  pub falls : (x : ℕ) → x < filled → get_or before x 0 ≤ x
  pub at_before : (x : ℕ) → x < filled → 0 < get_or before x 0 → get_or target (get_or before x 0 - 1) 0 ≡ get_or target x 0
  pub none_between : (x y : ℕ) → x < filled → y < x → get_or target y 0 ≡ get_or target x 0 → y < get_or before x 0
  pub row_in : (x : ℕ) → x < filled → get_or row_of x 0 < equations g
  pub entry : (x : ℕ) → x < filled → (k : ℕ) × (k < row_len g (get_or row_of x 0)) × (unknown_at g (get_or row_of x 0) k ≡ get_or target x 0)
  pub rows : (i k : ℕ) → i < row → k < row_len g i → (x : ℕ) × (x < filled) × (get_or row_of x 0 ≡ i) × (get_or target x 0 ≡ unknown_at g i k)
  pub here : (k : ℕ) → k < upto → (x : ℕ) × (x < filled) × (get_or row_of x 0 ≡ row) × (get_or target x 0 ≡ unknown_at g row k)

abbrev pub IsThreaded : Signature → List ℕ → List ℕ → List ℕ → ℕ → ℕ → ℕ → Type 0
IsThreaded g last before row_of filled row upto = (target : List ℕ) × IsThreadedTo g last before row_of target filled row upto

-- all entries are threaded
abbrev pub AreThreaded : Signature → List ℕ → List ℕ → List ℕ → Type 0
AreThreaded g last before row_of = IsThreaded g last before row_of (entries g) (equations g) 0
