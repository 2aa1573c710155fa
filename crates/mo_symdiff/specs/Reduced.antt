-- The reduced model: each equation with its derivatives carried out, followed by as many of its derivatives as the offsets
-- say (Mattsson and Söderlind 1993), and its text.
use Rattle.std.specs.Prelude.{◌≡◌, ℕ, zero, suc, ◌+◌, ◌≤◌, Bool, ◌&&◌, ◌||◌, not, List, [], ◌∷◌, ◌++◌, Option, Some, None, codes, flat_map, if◌then◌else◌, length, nat_lt, sum_by, MatchOption}
use Rattle.mo_syntax.specs.declared.place.Place.{Place}
use Rattle.mo_syntax.specs.declared.place.Broken.{Broken}
use Rattle.mo_flat.specs.declared.model.FlatVar.{FlatVar}
use Rattle.mo_flat.specs.declared.model.FlatEquation.{FlatEquation}
use Rattle.mo_flat.specs.declared.model.FlatModel.{FlatModel}
use Rattle.mo_flat.specs.Nodes.{node_count}
use Rattle.mo_flat.specs.Text.{equation_line}
use Rattle.mo_symdiff.specs.Carried.{carried, carries}
use Rattle.mo_symdiff.specs.Derivative.{derived}
use Rattle.mo_symdiff.specs.Refusal.{of_given}
use Rattle.mo_symdiff.specs.Still.{has_given}
use Rattle.mo_syntax.specs.declared.rules.TheConstants.{RESULT_TOO_LARGE}

unfoldable pub carried_equation : List FlatVar → FlatEquation → FlatEquation
carried_equation vars q = record { left = carried vars q.left; right = carried vars q.right; place = q.place }

unfoldable pub derived_equation : List FlatVar → FlatEquation → FlatEquation
derived_equation vars q = record { left = derived vars q.left; right = derived vars q.right; place = q.place }

-- an equation and its first `count` derivatives
abbrev pub derivatives : List FlatVar → ℕ → FlatEquation → List FlatEquation
derivatives vars zero q = q ∷ []
derivatives vars (suc count) q = q ∷ derivatives vars count (derived_equation vars q)

-- each equation carried out with as many derivatives as its count says
abbrev pub reduced_lines : List FlatVar → List FlatEquation → List ℕ → List (List FlatEquation)
reduced_lines vars [] counts = []
reduced_lines vars (q ∷ qs) [] = []
reduced_lines vars (q ∷ qs) (count ∷ counts) = derivatives vars count (carried_equation vars q) ∷ reduced_lines vars qs counts

-- a derivative in the equation is one of a given variable, or the equation is differentiated and a given variable stands in it
unfoldable pub differentiates_given : List FlatVar → FlatEquation → ℕ → Bool
differentiates_given vars q count =
    not (carries vars q.left && carries vars q.right) || (nat_lt 0 count && (has_given vars q.left || has_given vars q.right))

-- the place of the first equation that differentiates a given variable
abbrev pub first_given : List FlatVar → List FlatEquation → List ℕ → Option Place
first_given vars [] counts = None
first_given vars (q ∷ qs) [] = None
first_given vars (q ∷ qs) (count ∷ counts) = if differentiates_given vars q count then Some q.place else first_given vars qs counts

unfoldable pub nodes_at : FlatEquation → ℕ
nodes_at q = node_count q.left + node_count q.right

unfoldable pub bytes_at : List FlatVar → FlatEquation → ℕ
bytes_at vars q = length (equation_line vars q)

abbrev pub nodes_of : List FlatEquation → ℕ
nodes_of = sum_by nodes_at

abbrev pub bytes_of : List FlatVar → List FlatEquation → ℕ
bytes_of vars = sum_by (bytes_at vars)

unfoldable pub reduced_text : FlatModel → List (List FlatEquation) → List ℕ
reduced_text m lines =
    (codes "reduced " ++ m.name ++ codes "\n") ++ flat_map (flat_map (equation_line m.vars)) lines ++ (codes "end " ++ m.name ++ codes ";\n")

-- at most 4,000,000 nodes and 67,108,864 bytes of text
pub record IsWithin (m : FlatModel) (lines : List (List FlatEquation)) : Type 0 where
  pub nodes : sum_by nodes_of lines ≤ 4000000
  pub bytes : length (reduced_text m lines) ≤ 67108864

abbrev pub too_large : FlatModel → Broken
too_large m = record { rule = RESULT_TOO_LARGE; place = m.place }

-- what refuses the reduced model: the first given variable that would be differentiated, and where there is none, the size
abbrev pub IsRefusal : FlatModel → List ℕ → Broken → Type 0
IsRefusal m c broken =
    MatchOption (first_given m.vars m.equations c)
    ((IsWithin m (reduced_lines m.vars m.equations c) → ⊥) × (broken ≡ too_large m))
    (λ place. broken ≡ of_given place)
