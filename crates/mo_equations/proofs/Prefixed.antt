-- Whether the declaration of an instance is flow.
use Rattle.std.proofs.Common.{◌≡◌, ℕ, suc, ◌≤◌, ◌-◌, List, [], ◌∷◌, length, get_or, Option, Some, None, ap, ◌∙◌, arith}
use Rattle.mo_syntax.specs.declared.class.FileTree.{FileTree}
use Rattle.mo_scope.specs.Frames.{Top, Indexed, Member}
use Rattle.mo_scope.specs.Lookup.{members_from, own_members}
use Rattle.mo_scope.specs.Rows.{Row, elements_in, table_of}
use Rattle.mo_scope.proofs.RowsFound.{predefined}
use Rattle.mo_equations.specs.Connectors.{last_name}

-- the last name of a path
pub last_at : (path : Indexed) (step : List ℕ × List ℕ) → 1 ≤ length path → step ≡ get_or path (length path - 1) step → step.0 ≡ last_name path
last_at [] step some is = let h : 1 ≤ 0 = some in absurd (omega (arith, h))
last_at (x ∷ []) step some is = ap (λ (s : List ℕ × List ℕ). s.0) is
last_at (x ∷ next ∷ path) step some is =
    last_at (next ∷ path) step (omega arith) (is ∙ ap (λ k. get_or (x ∷ next ∷ path) k step) (one (length path)))
  where
    one : (m : ℕ) → suc (suc m) - 1 ≡ suc (suc m - 1)
    one m = omega arith

-- no class declares elements of the top
pub none_of_top : (files : List FileTree) → own_members (table_of files) Top ≡ []
none_of_top files = ap members_of (predefined files 0 (omega arith))
  where
    members_of : Option Row → List Member
    members_of None = []
    members_of (Some row) = members_from Top 0 (elements_in row.parts)
