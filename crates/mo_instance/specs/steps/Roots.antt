-- The paths that classes are placed under, as the values of the code are data.
use Rattle.std.specs.Prelude.{ℕ, Bool, List, [], map, Option, Some, None, if◌then◌else◌}
use Rattle.std.specs.Borrow.{Bor}
use Rattle.mo_syntax.specs.Classes.{Home, Under}
use Rattle.mo_scope.specs.Rows.{Row}

abbrev pub names_seen : List (Bor (List ℕ)) → List (List ℕ)
names_seen names = map (λ name. name.now) names

abbrev pub path_of_home : Home → List (List ℕ)
path_of_home (Under path) = path
path_of_home home = []

-- a row, if it passes a test
abbrev pub row_if : (Row → Bool) → Option Row → Option Row
row_if test None = None
row_if test (Some row) = if test row then Some row else None
