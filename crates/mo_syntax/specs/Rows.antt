-- What the search for a path answers, and where it may stop.
use Rattle.std.specs.Prelude.{◌≡◌, ℕ, List, ◌++◌}
use Rattle.mo_syntax.specs.declared.finding.ClassAt.{ClassAt}
use Rattle.mo_syntax.specs.Classes.{ClassRow}

-- a found class as a row of the class table
abbrev pub row_of : ClassAt → ClassRow
row_of found = record { number = found.id.0; class = found.class.now; outermost = found.outermost }

-- the path does not begin with that front
abbrev pub IsPassed : List (List ℕ) → List (List ℕ) → Type 0
IsPassed path front = (rest : List (List ℕ)) → path ≡ front ++ rest → ⊥
