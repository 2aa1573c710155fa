-- The value that sources give for a path, one source after another: for each name of the path is known whether a redeclaration of what it
-- leads to still wins.
use Rattle.std.specs.Prelude.{ℕ, Bool, true, List, [], ◌∷◌, get_or, Option, Some, None}
use Rattle.mo_scope.specs.declared.pick_path.View.{View as ViewAt}
use Rattle.mo_scope.specs.Rows.{Table}
use Rattle.mo_scope.specs.Frames.{Frame, Given, Scope, Source}
use Rattle.mo_scope.specs.Parts.{Picked, Saying, picked_here, said_by_all, sources_said}
use Rattle.mo_scope.specs.Sights.{given_seen}
use Rattle.mo_scope.specs.Worlds.{scope_in}

-- What of a source matters for the values that it gives: what it holds, the indices that are pending, and its scope.
pub record View : Type 0 where
  pub given : Given
  pub pending : List ℕ
  pub scope : Scope

abbrev pub view_of : Source → View
view_of source = record { given = source.piece.given; pending = source.piece.pending; scope = source.scope }

-- where frames have these numbers
abbrev pub view_in : List Frame → ViewAt → View
view_in frames view = record { given = given_seen view.given; pending = view.pending.now; scope = scope_in frames view.scope.now.frame.0 view.scope.now.iters }

abbrev pub or_else : {A : Type 0} → Option A → Option A → Option A
or_else (Some x) other = Some x
or_else None other = other

-- the value for a path, where for its names is told whether a redeclaration still wins; where nothing is told, it does
abbrev pub picked_with : Table → List Bool → List Source → List (List ℕ) → Option Picked
picked_with table wins sources [] = picked_here sources
picked_with table [] sources (name ∷ names) = picked_with table [] (sources_said true (said_by_all table name [] sources)) names
picked_with table (first ∷ wins) sources (name ∷ names) = picked_with table wins (sources_said first (said_by_all table name [] sources)) names

-- the same, where this is what is said of the first name, and these names follow
abbrev pub picked_said : Table → List Bool → List Saying → List (List ℕ) → Option Picked
picked_said table [] sayings names = picked_with table [] (sources_said true sayings) names
picked_said table (first ∷ wins) sayings names = picked_with table wins (sources_said first sayings) names

-- the name at a place of a path
abbrev pub name_at : List (List ℕ) → ℕ → List ℕ
name_at names at = get_or names at []
