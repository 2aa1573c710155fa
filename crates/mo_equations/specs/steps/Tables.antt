-- Tables of paths: the first place of a path, and of a text.
use Rattle.std.specs.Prelude.{◌≡◌, ℕ, ◌+◌, ◌<◌, ◌^◌, Bool, ◌&&◌, List, [], ◌∷◌, length, map, Option, Some, None, option_map, if◌then◌else◌}
use Rattle.std.specs.HashMap.{get_by_text}
use Rattle.std.specs.Str.{bytes_eq}
use Rattle.mo_scope.specs.Frames.{Indexed, indexed_eq, numbers_eq}
use Rattle.mo_equations.specs.declared.table.PathTable.{PathTable}
use Rattle.mo_equations.specs.Leaves.{path_text}

abbrev pub step_eq : List ℕ × List ℕ → List ℕ × List ℕ → Bool
step_eq a b = bytes_eq a.0 b.0 && numbers_eq a.1 b.1

-- the place, from 0, of the first element that passes a test
abbrev pub first_place : {A : Type 0} → (A → Bool) → List A → Option ℕ
first_place test [] = None
first_place test (x ∷ xs) = if test x then Some 0 else option_map (λ k. k + 1) (first_place test xs)

-- the place of the first path that is this one
abbrev pub place_among : List Indexed → Indexed → Option ℕ
place_among paths path = first_place (λ other. indexed_eq other path) paths

-- the place of the first path of a text
abbrev pub place_of_text : List Indexed → List ℕ → Option ℕ
place_of_text paths text = first_place (λ other. bytes_eq (path_text other) text) paths

abbrev pub paths_seen : PathTable → List Indexed
paths_seen table = map (λ path. path.now.0) table.paths

-- the map holds the first place of each text
pub record IsPathTable (table : PathTable) : Type 0 where
  pub few : length table.paths < 2 ^ 32
  pub places : (text : List ℕ) → get_by_text table.places text ≡ place_of_text (paths_seen table) text
