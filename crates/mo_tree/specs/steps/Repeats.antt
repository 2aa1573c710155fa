-- The rules of the class tree by keys: the first name whose key stands among those before, and the names behind `within`.
use Rattle.std.specs.Prelude.{ℕ, ◌+◌, Bool, false, ◌||◌, List, [], ◌∷◌, map, Option, Some, None, if◌then◌else◌}
use Rattle.std.specs.Str.{bytes_eq}
use Rattle.mo_syntax.specs.declared.class.FileTree.{FileTree}
use Rattle.mo_syntax.specs.declared.place.Broken.{Broken}
use Rattle.mo_syntax.specs.declared.place.Place.{Place}
use Rattle.mo_syntax.specs.declared.rules.TheConstants.{DECLARED_TWICE, WITHIN_NAMES_NO_CLASS}
use Rattle.mo_syntax.specs.declared.text.Path.{Path}
use Rattle.mo_syntax.specs.ClassTable.{in_file, is_long, class_of_path, otherwise}
use Rattle.mo_tree.specs.declared.names.Name.{Name}
use Rattle.mo_tree.specs.steps.Homes.{declared_under, number_of_within}
use Rattle.mo_tree.specs.Keys.{name_of}

abbrev pub has_key : (List ℕ → Bool) → Option (List ℕ) → Bool
has_key keys None = false
has_key keys (Some key) = keys key

abbrev pub with_key : (List ℕ → Bool) → Option (List ℕ) → List ℕ → Bool
with_key keys None = keys
with_key keys (Some key) = λ other. bytes_eq other key || keys other

abbrev pub with_keys : (List ℕ → Bool) → List Name → List ℕ → Bool
with_keys keys [] = keys
with_keys keys (name ∷ names) = with_keys (with_key keys name.key) names

-- rule 9 at the first name whose key is there already, or stands before it
abbrev pub repeated : (List ℕ → Bool) → List Name → Option Broken
repeated keys [] = None
repeated keys (name ∷ names) =
    if has_key keys name.key then Some (record { rule = DECLARED_TWICE; place = name.place }) else repeated (with_key keys name.key) names

-- rule 10 where the name behind `within` is not the path of a long class
abbrev pub within_broken : List FileTree → Option (Path × Place) → Option Broken
within_broken files None = None
within_broken files (Some within) = if is_long (class_of_path files within.0.0) then None else Some (record { rule = WITHIN_NAMES_NO_CLASS; place = within.1 })

-- the names that a file declares, whose classes are elements of the class with the number home, and whose first class has the number n
abbrev pub names_in : (home : ℕ) → FileTree → ℕ → List Name
names_in home file n = map name_of (declared_under home file n)

-- the first broken rule of these files, of which those keys stand before
abbrev pub files_broken : List FileTree → (List ℕ → Bool) → ℕ → List FileTree → Option Broken
files_broken all keys n [] = None
files_broken all keys n (file ∷ files) =
    otherwise (within_broken all file.within)
    (otherwise (repeated keys (names_in (number_of_within all file.within) file n))
    (files_broken all (with_keys keys (names_in (number_of_within all file.within) file n)) (n + (in_file file).classes) files))
