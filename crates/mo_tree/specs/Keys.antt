-- The key of a declared name: the number of the class whose element it is, in two halves, and the name. The top has the number 0.
use Rattle.std.specs.Prelude.{◌≡◌, ℕ, ◌+◌, ◌/◌, ◌%◌, Bool, List, ◌∷◌, ◌++◌, Option, Some, None, map}
use Rattle.std.specs.List.{list_any}
use Rattle.std.specs.Str.{bytes_eq}
use Rattle.mo_syntax.specs.Classes.{Home, Under, Inside, Apart, Declaration, Outline}
use Rattle.mo_tree.specs.declared.keys.Keys.{Keys}
use Rattle.mo_tree.specs.declared.names.Name.{Name}
use Rattle.mo_tree.specs.declared.names.Scope.{Scope}
use Rattle.mo_tree.specs.declared.names.Scope.TheVariants.{Of as of, Apart as aside}

-- None where the name is no element of a class with a number
abbrev pub key_in : Home → List ℕ → Option (List ℕ)
key_in (Under path) name = None
key_in (Inside n) name = Some (n / 65536 ∷ n % 65536 ∷ name)
key_in Apart name = None

-- a declared name as its key and its place
abbrev pub name_of : Declaration → Name
name_of d = record { key = key_in d.home d.name; place = d.place }

-- The names of a part, which is read with that home and the number of its first class, were put behind those before, and the
-- number behind its last class is next.
abbrev pub Lists : Outline → Home → ℕ → List Name → List Name → ℕ → Type 0
Lists part home first before after next = (next ≡ first + part.classes) × (after ≡ before ++ map name_of (part.declared home first))

-- the home that the code carries
abbrev pub home_of : Scope → Home
home_of (of n) = Inside n
home_of aside = Apart

-- whether a key stands among those that were put in
abbrev pub holds : Keys → List ℕ → Bool
holds keys key = list_any (λ k. bytes_eq key k.items) keys.set.keys
