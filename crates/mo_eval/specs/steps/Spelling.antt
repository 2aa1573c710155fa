-- The texts of literals, name by name: words of the contracts inside this crate alone.
use Rattle.std.specs.Prelude.{ℕ, List, [], ◌++◌, codes, flat_map}
use Rattle.mo_syntax.specs.Classes.{Home, Under}

-- names with a dot behind each
abbrev pub with_dots : List (List ℕ) → List ℕ
with_dots names = flat_map (λ name. name ++ codes ".") names

-- the path of a class in which another one stands
abbrev pub home_path : Home → List (List ℕ)
home_path (Under path) = path
home_path home = []
