-- The leaves of a tree of instances as variables of the flat model (Modelica Language Specification 3.5, sections 4.8, 5.6.2 and 10.5):
-- their numbers and their names.
use Rattle.std.specs.Prelude.{ℕ, ◌+◌, Bool, ◌&&◌, List, [], ◌∷◌, ◌++◌, find, filter, map, flat_map, codes, Option, Some, None, is_some, if◌then◌else◌}
use Rattle.std.specs.Fmt.{decimal}
use Rattle.std.specs.Str.{bytes_eq}
use Rattle.mo_syntax.specs.declared.place.Place.{Place}
use Rattle.mo_scope.specs.Rows.{Table}
use Rattle.mo_scope.specs.Frames.{Indexed, indexed_eq, numbers_eq}
use Rattle.mo_scope.specs.Parts.{first_of}
use Rattle.mo_scope.specs.Instances.{Instance, Leaf}
use Rattle.mo_eval.specs.Resolving.{dotted}

-- Classes, and the instances of one of them: that class first, each instance before its parts.
pub record Tree : Type 0 where
  pub classes : Table
  pub instances : List Instance

-- ---- the asked class

-- the class that the instances are of, None where there are none
abbrev pub root_of : Tree → Option Instance
root_of tree = first_of tree.instances

-- where the name of that class stands
abbrev pub place_of_root : Tree → Place
place_of_root tree = place_in (root_of tree)
  where
    place_in : Option Instance → Place
    place_in None = record { file = 0; byte = 0 }
    place_in (Some root) = root.place

-- ---- numbers

-- A leaf with the number of its variable.
pub record Variable : Type 0 where
  pub number : ℕ
  pub instance : Instance
  pub leaf : Leaf

abbrev pub with_leaf : ℕ → Instance → Option Leaf → (ℕ → List Variable) → List Variable
with_leaf number instance None others = others number
with_leaf number instance (Some leaf) others = record { number = number; instance = instance; leaf = leaf } ∷ others (number + 1)

abbrev pub variables_from : ℕ → List Instance → List Variable
variables_from number [] = []
variables_from number (instance ∷ others) = with_leaf number instance instance.leaf (λ next. variables_from next others)

-- The leaves in the order of the instances are the variables of the flat model, numbered from 1.
abbrev pub variables_of : Tree → List Variable
variables_of tree = variables_from 1 tree.instances

-- the number of the variable at a path; 0, the number of no variable, where no leaf has the path
abbrev pub number_of : Tree → Indexed → ℕ
number_of tree path = number_in (find (λ variable. indexed_eq variable.instance.path path) (variables_of tree))
  where
    number_in : Option Variable → ℕ
    number_in None = 0
    number_in (Some variable) = variable.number

-- ---- paths

-- what stands behind a path in another one, None where that does not lie below it
abbrev pub behind : Indexed → Indexed → Option Indexed
behind [] path = Some path
behind (step ∷ steps) [] = None
behind (step ∷ steps) (other ∷ path) =
    if bytes_eq step.0 other.0 && numbers_eq step.1 other.1 then behind steps path else None

abbrev pub is_at_or_around : Indexed → Instance → Bool
is_at_or_around path instance = is_some (behind instance.path path)

-- The sizes that the indices of a path range over: the dimensions of the components that it leads through.
abbrev pub sizes_along : Tree → Indexed → List ℕ
sizes_along tree path = flat_map (λ instance. instance.dims) (filter (is_at_or_around path) tree.instances)

-- ---- names

-- indices in brackets, nothing where there are none
abbrev pub index_text : List ℕ → List ℕ
index_text [] = []
index_text (k ∷ index) = codes "[" ++ decimal k ++ flat_map (λ n. codes "," ++ decimal n) index ++ codes "]"

-- a path as it is printed: `a.b[1,2].c`
abbrev pub path_text : Indexed → List ℕ
path_text path = dotted (map (λ step. step.0 ++ index_text step.1) path)
