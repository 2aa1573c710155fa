-- What the tables of `Scopes` hold.
use Rattle.std.specs.Prelude.{ℕ, ◌+◌, Bool, ◌&&◌, nat_eq, unwrap_or, List, [], ◌∷◌, ◌++◌, map, flat_map, Option, Some, None, if◌then◌else◌}
use Rattle.std.specs.HashMap.{get, get_by}
use Rattle.std.specs.Str.{bytes_eq}
use Rattle.mo_syntax.specs.declared.class.Body.{out-Body}
use Rattle.mo_syntax.specs.declared.place.Place.{Place}
use Rattle.mo_syntax.specs.Classes.{Home, Under, ClassRow}
use Rattle.mo_syntax.specs.ClassTable.{path_eq}
use Rattle.mo_scope.specs.declared.groups.Groups.{Groups}
use Rattle.mo_scope.specs.declared.row.Part.{Part as PartAt}
use Rattle.mo_scope.specs.declared.places.Places.{Places}
use Rattle.mo_scope.specs.declared.places.Spot.{Spot}
use Rattle.mo_scope.specs.declared.tops.Tops.{Tops}
use Rattle.mo_scope.specs.Rows.{Part, Base_of, Row, ClassEntry, form_in, items_in, bases_in, part_of, number_by, replacing_in, import_in}
use Rattle.mo_scope.specs.Sights.{part_seen}

-- ---- classes by place

abbrev pub spot_eq : Spot → Spot → Bool
spot_eq a b = nat_eq a.file b.file && nat_eq a.byte b.byte

-- the number at a place, 0 where there is none
abbrev pub number_held : Places → Place → ℕ
number_held places place = unwrap_or (get spot_eq places.numbers (record { file = place.file; byte = place.byte })) 0

-- ---- classes by the path that they are placed under

-- names one behind the other, so that no two paths are written alike: 0 ends a name, a byte is one more
abbrev pub path_key : List (List ℕ) → List ℕ
path_key [] = []
path_key (name ∷ names) = (map (λ b. b + 1) name ++ 0 ∷ []) ++ path_key names

abbrev pub parts_or_none : Option (List PartAt) → List Part
parts_or_none None = []
parts_or_none (Some parts) = map part_seen parts

-- the parts under a key
abbrev pub group_held : Groups → List ℕ → List Part
group_held groups key = parts_or_none (get_by (λ k. bytes_eq key k.items) groups.groups)

-- a class among those that files place under a path
abbrev pub placed_by : List (List ℕ) → ClassEntry → List ClassRow
placed_by path entry = placed_in entry.home
  where
    placed_in : Home → List ClassRow
    placed_in (Under at) = if entry.row.outermost && path_eq at path then entry.row ∷ [] else []
    placed_in home = []

abbrev pub placed_among : List (List ℕ) → List ClassEntry → List ClassRow
placed_among path entries = flat_map (placed_by path) entries

-- the classes that are placed under a class, whose name has that home
abbrev pub placed_held : (List ℕ → List Part) → Home → List ℕ → List Part
placed_held group (Under path) name = group (path_key (path ++ name ∷ []))
placed_held group home name = []

-- ---- rows

-- a row, where classes are known by place and by the path that they are placed under
abbrev pub row_with : (Place → ℕ) → (List ℕ → List Part) → ClassEntry → Row
row_with number group entry = record {
  number = entry.row.number;
  home = entry.home;
  outermost = entry.row.outermost;
  class = entry.row.class;
  form = form_in (out-Body entry.row.class.body);
  parts = flat_map (part_of (number_by number)) (items_in (out-Body entry.row.class.body)) ++ map Base_of (bases_in (out-Body entry.row.class.body))
      ++ placed_held group entry.home entry.row.class.name;
  replacing = flat_map replacing_in (items_in (out-Body entry.row.class.body));
  imports = flat_map import_in (items_in (out-Body entry.row.class.body));
}

-- the number of the class at the top with a name
abbrev pub top_held : Tops → List ℕ → Option ℕ
top_held tops name = get_by (λ k. bytes_eq name k.now) tops.numbers
