-- The elements that a class declares itself, by name.
use Rattle.std.specs.Prelude.{◌≡◌, ℕ, ◌+◌, List, [], ◌∷◌, map, Option, Some, None, if◌then◌else◌}
use Rattle.std.specs.HashMap.{get_by}
use Rattle.std.specs.Str.{bytes_eq}
use Rattle.mo_syntax.specs.ClassTable.{otherwise}
use Rattle.mo_scope.specs.declared.own_names.OwnNames.{OwnNames}
use Rattle.mo_scope.specs.declared.own_names.OwnPlace.{OwnPlace}
use Rattle.mo_scope.specs.declared.row.Part.{Part as PartAt}
use Rattle.mo_scope.specs.declared.row.Row.{Row as RowAt}
use Rattle.mo_scope.specs.Rows.{Row, Declares, Part, Element_of, Base_of, elements_in}
use Rattle.mo_scope.specs.Sights.{part_seen}

-- the first of some elements that has a name, with how many stand before it where so many stand before them all
abbrev pub first_own : List ℕ → ℕ → List Declares → Option (ℕ × Declares)
first_own name n [] = None
first_own name n (declares ∷ others) = if bytes_eq declares.name name then Some (n, declares) else first_own name (n + 1) others

-- the same of the class that a row is of
abbrev pub first_at : List ℕ → Option Row → Option (ℕ × Declares)
first_at name None = None
first_at name (Some row) = first_own name 0 (elements_in row.parts)

-- the element that a part is, with so many before it
abbrev pub element_read : Option Part → ℕ → Option (ℕ × Declares)
element_read None item = None
element_read (Some (Element_of declares)) item = Some (item, declares)
element_read (Some (Base_of clause)) item = None

-- where it stands among some parts, before which so many parts and elements stand
abbrev pub own_place : List ℕ → (part item : ℕ) → List Part → Option OwnPlace
own_place name part item [] = None
own_place name part item (Element_of declares ∷ parts) = if bytes_eq declares.name name then Some (record { part = part; item = item }) else own_place name (part + 1) (item + 1) parts
own_place name part item (Base_of clause ∷ parts) = own_place name (part + 1) item parts

-- the place of a name, None where it has none
abbrev pub own_held : OwnNames → List ℕ → Option OwnPlace
own_held names name = get_by (λ k. bytes_eq name k.now) names.places

-- the names keep their places, and that one has this place if it had none
abbrev pub IsAlso : (old new : OwnNames) → List ℕ → OwnPlace → Type 0
IsAlso old new name place = (other : List ℕ) → own_held new other ≡ otherwise (own_held old other) (if bytes_eq name other then Some place else None)

-- each name has the place of the first element of that name
abbrev pub AreNamed : OwnNames → List PartAt → Type 0
AreNamed names parts = (name : List ℕ) → own_held names name ≡ own_place name 0 0 (map part_seen parts)

-- each class has the names of its own elements
abbrev pub AreOwnNames : List OwnNames → List RowAt → Type 0
AreOwnNames [] [] = Unit {0}
AreOwnNames [] (row ∷ rows) = ⊥
AreOwnNames (names ∷ owns) [] = ⊥
AreOwnNames (names ∷ owns) (row ∷ rows) = AreNamed names row.parts × AreOwnNames owns rows
