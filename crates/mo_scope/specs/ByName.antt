-- Elements by name.
use Rattle.std.specs.Prelude.{◌≡◌, ℕ, Bool, ◌+◌, List, [], ◌∷◌, Option, Some, None, find, option_map, if◌then◌else◌}
use Rattle.std.specs.HashMap.{get_by}
use Rattle.std.specs.Str.{bytes_eq}
use Rattle.mo_syntax.specs.ClassTable.{otherwise}
use Rattle.mo_scope.specs.declared.names.Names.{Names}
use Rattle.mo_scope.specs.Open.{are_open}
use Rattle.mo_scope.specs.Worlds.{MemberEntry}

-- the place of a name, None where it has none
abbrev pub place_held : Names → List ℕ → Option ℕ
place_held names name = get_by (λ k. bytes_eq name k.now) names.places

-- the names keep their places, and that one has this place if it had none
abbrev pub PlacesAlso : (old new : Names) → List ℕ → ℕ → Type 0
PlacesAlso old new name at =
    (other : List ℕ) → place_held new other ≡ otherwise (place_held old other) (if bytes_eq name other then Some at else None)

-- how many elements stand before the first one with that name
abbrev pub place_of : List ℕ → List MemberEntry → Option ℕ
place_of name [] = None
place_of name (member ∷ members) = if bytes_eq member.name name then Some 0 else option_map (λ n. n + 1) (place_of name members)

-- the first element with that name
abbrev pub member_named : List ℕ → List MemberEntry → Option MemberEntry
member_named name members = find (λ member. bytes_eq member.name name) members

-- each name has the place of the first element with that name
abbrev pub AreNames : List MemberEntry → Names → Type 0
AreNames members names = (name : List ℕ) → place_held names name ≡ place_of name members

-- what a table holds beside its elements
pub record IsTableInside (members : List MemberEntry) (names : Names) (all_open : Bool) : Type 0 where
  pub places : AreNames members names
  pub opens : all_open ≡ are_open members
