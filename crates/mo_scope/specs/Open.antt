-- What may stand in a package: classes and constants (Modelica Language Specification 3.5, section 4.6).
use Rattle.std.specs.Prelude.{Bool, ◌||◌, List}
use Rattle.std.specs.List.{list_all}
use Rattle.mo_scope.specs.Rows.{Declares, is_class, is_constant}
use Rattle.mo_scope.specs.Worlds.{MemberEntry}

abbrev pub is_open_declares : Declares → Bool
is_open_declares declares = is_class declares || is_constant declares

-- whether all elements may stand in a package
abbrev pub are_open : List MemberEntry → Bool
are_open members = list_all (λ member. is_open_declares member.declares) members
