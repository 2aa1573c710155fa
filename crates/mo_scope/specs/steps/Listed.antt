-- The classes that are listed of a part.
use Rattle.std.specs.Prelude.{◌≡◌, ℕ, ◌+◌, List, ◌++◌, flat_map}
use Rattle.mo_syntax.specs.Classes.{Home, Outline}
use Rattle.mo_scope.specs.declared.walk.ClassData.{ClassData}
use Rattle.mo_scope.specs.Rows.{ClassEntry, entry_in}
use Rattle.mo_scope.specs.Sights.{home_seen}

abbrev pub class_seen : ClassData → ClassEntry
class_seen entry = record {
  row = record { number = entry.number; class = entry.class.now; outermost = entry.outermost };
  home = home_seen entry.home;
}

-- The classes of a part, which is read with that home and the number of its first class, were put behind those before, and the
-- number behind its last class is next.
abbrev pub Lists : Outline → Home → ℕ → List ClassEntry → List ClassEntry → ℕ → Type 0
Lists part home first before after next = (next ≡ first + part.classes) × (after ≡ before ++ flat_map entry_in (part.declared home first))
