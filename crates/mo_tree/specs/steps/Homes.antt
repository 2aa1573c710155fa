-- Elements of classes with numbers in place of paths: the classes of a file are elements of the class whose path stands behind `within`, or
-- stand at the top, for which 0 stands, the number of no class of the files.
use Rattle.std.specs.Prelude.{ℕ, true, List, Option, Some, None, if◌then◌else◌}
use Rattle.mo_syntax.specs.declared.class.FileTree.{FileTree}
use Rattle.mo_syntax.specs.declared.place.Place.{Place}
use Rattle.mo_syntax.specs.declared.text.Path.{Path}
use Rattle.mo_syntax.specs.Classes.{ClassRow, Declaration, Inside, each}
use Rattle.mo_syntax.specs.ClassTable.{class_of_path, is_long}
use Rattle.mo_syntax.specs.steps.Parts.{outline_of_class}

-- the number of a long class
abbrev pub long_number : Option ClassRow → Option ℕ
long_number None = None
long_number (Some row) = if is_long (Some row) then Some row.number else None

abbrev pub number_or_top : Option ClassRow → ℕ
number_or_top None = 0
number_or_top (Some row) = row.number

abbrev pub number_of_within : List FileTree → Option (Path × Place) → ℕ
number_of_within files None = 0
number_of_within files (Some within) = number_or_top (class_of_path files within.0.0)

-- what a file declares whose classes are elements of the class with that number, where its first class has the number n
abbrev pub declared_under : (home : ℕ) → FileTree → ℕ → List Declaration
declared_under home file n = (each (outline_of_class true) file.classes).declared (Inside home) n
