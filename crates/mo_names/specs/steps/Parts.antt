-- The parts and imports of rows.
use Rattle.std.specs.Prelude.{ℕ, Bool, true, false, List, [], Option, Some, None, Ok, if◌then◌else◌}
use Rattle.mo_syntax.specs.Outcome.{Outcome, breaks}
use Rattle.mo_syntax.specs.declared.class.Import.{Import}
use Rattle.mo_scope.specs.Rows.{Table, Row, Form, Enumeration_class, Part, is_class, class_number}
use Rattle.mo_scope.specs.Frames.{Frame, Member, looked_up}
use Rattle.mo_scope.specs.Parts.{Redeclaration, class_sources}
use Rattle.mo_syntax.specs.declared.rules.TheConstants.{WRONG_KIND_OF_NAME}

-- the parts of a class, none of a predefined type
abbrev pub parts_of : Option Row → List Part
parts_of None = []
parts_of (Some row) = row.parts

abbrev pub imports_of : Option Row → List Import
imports_of None = []
imports_of (Some row) = row.imports

-- the literals that are listed
abbrev pub none_listed : Option (List (List ℕ)) → List (List ℕ)
none_listed None = []
none_listed (Some literals) = literals

-- an element that a redeclaration gives, entered
abbrev pub entered_by_redeclaration : Table → Member → Redeclaration → Outcome Frame
entered_by_redeclaration table member redeclaration =
    if is_class redeclaration.declares then
    Ok (looked_up (class_number redeclaration.declares) (class_sources table member) redeclaration.source.scope.frame) else
    breaks WRONG_KIND_OF_NAME redeclaration.place

abbrev pub is_enumeration_form : Form → Bool
is_enumeration_form (Enumeration_class literals) = true
is_enumeration_form form = false
