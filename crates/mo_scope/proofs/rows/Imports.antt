-- The forms of imports.
use Rattle.std.proofs.Common.{◌≡◌, ℕ, false, List, [], ◌∷◌, Some, Ok, codes, refl}
use Rattle.mo_syntax.specs.Outcome.{Outcome, breaks}
use Rattle.mo_syntax.specs.declared.class.Import.{Import}
use Rattle.mo_syntax.specs.declared.class.Import.TheVariants.{Renamed, Named, Group, All as Star}
use Rattle.mo_syntax.specs.declared.rules.TheConstants.{NAME_NOT_FOUND, PROTECTED_ELEMENT, IMPORTED_TWICE}
use Rattle.mo_syntax.specs.declared.text.Path.{Path}
use Rattle.mo_tables.specs.Words.{functions}
use Rattle.mo_scope.specs.Rows.{Table}
use Rattle.mo_scope.specs.Frames.{Top}
use Rattle.mo_scope.specs.Lookup as lookup
use Rattle.mo_scope.specs.Lookup.{walked}
use Rattle.mo_scope.specs.Names.{found_class}
use Rattle.mo_scope.proofs.rows.Notation.{byte, id, name, hidden_flags, class, class_by, extends, row, plain, text_of, class_found}

-- a package with its elements, and a model with an import clause, both at the top; the model has the number 9 and the base 10
--     package P model A end A; model B end B; protected model C end C; end P;
abbrev with_import : List Import → Table
with_import clauses =
    row 6 [] "P" 8 [] (class "A" 16 7 ∷ class "B" 31 8 ∷ class_by hidden_flags "C" 56 11 ∷ []) ∷
    row 7 ("P" ∷ []) "A" 16 [] [] ∷
    row 8 ("P" ∷ []) "B" 31 [] [] ∷
    row 11 ("P" ∷ []) "C" 56 [] [] ∷
    row 9 [] "M" 100 clauses [] ∷
    row 10 [] "N" 200 [] (extends (name (id "M" 210 ∷ [])) ∷ []) ∷
    row 12 [] "Q" 300 [] (class "A" 310 13 ∷ []) ∷
    row 13 ("Q" ∷ []) "A" 310 [] [] ∷ []

abbrev in_M : Table → List ℕ → Outcome lookup.Found
in_M table text = found_class table (text_of (plain 9 Top)) (record { top = false; parts = record { name = text; place = byte 150; subs = [] } ∷ [] })

abbrev path : List (List ℕ) → Path
path names = record { 0 = names }

-- ---- import NAME = PATH

pub renamed : Table
renamed = with_import (Renamed (codes "D") (path (codes "P" ∷ codes "A" ∷ [])) (byte 115) ∷ [])

pub renamed_is_found : class_found (in_M renamed (codes "D")) ≡ Ok (Some 7)
unfolding walked renamed
renamed_is_found = refl

pub its_own_name_is_not : in_M renamed (codes "A") ≡ breaks NAME_NOT_FOUND (byte 150)
unfolding walked renamed functions
its_own_name_is_not = refl

-- ---- import PATH

pub qualified : Table
qualified = with_import (Named (path (codes "P" ∷ codes "A" ∷ [])) (byte 115) ∷ [])

pub qualified_is_found : class_found (in_M qualified (codes "A")) ≡ Ok (Some 7)
unfolding walked qualified
qualified_is_found = refl

-- imports are not inherited
pub inherits_no_import : found_class qualified (text_of (plain 10 Top)) (name (id "A" 220 ∷ [])) ≡ breaks NAME_NOT_FOUND (byte 220)
unfolding walked qualified functions
inherits_no_import = refl

-- ---- import PATH.{NAMES}

pub group : Table
group = with_import (Group (path (codes "P" ∷ [])) (codes "A" ∷ codes "B" ∷ []) (byte 115) ∷ [])

pub member_of_group_is_found : class_found (in_M group (codes "B")) ≡ Ok (Some 8)
unfolding walked group
member_of_group_is_found = refl

-- ---- import PATH.*

pub star : Table
star = with_import (Star (path (codes "P" ∷ [])) (byte 115) ∷ [])

pub star_is_found : class_found (in_M star (codes "B")) ≡ Ok (Some 8)
unfolding walked star
star_is_found = refl

-- a protected element is not found through it
pub protected_is_not_found : in_M star (codes "C") ≡ breaks NAME_NOT_FOUND (byte 150)
unfolding walked star functions
protected_is_not_found = refl

-- ---- what imports break

-- the name of a protected element: rule 17 at the import's first identifier
pub of_protected : Table
of_protected = with_import (Named (path (codes "P" ∷ codes "C" ∷ [])) (byte 115) ∷ [])

pub protected_import_is_refused : in_M of_protected (codes "C") ≡ breaks PROTECTED_ELEMENT (byte 115)
unfolding walked of_protected
protected_import_is_refused = refl

-- two elements for one name: rule 14 at the name that asks
pub twice : Table
twice = with_import (Star (path (codes "P" ∷ [])) (byte 115) ∷ Star (path (codes "Q" ∷ [])) (byte 125) ∷ [])

pub two_elements_are_refused : in_M twice (codes "A") ≡ breaks IMPORTED_TWICE (byte 150)
unfolding walked twice
two_elements_are_refused = refl

-- one element found twice is no two elements
pub same_twice : Table
same_twice = with_import (Star (path (codes "P" ∷ [])) (byte 115) ∷ Star (path (codes "P" ∷ [])) (byte 125) ∷ [])

pub one_element_is_found : class_found (in_M same_twice (codes "A")) ≡ Ok (Some 7)
unfolding walked same_twice
one_element_is_found = refl

-- a qualified name comes before what `.*` finds
pub both_forms : Table
both_forms = with_import (Star (path (codes "P" ∷ [])) (byte 115) ∷ Named (path (codes "Q" ∷ codes "A" ∷ [])) (byte 125) ∷ [])

pub qualified_comes_first : class_found (in_M both_forms (codes "A")) ≡ Ok (Some 13)
unfolding walked both_forms
qualified_comes_first = refl
