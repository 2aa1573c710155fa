-- What may be found: classes behind components, protected elements, classes that are no packages, and constants.
use Rattle.std.proofs.Common.{◌≡◌, [], ◌∷◌, Some, Ok, codes, refl}
use Rattle.mo_scope.specs.Rows.{Table}
use Rattle.mo_scope.specs.Frames.{Top}
use Rattle.mo_scope.specs.Lookup.{walked}
use Rattle.mo_scope.specs.Names.{child_of, found, found_class}
use Rattle.mo_scope.proofs.rows.Notation.{byte, id, name, hidden_flags, component, constant, class, class_by, row, plain, text_of, class_found, component_found}
use Rattle.mo_syntax.specs.Outcome.{breaks}
use Rattle.mo_syntax.specs.declared.rules.TheConstants.{WRONG_KIND_OF_NAME, PROTECTED_ELEMENT, NOT_A_PACKAGE, NAME_NOT_FOUND, NOT_A_CONSTANT}

-- ---- a component in the name of a type

--     model M a.T a; end M;
pub component_as_class : Table
component_as_class = row 6 [] "M" 6 [] (component (name (id "a" 8 ∷ id "T" 10 ∷ [])) "a" 12 ∷ []) ∷ []

-- rule 13 at the first identifier
pub its_type_is_refused : child_of component_as_class (plain 6 Top) (codes "a") [] ≡ breaks WRONG_KIND_OF_NAME (byte 8)
unfolding walked component_as_class
its_type_is_refused = refl

-- ---- protected elements

--     package P model A end A; protected model B end B; end P; model M P.A a; P.B b; end M;
pub with_protected : Table
with_protected =
    row 6 [] "P" 8 [] (class "A" 16 7 ∷ class_by hidden_flags "B" 41 8 ∷ []) ∷
    row 7 ("P" ∷ []) "A" 16 [] [] ∷
    row 8 ("P" ∷ []) "B" 41 [] [] ∷
    row 9 [] "M" 63 [] (component (name (id "P" 65 ∷ id "A" 67 ∷ [])) "a" 69 ∷ component (name (id "P" 72 ∷ id "B" 74 ∷ [])) "b" 76 ∷ []) ∷ []

pub public_is_found : class_found (found_class with_protected (text_of (plain 9 Top)) (name (id "P" 65 ∷ id "A" 67 ∷ []))) ≡ Ok (Some 7)
unfolding walked with_protected
public_is_found = refl

-- behind a dot rule 17
pub protected_is_refused : found_class with_protected (text_of (plain 9 Top)) (name (id "P" 72 ∷ id "B" 74 ∷ [])) ≡ breaks PROTECTED_ELEMENT (byte 74)
unfolding walked with_protected
protected_is_refused = refl

-- but found from inside
pub found_from_inside : class_found (found_class with_protected (text_of (plain 7 (plain 6 Top))) (name (id "B" 41 ∷ []))) ≡ Ok (Some 8)
unfolding walked with_protected
found_from_inside = refl

-- ---- classes that are no packages

--     model W Real x; model A end A; end W; model M W.A a; end M;
pub no_package : Table
no_package =
    row 6 [] "W" 6 [] (component (name (id "Real" 8 ∷ [])) "x" 13 ∷ class "A" 22 7 ∷ []) ∷
    row 7 ("W" ∷ []) "A" 22 [] [] ∷
    row 8 [] "M" 44 [] (component (name (id "W" 46 ∷ id "A" 48 ∷ [])) "a" 50 ∷ []) ∷ []

-- rule 16 at the identifier that is looked up in it
pub no_package_is_refused : found_class no_package (text_of (plain 8 Top)) (name (id "W" 46 ∷ id "A" 48 ∷ [])) ≡ breaks NOT_A_PACKAGE (byte 48)
unfolding walked no_package
no_package_is_refused = refl

-- absent comes first
pub absent_is_first : found_class no_package (text_of (plain 8 Top)) (name (id "W" 46 ∷ id "C" 60 ∷ [])) ≡ breaks NAME_NOT_FOUND (byte 60)
unfolding walked no_package
absent_is_first = refl

-- ---- constants of enclosing classes

--     model W constant Real c = 1; Real d; model A Real x = c; Real y = d; end A; end W;
pub around : Table
around =
    row 6 [] "W" 6 [] (constant (name (id "Real" 17 ∷ [])) "c" 22 ∷ component (name (id "Real" 29 ∷ [])) "d" 34 ∷ class "A" 43 7 ∷ []) ∷
    row 7 ("W" ∷ []) "A" 43 [] (component (name (id "Real" 45 ∷ [])) "x" 50 ∷ component (name (id "Real" 57 ∷ [])) "y" 62 ∷ []) ∷ []

pub constant_is_found : component_found (found around (text_of (plain 7 (plain 6 Top))) (codes "c") (byte 54)) ≡ Ok (Some (codes "c"))
unfolding walked around
constant_is_found = refl

-- what is no constant breaks rule 15 at its name
pub variable_is_refused : found around (text_of (plain 7 (plain 6 Top))) (codes "d") (byte 66) ≡ breaks NOT_A_CONSTANT (byte 66)
unfolding walked around
variable_is_refused = refl

-- a name of the text's own frame is no constant of an enclosing one
pub own_is_found : component_found (found around (text_of (plain 7 (plain 6 Top))) (codes "x") (byte 70)) ≡ Ok (Some (codes "x"))
unfolding walked around
own_is_found = refl
