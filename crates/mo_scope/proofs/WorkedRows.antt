-- Worked examples of the definitions of names, by computation.
use Rattle.std.proofs.Common.{◌≡◌, ℕ, true, false, List, [], ◌∷◌, map, Option, Some, None, Ok, codes, refl}
use Rattle.mo_syntax.specs.Outcome.{Outcome, and_then, breaks}
use Rattle.mo_syntax.specs.declared.rules.TheConstants.{NAME_NOT_FOUND, BASE_CLASS_CYCLE, NO_INNER}
use Rattle.mo_tables.specs.Words.{functions}
use Rattle.mo_syntax.specs.declared.class.ElementFlags.{ElementFlags}
use Rattle.mo_scope.specs.Rows.{Table, Element_of}
use Rattle.mo_scope.specs.Frames.{Frame, Top, In, No_source, Indexed, Scope, Member, at_of, looked_up}
use Rattle.mo_scope.specs.Lookup.{Found, Component, Class, walked}
use Rattle.mo_scope.specs.Names.{elements_of, found, found_class, found_reference}
use Rattle.mo_scope.proofs.Models.{byte, part, reference, row, inside, class_element, component, component_with, extends_class}

abbrev names : Outcome (List Member) → Outcome (List (List ℕ))
names outcome = and_then outcome (λ members. Ok (map (λ member. member.name) members))

abbrev plain : ℕ → Frame → Frame
plain number outer = In number No_source outer None Top

abbrev in_text_of : Frame → Scope
in_text_of frame = record { frame = frame; iterations = [] }

-- ---- a class behind an encapsulated one

-- package P  model Outer  encapsulated package Q  model M  Real x;  Outer o;
pub encapsulation : Table
encapsulation =
    row 6 [] (codes "P") (class_element (codes "Outer") 7 ∷ class_element (codes "Q") 8 ∷ []) ∷
    inside false (row 7 (codes "P" ∷ []) (codes "Outer") []) ∷
    inside true (row 8 (codes "P" ∷ []) (codes "Q") (class_element (codes "M") 9 ∷ [])) ∷
    inside false (row 9 (codes "P" ∷ codes "Q" ∷ []) (codes "M")
    (component (reference (part (codes "Real") 60 ∷ [])) (codes "x") 65 ∷ component (reference (part (codes "Outer") 70 ∷ [])) (codes "o") 76 ∷ [])) ∷
    []

pub frame_of_M : Frame
frame_of_M = plain 9 (plain 8 (plain 6 Top))

pub outer_is_hidden : found_class encapsulation (in_text_of frame_of_M) (reference (part (codes "Outer") 70 ∷ [])) ≡ breaks NAME_NOT_FOUND (byte 70)
unfolding walked encapsulation frame_of_M functions
outer_is_hidden = refl

pub real_is_found : found_class encapsulation (in_text_of frame_of_M) (reference (part (codes "Real") 60 ∷ [])) ≡ Ok (Class (looked_up 0 [] Top) false)
unfolding walked encapsulation frame_of_M
real_is_found = refl

-- ---- a cycle of bases

-- model A  extends B;  model B  extends A;
pub cycle : Table
cycle =
    row 6 [] (codes "A") (extends_class (reference (part (codes "B") 18 ∷ [])) ∷ []) ∷
    row 7 [] (codes "B") (extends_class (reference (part (codes "A") 47 ∷ [])) ∷ []) ∷ []

pub cycle_is_refused : elements_of cycle (plain 6 Top) ≡ breaks BASE_CLASS_CYCLE (byte 47)
unfolding walked cycle
cycle_is_refused = refl

-- ---- a library that extends a class of its own

-- package Lib  extends Lib.Icons.Package;  package Icons  extends Icons.Package;  partial package Package  model M  Real x
pub library : Table
library =
    row 6 [] (codes "Lib")
    (extends_class (reference (part (codes "Lib") 22 ∷ part (codes "Icons") 26 ∷ part (codes "Package") 32 ∷ [])) ∷
    class_element (codes "Icons") 7 ∷ class_element (codes "M") 9 ∷ []) ∷
    inside false (row 7 (codes "Lib" ∷ []) (codes "Icons")
    (extends_class (reference (part (codes "Icons") 70 ∷ part (codes "Package") 76 ∷ [])) ∷ class_element (codes "Package") 8 ∷ [])) ∷
    inside false (row 8 (codes "Lib" ∷ codes "Icons" ∷ []) (codes "Package") []) ∷
    inside false (row 9 (codes "Lib" ∷ []) (codes "M") (component (reference (part (codes "Real") 150 ∷ [])) (codes "x") 155 ∷ [])) ∷ []

pub library_has_its_two : names (elements_of library (plain 6 Top)) ≡ Ok (codes "Icons" ∷ codes "M" ∷ [])
unfolding walked library
library_has_its_two = refl

-- ---- a diamond

-- model C0  Real x  and for each k: model Lk  extends C(k-1)  model Rk  extends C(k-1)  model Ck  extends Lk  extends Rk
pub diamond : Table
diamond =
    row 6 [] (codes "C0") (component (reference (part (codes "Real") 9 ∷ [])) (codes "x") 14 ∷ []) ∷
    row 7 [] (codes "L1") (extends_class (reference (part (codes "C0") 100 ∷ [])) ∷ []) ∷
    row 8 [] (codes "R1") (extends_class (reference (part (codes "C0") 120 ∷ [])) ∷ []) ∷
    row 9 [] (codes "C1") (extends_class (reference (part (codes "L1") 140 ∷ [])) ∷ extends_class (reference (part (codes "R1") 160 ∷ [])) ∷ []) ∷
    row 10 [] (codes "L2") (extends_class (reference (part (codes "C1") 200 ∷ [])) ∷ []) ∷
    row 11 [] (codes "R2") (extends_class (reference (part (codes "C1") 220 ∷ [])) ∷ []) ∷
    row 12 [] (codes "C2") (extends_class (reference (part (codes "L2") 240 ∷ [])) ∷ extends_class (reference (part (codes "R2") 260 ∷ [])) ∷ []) ∷
    row 13 [] (codes "L3") (extends_class (reference (part (codes "C2") 300 ∷ [])) ∷ []) ∷
    row 14 [] (codes "R3") (extends_class (reference (part (codes "C2") 320 ∷ [])) ∷ []) ∷
    row 15 [] (codes "C3") (extends_class (reference (part (codes "L3") 340 ∷ [])) ∷ extends_class (reference (part (codes "R3") 360 ∷ [])) ∷ []) ∷
    []

pub diamond_has_one_element : names (elements_of diamond (plain 15 Top)) ≡ Ok (codes "x" ∷ [])
unfolding walked diamond
diamond_has_one_element = refl

-- ---- an outer component

-- model World  Real g  model Body  outer World w  Real f  model M  inner World w  Body b
abbrev outer_flags : ElementFlags
outer_flags = record { redeclare = false; last = false; inner = false; outer = true; replaceable = false; hidden = false }

abbrev inner_flags : ElementFlags
inner_flags = record { redeclare = false; last = false; inner = true; outer = false; replaceable = false; hidden = false }

pub world : Table
world =
    row 6 [] (codes "World") (component (reference (part (codes "Real") 14 ∷ [])) (codes "g") 19 ∷ []) ∷
    row 7 [] (codes "Body")
    (Element_of (component_with outer_flags None [] (reference (part (codes "World") 54 ∷ [])) (codes "w") 60) ∷
    component (reference (part (codes "Real") 65 ∷ [])) (codes "f") 70 ∷ []) ∷
    row 8 [] (codes "M")
    (Element_of (component_with inner_flags None [] (reference (part (codes "World") 114 ∷ [])) (codes "w") 120) ∷
    component (reference (part (codes "Body") 125 ∷ [])) (codes "b") 130 ∷ []) ∷ []

-- the instance M, and its component b
abbrev frame_of_model : Frame
frame_of_model = In 8 No_source Top (Some []) Top

abbrev frame_of_body : Frame
frame_of_body = In 7 No_source Top (Some ((codes "b", []) ∷ [])) frame_of_model

abbrev found_at : Outcome Found → Outcome (Option Indexed × List ℕ)
found_at outcome = and_then outcome found_in
  where
    found_in : Found → Outcome (Option Indexed × List ℕ)
    found_in (Component frame member) = Ok (at_of frame, member.name)
    found_in other = Ok (None, [])

pub outer_stands_for_the_inner_one : found_at (found world (in_text_of frame_of_body) (codes "w") (byte 90)) ≡ Ok (Some [], codes "w")
unfolding walked world
outer_stands_for_the_inner_one = refl

pub its_part_is_found : found_at (found_reference world (in_text_of frame_of_body) (reference (part (codes "w") 90 ∷ part (codes "g") 92 ∷ []))) ≡ Ok (Some ((codes "w", []) ∷ []), codes "g")
unfolding walked world
its_part_is_found = refl

pub without_inner_it_is_refused : found_at (found world (in_text_of (In 7 No_source Top (Some []) Top)) (codes "w") (byte 90)) ≡ breaks NO_INNER (byte 60)
unfolding walked world
without_inner_it_is_refused = refl
