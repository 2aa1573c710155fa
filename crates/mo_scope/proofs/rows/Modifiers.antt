-- Elements that differ in their modifiers, and the sources of a redeclared element.
use Rattle.std.proofs.Common.{◌≡◌, ℕ, List, [], ◌∷◌, map, flat_map, Option, Some, None, Ok, codes, refl}
use Rattle.mo_syntax.specs.Outcome.{Outcome, and_then, breaks}
use Rattle.mo_syntax.specs.declared.class.Give.TheVariants.{outs-Redeclare}
use Rattle.mo_syntax.specs.declared.class.What.TheVariants.{outs-Component}
use Rattle.mo_scope.specs.Rows.{Table, no_flags, Constraint}
use Rattle.mo_scope.specs.Frames.{Frame, Top, Member, class_of}
use Rattle.mo_scope.specs.Parts.{held}
use Rattle.mo_scope.specs.Lookup.{walked, own_members, named}
use Rattle.mo_scope.specs.Names.{Child, child_of, child_of_member, component_frame, elements_of}
use Rattle.mo_syntax.specs.declared.class.Vary.TheVariants.{Free}
use Rattle.mo_scope.proofs.rows.Notation.{byte, id, name, sets, redeclares, replaceable_flags, component, component_by, extends, extends_with, row, plain}
use Rattle.mo_syntax.specs.declared.rules.TheConstants.{INHERITED_ELEMENTS_CLASH, NAME_NOT_FOUND}

-- ---- one class as a base twice, with other modifiers

--     model B Real x; end B; model M extends B(x = 1); extends B; end M;
pub differing : Table
differing =
    row 6 [] "B" 6 [] (component (name (id "Real" 8 ∷ [])) "x" 13 ∷ []) ∷
    row 7 [] "M" 29 [] (extends_with (name (id "B" 39 ∷ [])) (sets "x" 41 1 ∷ []) ∷ extends (name (id "B" 57 ∷ [])) ∷ []) ∷ []

-- rule 19 at the element
pub two_bases_that_differ : elements_of differing (plain 7 Top) ≡ breaks INHERITED_ELEMENTS_CLASH (byte 13)
unfolding walked differing
two_bases_that_differ = refl

-- ---- a redeclared element

--     model Base Real k; end Base; model Big extends Base; Real j; end Big;
--     model Host replaceable Base load constrainedby Base(k = 5); end Host;
--     model M Host h(redeclare Big load(j = 7)); end M;
pub loaded : Table
loaded =
    row 6 [] "Base" 6 [] (component (name (id "Real" 11 ∷ [])) "k" 16 ∷ []) ∷
    row 7 [] "Big" 35 [] (extends (name (id "Base" 47 ∷ [])) ∷ component (name (id "Real" 53 ∷ [])) "j" 58 ∷ []) ∷
    row 8 [] "Host" 76 [] (component_by replaceable_flags (Some limit) Free (name (id "Base" 93 ∷ [])) "load" 98 [] ∷ []) ∷
    row 9 [] "M" 146 [] (component_by no_flags None Free (name (id "Host" 148 ∷ [])) "h" 153 (redeclares 155 (name (id "Big" 165 ∷ [])) "load" 169 (sets "j" 174 7 ∷ []) ∷ []) ∷ []) ∷ []
  where
    limit : Constraint
    limit = record { class = name (id "Base" 117 ∷ []); modifiers = record { list = sets "k" 122 5 ∷ []; value = None } }

-- the number of its class, and for each of its sources the names of the arguments
abbrev told : Child → ℕ × List (List (List ℕ))
told child = (class_of child.class, map (λ source. flat_map (λ argument. argument.name.0) (held source.piece.given).list) child.sources)

-- the child of the component of that name in the child of another
abbrev child_of_child : Table → Frame → List ℕ → List ℕ → Outcome (ℕ × List (List (List ℕ)))
child_of_child table frame first second = through (named first (own_members table frame))
  where
    through : Option Member → Outcome (ℕ × List (List (List ℕ)))
    through None = breaks NAME_NOT_FOUND (byte 0)
    through (Some member) =
        and_then (child_of_member table member []) (λ child.
        and_then (child_of table (component_frame member [] child) second []) (λ inner. Ok (told inner)))

-- It has the class of the redeclaration; its own modifiers come first, then those of the constraining clause.
pub redeclared_load : child_of_child loaded (plain 9 Top) (codes "h") (codes "load") ≡ Ok (7, (codes "j" ∷ []) ∷ (codes "k" ∷ []) ∷ [])
unfolding walked loaded
redeclared_load = simp (outs-Redeclare, outs-Component)
