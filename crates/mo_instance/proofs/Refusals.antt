-- Worked examples of what is refused where instances are made, and of its neighbours, by computation.
use Rattle.std.proofs.Common.{◌≡◌, true, false, [], ◌∷◌, Some, None, Ok, codes, refl}
use Rattle.mo_syntax.specs.Outcome.{and_then, breaks}
use Rattle.mo_syntax.specs.declared.class.ElementFlags.{ElementFlags}
use Rattle.mo_syntax.specs.declared.class.Give.TheVariants.{outs-Modify, outs-Redeclare}
use Rattle.mo_syntax.specs.declared.class.What.TheVariants.{outs-Component}
use Rattle.mo_syntax.specs.declared.class.Vary.TheVariants.{Free}
use Rattle.mo_scope.specs.Rows.{Table, Row, Constraint, no_flags}
use Rattle.mo_scope.specs.Frames.{Top}
use Rattle.mo_scope.specs.Lookup.{walked}
use Rattle.mo_scope.specs.Sizes.{sizes_from}
use Rattle.mo_scope.specs.Compatible.{compatible, compatible_from}
use Rattle.mo_scope.specs.Redeclarations.{fine, redeclared_checked}
use Rattle.mo_eval.specs.Values.{reading}
use Rattle.mo_instance.specs.Prefixes.{input_from}
use Rattle.mo_instance.specs.Instances.{deeper, instances_of}
use Rattle.mo_scope.proofs.rows.Notation.{byte, id, name, sets, redeclares, replaceable_flags, component, component_by, extends, extends_with, row, plain}
use Rattle.mo_instance.proofs.Rows.{claims_value, with_flags, frame_at, told_of}
use Rattle.mo_syntax.specs.declared.rules.TheConstants.{PARTIAL_CLASS, MODIFIED_ELEMENT_NOT_FOUND, MODIFIED_TWICE, NOT_COMPATIBLE, WRONG_REPLACEABLE, NO_INNER}

-- ---- partial classes

abbrev partial_row : Row → Row
partial_row r = record {
  number = r.number;
  home = r.home;
  outermost = r.outermost;
  class = record {
    kind = r.class.kind;
    flags = record { encapsulated = false; partial = true; operator = false; expandable = false; purity = None };
    name = r.class.name;
    place = r.class.place;
    body = r.class.body;
  };
  form = r.form;
  parts = r.parts;
  replacing = r.replacing;
  imports = r.imports;
}

--     partial model P Real x; end P; model M P p; end M;
pub with_partial : Table
with_partial =
    partial_row (row 6 [] "P" 14 [] (component (name (id "Real" 16 ∷ [])) "x" 21 ∷ [])) ∷
    row 7 [] "M" 37 [] (component (name (id "P" 39 ∷ [])) "p" 41 ∷ []) ∷ []

-- as the asked class, and as a component at the name of its type
pub partial_class_asked : instances_of with_partial 6 ≡ breaks PARTIAL_CLASS (byte 14)
unfolding walked sizes_from input_from deeper reading with_partial
partial_class_asked = refl

pub partial_type : instances_of with_partial 7 ≡ breaks PARTIAL_CLASS (byte 39)
unfolding walked sizes_from input_from deeper reading with_partial
partial_type = refl

-- ---- an argument of an extends clause

--     model B Real x; end B; model M extends B(y = 1); end M;
pub base_argument : Table
base_argument =
    row 6 [] "B" 6 [] (component (name (id "Real" 8 ∷ [])) "x" 13 ∷ []) ∷
    row 7 [] "M" 29 [] (extends_with (name (id "B" 39 ∷ [])) (sets "y" 41 1 ∷ []) ∷ []) ∷ []

pub base_argument_is_refused : instances_of base_argument 7 ≡ breaks MODIFIED_ELEMENT_NOT_FOUND (byte 41)
unfolding walked sizes_from input_from deeper reading base_argument
base_argument_is_refused = refl

-- ---- a constraining clause with a path of the declaration's own modifiers

--     model B Real x; end B; model M replaceable B b(x = 1) constrainedby B(x = 2); end M;
pub twice_modified : Table
twice_modified =
    row 6 [] "B" 6 [] (component (name (id "Real" 8 ∷ [])) "x" 13 ∷ []) ∷
    row 7 [] "M" 29 [] (component_by replaceable_flags (Some limit) Free (name (id "B" 43 ∷ [])) "b" 45 (sets "x" 47 1 ∷ []) ∷ []) ∷ []
  where
    limit : Constraint
    limit = record { class = name (id "B" 70 ∷ []); modifiers = record { list = sets "x" 72 2 ∷ []; value = None } }

-- rule 21 at the argument of the constraining clause
pub twice_modified_is_refused : instances_of twice_modified 7 ≡ breaks MODIFIED_TWICE (byte 72)
unfolding walked sizes_from input_from deeper reading twice_modified
twice_modified_is_refused = simp (claims_value, outs-Modify)

-- ---- redeclarations

--     model Base Real k; end Base; model Big extends Base; Real j; end Big; model Other Real j; end Other;
--     model Host replaceable Base load; Base still; end Host;
--     model M Host h(redeclare Big load); end M; model N Host h(redeclare Other load); end N; model O Host h(redeclare Big still); end O;
pub loads : Table
loads =
    row 6 [] "Base" 6 [] (component (name (id "Real" 11 ∷ [])) "k" 16 ∷ []) ∷
    row 7 [] "Big" 35 [] (extends (name (id "Base" 47 ∷ [])) ∷ component (name (id "Real" 53 ∷ [])) "j" 58 ∷ []) ∷
    row 8 [] "Other" 76 [] (component (name (id "Real" 82 ∷ [])) "j" 87 ∷ []) ∷
    row 9 [] "Host" 107 [] (component_by replaceable_flags None Free (name (id "Base" 124 ∷ [])) "load" 129 [] ∷ component (name (id "Base" 135 ∷ [])) "still" 140 ∷ []) ∷
    row 10 [] "M" 163 [] (with_flags no_flags Free (name (id "Host" 165 ∷ [])) "h" 170 (redeclares 172 (name (id "Big" 182 ∷ [])) "load" 186 [] ∷ []) ∷ []) ∷
    row 11 [] "N" 206 [] (with_flags no_flags Free (name (id "Host" 208 ∷ [])) "h" 213 (redeclares 215 (name (id "Other" 225 ∷ [])) "load" 231 [] ∷ []) ∷ []) ∷
    row 12 [] "O" 251 [] (with_flags no_flags Free (name (id "Host" 253 ∷ [])) "h" 258 (redeclares 260 (name (id "Big" 270 ∷ [])) "still" 274 [] ∷ []) ∷ []) ∷ []

pub compatible_class : compatible loads (byte 172) (plain 7 Top) (plain 6 Top) ≡ fine
unfolding walked sizes_from compatible_from loads
compatible_class = refl

pub incompatible_class : compatible loads (byte 215) (plain 8 Top) (plain 6 Top) ≡ breaks NOT_COMPATIBLE (byte 215)
unfolding walked sizes_from compatible_from loads
incompatible_class = refl

pub not_replaceable : and_then (frame_at loads 12 (codes "h" ∷ [])) (redeclared_checked loads) ≡ breaks WRONG_REPLACEABLE (byte 260)
unfolding walked sizes_from compatible_from loads
not_replaceable = simp (outs-Redeclare, outs-Component)

-- ---- inner and outer components

abbrev inner_flags : ElementFlags
inner_flags = record { redeclare = false; last = false; inner = true; outer = false; replaceable = false; hidden = false }

abbrev outer_flags : ElementFlags
outer_flags = record { redeclare = false; last = false; inner = false; outer = true; replaceable = false; hidden = false }

--     model World Real g; end World; model Body outer World w; end Body; model M inner World w; Body b; end M; model N Body b; end N;
pub bodies : Table
bodies =
    row 6 [] "World" 6 [] (component (name (id "Real" 12 ∷ [])) "g" 17 ∷ []) ∷
    row 7 [] "Body" 37 [] (with_flags outer_flags Free (name (id "World" 48 ∷ [])) "w" 54 [] ∷ []) ∷
    row 8 [] "M" 73 [] (with_flags inner_flags Free (name (id "World" 81 ∷ [])) "w" 87 [] ∷ component (name (id "Body" 90 ∷ [])) "b" 95 ∷ []) ∷
    row 9 [] "N" 110 [] (component (name (id "Body" 112 ∷ [])) "b" 117 ∷ []) ∷ []

-- the outer component is no instance
pub world_and_body :
    told_of bodies 8 ≡ Ok (
    ([], None) ∷ (codes "w" ∷ [], None) ∷ (codes "w" ∷ codes "g" ∷ [], Some None) ∷ (codes "b" ∷ [], None) ∷ []
    )
unfolding walked sizes_from compatible_from input_from deeper reading bodies
world_and_body = refl

pub body_without_world : instances_of bodies 9 ≡ breaks NO_INNER (byte 54)
unfolding walked sizes_from compatible_from input_from deeper reading bodies
body_without_world = refl
