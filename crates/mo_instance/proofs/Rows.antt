-- Worked examples of instances, by computation.
use Rattle.std.proofs.Common.{◌≡◌, ℕ, pos, Bool, true, false, ◌||◌, List, [], ◌∷◌, ◌++◌, map, flat_map, Option, Some, None, Ok, option_map, is_some, codes, refl, ap, sym, ◌∙◌, if◌then◌else◌}
use Rattle.mo_syntax.specs.Outcome.{Outcome, and_then, breaks}
use Rattle.mo_syntax.specs.declared.rules.TheConstants.{NAME_NOT_FOUND, CLASS_NOT_FOUND, FINAL_MODIFIED, MODIFIED_ELEMENT_NOT_FOUND, PROTECTED_ELEMENT, OUTSIDE_PROFILE, INSTANCE_TOO_DEEP}
use mathlib.Core.Path.{fun_ext}
use Prim.Native.String.{String}
use Rattle.mo_syntax.specs.declared.expr.Expr.{Expr, roll-Expr}
use Rattle.mo_syntax.specs.declared.expr.Node.TheVariants.{Whole}
use Rattle.mo_syntax.specs.declared.expr.ReferenceOf.{ReferenceOf}
use Rattle.mo_syntax.specs.declared.class.ArgumentOf.{ArgumentOf}
use Rattle.mo_syntax.specs.declared.class.ElementFlags.{ElementFlags}
use Rattle.mo_syntax.specs.declared.class.Give.{Give, Give-F, roll-Give, roll-out-Give, fold-roll-Give}
use Rattle.mo_syntax.specs.declared.class.Give.TheVariants.{Modify, outs-Modify}
use Rattle.mo_syntax.specs.declared.class.Vary.{Vary}
use Rattle.mo_syntax.specs.declared.class.Vary.TheVariants.{Free, Parameter}
use Rattle.mo_scope.specs.Rows.{Table, Row, row_at, Part, no_flags}
use Rattle.mo_scope.specs.Frames.{Frame, Member, class_of, sources_of}
use Rattle.mo_scope.specs.Parts.{picked}
use Rattle.mo_scope.specs.Names.{child_of_member, component_frame, walk_of}
use Rattle.mo_scope.specs.Lookup.{walked, named, own_members}
use Rattle.mo_scope.specs.Sizes.{sizes_from}
use Rattle.mo_scope.specs.Instances.{Chosen, Instance}
use Rattle.mo_eval.specs.Values.{reading}
use Rattle.mo_instance.specs.Prefixes.{input_from}
use Rattle.mo_instance.specs.Instances.{deeper, instances_of, parts_entered, root_frame}
use Rattle.mo_scope.proofs.rows.Notation.{byte, id, name, sets, component, component_by, hidden_flags, row}
use Rattle.mo_syntax.specs.declared.class.ModsOf.{ModsOf}
use Rattle.mo_syntax.specs.declared.place.Place.{Place}
use Rattle.mo_scope.specs.Arguments.{Claim, Claims, claim, claims_in, claims_of, second_pass}
use Rattle.mo_scope.proofs.laws.TreeParts.{gathered_map}

-- ---- the paths of an argument

claims_modify : (mods : ModsOf Give) (value : Option Expr) → claims_of (Modify mods value) ≡ (λ path place last.
    (if is_some value then claim path place last ∷ [] else [])
    ++ flat_map (λ argument. claims_of argument.give (path ++ argument.name.0) argument.place (last || argument.last)) mods.0)
claims_modify mods value = ap claims_of (sym (roll-out-Give (Modify mods value)) ∙ ap roll-Give (outs-Modify mods value))
    ∙ fold-roll-Give (Unit {0}) Claims (Unit {0}) (Unit {0}) (Unit {0}) (λ body. tt) claims_in (λ item. tt) (λ what. tt) (λ element. tt) (Give-F.Modify mods value)
    ∙ fun_ext (λ path. fun_ext (λ place. fun_ext (λ last.
    ap (λ rest. (if is_some value then claim path place last ∷ [] else []) ++ rest)
    (gathered_map (λ argument. argument.give (path ++ argument.name.0) argument.place (last || argument.last)) _ mods.0))))

abbrev pub claims_below : List (ArgumentOf Give) → List (List ℕ) → Bool → List Claim
claims_below arguments path last = flat_map (λ argument. claims_of argument.give (path ++ argument.name.0) argument.place (last || argument.last)) arguments

pub claims_list : (mods : ModsOf Give) (path : List (List ℕ)) (place : Place) (last : Bool) →
    claims_of (Modify mods None) path place last ≡ claims_below mods.0 path last
claims_list mods path place last = ap (λ f. f path place last) (claims_modify mods None)

pub claims_value : (mods : ModsOf Give) (value : Expr) (path : List (List ℕ)) (place : Place) (last : Bool) →
    claims_of (Modify mods (Some value)) path place last ≡ claim path place last ∷ claims_below mods.0 path last
claims_value mods value path place last = ap (λ f. f path place last) (claims_modify mods (Some value))

-- ---- notation

-- NAME(ARGUMENTS)
abbrev nests : String → ℕ → List (ArgumentOf Give) → ArgumentOf Give
nests name at arguments = record {
  each = false;
  last = false;
  name = record { 0 = codes name ∷ [] };
  place = byte at;
  give = Modify (record { 0 = arguments }) None;
}

-- final NAME = NUMBER
abbrev finally : String → ℕ → ℕ → ArgumentOf Give
finally name at value = record {
  each = false;
  last = true;
  name = record { 0 = codes name ∷ [] };
  place = byte at;
  give = Modify (record { 0 = [] }) (Some (number value));
}
  where
    number : ℕ → Expr
    number n = roll-Expr (record { place = byte at; node = Whole (pos n) })

abbrev pub with_flags : ElementFlags → Vary → ReferenceOf Expr → String → ℕ → List (ArgumentOf Give) → Part
with_flags flags vary type name at arguments = component_by flags None vary type name at arguments

abbrev final_flags : ElementFlags
final_flags = record { redeclare = false; last = true; inner = false; outer = false; replaceable = false; hidden = false }

-- the path of an instance, and for a leaf its binding with the number of the class in whose text that stands
abbrev pub told : Instance → List (List ℕ) × Option (Option (ℕ × Expr))
told instance = (map (λ step. step.0) instance.path, option_map (λ leaf. option_map chosen leaf.binding) instance.leaf)
  where
    chosen : Chosen → ℕ × Expr
    chosen binding = (class_of binding.scope.frame, binding.value)

abbrev pub told_of : Table → ℕ → Outcome (List (List (List ℕ) × Option (Option (ℕ × Expr))))
told_of table class = and_then (instances_of table class) (λ instances. Ok (map told instances))

-- ---- a model without components

pub empty : Table
empty = row 6 [] "M" 6 [] [] ∷ []

pub only_the_class : told_of empty 6 ≡ Ok (([], None) ∷ [])
unfolding walked sizes_from input_from deeper reading empty
only_the_class = refl

-- ---- a modifier of a component

--     model B parameter Real x; end B; model A B b(x = 3); end A;
pub one_modifier : Table
one_modifier =
    row 6 [] "B" 6 [] (with_flags no_flags Parameter (name (id "Real" 18 ∷ [])) "x" 23 [] ∷ []) ∷
    row 7 [] "A" 39 [] (with_flags no_flags Free (name (id "B" 41 ∷ [])) "b" 43 (sets "x" 45 3 ∷ []) ∷ []) ∷ []

abbrev pub number_at : ℕ → ℕ → Expr
number_at n at = roll-Expr (record { place = byte at; node = Whole (pos n) })

-- b.x has the value 3, looked up in A
pub modifier_binds :
    told_of one_modifier 7 ≡ Ok (
    ([], None) ∷
    (codes "b" ∷ [], None) ∷
    (codes "b" ∷ codes "x" ∷ [], Some (Some (7, number_at 3 45))) ∷ []
    )
unfolding walked sizes_from input_from deeper reading one_modifier
modifier_binds = simp (claims_value, outs-Modify)

-- ---- an outer modifier

-- the frame of the component at the end of these names
abbrev pub frame_below : Table → Frame → List (List ℕ) → Outcome Frame
frame_below table frame [] = Ok frame
frame_below table frame (name ∷ names) = and_then (entered_below (named name (own_members table frame))) (λ next. frame_below table next names)
  where
    entered_below : Option Member → Outcome Frame
    entered_below None = breaks NAME_NOT_FOUND (byte 0)
    entered_below (Some member) = and_then (child_of_member table member []) (λ child. Ok (component_frame member [] child))

abbrev pub asked_class : Table → ℕ → Outcome Frame
asked_class table class = root_of (row_at table class)
  where
    root_of : Option Row → Outcome Frame
    root_of None = breaks CLASS_NOT_FOUND (byte 0)
    root_of (Some row) = Ok (root_frame table row)

abbrev pub frame_at : Table → ℕ → List (List ℕ) → Outcome Frame
frame_at table class names = and_then (asked_class table class) (λ frame. frame_below table frame names)

-- the binding of a component, with the class in whose text it stands
abbrev bound : Table → ℕ → List (List ℕ) → Outcome (Option (ℕ × Expr))
bound table class names =
    and_then (frame_at table class names) (λ frame.
    Ok (option_map (λ binding. (class_of binding.scope.frame, binding.value)) (picked table (sources_of frame) [])))

--     model B parameter Real x; end B; model A B b(x = 2); end A; model M A a(b(x = 3)); end M;
pub nested_modifiers : Table
nested_modifiers =
    row 6 [] "B" 6 [] (with_flags no_flags Parameter (name (id "Real" 18 ∷ [])) "x" 23 [] ∷ []) ∷
    row 7 [] "A" 39 [] (with_flags no_flags Free (name (id "B" 41 ∷ [])) "b" 43 (sets "x" 45 2 ∷ []) ∷ []) ∷
    row 8 [] "M" 66 [] (with_flags no_flags Free (name (id "A" 68 ∷ [])) "a" 70 (nests "b" 72 (sets "x" 74 3 ∷ []) ∷ []) ∷ []) ∷ []

-- a.b.x has the value 3, looked up in M
pub outer_modifier_wins : bound nested_modifiers 8 (codes "a" ∷ codes "b" ∷ codes "x" ∷ []) ≡ Ok (Some (8, number_at 3 74))
unfolding walked nested_modifiers
outer_modifier_wins = simp (outs-Modify)

--     .. model A B b(final x = 2); end A; ..
pub final_modifier : Table
final_modifier =
    row 6 [] "B" 6 [] (with_flags no_flags Parameter (name (id "Real" 18 ∷ [])) "x" 23 [] ∷ []) ∷
    row 7 [] "A" 39 [] (with_flags no_flags Free (name (id "B" 41 ∷ [])) "b" 43 (finally "x" 45 2 ∷ []) ∷ []) ∷
    row 8 [] "M" 66 [] (with_flags no_flags Free (name (id "A" 68 ∷ [])) "a" 70 (nests "b" 72 (sets "x" 74 3 ∷ []) ∷ []) ∷ []) ∷ []

-- rule 22 at the argument of M
pub final_modifier_stays :
    and_then (frame_at final_modifier 8 (codes "a" ∷ codes "b" ∷ [])) (λ frame. second_pass final_modifier (sources_of frame)) ≡ breaks FINAL_MODIFIED (byte 74)
unfolding walked final_modifier
final_modifier_stays = simp (claims_value, outs-Modify)

-- ---- refusals

--     model B Real x; end B; model M B b(y = 1); end M;
pub unknown_argument : Table
unknown_argument =
    row 6 [] "B" 6 [] (component (name (id "Real" 8 ∷ [])) "x" 13 ∷ []) ∷
    row 7 [] "M" 29 [] (with_flags no_flags Free (name (id "B" 31 ∷ [])) "b" 33 (sets "y" 35 1 ∷ []) ∷ []) ∷ []

pub unknown_argument_is_refused : instances_of unknown_argument 7 ≡ breaks MODIFIED_ELEMENT_NOT_FOUND (byte 35)
unfolding walked sizes_from input_from deeper reading unknown_argument
unknown_argument_is_refused = refl

--     model B final Real x; end B; model M B b(x = 1); end M;
pub final_element : Table
final_element =
    row 6 [] "B" 6 [] (with_flags final_flags Free (name (id "Real" 14 ∷ [])) "x" 19 [] ∷ []) ∷
    row 7 [] "M" 35 [] (with_flags no_flags Free (name (id "B" 37 ∷ [])) "b" 39 (sets "x" 41 1 ∷ []) ∷ []) ∷ []

pub final_element_is_refused : instances_of final_element 7 ≡ breaks FINAL_MODIFIED (byte 41)
unfolding walked sizes_from input_from deeper reading final_element
final_element_is_refused = refl

--     model B protected Real x; end B; model M B b(x = 1); end M;
pub protected_element : Table
protected_element =
    row 6 [] "B" 6 [] (with_flags hidden_flags Free (name (id "Real" 18 ∷ [])) "x" 23 [] ∷ []) ∷
    row 7 [] "M" 39 [] (with_flags no_flags Free (name (id "B" 41 ∷ [])) "b" 43 (sets "x" 45 1 ∷ []) ∷ []) ∷ []

pub protected_element_is_refused : instances_of protected_element 7 ≡ breaks PROTECTED_ELEMENT (byte 45)
unfolding walked sizes_from input_from deeper reading protected_element
protected_element_is_refused = refl

--     model M Integer k; end M;
pub whole_variable : Table
whole_variable = row 6 [] "M" 6 [] (component (name (id "Integer" 8 ∷ [])) "k" 16 ∷ []) ∷ []

pub whole_variable_is_refused : instances_of whole_variable 6 ≡ breaks OUTSIDE_PROFILE (byte 16)
unfolding walked sizes_from input_from deeper reading whole_variable
whole_variable_is_refused = refl

--     model M M m; end M;
pub without_end : Table
without_end = row 6 [] "M" 6 [] (component (name (id "M" 8 ∷ [])) "m" 10 ∷ []) ∷ []

-- with three names in place of 32
pub too_deep :
    and_then (asked_class without_end 6) (λ frame.
    and_then (walk_of without_end frame) (λ walked.
    parts_entered without_end (deeper without_end 3) (record { asked = byte 6; outermost = true; vary = Free; given = false }) walked []))
    ≡ breaks INSTANCE_TOO_DEEP (byte 10)
unfolding walked sizes_from input_from deeper reading without_end
too_deep = refl
